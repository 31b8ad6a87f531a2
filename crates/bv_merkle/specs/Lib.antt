-- What contracts of the Merkle tree say: levels, the tree that is built, and what a hasher holds.
pub mod Builder
pub mod Built
pub mod Hasher
pub mod Hashing
pub mod TreeShape
pub mod Levels
