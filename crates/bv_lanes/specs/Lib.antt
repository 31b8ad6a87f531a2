-- What contracts of hashing side by side say: lanes of vectors, and the messages of blocks.
pub mod Lanes
pub mod Messages
