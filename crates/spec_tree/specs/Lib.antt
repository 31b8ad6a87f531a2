-- Blobs, their Merkle trees, and the order of roots.
pub mod Order
pub mod Tree
