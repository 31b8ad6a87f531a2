-- The counts that a volume is made with, and the rows of the superblock.
pub mod Counts
pub mod Table
