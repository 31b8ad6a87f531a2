-- A disk of blocks, its events, what a stop may leave, and laws of these.
pub mod Disk
pub mod Images
pub mod Laws
