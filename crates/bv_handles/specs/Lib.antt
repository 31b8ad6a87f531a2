-- Slots, and how many of them hold each root.
pub mod Counted
pub mod Kept
