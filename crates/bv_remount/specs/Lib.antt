-- What a mount finds after a stop.
pub mod Remounts
