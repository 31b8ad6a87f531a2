-- What a range that is read shows where it isn't that of the name.
pub mod Ranges
