-- The rows of the journal's records as the code has them, and the ranges of what is written.
pub mod Rows
pub mod Ranges
