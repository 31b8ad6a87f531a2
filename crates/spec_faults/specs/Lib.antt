-- Counts of failed calls.
pub mod Faults
