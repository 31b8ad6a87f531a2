-- The core as a value, and how tables in memory stand for it.
pub mod Core
pub mod Tables
