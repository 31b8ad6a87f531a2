-- How the sessions of a script end.
pub mod Backs
pub mod Closes
pub mod Ends
pub mod Runs
