-- Sessions over a value behind the lock.
pub mod Adds
pub mod Disk
pub mod Ends
pub mod Events
pub mod Pages
pub mod Sessions
pub mod Shown
pub mod Windows
pub mod Written
