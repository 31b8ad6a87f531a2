-- What a volume's disk keeps from one call of its store to the next.
pub mod Kept
pub mod Since
pub mod Standing
pub mod Held
pub mod StoreLaws
pub mod Entering
pub mod Purging
pub mod Publishing
pub mod Preparing
pub mod Inodes
