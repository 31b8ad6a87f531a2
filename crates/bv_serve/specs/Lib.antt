-- What the program prints and does, for each form of its words.
pub mod Words
pub mod Lines
pub mod Runs
pub mod Root
pub mod Format
pub mod List
pub mod Check
pub mod Replayed
pub mod Recover
pub mod Upgrade
pub mod Serves
