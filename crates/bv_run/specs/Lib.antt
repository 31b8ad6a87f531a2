-- What the commands that run sessions do, and the top call of all commands.
pub mod Words
pub mod Reports
pub mod Asked
pub mod Begun
pub mod Told
pub mod Complete
pub mod Runs
pub mod Work
pub mod Mounted
pub mod Outcomes
pub mod Top
