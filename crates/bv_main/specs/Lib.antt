-- The words of the program, and the device that a file is.
pub mod Access
pub mod Devices
pub mod Files
pub mod Program
