-- What a stop of the machine leaves of a mounted volume, and of a device that is being formatted.
pub mod Crash
pub mod Format
pub mod Timing
