-- What `format` answers, and what it does to a device.
pub mod Plan
pub mod Answers
pub mod Formats
