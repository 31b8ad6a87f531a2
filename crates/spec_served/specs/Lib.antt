-- What a session's lines answer.
pub mod Adds
pub mod Answers
pub mod Device
pub mod Served
pub mod Places
