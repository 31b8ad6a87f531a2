-- What is kept by a run of a device's events that changes no blob.
pub mod Keeps
