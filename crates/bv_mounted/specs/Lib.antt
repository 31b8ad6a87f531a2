-- What mounting a volume does.
pub mod Mounts
pub mod Opens
