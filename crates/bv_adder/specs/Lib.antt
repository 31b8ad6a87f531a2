-- What a whole add makes of a volume.
pub mod Goes
pub mod Steps
