-- What a purge frees can be used again.
pub mod Reuse
