-- What a read of a window does, and what it gives.
pub mod Laws
pub mod Reading
pub mod Windows
