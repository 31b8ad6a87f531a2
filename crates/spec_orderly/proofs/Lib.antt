pub mod Adding
pub mod Covered
pub mod Held
pub mod Lines
pub mod Naming
pub mod Ordered
pub mod Shown
