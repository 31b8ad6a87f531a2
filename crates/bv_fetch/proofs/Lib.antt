pub mod Sees
pub mod Wholes
pub mod Sums
pub mod Amongs
pub mod Compacts
pub mod Steps
pub mod Written
