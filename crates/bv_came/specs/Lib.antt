-- What the lines of a run's sessions say of a device that tells.
pub mod Sees
pub mod There
