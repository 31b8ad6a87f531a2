-- What a device tells, what calls make of it, and what a stop may leave of it.
pub use Rattle.spec_faults.specs.Faults
pub mod Told
pub mod Plan
pub mod Seen
pub mod Reads
pub mod Crash
pub mod Memory
pub mod Stop
pub mod Lying
