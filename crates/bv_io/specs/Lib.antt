-- What a source has left, what a sink was given, and when a call may fail.
pub use Rattle.spec_faults.specs.Faults
pub mod Streams
pub mod Memory
