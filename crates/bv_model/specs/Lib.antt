-- What the calls that go over a history find in it, step by step, and what its room means.
pub mod Kept
pub mod Laws
pub mod Noted
pub mod Rescan
pub mod Sole
pub mod Taking
