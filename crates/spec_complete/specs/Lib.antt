-- When a run goes well.
pub mod Fit
pub mod Good
pub mod Sound
pub mod Whole
