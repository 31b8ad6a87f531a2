-- Lemmas on what a run takes, and on the results of one that goes well.
pub mod Sums
pub mod Weights
pub mod Taking
pub mod Going
pub mod Results
pub mod Meeting
pub mod Mapped
pub mod Holding
pub mod Ending
pub mod Stopping
pub mod Moving
