-- Lemmas on the words that name devices.
pub mod DeviceLemmas
pub mod RequestLemmas
