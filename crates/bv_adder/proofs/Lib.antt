pub mod EventLemmas
pub mod GoesLemmas
pub mod LineLemmas
pub mod StepLemmas
pub mod WroteLemmas
