pub mod ByLineLemmas
pub mod CutLemmas
pub mod HeldLemmas
pub mod PageLemmas
pub mod PublishedLemmas
pub mod VersionLemmas
pub mod WhereLemmas
