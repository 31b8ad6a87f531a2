pub mod CompactLemmas
pub mod PlacedLemmas
