-- The lemmas of this crate.
pub mod PlaceLemmas
pub mod NeedLemmas
pub mod HoldLemmas
pub mod FreshLemmas
pub mod SafeLemmas
pub mod ToldLemmas
pub mod LiesLemmas
pub mod MountLemmas
pub mod OpenLemmas
pub mod CallerLemmas
pub mod ImageLemmas
pub mod OpensLemmas
