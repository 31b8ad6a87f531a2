pub mod BackLemmas
pub mod CloseLemmas
pub mod EndsLemmas
pub mod MomentLemmas
pub mod RunsLemmas
