-- Lemmas on a mount after a stop.
pub mod RemountLemmas
