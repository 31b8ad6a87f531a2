-- Lemmas on runs of calls over a stream.
pub mod StreamLemmas
pub mod CallerLemmas
