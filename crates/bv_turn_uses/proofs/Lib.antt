pub mod EndsLemmas
