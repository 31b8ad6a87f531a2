pub mod OpenedLemmas
