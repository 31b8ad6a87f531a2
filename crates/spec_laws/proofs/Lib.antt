pub mod MetadataLemmas
pub mod NodeLemmas
pub mod FitLemmas
pub mod RecordLemmas
pub mod SortedLemmas
pub mod KeepLemmas
