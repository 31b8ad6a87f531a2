pub mod BlockLemmas
pub mod EventLemmas
pub mod ImageLemmas
pub mod ProgramLemmas
pub mod ReadLemmas
pub mod SettledLemmas
pub mod SyncedLemmas
