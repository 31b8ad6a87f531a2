-- Lemmas on the definitions of specs/.
pub mod FieldLemmas
pub mod TestLemmas
pub mod SuperLemmas
pub mod CrcLemmas
pub mod InfoLemmas
pub mod ExtentLemmas
pub mod ZeroLemmas
pub mod NodeLemmas
pub mod TableLemmas
pub mod PayloadLemmas
pub mod PlaceLemmas
pub mod ReadEntry
pub mod SpelledEntry
pub mod EntryLemmas
pub mod PartLemmas
