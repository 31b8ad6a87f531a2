-- Lemmas on the definitions of specs/.
pub mod StepLemmas
pub mod MessageLemmas
pub mod TableLemmas
pub mod RowLemmas
