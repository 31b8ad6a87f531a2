-- Lemmas on words, sources, statuses, answers and runs.
pub mod AboutLemmas
pub mod AskedLemmas
pub mod CalmLemmas
pub mod CompleteLemmas
pub mod MakingLemmas
pub mod RanLemmas
pub mod RefusedLemmas
pub mod ScriptLemmas
pub mod SoundLemmas
pub mod StatusLemmas
pub mod WordsLemmas
