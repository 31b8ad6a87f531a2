-- Lemmas on entries and info blocks, and on the fields of a part of a block.
mod ZeroRows
mod PartLemmas
mod InfoLemmas
mod HeaderLemmas
mod EntryLemmas
mod WriteLemmas
