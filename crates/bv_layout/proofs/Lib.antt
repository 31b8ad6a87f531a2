-- Lemmas on the superblock.
mod SuperLemmas
