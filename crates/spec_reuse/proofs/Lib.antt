-- Lemmas on the definitions of specs/.
mod ReuseLemmas
