use Rattle.std.proofs.Common.{inl, inr, arith}
use Rattle.bv_lanes.proofs.pieces.put_block_words.Goals as goal

pub returns-clause-kept : goal.returns-clause-kept
returns-clause-kept c t side = c.words.invariant.kept t (elim side [
  | inl before ↦ inl before
  | inr after ↦ inr (omega (arith, c.words.auto.t-end c.requires.order))
])
