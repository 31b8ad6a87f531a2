use Rattle.std.proofs.Common.{ℕ, ◌+◌, ◌*◌, ap, ◌∙◌, arith}
use Rattle.std.proofs.lemmas.List.{length-set}
use Rattle.spec_tree.specs.Tree.{block_digest, piece}
use Rattle.bv_merkle.proofs.HashingLemmas.{made-more, piece-few}
use Rattle.bv_merkle.proofs.window.one_by_one.Goals as goal

pub block_digest-requires-clause-data : goal.block_digest-requires-clause-data
block_digest-requires-clause-data c = piece-few c.args.bytes.now c.piece.result.now c.loop-i.i c.piece.ensures

pub loop-i-preserved : goal.loop-i-preserved
loop-i-preserved c = record {
  long = length-set c.loop-i.digests c.loop-i.i c.block_digest.result ∙ c.loop-i.invariant.long;
  made = made-more (λ (i : ℕ). block_digest 0 (c.args.offset + 8192 * i) (piece c.args.bytes.now i))
      c.loop-i.digests c.loop-i.i c.block_digest.result
      (omega (arith, c.loop-i.invariant.long, c.loop-i-test.true, c.div_ceil-i-end.ensures, c.requires.window))
      c.loop-i.invariant.made
      (c.block_digest.ensures
      ∙ ap (λ (n : ℕ). block_digest 0 (c.args.offset + n) c.piece.result.now) (omega arith)
      ∙ ap (block_digest 0 (c.args.offset + 8192 * c.loop-i.i)) c.piece.ensures);
}
