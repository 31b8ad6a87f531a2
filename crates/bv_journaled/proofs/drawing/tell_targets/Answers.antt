use Rattle.std.proofs.Common.{ℕ, List, [], below_more, arith}
use Rattle.std.proofs.lemmas.List.Elements.{All-from_get_or}
use Rattle.spec_record.specs.Field.{IsBlock}
use Rattle.bv_journaled.proofs.drawing.tell_targets.Goals as goal

pub loop-target-preserved : goal.loop-target-preserved
loop-target-preserved c = below_more _ _ c.loop-target.invariant c.tell_block.ensures

pub returns : goal.returns
returns c =
    All-from_get_or (λ (t : ℕ × List ℕ). IsBlock t.1) c.args.targets.now (0, [])
    (λ k lt. c.loop-target.invariant k (omega (arith, lt)))
