use Rattle.std.proofs.Common.{◌<◌, ℕ, get_or, []}
use Rattle.spec_record.specs.Field.{IsBlock}
use Rattle.bv_journaled.proofs.drawing.tell_targets.Given as goal

-- the targets so far have blocks
abbrev pub invariant-loop-target : goal.invariant-loop-target
invariant-loop-target l = (k : ℕ) → k < l.target-index → IsBlock (get_or l.targets k (0, [])).1
