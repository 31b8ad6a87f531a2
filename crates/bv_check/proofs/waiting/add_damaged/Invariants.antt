use Rattle.std.proofs.Common.{◌≡◌, ◌++◌, take}
use Rattle.bv_check.specs.Last.{damaged_among}
use Rattle.bv_check.proofs.waiting.add_damaged.Given as goal

-- the damaged ones so far were added
abbrev pub invariant-loop-i : goal.invariant-loop-i
invariant-loop-i l = l.roots.items ≡ l.initial.roots.items ++ damaged_among (take l.i l.waiting)
