use Rattle.std.proofs.Common.{◌≢◌, All, take}
use Rattle.plain_crash.specs.Placed.{placed_entry}
use Rattle.plain_crash.proofs.chances.is_among.Given as goal

-- none of the entries so far is the wanted one
abbrev pub invariant-loop-other : goal.invariant-loop-other
invariant-loop-other l = All (λ p. placed_entry p ≢ placed_entry l.wanted) (take l.other-index l.placed)
