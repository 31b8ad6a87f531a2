use Rattle.std.proofs.Common.{◌≡◌, ◌+◌, drop}
use Rattle.bv_device.specs.Lying.{answer}
use Rattle.bv_device.proofs.lying.answer_of.Given as goal

-- the lies that are left say what all of them say
abbrev pub invariant-loop-lie : goal.invariant-loop-lie
invariant-loop-lie l = answer (drop l.lie-index l.lies) (l.reads + 1) l.held ≡ answer l.lies (l.reads + 1) l.held
