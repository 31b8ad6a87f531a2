use Rattle.std.proofs.Common.{◌≡◌, take}
use Rattle.spec_core.specs.History.{opening_map}
use Rattle.bv_text.proofs.machine.opening_of.Given as goal

abbrev pub invariant-loop-root : goal.invariant-loop-root
invariant-loop-root l = l.map.entries ≡ take l.root-index (opening_map l.fn.h.history)
