use Rattle.std.proofs.Common.{◌≡◌, ◌&&◌, not, take}
use Rattle.spec_tree.specs.declared.Digest.{Digest}
use Rattle.spec_core.specs.State.{among}
use Rattle.bv_ledger.proofs.settling.forget_all.Given as goal

-- the roots so far are forgotten
abbrev pub invariant-loop-root : goal.invariant-loop-root
invariant-loop-root l = (r : Digest) → among l.unlinked.keys r ≡ (among l.fn.unlinked.keys r && not (among (take l.root-index l.queue) r && not (among l.leaving.keys r)))
