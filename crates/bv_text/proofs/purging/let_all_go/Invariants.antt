use Rattle.std.proofs.Common.{◌≡◌, ◌++◌, length}
use Rattle.bv_text.proofs.purging.let_all_go.Given as goal

abbrev pub invariant-loop-root : goal.invariant-loop-root
invariant-loop-root l = l.queue.items ++ l.leaving.keys ≡ l.fn.queue.items ++ l.fn.leaving.keys

abbrev pub decreases-loop-root : goal.decreases-loop-root
decreases-loop-root l = length l.leaving.keys
