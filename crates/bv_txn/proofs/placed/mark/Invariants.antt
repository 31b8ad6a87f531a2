use Rattle.std.proofs.Common.{◌≡◌, ◌<◌, ◌||◌, ℕ, true, leb, take, get_or, length}
use Rattle.spec_meta.specs.Change.{times}
use Rattle.bv_txn.proofs.placed.mark.Given as goal

-- the nodes before this one are marked
abbrev pub invariant-loop-node : goal.invariant-loop-node
invariant-loop-node l =
    (k : ℕ) → k < length l.placed → get_or l.placed k true ≡ get_or l.fn.placed k true || leb 1 (times k (take l.node-index l.nodes))
