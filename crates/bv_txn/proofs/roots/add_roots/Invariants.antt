use Rattle.std.proofs.Common.{◌≡◌, ◌++◌}
use Rattle.bv_txn.specs.Surveys.{twice_in}
use Rattle.bv_txn.proofs.roots.add_roots.Given as goal

-- the faults of the roots that are left are all that is missing
abbrev pub invariant-loop-root : goal.invariant-loop-root
invariant-loop-root l =
    l.faults.items ++ twice_in l.root-iterator ≡ l.fn.faults.items ++ twice_in l.counts.entries
