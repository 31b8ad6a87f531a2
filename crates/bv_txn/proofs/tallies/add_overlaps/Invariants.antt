use Rattle.std.proofs.Common.{◌≡◌, ◌++◌}
use Rattle.spec_meta.specs.Survey.{of_each}
use Rattle.bv_txn.specs.Surveys.{overlap_fault}
use Rattle.bv_txn.proofs.tallies.add_overlaps.Given as goal

-- the faults of the data blocks before this one were added
abbrev pub invariant-loop-d : goal.invariant-loop-d
invariant-loop-d l =
    l.faults.items ≡ l.fn.faults.items ++ of_each l.d (overlap_fault l.depths)
