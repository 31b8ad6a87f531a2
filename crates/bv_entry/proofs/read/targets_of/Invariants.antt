use Rattle.std.proofs.Common.{◌≡◌, take}
use Rattle.spec_record.specs.Entry.{targets_in}
use Rattle.bv_entry.proofs.read.targets_of.Given as goal

-- the targets so far
abbrev pub invariant-loop-place : goal.invariant-loop-place
invariant-loop-place l = l.targets.items ≡ targets_in l.header 0 (take l.place l.payloads)
