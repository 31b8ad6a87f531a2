use Rattle.std.proofs.Common.{◌≡◌, ◌-◌, map}
use Rattle.std.specs.List.{sum_by}
use Rattle.spec_core.specs.Room.{blob_need}
use Rattle.plain_core.proofs.less.less_blobs.Given as goal

abbrev pub invariant-loop-blob : goal.invariant-loop-blob
invariant-loop-blob l = l.rest ≡ l.left - sum_by blob_need (map (λ b. b.now) l.yielded)
