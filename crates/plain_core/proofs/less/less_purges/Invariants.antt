use Rattle.std.proofs.Common.{◌≡◌, ◌-◌, drop}
use Rattle.std.specs.List.{sum_by}
use Rattle.spec_core.specs.Room.{purge_need}
use Rattle.plain_core.proofs.less.less_purges.Given as goal

abbrev pub invariant-loop-change : goal.invariant-loop-change
invariant-loop-change l = l.rest - sum_by purge_need (drop l.change-index l.changes) ≡ l.left - sum_by purge_need l.changes
