use Rattle.std.proofs.Common.{◌≡◌, ◌-◌, map}
use Rattle.std.specs.List.{sum_by}
use Rattle.spec_tree.specs.Tree.{need_of}
use Rattle.plain_core.proofs.less.less_adds.Given as goal

abbrev pub invariant-loop-size : goal.invariant-loop-size
invariant-loop-size l = l.rest ≡ l.left - sum_by (need_of l.version) (map (λ b. b.now) l.yielded)
