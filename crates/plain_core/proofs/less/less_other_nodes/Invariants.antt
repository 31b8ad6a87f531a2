use Rattle.std.proofs.Common.{◌≡◌, ◌-◌, ℕ, map}
use Rattle.std.specs.List.{sum_by, list_any}
use Rattle.std.specs.Map.{values_of, remove_entry}
use Rattle.std.specs.BTreeMap.{is_at}
use Rattle.spec_tree.specs.declared.Digest.{Digest}
use Rattle.spec_tree.specs.Order.{digest_cmp}
use Rattle.spec_core.specs.Room.{worst_nodes}
use Rattle.plain_core.proofs.less.less_other_nodes.Given as goal

abbrev pub invariant-loop-other : goal.invariant-loop-other
invariant-loop-other l = record {
  passed : l.passed ≡ list_any (λ (e : Digest × ℕ). is_at (digest_cmp l.root) e.0) (map (λ e. (e.0.now, e.1.now)) l.yielded);
  rest : l.rest ≡ l.left - sum_by (worst_nodes l.version) (values_of (remove_entry (is_at (digest_cmp l.root)) (map (λ e. (e.0.now, e.1.now)) l.yielded)));
}
