use Rattle.std.proofs.Common.{ℕ, Bool, cond, ap, sym, arith}
use Rattle.std.specs.BTreeMap.{is_at}
use Rattle.spec_tree.specs.Order.{same_digest}
use Rattle.spec_core.specs.Order.{place_cmp}
use Rattle.spec_core.proofs.Counting.{count-remove_entry}
use Rattle.spec_core.proofs.Holding.{same_self}
use Rattle.bv_handles.proofs.handles.Handles.take.Goals as goal

pub remove-requires-in-Some-clause-held : goal.remove-requires-in-Some-clause-held
remove-requires-in-Some-clause-held c =
    let self = ap {B = ℕ} (λ (b : Bool). cond b 1 0) (same_self c.in-Some.root) in
    let less = count-remove_entry (same_digest c.in-Some.root) (is_at (place_cmp c.args.place)) c.self.inside.slots.entries c.in-Some.root (sym c.in-Some.ensures.value) in
    omega (arith, less, self, c.self.invariant.counts c.in-Some.root)

pub invariant_of-self-in-Some : goal.invariant_of-self-in-Some
invariant_of-self-in-Some c = record {
  stands = c.remove-in-Some.ensures.stands;
  counts = λ r.
      let less = rw (← c.in-Some.ensures.entries) at (count-remove_entry (same_digest r) (is_at (place_cmp c.args.place)) c.self.inside.slots.entries c.in-Some.root (sym c.in-Some.ensures.value)) in
      omega (arith, less, c.remove-in-Some.ensures.counted r, c.self.invariant.counts r);
}
