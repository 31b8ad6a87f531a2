use Rattle.std.proofs.Common.{ℕ, Bool, cond, ap, arith}
use Rattle.spec_tree.specs.Order.{same_digest}
use Rattle.spec_core.specs.Order.{place_cmp}
use Rattle.spec_core.proofs.Counting.{count-insert_entry}
use Rattle.spec_core.proofs.Holding.{same_self}
use Rattle.bv_handles.proofs.handles.Handles.put.Goals as goal

pub invariant_of-self-in-Ok-insert : goal.invariant_of-self-in-Ok-insert
invariant_of-self-in-Ok-insert c = record {
  stands = c.in-Ok.ensures.stands;
  counts = λ r.
      let more = rw (← c.in-Ok-insert.ensures.entries) at (count-insert_entry (λ e. same_digest r e.1) place_cmp c.self.inside.slots.entries c.args.place c.args.root (rw (← c.self.view_is) at c.requires)) in
      omega (arith, c.in-Ok.ensures.ok r, c.self.invariant.counts r, more);
}

pub remove-requires-clause-held : goal.remove-requires-clause-held
remove-requires-clause-held c =
    let self = ap {B = ℕ} (λ (b : Bool). cond b 1 0) (same_self c.args.root) in
    omega (arith, c.in-Ok.ensures.ok c.args.root, self)
