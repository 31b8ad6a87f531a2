use Rattle.std.proofs.Common.{ℕ, ◌==◌, not, ap, sym, ◌∙◌}
use Rattle.spec_tree.specs.Order.{same_digest}
use Rattle.spec_core.proofs.Counting.{any-count}
use Rattle.bv_handles.proofs.handles.Handles.is_held.Goals as goal

pub returns : goal.returns
returns c =
    rw (← c.self.view_is) (ap (λ (n : ℕ). not (n == 0)) (c.count.ensures ∙ c.self.invariant.counts c.args.root) ∙ sym (any-count (λ e. same_digest c.args.root e.1) c.self.inside.slots.entries))
