use Rattle.std.proofs.Common.{ℕ, ◌∙◌, ap, sym, arith, is_eq, ◌-◌, refl}
use Rattle.std.specs.BTreeMap.{is_at}
use Rattle.bv_model.proofs.Sums.{any_given, any_other, any_later, sum_skips, sum_counts_later, sum_counts_other}
use Rattle.spec_tree.specs.Order.{digest_cmp}
use Rattle.spec_core.specs.Room.{worst_nodes}
use Rattle.plain_core.proofs.less.less_other_nodes.Goals as goal
use Rattle.plain_core.proofs.less.less_other_nodes.Goals.{else-not-passed-via-then-not-passed+else-is_eq, else-not-passed-via-else-not-passed}

pub loop-other-preserved-then-is_eq : goal.loop-other-preserved-then-is_eq
loop-other-preserved-then-is_eq c =
    let test = is_at (digest_cmp c.args.root) in
    let here = ap is_eq (sym c.cmp.ensures) ∙ sym c.is_eq.ensures ∙ c.if-is_eq.true in
    let none = sym c.loop-other.invariant.passed ∙ c.if-not-passed.true in
    record {
      passed = sym (any_given (worst_nodes c.args.version) test (λ e. (e.0.now, e.1.now)) c.loop-other.yielded _ ∙ rw (none, here) refl);
      rest = c.loop-other.invariant.rest ∙ ap (λ (n : ℕ). c.args.left - n) (sym (sum_skips (worst_nodes c.args.version) test (λ e. (e.0.now, e.1.now)) c.loop-other.yielded _ none here));
    }

pub loop-other-preserved : goal.loop-other-preserved
loop-other-preserved c =
    let test = is_at (digest_cmp c.args.root) in
    elim c.else-not-passed.branch [
      | else-not-passed-via-then-not-passed+else-is_eq w ↦
          let other = ap is_eq (sym w.cmp.ensures) ∙ sym w.is_eq.ensures ∙ w.if-is_eq.false in
          let sum = sum_counts_other (worst_nodes c.args.version) test (λ e. (e.0.now, e.1.now)) c.loop-other.yielded (c.in-Some.other, c.in-Some.size) other in
          record {
            passed = c.loop-other.invariant.passed ∙ sym (any_other (worst_nodes c.args.version) test (λ e. (e.0.now, e.1.now)) c.loop-other.yielded (c.in-Some.other, c.in-Some.size) other);
            rest = omega (arith, sum, c.saturating_sub-rest.ensures, c.worst_nodes.ensures, c.loop-other.invariant.rest);
          }
      | else-not-passed-via-else-not-passed w ↦
          let some = sym c.loop-other.invariant.passed ∙ w.if-not-passed.false in
          let sum = sum_counts_later (worst_nodes c.args.version) test (λ e. (e.0.now, e.1.now)) c.loop-other.yielded (c.in-Some.other, c.in-Some.size) some in
          record {
            passed = w.if-not-passed.false ∙ sym (any_later (worst_nodes c.args.version) test (λ e. (e.0.now, e.1.now)) c.loop-other.yielded (c.in-Some.other, c.in-Some.size) some);
            rest = omega (arith, sum, c.saturating_sub-rest.ensures, c.worst_nodes.ensures, c.loop-other.invariant.rest);
          }
    ]
