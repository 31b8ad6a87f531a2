use Rattle.std.proofs.Common.{rules, arith, ap, sym, ◌∙◌, ◌≡◌, ◌≢◌, ◌<◌, ◌-◌, ◌+◌, ℕ, length, length-append, slice_get, map}
use mathlib.Core.Logic.{dite}
use native.Mathlib.Decide.{ℕ_discrete}
use Rattle.bv_turn.specs.Tokens.{first_of}
use Rattle.bv_turn.specs.Views.{fresh, tail_parts, head_part, first_entries, first_basis}
use Rattle.bv_turn.proofs.ListLemmas.{get_snoc, get_last}
use Rattle.bv_turn.proofs.Sharing.{splits}
use Rattle.bv_turn.proofs.ViewLemmas.{fresh-next}
use Rattle.bv_turn.proofs.steps.share_out.Goals as goal

pub split_seat-one-requires : goal.split_seat-one-requires
split_seat-one-requires g c = let h = c.loop-session.invariant in
    (h.this, search rules, splits g.T.Keeps.session _ _ g.T.Keeps.entries g.T.Keeps.basis _ _ h.idle.0 h.idle.1)

pub invariant_of-push_reserved : goal.invariant_of-push_reserved
invariant_of-push_reserved g c = let h = c.loop-session.invariant in let s : ℕ = c.loop-session.session in let n : ℕ = c.args.seats - s in
    let some_left : 0 < n = omega arith in
    let parts_are = ap (λ m. m.0.parts) c.split_seat-one.ensures.4 ∙ ap head_part (h.left ∙ fresh-next s n _ some_left) in
    record { one = ap (map (λ p. p.session)) parts_are }

pub loop-session-preserved : goal.loop-session-preserved
loop-session-preserved g c = let h = c.loop-session.invariant in let s : ℕ = c.loop-session.session in let n : ℕ = c.args.seats - s in
    let base = g.T.Keeps.basis (first_of c.args.turn.now) in
    let some_left : 0 < n = omega arith in
    let were = h.left ∙ fresh-next s n _ some_left in
    let mine = c.split_seat-one.ensures.2 in
    let its = c.split_seat-one.ensures.4 in
    let its_parts = ap (λ m. m.0.parts) its ∙ ap head_part were in
    let less : n - 1 ≡ c.args.seats - (s + 1) = omega arith in
    let items = c.push_reserved.ensures.items in
    record {
      left = ap (λ m. m.0.parts) mine ∙ ap tail_parts were ∙ ap (λ k. fresh (s + 1) k base) less;
      idle = (ap (λ m. m.0.ticket) mine ∙ h.idle.0, ap (λ m. m.0.taken) mine ∙ h.idle.1, ap (λ m. m.1) mine ∙ h.idle.2);
      this = c.split_seat-one.ensures.0 ∙ h.this;
      room = (ap length items ∙ length-append c.loop-session.shares.items _ ∙ ap (λ k. k + 1) h.room.0, c.push_reserved.ensures.len ∙ ap (λ k. k + 1) h.room.1, c.push_reserved.ensures.capacity ∙ h.room.2);
      new = λ k low. dite (ℕ_discrete k s)
          (λ (e : k ≡ s). (
            _,
            ap (λ xs. slice_get xs k) items ∙ get_last c.loop-session.shares.items _ k (h.room.0 ∙ sym e),
            c.split_seat-one.ensures.3 ∙ h.this,
            (ap (λ m. m.0.ticket) its, ap (λ m. m.0.taken) its, ap (λ m. m.1) its),
            sym e,
            ap (λ ps. map (λ x. x.1) (first_entries ps)) its_parts,
            ap first_basis its_parts,
          ))
          (λ (e : k ≢ s). let old = h.new k (omega arith) in (old.0, ap (λ xs. slice_get xs k) items ∙ get_snoc c.loop-session.shares.items _ k old.0 old.1, old.2, old.3, old.4, old.5, old.6));
    }
