-- The status of a run, from tests on its history and its ends.
use Rattle.std.proofs.Common.{◌≡◌, ℕ, zero, suc, ◌<◌, ◌↔◌, ◌⊎◌, inl, inr, Bool, true, false, ◌||◌, List, [], ◌∷◌, length, Contains, arith, refl, ap, sym, ◌∙◌, subst}
use Rattle.std.specs.List.{list_any, slice_index_or}
use Rattle.spec_core.specs.declared.event.CoreEvent.{CoreEvent}
use Rattle.spec_core.specs.declared.reply.Reply.{Reply}
use Rattle.spec_core.specs.declared.reply.Reply.TheVariants as replies
use Rattle.spec_core.specs.History.{History}
use Rattle.spec_script.specs.declared.line.ScriptLine.{ScriptLine}
use Rattle.spec_session.specs.declared.end.SessionEnd.{SessionEnd}
use Rattle.spec_session.specs.declared.result.LineResult.{LineResult}
use Rattle.spec_session.specs.declared.result.LineResult.TheVariants as results
use Rattle.spec_session.specs.Text.{results_of}
use Rattle.spec_window.specs.declared.mismatch.Mismatch.{Mismatch}
use Rattle.spec_headline.specs.Run.{MetFault, MetMismatch, run_of}
use Rattle.bv_run.specs.Reports.{has_mismatch, is_fault, is_mismatch}

-- ---- lists of which an element passes a test

or_right : (a b : Bool) → b ≡ true → (a || b) ≡ true
or_right true b h = refl
or_right false b h = h

first_or_rest : {X : Type 0} (p : X → Bool) (x : X) (xs : List X) (b : Bool) → p x ≡ b
    → (list_any p xs ≡ true → (y : X) × Contains xs y × (p y ≡ true)) → (b || list_any p xs) ≡ true → (y : X) × Contains (x ∷ xs) y × (p y ≡ true)
first_or_rest p x xs true is rest h = (x, (0, omega arith, refl), is)
first_or_rest p x xs false is rest h =
    let r = rest h in
    (r.0, (suc r.1.0, omega (arith, r.1.1), r.1.2), r.2)

pub any_has : {X : Type 0} (p : X → Bool) (xs : List X) → list_any p xs ≡ true → (x : X) × Contains xs x × (p x ≡ true)
any_has p [] h = absurd (cc h)
any_has p (x ∷ xs) h = first_or_rest p x xs (p x) refl (any_has p xs) h

pub has_any : {X : Type 0} (p : X → Bool) (xs : List X) (x : X) (k : ℕ) → k < length xs → slice_index_or xs k x ≡ x → p x ≡ true → list_any p xs ≡ true
has_any p [] x k lt is t = absurd (omega (arith, lt))
has_any p (y ∷ xs) x zero lt is t = ap (λ b. b || list_any p xs) (ap p is ∙ t)
has_any p (y ∷ xs) x (suc k) lt is t = or_right (p y) (list_any p xs) (has_any p xs x k (omega (arith, lt)) is t)

-- ---- faults

fault_in : (q : Reply) → is_fault q ≡ true → (f : ℕ) × ((q ≡ replies.DeviceFault f) ⊎ (q ≡ replies.ReadFault f))
fault_in (replies.DeviceFault f) h = (f, inl refl)
fault_in (replies.ReadFault f) h = (f, inr refl)
fault_in _ h = absurd (cc h)

fault_is : (q : Reply) (f : ℕ) → (q ≡ replies.DeviceFault f) ⊎ (q ≡ replies.ReadFault f) → is_fault q ≡ true
fault_is q f (inl e) = ap is_fault e
fault_is q f (inr e) = ap is_fault e

pub met_fault : (h : History) (b : Bool) → b ≡ list_any (λ e. is_fault e.reply) h.events → (b ≡ true) ↔ MetFault h
met_fault h b is = (
  λ yes.
      let found = any_has (λ (e : CoreEvent). is_fault e.reply) h.events (sym is ∙ yes) in
      let fault = fault_in found.0.reply found.2 in
      (found.0, fault.0, found.1, fault.1),
  λ met.
      let at : Contains h.events met.0 = met.2 in
      is ∙ has_any (λ (e : CoreEvent). is_fault e.reply) h.events met.0 at.0 at.1 at.2 (fault_is met.0.reply met.1 met.3),
)

-- ---- mismatches

mismatch_in : (r : LineResult) → is_mismatch r ≡ true → (m : Mismatch) × (r ≡ results.Mismatch m)
mismatch_in (results.Mismatch m) h = (m, refl)
mismatch_in _ h = absurd (cc h)

-- the place of an element
at_place : (ends : List SessionEnd) (end : SessionEnd) (k : ℕ) → k < length ends → slice_index_or ends k end ≡ end → results_of ends k ≡ end.results.items
at_place [] end k lt is = absurd (omega (arith, lt))
at_place (x ∷ ends) end zero lt is = ap (λ (e : SessionEnd). e.results.items) is
at_place (x ∷ ends) end (suc k) lt is = at_place ends end k (omega (arith, lt)) is

-- what stands at a place that has results
end_at : (ends : List SessionEnd) (s : ℕ) (r : LineResult) → Contains (results_of ends s) r → (end : SessionEnd) × Contains ends end × (end.results.items ≡ results_of ends s)
end_at [] s r has = absurd (omega (arith, has.1))
end_at (x ∷ ends) zero r has = (x, (0, omega arith, refl), refl)
end_at (x ∷ ends) (suc s) r has =
    let e = end_at ends s r has in
    (e.0, (suc e.1.0, omega (arith, e.1.1), e.1.2), e.2)

pub met_mismatch : (lines : List ScriptLine) (h : History) (ends : List SessionEnd) (b : Bool) → length ends ≡ 16 → b ≡ list_any has_mismatch ends
    → (b ≡ true) ↔ MetMismatch (run_of lines h ends)
met_mismatch lines h ends b count is = (
  λ yes.
      let found = any_has has_mismatch ends (sym is ∙ yes) in
      let inner = any_has is_mismatch found.0.results.items found.2 in
      let m = mismatch_in inner.0 inner.2 in
      let place = at_place ends found.0 found.1.0 found.1.1 found.1.2 in
      (found.1.0, inner.0, m.0, omega (arith, found.1.1, count), subst (λ (rs : List LineResult). Contains rs inner.0) (sym place) inner.1, m.1),
  λ met.
      let e = end_at ends met.0 met.1 met.4 in
      let has : Contains e.0.results.items met.1 = subst (λ (rs : List LineResult). Contains rs met.1) (sym e.2) met.4 in
      let inner : has_mismatch e.0 ≡ true = has_any is_mismatch e.0.results.items met.1 has.0 has.1 has.2 (ap is_mismatch met.5) in
      is ∙ has_any has_mismatch ends e.0 e.1.0 e.1.1 e.1.2 inner,
)
