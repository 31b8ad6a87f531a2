-- The rule at the start, and what one seat with all sessions knows at the end.
use Rattle.std.proofs.Common.{◌≡◌, ◌≢◌, ℕ, zero, suc, ◌+◌, ◌<◌, ◌≤◌, List, [], ◌∷◌, length, sym, refl, ap, ◌∙◌, subst, ⊎_elim, arith, Option, Some, None}
use Rattle.std.proofs.lemmas.Bool.Decides.{nat_tests}
use Rattle.std.specs.List.{AllByRecursion}
use mathlib.Core.Logic.{dite}
use mathlib.Core.Option.{none, some, some-injective, some-ne-none}
use native.Mathlib.Decide.{ℕ_discrete}
use lib.ListN.{get_elem?}
use Rattle.atomic_table.specs.Table.{State, Seen, opening as opened}
use Rattle.atomic_table.proofs.Lists.{at_snoc}
use Rattle.bv_turn.specs.declared.view.Part.{Part}
use Rattle.bv_turn.specs.declared.view.View.{View}
use Rattle.bv_turn.specs.Entries.{numbered}
use Rattle.bv_turn.specs.Rule.{Account, FitsPart, Fits, OfShares, Closed}
use Rattle.bv_turn.specs.Views.{Has, count_of, fresh, opening as opening_view, sessions, counts, EachView}
use Rattle.bv_turn.proofs.ListLemmas.{each_map, slot_cases}
use Rattle.bv_turn.proofs.ViewLemmas.{others_le, two_le, count_of_le, Has-from_count}
use Rattle.bv_turn.proofs.RuleLemmas.{some_none, not_mine}

module _ {T E B : Type 0} (session : E → ℕ) (seats : ℕ) (base : B) (entries : T → List E) (basis : T → B) where
  abbrev S : Type 0
  S = State (Option T) (View E B)

  abbrev V : Type 0
  V = View E B

  abbrev M : Type 0
  M = View E B × List (ℕ × Option T)

  abbrev Rule : S → Type 0
  Rule = OfShares session seats base entries basis

  abbrev W : Type 0
  W = Account E

  abbrev Part_ok : W → Part E B → Type 0
  Part_ok = FitsPart session seats base

  -- where one view has all sessions, each session stands in it
  all_here : (s : S) (id : ℕ) (v : V) → Rule s → get_elem? s.views id ≡ some v → length v.parts ≡ seats → (n : ℕ) → n < seats → Has n v.parts
  all_here s id v h at all n low =
      let o = h.once n low in let sh = h.shared in
      let more = others_le (counts n) sessions s.views id v (λ u. count_of_le n u.parts) at in
      Has-from_count n v.parts (omega arith)

  pub closes : (s : S) (id : ℕ) (v : V) (xs : List (Option T)) → Seen Rule id v s → v.ticket ≡ None → length v.parts ≡ seats
      → ((k : ℕ) (y : Option T) → get_elem? s.homes k ≡ some (some y) → get_elem? xs k ≡ some y) → (y : T) × (get_elem? xs 0 ≡ some (Some y)) × Closed session entries basis v.parts y
  closes s id v xs seen no_ticket all_of final =
      let h = seen.0 in let at = seen.1 in let x : W = h.account in let d : ℕ = x.served in
      ⊎_elim
      (λ (gone' : get_elem? s.homes 0 ≡ some none).
      let old = h.away gone' in let f = h.fits (x.who d) old.0 old.1 in let held = (f.ticket d old.2).3 in
      let two = two_le sessions s.views id (x.who d) v old.0 (not_mine session seats base entries basis s id d v (x.who d) old.0 at no_ticket old.1 old.2) at old.1 in
      let sh = h.shared in absurd (omega arith))
      (λ (there : (y : Option T) × (get_elem? s.homes 0 ≡ some (some y))).
      let q = h.home there.0 there.1 in (
        q.0,
        final 0 there.0 there.1 ∙ ap some q.1,
        record {
          parts = each_map (Part_ok x) (λ p. (p.basis ≡ basis q.0) × (p.entries ≡ numbered session p.session 0 (entries q.0))) (λ p g. (g.1 ∙ sym q.3, g.2 ∙ ap (numbered session p.session 0) (sym q.2))) v.parts (h.fits id v at).parts;
          owned = subst (AllByRecursion (λ e. Has (session e) v.parts)) (sym q.2) (each_map (λ e. session e < seats) (λ e. Has (session e) v.parts) (λ e low. all_here s id v h at all_of (session e) low) x.history h.owned);
        },
      ))
      (slot_cases s.homes h.one_slot)

  -- the parts at the start
  fresh_each : (s n : ℕ) → s + n ≤ seats → AllByRecursion (Part_ok (record { history = []; drawn = 0; served = 0; who = λ _. 0 })) (fresh s n base)
  fresh_each s zero fits = tt
  fresh_each s (suc n) fits = ((omega arith, refl, refl), fresh_each (s + 1) n (omega arith))

  fresh_length : (s n : ℕ) → length (fresh {E = E} s n base) ≡ n
  fresh_length s zero = refl
  fresh_length s (suc n) = ap suc (fresh_length (s + 1) n)

  fresh_below : (m s n : ℕ) → m < s → count_of m (fresh {E = E} s n base) ≡ 0
  fresh_below m s zero low = refl
  fresh_below m s (suc n) low = let r = fresh_below m (s + 1) n (omega arith) in grind (arith, nat_tests)

  fresh_once : (m s n : ℕ) → s ≤ m → m < s + n → count_of m (fresh {E = E} s n base) ≡ 1
  fresh_once m s zero low high = absurd (omega arith)
  fresh_once m s (suc n) low high = dite (ℕ_discrete s m)
      (λ (e : s ≡ m). let r = fresh_below m (s + 1) n (omega arith) in grind (arith, nat_tests))
      (λ (e : s ≢ m). let r = fresh_once m (s + 1) n (omega arith) (omega arith) in grind (arith, nat_tests))

  pub starts : (v : T) → entries v ≡ [] → basis v ≡ base → seats ≤ 16 → Rule (opened (0 ∷ 0 ∷ 0 ∷ []) (Some v ∷ []) (opening_view seats base))
  starts v empty based few =
      let x : W = record { history = []; drawn = 0; served = 0; who = λ _. 0 } in
      let w : V = opening_view seats base in
      let one : (F : ℕ → V → Type 0) → ((j : ℕ) → F j w) → EachView F (w ∷ []) = λ F f j u e. ⊎_elim (λ (z : get_elem? [] j ≡ some u). absurd (some-ne-none u (sym z))) (λ (z : w ≡ u). subst (F j) z (f j)) (at_snoc [] w u j e) in
      record {
        account = x;
        few = few;
        words = refl;
        fits = one (Fits session seats base x) (λ j. record {
          parts = fresh_each 0 seats (omega arith);
          ticket = λ k e. let z : None ≡ Some k = e in absurd (cc);
          taken = λ k e. let z : None ≡ Some k = e in absurd (cc);
        });
        tickets = λ k low high. absurd (omega arith);
        waiting = refl;
        shared = let l = fresh_length 0 seats in omega arith;
        once = λ n fits. let l = fresh_once n 0 seats (omega arith) (omega arith) in omega arith;
        owned = tt;
        one_slot = refl;
        away = λ e. absurd (some_none (sym (some-injective (some (Some v)) none e)));
        out = one (λ _ u. (l : List E) → u.taken ≡ Some l → get_elem? (some (Some v) ∷ []) 0 ≡ some none) (λ j l e. let z : None ≡ Some l = e in absurd (cc));
        home = λ y e. (v, sym (some-injective (Some v) y (some-injective (some (Some v)) (some y) e)), empty, based);
      }
