-- What every step of a turn needs: the parts of the rule that it leaves alone.
use Rattle.std.proofs.Common.{◌≡◌, ◌≢◌, ℕ, ◌<◌, ◌≤◌, List, set, sym, refl, ap, ◌∙◌, subst, arith, Option, Some, None}
use mathlib.Core.Logic.{dite}
use mathlib.Core.Option.{none, some, some-ne-none}
use native.Mathlib.Decide.{ℕ_discrete}
use lib.ListN.{get_elem?}
use Rattle.atomic_table.specs.Table.{State, keeps, stepped}
use Rattle.atomic_table.proofs.Lists.{set_else, set_again}
use Rattle.bv_turn.specs.declared.view.Part.{Part}
use Rattle.bv_turn.specs.declared.view.View.{View}
use Rattle.bv_turn.specs.Rule.{Account, FitsPart, Fits, OfShares}
use Rattle.bv_turn.specs.Views.{one_if_some, waits, sessions}
use Rattle.bv_turn.proofs.ViewLemmas.{put_there, same_view, differs}

pub some_none : {A : Type 0} {a : A} → none ≢ some a
some_none {a = a} e = some-ne-none a (sym e)

by_ticket : (o : Option ℕ) {n : ℕ} → ((k : ℕ) → o ≡ Some k → 0 < n) → one_if_some o ≤ n
by_ticket None f = omega arith
by_ticket (Some k) f = let h = f k refl in omega arith

pub waits_le : {E B : Type 0} {session : E → ℕ} {seats : ℕ} {base : B} {x : Account E} {id : ℕ} {v : View E B} → Fits session seats base x id v → waits v ≤ sessions v
waits_le {v = v} f = by_ticket v.ticket (λ k e. (f.ticket k e).3)

module _ {T E B : Type 0} (session : E → ℕ) (seats : ℕ) (base : B) (entries : T → List E) (basis : T → B) where
  abbrev S : Type 0
  S = State (Option T) (View E B)

  abbrev V : Type 0
  V = View E B

  abbrev M : Type 0
  M = View E B × List (ℕ × Option T)

  abbrev Rule : S → Type 0
  Rule = OfShares session seats base entries basis

  abbrev W : Type 0
  W = Account E

  abbrev Part_ok : W → Part E B → Type 0
  Part_ok = FitsPart session seats base

  -- a step that changes nothing
  pub still : (s : S) (i id : ℕ) (me : M) → get_elem? s.views id ≡ some me.0 → (n : ℕ) → set s.words i n ≡ s.words → Rule s → Rule (stepped s i n id me.1 me.0 keeps)
  still s i id me at n same h = subst (λ (z : List ℕ × List V). Rule (record { words = z.0; homes = s.homes; views = z.1 })) (λ j. (sym same j, sym (set_again s.views id me.0 at) j)) h

  -- tickets stay where a view keeps its own
  pub tickets_stay : (s : S) (x : W) (id : ℕ) (v w : V) → get_elem? s.views id ≡ some v → w.ticket ≡ v.ticket → (k : ℕ)
      → ((u : V) × (get_elem? s.views (x.who k) ≡ some u) × (u.ticket ≡ Some k)) → (u : V) × (get_elem? (set s.views id w) (x.who k) ≡ some u) × (u.ticket ≡ Some k)
  tickets_stay s x id v w at same k old = dite (ℕ_discrete (x.who k) id)
      (λ (e : x.who k ≡ id). (w, ap (λ (i : ℕ). get_elem? (set s.views id w) i) e ∙ put_there s.views id v w at, same ∙ ap (λ (u : V). u.ticket) (sym (same_view s.views id (x.who k) v old.0 at old.1 e)) ∙ old.2))
      (λ (e : x.who k ≢ id). (old.0, set_else s.views id (x.who k) w e ∙ old.1, old.2))

  -- of two views with the ticket whose turn it is, both are one
  pub one_turn_each : (x : W) (id j : ℕ) (v u : V) → Fits session seats base x id v → Fits session seats base x j u → v.ticket ≡ Some x.served → u.ticket ≡ Some x.served → j ≡ id
  one_turn_each x id j v u f g a b = sym ((g.ticket x.served b).2) ∙ (f.ticket x.served a).2

  -- a view that has no ticket is not the one with a given ticket
  pub not_mine : (s : S) (id k : ℕ) (v : V) (j : ℕ) (u : V) → get_elem? s.views id ≡ some v → v.ticket ≡ None → get_elem? s.views j ≡ some u → u.ticket ≡ Some k → j ≢ id
  not_mine s id k v j u at none_mine there has = differs s.views id j k v u at there none_mine has
