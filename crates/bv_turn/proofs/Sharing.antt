-- Sessions move between views: the rule holds after either move.
use Rattle.std.proofs.Common.{◌≡◌, ℕ, ◌+◌, ◌<◌, List, [], ◌∷◌, ◌++◌, length, set, sym, refl, ap, ◌∙◌, subst, ⊎_elim, arith, length-append, Option, Some, None}
use mathlib.Core.Option.{none, some}
use lib.ListN.{get_elem?}
use Rattle.atomic_table.specs.Table.{State, Splits, Joins}
use Rattle.atomic_table.proofs.Lists.{set_else, at_longer, at_snoc}
use Rattle.bv_turn.specs.declared.view.Part.{Part}
use Rattle.bv_turn.specs.declared.view.View.{View}
use Rattle.bv_turn.specs.Rule.{Account, FitsPart, Fits, OfShares}
use Rattle.bv_turn.specs.Views.{one_if_some, peeled, peel, merged, gone, total, waits, sessions, counts, EachView}
use Rattle.bv_turn.proofs.ListLemmas.{each-append}
use Rattle.bv_turn.proofs.ViewLemmas.{total-set, total-snoc, each_set, count_of-append, count_of-peel, length-peel, each_tail, each_head}
use Rattle.bv_turn.proofs.RuleLemmas.{not_mine}

module _ {T E B : Type 0} (session : E → ℕ) (seats : ℕ) (base : B) (entries : T → List E) (basis : T → B) where
  abbrev S : Type 0
  S = State (Option T) (View E B)

  abbrev V : Type 0
  V = View E B

  abbrev M : Type 0
  M = View E B × List (ℕ × Option T)

  abbrev Rule : S → Type 0
  Rule = OfShares session seats base entries basis

  abbrev W : Type 0
  W = Account E

  abbrev Part_ok : W → Part E B → Type 0
  Part_ok = FitsPart session seats base

  pub splits : (id : ℕ) (v : V) → v.ticket ≡ None → v.taken ≡ None → Splits Rule id v (peeled v) (peel v)
  splits id v no_ticket no_taken s h at =
      let x : W = h.account in
      let d : ℕ = x.served in
      let left : V = peeled v in
      let right : V = peel v in
      let mine = h.fits id v at in
      let f : (g : V → ℕ) → g left + g right ≡ g v → total g (set s.views id left ++ right ∷ []) ≡ total g s.views = λ g e.
      let a = total-snoc g (set s.views id left) right in let b = total-set g s.views id v left at in omega arith in
      let kept : (k j : ℕ) (u : V) → get_elem? s.views j ≡ some u → u.ticket ≡ Some k → get_elem? (set s.views id left ++ right ∷ []) j ≡ some u = λ k j u there has.
      at_longer (set s.views id left) (right ∷ []) j u (set_else s.views id j left (not_mine session seats base entries basis s id k v j u at no_ticket there has) ∙ there) in
      let each : (F : ℕ → V → Type 0) → F id left → ((j : ℕ) → F j right) → EachView F s.views → EachView F (set s.views id left ++ right ∷ []) = λ F a b all j u e.
      ⊎_elim (λ (old : get_elem? (set s.views id left) j ≡ some u). each_set F s.views id left a (λ i w n q. all i w q) j u old)
      (λ (new : right ≡ u). subst (F j) new (b j)) (at_snoc (set s.views id left) right u j e) in
      record {
        account = x;
        few = h.few;
        words = h.words;
        fits = each (Fits session seats base x)
            (record {
              parts = each_tail (Part_ok x) v.parts mine.parts;
              ticket = λ k e. let z : None ≡ Some k = sym no_ticket ∙ e in absurd (cc);
              taken = λ l e. let z : None ≡ Some l = sym no_taken ∙ e in absurd (cc);
            })
            (λ j. record {
              parts = each_head (Part_ok x) v.parts mine.parts;
              ticket = λ k e. let z : None ≡ Some k = e in absurd (cc);
              taken = λ k e. let z : None ≡ Some k = e in absurd (cc);
            })
            h.fits;
        tickets = λ m low high. let old = h.tickets m low high in (old.0, kept m (x.who m) old.0 old.1 old.2, old.2);
        waiting = let e = f waits (let z : waits v ≡ 0 = ap (λ (o : Option ℕ). one_if_some o) no_ticket in omega arith) in let q = h.waiting in omega arith;
        shared = f sessions (length-peel v.parts) ∙ h.shared;
        once = λ n fits. f (counts n) (count_of-peel n v.parts) ∙ h.once n fits;
        owned = h.owned;
        one_slot = h.one_slot;
        away = λ out. let old = h.away out in (old.0, kept d (x.who d) old.0 old.1 old.2, old.2, old.3);
        out = each (λ _ u. (l : List E) → u.taken ≡ Some l → get_elem? s.homes 0 ≡ some none)
            (λ l e. let z : None ≡ Some l = sym no_taken ∙ e in absurd (cc))
            (λ j l e. let z : None ≡ Some l = e in absurd (cc))
            h.out;
        home = h.home;
      }

  pub merges : (id : ℕ) (v : V) (other : ℕ) (w : V) → v.ticket ≡ None → v.taken ≡ None → 0 < length v.parts → w.ticket ≡ None → w.taken ≡ None → Joins Rule id v other w (merged v w) gone
  merges id v other w no_ticket no_taken some_part no_ticket' no_taken' s h at apart there' =
      let x : W = h.account in
      let d : ℕ = x.served in
      let both : V = merged v w in
      let none_left : V = gone in
      let there : get_elem? s.views other ≡ some w = sym (set_else s.views id other both apart) ∙ there' in
      let mine = h.fits id v at in
      let theirs = h.fits other w there in
      let f : (g : V → ℕ) → g both ≡ g w + g v → g none_left ≡ 0 → total g (set (set s.views id both) other none_left) ≡ total g s.views = λ g e z.
      let a = total-set g (set s.views id both) other w none_left there' in let b = total-set g s.views id v both at in omega arith in
      let kept : (k j : ℕ) (u : V) → get_elem? s.views j ≡ some u → u.ticket ≡ Some k → get_elem? (set (set s.views id both) other none_left) j ≡ some u = λ k j u at_j has.
      set_else (set s.views id both) other j none_left (not_mine session seats base entries basis s other k w j u there no_ticket' at_j has) ∙ (set_else s.views id j both (not_mine session seats base entries basis s id k v j u at no_ticket at_j has) ∙ at_j) in
      let each : (F : ℕ → V → Type 0) → F id both → F other none_left → EachView F s.views → EachView F (set (set s.views id both) other none_left) = λ F a b all.
      each_set F (set s.views id both) other none_left b (λ j u n e. each_set F s.views id both a (λ i q m r. all i q r) j u e) in
      record {
        account = x;
        few = h.few;
        words = h.words;
        fits = each (Fits session seats base x)
            (record {
              parts = each-append (Part_ok x) w.parts v.parts theirs.parts mine.parts;
              ticket = λ k e. let z : None ≡ Some k = sym no_ticket ∙ e in absurd (cc);
              taken = λ k e. let z : None ≡ Some k = sym no_taken ∙ e in absurd (cc);
            })
            (record {
              parts = tt;
              ticket = λ k e. let z : None ≡ Some k = e in absurd (cc);
              taken = λ k e. let z : None ≡ Some k = e in absurd (cc);
            })
            h.fits;
        tickets = λ m low high. let old = h.tickets m low high in (old.0, kept m (x.who m) old.0 old.1 old.2, old.2);
        waiting = let e = f waits (let z : waits w ≡ 0 = ap (λ (o : Option ℕ). one_if_some o) no_ticket' in omega arith) refl in let q = h.waiting in omega arith;
        shared = f sessions (length-append w.parts v.parts) refl ∙ h.shared;
        once = λ n fits. f (counts n) (count_of-append n w.parts v.parts) refl ∙ h.once n fits;
        owned = h.owned;
        one_slot = h.one_slot;
        away = λ out. let old = h.away out in (old.0, kept d (x.who d) old.0 old.1 old.2, old.2, old.3);
        out = each (λ _ u. (l : List E) → u.taken ≡ Some l → get_elem? s.homes 0 ≡ some none)
            (λ l e. let z : None ≡ Some l = sym no_taken ∙ e in absurd (cc))
            (λ l e. let z : None ≡ Some l = e in absurd (cc))
            h.out;
        home = h.home;
      }
