-- Shares that came back, each at its place, and what their sessions did.
use Rattle.std.proofs.Common.{◌≡◌, ℕ, zero, suc, ◌<◌, Bool, List, [], ◌∷◌, ◌++◌, length, refl, sym, ap, ◌∙◌, subst, arith, slice_get, slice_index_or, Some}
use Rattle.std.specs.List.{All}
use Rattle.std.proofs.lemmas.List.Elements.{All-cons}
use Rattle.bv_turn.specs.declared.keeps.Keeps.{Ghosts}
use Rattle.bv_turn.specs.declared.turn.Share.{Share}
use Rattle.bv_turn.specs.declared.turn.Turn.{Turn}
use Rattle.bv_turn.specs.Entries.{entries_of}
use Rattle.bv_turn.specs.Tokens.{IsOf, IsIdle, session_of, list_of, KnowsEntries, KnowsBasis, HasShare, AreFresh}
use Rattle.bv_turn_uses.specs.declared.event.Event.{Event}
use Rattle.bv_turn_uses.specs.declared.script.Script.{Script}
use Rattle.bv_turn_uses.specs.declared.session.Ended.{Ended}
use Rattle.bv_turn_uses.specs.Ends.{IsReady, ComesBack, EndOf, Ends}
use Rattle.bv_turn_uses.specs.Events.{Served, AllServed}

module _ {A : Type 0} where
  index_from_get : (xs : List A) (n : ℕ) (x d : A) → slice_get xs n ≡ Some x → slice_index_or xs n d ≡ x
  index_from_get [] n x d at = absurd (cc)
  index_from_get (y ∷ ys) zero x d at = cc
  index_from_get (y ∷ ys) (suc n) x d at = index_from_get ys n x d at

  below_length : (xs : List A) (n : ℕ) (x : A) → slice_get xs n ≡ Some x → n < length xs
  below_length [] n x at = absurd (cc)
  below_length (y ∷ ys) zero x at = omega arith
  below_length (y ∷ ys) (suc n) x at = let r = below_length ys n x at in omega arith

  -- a fact of all elements is a fact of the one at a place
  at_place : (P : A → Type 0) (xs : List A) (n : ℕ) (x : A) → All P xs → slice_get xs n ≡ Some x → P x
  at_place P xs n x all at = subst P (index_from_get xs n x x at) (all n x (below_length xs n x at))

-- a promise or a closure that is given back speaks of the values that it was made of
pub moved : {T B : Type 0} {k : Ghosts T Event B} {t t' : Turn T Event B} {script script' : Script} {s s' : Share T Event B k} {e e' : Ended T Event B k}
    → t ≡ t' → script ≡ script' → s ≡ s' → e ≡ e' → EndOf t script s e → EndOf t' script' s' e'
moved {T} {B} {k} a b c d = subst (λ (y : Turn T Event B × Script × Share T Event B k × Ended T Event B k). EndOf y.0 y.1 y.2 y.3) (λ i. (a i, b i, c i, d i))

module _ {T B : Type 0} {k : Ghosts T Event B} (t : Turn T Event B) (script : Script) where
  pub Ends-length : (ss es : List (Share T Event B k)) (ws : List Bool) → Ends t script ss es ws → (length es ≡ length ss) × (length ws ≡ length ss)
  Ends-length [] [] [] h = (refl, refl)
  Ends-length [] [] (w ∷ ws) h = absurd h
  Ends-length [] (e ∷ es) ws h = absurd h
  Ends-length (s ∷ ss) [] ws h = absurd h
  Ends-length (s ∷ ss) (e ∷ es) [] h = absurd h
  Ends-length (s ∷ ss) (e ∷ es) (w ∷ ws) h = let r = Ends-length ss es ws h.1 in (ap suc r.0, ap suc r.1)

  -- one share more comes back
  pub Ends-snoc : (ss es : List (Share T Event B k)) (ws : List Bool) (s e : Share T Event B k) (w : Bool) → Ends t script ss es ws → ComesBack t script s e w → Ends t script (ss ++ s ∷ []) (es ++ e ∷ []) (ws ++ w ∷ [])
  Ends-snoc [] [] [] s e w h one = (one, tt)
  Ends-snoc [] [] (w' ∷ ws) s e w h one = absurd h
  Ends-snoc [] (e' ∷ es) ws s e w h one = absurd h
  Ends-snoc (s' ∷ ss) [] ws s e w h one = absurd h
  Ends-snoc (s' ∷ ss) (e' ∷ es) [] s e w h one = absurd h
  Ends-snoc (s' ∷ ss) (e' ∷ es) (w' ∷ ws) s e w h one = (h.0, Ends-snoc ss es ws s e w h.1 one)

  -- the share at each place
  pub Ends-at : (ss es : List (Share T Event B k)) (ws : List Bool) → Ends t script ss es ws → (n : ℕ) (s : Share T Event B k) → slice_get ss n ≡ Some s
      → (e : Share T Event B k) × (w : Bool) × (slice_get es n ≡ Some e) × (slice_get ws n ≡ Some w) × ComesBack t script s e w
  Ends-at [] es ws h n s at = absurd (cc)
  Ends-at (s' ∷ ss) [] ws h n s at = absurd h
  Ends-at (s' ∷ ss) (e ∷ es) [] h n s at = absurd h
  Ends-at (s' ∷ ss) (e ∷ es) (w ∷ ws) h zero s at = let same : s' ≡ s = cc in (e, w, refl, refl, subst (λ x. ComesBack t script x e w) same h.0)
  Ends-at (s' ∷ ss) (e ∷ es) (w ∷ ws) h (suc n) s at = Ends-at ss es ws h.1 n s at

  -- each comes back idle
  pub Ends-idle : (ss es : List (Share T Event B k)) (ws : List Bool) → Ends t script ss es ws → All (λ s. IsOf t s × IsIdle s) es
  Ends-idle [] [] ws h = λ n d low. absurd (omega arith)
  Ends-idle [] (e ∷ es) ws h = absurd h
  Ends-idle (s ∷ ss) [] ws h = absurd h
  Ends-idle (s ∷ ss) (e ∷ es) [] h = absurd h
  Ends-idle (s ∷ ss) (e ∷ es) (w ∷ ws) h = All-cons (λ x. IsOf t x × IsIdle x) e es (h.0.this, h.0.idle) (Ends-idle ss es ws h.1)

  module _ (base : B) (shares : List (Share T Event B k)) (fresh : AreFresh t base shares) where
    pub fresh_all : All (IsReady t) shares
    fresh_all n d low = let f = fresh n low in
        subst (IsReady t) (sym (index_from_get shares n f.0 d f.1)) (f.2, f.3, f.5)

    module _ (es : List (Share T Event B k)) (ws : List Bool) (ends : Ends t script shares es ws) (x : T) where
      pub all_served : All (λ s. KnowsEntries s x) es → AllServed k.session (length shares) script.lines.items (k.entries x) ws
      all_served known n low =
          let f = fresh n low in let e = Ends-at shares es ws ends n f.0 f.1 in
          let knows : list_of e.0 ≡ entries_of k.session (session_of e.0) (k.entries x) = at_place (λ s. KnowsEntries s x) es n e.0 known e.2 in
          let is = e.4.session ∙ f.4 in
          (e.1, e.3, subst (λ (y : ℕ × List Event). Served y.0 script.lines.items y.1 e.1) (λ i. (f.4 i, (knows ∙ ap (λ s. entries_of k.session s (k.entries x)) is) i)) e.4.served)

      pub all_owned : All (HasShare es) (k.entries x) → All (λ e. k.session e < length shares) (k.entries x)
      all_owned has n d low =
          let h = has n d low in
          let same = (Ends-length shares es ws ends).0 in
          let f = fresh h.0 (let l = h.2 in omega arith) in
          let e = Ends-at shares es ws ends h.0 f.0 f.1 in
          let is : h.1 ≡ e.0 = sym h.3 ∙ index_from_get es h.0 e.0 h.1 e.2 in
          let place = sym h.4 ∙ ap session_of is ∙ e.4.session ∙ f.4 in
          (let l = h.2 in omega arith)

      pub same_basis : 0 < length shares → All (λ s. KnowsBasis s x) es → k.basis x ≡ base
      same_basis some known =
          let f = fresh 0 some in let e = Ends-at shares es ws ends 0 f.0 f.1 in
          let knows = at_place (λ s. KnowsBasis s x) es 0 e.0 known e.2 in
          let z : Some (k.basis x) ≡ Some base = sym knows ∙ e.4.basis ∙ f.6 in cc
