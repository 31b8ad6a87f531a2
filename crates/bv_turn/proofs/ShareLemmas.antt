-- What a share knows, once its one part fits a value, and what all shares know together.
use Rattle.std.proofs.Common.{◌≡◌, ℕ, suc, ◌⊎◌, inl, inr, List, [], ◌∷◌, ◌++◌, length, map, refl, sym, ap, ◌∙◌, ⊎_elim, arith, length-append, Option, Some, None}
use Rattle.std.specs.List.{AllByRecursion, All, Any, flat_map}
use Rattle.bv_turn.specs.declared.keeps.Keeps.{Ghosts}
use Rattle.bv_turn.specs.declared.turn.Share.{Share}
use Rattle.bv_turn.specs.declared.view.Part.{Part}
use Rattle.bv_turn.specs.Entries.{entries_of, numbered}
use Rattle.bv_turn.specs.Rule.{Closed}
use Rattle.bv_turn.specs.Tokens.{session_of, list_of, basis_of}
use Rattle.bv_turn.specs.Views.{Has, first_entries, first_basis}
use Rattle.bv_turn.proofs.EntryLemmas.{numbered-entries_of}
use Rattle.bv_turn.proofs.ListLemmas.{All_from_each, each_map}
use Rattle.bv_turn.proofs.ViewLemmas.{only}

module _ {E B : Type 0} where
  -- a part that has the basis, and its session's entries of the list
  abbrev pub FitsList : (E → ℕ) → B → List E → Part E B → Type 0
  FitsList session b es p = (p.basis ≡ b) × (p.entries ≡ numbered session p.session 0 es)

  -- the one part of a share that fits a list of entries
  pub record Knows (session : E → ℕ) (s : ℕ) (b : B) (es : List E) (ps : List (Part E B)) : Type 0 where
    pub numbered_list : first_entries ps ≡ numbered session s 0 es
    pub plain_list : map (λ x. x.1) (first_entries ps) ≡ entries_of session s es
    pub basis : first_basis ps ≡ Some b

  pub knows : (session : E → ℕ) (s : ℕ) (b : B) (es : List E) (ps : List (Part E B)) → map (λ p. p.session) ps ≡ s ∷ [] → AllByRecursion (FitsList session b es) ps → Knows session s b es ps
  knows session s b es [] one h = absurd (let l = ap length one in omega arith)
  knows session s b es (p ∷ []) one h =
      let same : p.session ≡ s = cc in let e = h.0.1 ∙ ap (λ k. numbered session k 0 es) same in
      record { numbered_list = e; plain_list = ap (map (λ x. x.1)) e ∙ numbered-entries_of session s 0 es; basis = ap Some h.0.0 }
  knows session s b es (p ∷ q ∷ ps) one h = absurd (let l = ap length one in omega arith)

  Has-append : (n : ℕ) (ps qs : List (Part E B)) → Has n (ps ++ qs) → Has n ps ⊎ Has n qs
  Has-append n [] qs h = inr h
  Has-append n (p ∷ ps) qs (inl e) = inl (inl e)
  Has-append n (p ∷ ps) qs (inr h) = ⊎_elim (λ (a : Has n ps). inl (inr a)) (λ (b : Has n qs). inr b) (Has-append n ps qs h)

  Has_one : (n s : ℕ) (ps : List (Part E B)) → map (λ p. p.session) ps ≡ s ∷ [] → Has n ps → s ≡ n
  Has_one n s [] one h = absurd h
  Has_one n s (p ∷ []) one (inl e) = let same : p.session ≡ s = cc in sym same ∙ e
  Has_one n s (p ∷ []) one (inr h) = absurd h
  Has_one n s (p ∷ q ∷ ps) one h = absurd (let l = ap length one in omega arith)

  module _ {A : Type 0} (parts : A → List (Part E B)) (session_at : A → ℕ) (one : (x : A) → map (λ p. p.session) (parts x) ≡ session_at x ∷ []) where
    -- as many parts as shares
    pub length-parts : (xs : List A) → length (flat_map parts xs) ≡ length xs
    length-parts [] = refl
    length-parts (x ∷ xs) = let r = length-parts xs in let l : length (parts x) ≡ 1 = ap length (only (parts x) (session_at x) (one x)).1 in omega (arith, length-append (parts x) (flat_map parts xs))

    -- a session with a part is that of some share
    pub Any-from_Has : (n : ℕ) (xs : List A) → Has n (flat_map parts xs) → Any (λ x. session_at x ≡ n) xs
    Any-from_Has n [] h = absurd h
    Any-from_Has n (x ∷ xs) h = ⊎_elim
        (λ (a : Has n (parts x)). (0, x, omega arith, refl, Has_one n (session_at x) (parts x) (one x) a))
        (λ (b : Has n (flat_map parts xs)). let r = Any-from_Has n xs b in (suc r.0, r.1, omega (arith, r.2), r.3, r.4))
        (Has-append n (parts x) (flat_map parts xs) h)

    each_front : (F : Part E B → Type 0) (ps qs : List (Part E B)) → AllByRecursion F (ps ++ qs) → AllByRecursion F ps × AllByRecursion F qs
    each_front F [] qs h = (tt, h)
    each_front F (p ∷ ps) qs h = let r = each_front F ps qs h.1 in ((h.0, r.0), r.1)

    -- a fact of all parts is a fact of each share's parts
    pub each_parts : (F : Part E B → Type 0) (xs : List A) → AllByRecursion F (flat_map parts xs) → AllByRecursion (λ x. AllByRecursion F (parts x)) xs
    each_parts F [] h = tt
    each_parts F (x ∷ xs) h = let r = each_front F (parts x) (flat_map parts xs) h in (r.0, each_parts F xs r.1)

value_in : {T : Type 0} → List (ℕ × Option T) → Option T
value_in [] = None
value_in (x ∷ xs) = x.1

-- one slot that is out has one value
pub one_value : {T : Type 0} (out : List (ℕ × Option T)) (x y : T) → out ≡ (0, Some x) ∷ [] → out ≡ (0, Some y) ∷ [] → x ≡ y
unfolding value_in
one_value out x y e f = let z : Some x ≡ Some y = sym (ap value_in e) ∙ ap value_in f in cc

-- what `close` says of its shares
module _ {T E B : Type 0} {k : Ghosts T E B} where
  abbrev pub parts_of : Share T E B k → List (Part E B)
  parts_of s = s.seat.me.0.parts

  fits_each : (shares : List (Share T E B k)) (x : T) → Closed k.session k.entries k.basis (flat_map parts_of shares) x
      → AllByRecursion (λ s. AllByRecursion (FitsList k.session (k.basis x) (k.entries x)) (parts_of s)) shares
  fits_each shares x closed = each_parts parts_of session_of (λ s. s.one) (FitsList k.session (k.basis x) (k.entries x)) shares closed.parts

  known_at : (s : Share T E B k) (x : T) → AllByRecursion (FitsList k.session (k.basis x) (k.entries x)) (parts_of s) → Knows k.session (session_of s) (k.basis x) (k.entries x) (parts_of s)
  known_at s x h = knows k.session (session_of s) (k.basis x) (k.entries x) (parts_of s) s.one h

  pub lists_at_close : (shares : List (Share T E B k)) (x : T) → Closed k.session k.entries k.basis (flat_map parts_of shares) x
      → All (λ s. list_of s ≡ entries_of k.session (session_of s) (k.entries x)) shares
  lists_at_close shares x closed = All_from_each _ shares (each_map (λ s. AllByRecursion (FitsList k.session (k.basis x) (k.entries x)) (parts_of s)) (λ s. list_of s ≡ entries_of k.session (session_of s) (k.entries x))
      (λ s h. (known_at s x h).plain_list) shares (fits_each shares x closed))

  pub basis_at_close : (shares : List (Share T E B k)) (x : T) → Closed k.session k.entries k.basis (flat_map parts_of shares) x → All (λ s. basis_of s ≡ Some (k.basis x)) shares
  basis_at_close shares x closed = All_from_each _ shares (each_map (λ s. AllByRecursion (FitsList k.session (k.basis x) (k.entries x)) (parts_of s)) (λ s. basis_of s ≡ Some (k.basis x))
      (λ s h. (known_at s x h).basis) shares (fits_each shares x closed))

  pub owned_at_close : (shares : List (Share T E B k)) (x : T) → Closed k.session k.entries k.basis (flat_map parts_of shares) x
      → All (λ e. Any (λ s. session_of s ≡ k.session e) shares) (k.entries x)
  owned_at_close shares x closed = All_from_each _ (k.entries x) (each_map (λ e. Has (k.session e) (flat_map parts_of shares)) (λ e. Any (λ s. session_of s ≡ k.session e) shares)
      (λ e h. Any-from_Has parts_of session_of (λ s. s.one) (k.session e) shares h) (k.entries x) closed.owned)
