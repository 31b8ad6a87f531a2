-- Plain lists: their ends, and a fact of each element.
use Rattle.std.proofs.Common.{◌≡◌, ◌≢◌, ℕ, zero, suc, ◌⊎◌, inl, inr, List, [], ◌∷◌, ◌++◌, length, drop, refl, sym, ap, ◌∙◌, arith, length-append, Some, slice_get}
use Rattle.std.specs.List.{AllByRecursion, All, flat_map}
use Rattle.std.proofs.lemmas.List.{append_assoc, append-nil}
use mathlib.Core.Option.{none, some}
use mathlib.Core.Option as maybe
use lib.ListN.{get_elem?}

module _ {A : Type 0} where
  pub get_snoc : (xs : List A) (y : A) (k : ℕ) (x : A) → slice_get xs k ≡ Some x → slice_get (xs ++ y ∷ []) k ≡ Some x
  get_snoc [] y zero x e = absurd (cc)
  get_snoc [] y (suc k) x e = absurd (cc)
  get_snoc (z ∷ zs) y zero x e = e
  get_snoc (z ∷ zs) y (suc k) x e = get_snoc zs y k x e

  pub get_last : (xs : List A) (y : A) (k : ℕ) → length xs ≡ k → slice_get (xs ++ y ∷ []) k ≡ Some y
  get_last [] y zero e = refl
  get_last [] y (suc k) e = absurd (omega arith)
  get_last (z ∷ zs) y zero e = absurd (omega arith)
  get_last (z ∷ zs) y (suc k) e = get_last zs y k (omega arith)

  pub each_map : (F G : A → Type 0) → ((a : A) → F a → G a) → (xs : List A) → AllByRecursion F xs → AllByRecursion G xs
  each_map F G f [] h = tt
  each_map F G f (x ∷ xs) h = (f x h.0, each_map F G f xs h.1)

  pub each_snoc : (F : A → Type 0) (xs : List A) (x : A) → AllByRecursion F xs → F x → AllByRecursion F (xs ++ x ∷ [])
  each_snoc F [] x h f = (f, tt)
  each_snoc F (y ∷ ys) x h f = (h.0, each_snoc F ys x h.1 f)

  pub each_last : (F : A → Type 0) (xs : List A) (y : A) → AllByRecursion F (xs ++ y ∷ []) → AllByRecursion F xs × F y
  each_last F [] y h = (tt, h.0)
  each_last F (x ∷ xs) y h = let r = each_last F xs y h.1 in ((h.0, r.0), r.1)

  pub each-append : (F : A → Type 0) (xs ys : List A) → AllByRecursion F xs → AllByRecursion F ys → AllByRecursion F (xs ++ ys)
  each-append F [] ys h k = k
  each-append F (x ∷ xs) ys h k = (h.0, each-append F xs ys h.1 k)

  pub each_from_All : (F : A → Type 0) (xs : List A) → All F xs → AllByRecursion F xs
  each_from_All F [] h = tt
  each_from_All F (x ∷ xs) h = (h 0 x (omega arith), each_from_All F xs (λ k d low. h (suc k) d (omega arith)))

  pub All_from_each : (F : A → Type 0) (xs : List A) → AllByRecursion F xs → All F xs
  All_from_each F [] h k d low = absurd (omega arith)
  All_from_each F (x ∷ xs) h zero d low = h.0
  All_from_each F (x ∷ xs) h (suc k) d low = All_from_each F xs h.1 k d (omega arith)

  pub slot_cases : (hs : List (maybe.Option A)) → length hs ≡ 1 → (get_elem? hs 0 ≡ some none) ⊎ ((y : A) × (get_elem? hs 0 ≡ some (some y)))
  slot_cases [] h = absurd (omega arith)
  slot_cases (none ∷ hs) h = inl refl
  slot_cases (some y ∷ hs) h = inr (y, refl)

  pub drop_front : (xs ys : List A) → drop (length xs) (xs ++ ys) ≡ ys
  drop_front [] ys = refl
  drop_front (x ∷ xs) ys = drop_front xs ys

  pub drop_whole : (xs : List A) → drop (length xs) xs ≡ []
  drop_whole [] = refl
  drop_whole (x ∷ xs) = drop_whole xs

  pub snoc_same : (xs : List A) (x y : A) → xs ++ x ∷ [] ≡ xs ++ y ∷ [] → x ≡ y
  snoc_same [] x y e = cc
  snoc_same (z ∷ zs) x y e = let t : zs ++ x ∷ [] ≡ zs ++ y ∷ [] = cc in snoc_same zs x y t

  pub snoc_apart : (xs : List A) (x : A) → xs ≢ xs ++ x ∷ []
  snoc_apart xs x e = let l : length xs ≡ length (xs ++ x ∷ []) = ap length e in omega (arith, length-append xs (x ∷ []))

-- the lists of all elements, one after another, where the last element goes to the rest
pub flat_map-snoc : {A B : Type 0} (f : A → List B) (xs : List A) (y : A) (zs : List B) → flat_map f (xs ++ y ∷ []) ++ zs ≡ flat_map f xs ++ (f y ++ zs)
flat_map-snoc f [] y zs = ap (λ l. l ++ zs) (append-nil (f y))
flat_map-snoc f (x ∷ xs) y zs = append_assoc (f x) (flat_map f (xs ++ y ∷ [])) zs ∙ ap (λ l. f x ++ l) (flat_map-snoc f xs y zs) ∙ sym (append_assoc (f x) (flat_map f xs) (f y ++ zs))

pub flat_map-last : {A B : Type 0} (f : A → List B) (xs : List A) (y : A) → flat_map f (xs ++ y ∷ []) ≡ flat_map f xs ++ f y
flat_map-last f xs y = sym (append-nil (flat_map f (xs ++ y ∷ []))) ∙ flat_map-snoc f xs y [] ∙ ap (λ l. flat_map f xs ++ l) (append-nil (f y))
