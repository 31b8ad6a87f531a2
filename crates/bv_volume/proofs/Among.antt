-- The blocks of a blob among those of all blobs.
use Rattle.std.proofs.Common.{◌≡◌, ℕ, List, [], ◌∷◌, ◌++◌, get_or, Bool, true, false, cond, Some, None, sym, subst, inl, inr, arith}
use Rattle.std.proofs.lemmas.List.Elements.{Contains-get_or}
use Rattle.std.specs.BTreeMap.{is_at}
use Rattle.std.specs.List.{concat}
use Rattle.std.specs.Map.{lookup, values_of}
use Rattle.std.specs.Prelude.{All, Contains}
use Rattle.spec_tree.specs.declared.Digest.{Digest}
use Rattle.spec_tree.specs.Order.{digest_cmp}
use Rattle.spec_disk.proofs.ImageLemmas.{Contains-head, Contains-cons, Contains-cons_cases}
use Rattle.spec_core.specs.State.{find}
use Rattle.bv_store.specs.Stored.{blocks_in}

in_first : (xs ys : List ℕ) (x : ℕ) → Contains xs x → Contains (xs ++ ys) x
in_first [] ys x (k, below, is) = absurd (omega (arith, below))
in_first (y ∷ xs) ys x c = elim (Contains-cons_cases y xs x c) [
  | inl is ↦ subst (λ (z : ℕ). Contains (y ∷ (xs ++ ys)) z) is (Contains-head y (xs ++ ys))
  | inr later ↦ Contains-cons y (xs ++ ys) x (in_first xs ys x later)
]

in_second : (xs ys : List ℕ) (x : ℕ) → Contains ys x → Contains (xs ++ ys) x
in_second [] ys x c = c
in_second (y ∷ xs) ys x c = Contains-cons y (xs ++ ys) x (in_second xs ys x c)

in_concat : (test : Digest → Bool) (placed : List (Digest × List ℕ)) (places : List ℕ) (b : ℕ) → lookup test placed ≡ Some places → Contains places b → Contains (blocks_in placed) b
in_concat test [] places b e c = absurd (no e)
  where
    no : {X : Type 0} {x : X} → None ≡ Some x → ⊥
    no e = cc
in_concat test (x ∷ placed) places b e c = chosen (test x.0) e (λ later. in_concat test placed places b later c)
  where
    chosen : (t : Bool) → cond t (Some x.1) (lookup test placed) ≡ Some places → (lookup test placed ≡ Some places → Contains (concat (values_of placed)) b) → Contains (x.1 ++ concat (values_of placed)) b
    chosen true is later = let same : x.1 ≡ places = cc in in_first x.1 (concat (values_of placed)) b (subst (λ (zs : List ℕ). Contains zs b) (sym same) c)
    chosen false is later = in_second x.1 (concat (values_of placed)) b (later is)

-- a blob that lies somewhere lies at blocks of blobs
pub of_blobs : (placed : List (Digest × List ℕ)) (r : Digest) (places : List ℕ) → find placed r ≡ Some places → All (λ b. Contains (blocks_in placed) b) places
of_blobs placed r places is k d low =
    in_concat (is_at (digest_cmp r)) placed places (get_or places k d) is (Contains-get_or places k d low)
