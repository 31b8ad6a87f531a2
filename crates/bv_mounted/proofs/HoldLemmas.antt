-- Blocks of one more extent or blob.
use Rattle.std.proofs.Common.{◌≡◌, ◌<◌, ◌≤◌, ℕ, zero, suc, ◌+◌, List, [], ◌∷◌, ◌++◌, length, take, drop, get_or, leb, ltb, ◌&&◌, refl, ap, sym, ◌∙◌, arith, append_assoc}
use Rattle.std.proofs.lemmas.Bool.Decides.{nat_tests}
use Rattle.std.proofs.lemmas.List.{append-nil, take-append-drop}
use Rattle.std.proofs.lemmas.Grind.{flat_map-append}
use Rattle.std.specs.List.{range_with_len, flat_map}
use Rattle.spec_record.specs.declared.extent.Extent.{Extent}
use Rattle.spec_image.proofs.CountLemmas.{count}
use Rattle.bv_claims.specs.Blocks.{times, HasEachOnce, consecutive}
use Rattle.bv_claims.proofs.Counts.{times-append}
use Rattle.bv_mounted.proofs.PlaceLemmas.{times_range}

-- the blocks of an extent
abbrev pub extent_blocks : Extent → List ℕ
extent_blocks e = range_with_len e.start e.len

flat_next : {X : Type 0} (f : X → List ℕ) (xs : List X) (i : ℕ) (d : X) → i < length xs → flat_map f (take (suc i) xs) ≡ flat_map f (take i xs) ++ f (get_or xs i d)
flat_next f [] i d lt = absurd (omega (arith, lt))
flat_next f (y ∷ xs) zero d lt = append-nil (f y)
flat_next f (y ∷ xs) (suc i) d lt =
    ap (λ (l : List ℕ). f y ++ l) (flat_next f xs i d (omega (arith, lt))) ∙ sym (append_assoc (f y) (flat_map f (take i xs)) (f (get_or xs i d)))

-- the blocks of one item more
pub flat_more : {X : Type 0} (f : X → List ℕ) (xs : List X) (i : ℕ) (d : X) → i < length xs → flat_map f (take (i + 1) xs) ≡ flat_map f (take i xs) ++ f (get_or xs i d)
flat_more f xs i d lt =
    let one : i + 1 ≡ suc i = omega arith in ap (λ (n : ℕ). flat_map f (take n xs)) one ∙ flat_next f xs i d lt

-- the blocks of the first items are among all
pub flat_within : {X : Type 0} (f : X → List ℕ) (xs : List X) (n b : ℕ) → times b (flat_map f (take n xs)) ≤ times b (flat_map f xs)
flat_within f xs n b =
    let all : times b (flat_map f xs) ≡ times b (flat_map f (take n xs) ++ flat_map f (drop n xs)) =
    ap (times b) (sym (ap (flat_map f) (take-append-drop n xs)) ∙ flat_map-append f (take n xs) (drop n xs)) in
    omega (arith, all, times-append b (flat_map f (take n xs)) (flat_map f (drop n xs)))

pub consecutive_is : (s n : ℕ) → consecutive s n ≡ range_with_len s n
consecutive_is s zero = refl
consecutive_is s (suc n) = ap (λ (l : List ℕ). s ∷ l) (consecutive_is (s + 1) n)

-- where each block is there once, none of the next item's is among those before it
pub none_before : {X : Type 0} (f : X → List ℕ) (owned : List ℕ) (xs : List X) (i : ℕ) (d : X) → i < length xs → HasEachOnce (owned ++ flat_map f xs) → HasEachOnce ((owned ++ flat_map f (take i xs)) ++ f (get_or xs i d))
none_before f owned xs i d lt once b =
    let more : times b (flat_map f (take (i + 1) xs)) ≡ times b (flat_map f (take i xs)) + times b (f (get_or xs i d)) =
    ap (times b) (flat_more f xs i d lt) ∙ times-append b (flat_map f (take i xs)) (f (get_or xs i d)) in
    omega (
      arith,
      more,
      flat_within f xs (i + 1) b,
      once b,
      times-append b owned (flat_map f xs),
      times-append b (owned ++ flat_map f (take i xs)) (f (get_or xs i d)),
      times-append b owned (flat_map f (take i xs)),
    )

-- none of these blocks is owned yet
pub not_owned : (owned : List ℕ) (s n b : ℕ) → HasEachOnce (owned ++ range_with_len s n) → s ≤ b → b < s + n → times b owned ≡ 0
not_owned owned s n b once from to =
    let here : count (leb s b && ltb b (s + n)) ≡ 1 = grind (arith, nat_tests) in
    omega (arith, times-append b owned (range_with_len s n), times_range b s n, here, once b)
