-- Bytes that are cut out of windows, which are parts of a blob.
use Rattle.std.proofs.Common.{◌≡◌, ◌≤◌, ◌<◌, inl, inr, ℕ, zero, suc, ◌+◌, ◌-◌, ◌*◌, ◌/◌, ◌==◌, Bool, true, false, List, [], ◌∷◌, ◌++◌, length, take, drop, take_all, refl, ap, sym, ◌∙◌, arith}
use Rattle.std.specs.Prelude.{min, if◌then◌else◌}
use Rattle.std.specs.List.{flat_map, range_with_len}
use Rattle.std.proofs.lemmas.Bool.{cases_lt, eqb-true, eqb-false}
use Rattle.std.proofs.lemmas.List.{drop-drop, drop-take, length-drop, length-take, nil_from_length}
use Rattle.spec_session.specs.Lines.{windows_between}

-- ---- parts of a list

take_within : (a b : ℕ) (xs : List ℕ) → a ≤ b → take a (take b xs) ≡ take a xs
take_within zero b xs le = refl
take_within (suc a) zero xs le = absurd (omega (arith, le))
take_within (suc a) (suc b) [] le = refl
take_within (suc a) (suc b) (x ∷ xs) le = ap (λ (l : List ℕ). x ∷ l) (take_within a b xs (omega (arith, le)))

take_take : (a b : ℕ) (xs : List ℕ) → take a (take b xs) ≡ take (min a b) xs
take_take a b xs = elim (cases_lt a b) [
  | inl less ↦ take_within a b xs (omega (arith, less)) ∙ ap (λ (n : ℕ). take n xs) (let same : a ≡ min a b = omega (arith, less) in same)
  | inr more ↦ take_all a (take b xs) (omega (arith, more, length-take b xs)) ∙ ap (λ (n : ℕ). take n xs) (let same : b ≡ min a b = omega (arith, more) in same)
]

take_joins : (a b : ℕ) (xs : List ℕ) → take a xs ++ take b (drop a xs) ≡ take (a + b) xs
take_joins zero b xs = let same : b ≡ zero + b = omega arith in ap (λ (n : ℕ). take n xs) same
take_joins (suc a) b [] = take_all b [] (omega arith) ∙ sym (take_all (suc a + b) [] (omega arith))
take_joins (suc a) b (x ∷ xs) =
    let same : suc (a + b) ≡ suc a + b = omega arith in
    ap (λ (l : List ℕ). x ∷ l) (take_joins a b xs) ∙ ap (λ (n : ℕ). take n (x ∷ xs)) same

none_past : (k : ℕ) (xs : List ℕ) → length xs ≤ k → drop k xs ≡ []
none_past k xs le = nil_from_length (drop k xs) (omega (arith, le, length-drop k xs))

-- a window of a list that is cut to a size
pub window_cut : (size w : ℕ) (xs : List ℕ) → take (min 65536 (size - 65536 * w)) (drop (65536 * w) xs) ≡ take 65536 (drop (65536 * w) (take size xs))
window_cut size w xs = elim (cases_lt (65536 * w) size) [
  | inl there ↦
      let m : ℕ = size - 65536 * w in
      let split : 65536 * w + m ≡ size = omega (arith, there) in
      sym (ap (λ (n : ℕ). take 65536 (drop (65536 * w) (take n xs))) (sym split)
      ∙ ap (take 65536) (drop-take (65536 * w) m xs) ∙ take_take 65536 m (drop (65536 * w) xs))
  | inr past ↦
      let none : min 65536 (size - 65536 * w) ≡ 0 = omega (arith, past) in
      ap (λ (n : ℕ). take n (drop (65536 * w) xs)) none
      ∙ sym (ap (take 65536) (none_past (65536 * w) (take size xs) (omega (arith, past, length-take size xs))))
]

-- windows one after another
joined_is : (f : ℕ → List ℕ) (xs : List ℕ) (n first : ℕ) → ((w : ℕ) → first ≤ w → w < first + n → f w ≡ take 65536 (drop (65536 * w) xs))
    → flat_map f (range_with_len first n) ≡ take (65536 * n) (drop (65536 * first) xs)
joined_is f xs zero first each = let none : 0 ≡ 65536 * zero = omega arith in ap (λ (k : ℕ). take k (drop (65536 * first) xs)) none
joined_is f xs (suc n) first each =
    let next : 65536 * (first + 1) ≡ 65536 * first + 65536 = omega arith in
    let count : 65536 + 65536 * n ≡ 65536 * suc n = omega arith in
    (λ i. each first (omega arith) (omega arith) i ++ joined_is f xs n (first + 1) (λ w low high. each w (omega (arith, low)) (omega (arith, high))) i)
    ∙ ap (λ (l : List ℕ). take 65536 (drop (65536 * first) xs) ++ take (65536 * n) l) (ap (λ (k : ℕ). drop k xs) next ∙ sym (drop-drop 65536 (65536 * first) xs))
    ∙ take_joins 65536 (65536 * n) (drop (65536 * first) xs) ∙ ap (λ (k : ℕ). take k (drop (65536 * first) xs)) count

-- bytes from one place on and before another, cut out of the windows that they lie in
pub between_is : (f : ℕ → List ℕ) (xs : List ℕ) (from to : ℕ) → from ≤ to
    → ((w : ℕ) → (windows_between from to).first ≤ w → w < (windows_between from to).past → f w ≡ take 65536 (drop (65536 * w) xs))
    → take (to - from) (drop (from - 65536 * (from / 65536)) (flat_map f (range_with_len (from / 65536) ((windows_between from to).past - from / 65536)))) ≡ take (to - from) (drop from xs)
between_is f xs from to order each = by_test (from == to) refl each
  where
    by_test : (b : Bool) → (from == to) ≡ b
        → ((w : ℕ) → from / 65536 ≤ w → w < (if b then from / 65536 else (to + 65535) / 65536) → f w ≡ take 65536 (drop (65536 * w) xs))
        → take (to - from) (drop (from - 65536 * (from / 65536)) (flat_map f (range_with_len (from / 65536) ((if b then from / 65536 else (to + 65535) / 65536) - from / 65536)))) ≡ take (to - from) (drop from xs)
    by_test true same each =
        let equal : from ≡ to = eqb-true from to same in
        let none : to - from ≡ 0 = omega (arith, equal) in
        rw none refl
    by_test false other each =
        let first : ℕ = from / 65536 in
        let n : ℕ = (to + 65535) / 65536 - first in
        let a : ℕ = from - 65536 * first in
        let apart : from < to = omega (arith, order, eqb-false from to other) in
        let m : ℕ = 65536 * n - a in
        let split : a + m ≡ 65536 * n = omega (arith, apart) in
        let enough : to - from ≤ m = omega (arith, apart) in
        let start : 65536 * first + a ≡ from = omega arith in
        ap (λ (l : List ℕ). take (to - from) (drop a l)) (joined_is f xs n first (λ w low high. each w low (omega (arith, high, apart))))
        ∙ ap (λ (k : ℕ). take (to - from) (drop a (take k (drop (65536 * first) xs)))) (sym split)
        ∙ ap (take (to - from)) (drop-take a m (drop (65536 * first) xs))
        ∙ take_within (to - from) m (drop a (drop (65536 * first) xs)) enough
        ∙ ap (take (to - from)) (drop-drop a (65536 * first) xs ∙ ap (λ (k : ℕ). drop k xs) start)
