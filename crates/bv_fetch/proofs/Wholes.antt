-- Blocks of 8,192 bytes, joined: where a block's bytes stand, and those that two blocks have.
use Rattle.std.proofs.Common.{◌≡◌, ℕ, zero, suc, ◌+◌, ◌-◌, ◌*◌, ◌<◌, ◌≤◌, min, List, [], ◌∷◌, ◌++◌, length, take, drop, get_or, refl, ap, sym, ◌∙◌, inl, inr, arith}
use Rattle.std.proofs.lemmas.Bool.{cases_lt}
use Rattle.std.specs.List.{concat}
use Rattle.std.proofs.lemmas.List.{take-take, drop-drop, drop-take, length-take, take_all, get_or-drop, length-append, length-drop}
use Rattle.std.proofs.Math.Seq.{take-add, drop-nil, drop-append-add, take-append_seam}
use Rattle.spec_disk.specs.Laws.{AreWhole}
use Rattle.spec_tree.specs.Tree.{data_blocks}
use Rattle.spec_window.specs.Window.{window_bytes}
use Rattle.bv_fetch.specs.Windows.{data_window}

first_whole : (x : List ℕ) (xs : List (List ℕ)) → AreWhole (x ∷ xs) → length x ≡ 8192
first_whole x xs whole = whole 0 [] (omega arith)

rest_whole : (x : List ℕ) (xs : List (List ℕ)) → AreWhole (x ∷ xs) → AreWhole xs
rest_whole x xs whole k d lt = whole (suc k) d (omega (arith, lt))

pub length-concat : (xs : List (List ℕ)) → AreWhole xs → length (concat xs) ≡ 8192 * length xs
length-concat [] whole = refl
length-concat (x ∷ xs) whole = length-append x (concat xs) ∙ omega (arith, first_whole x xs whole, length-concat xs (rest_whole x xs whole))

-- the bytes from a block on are those of the blocks from there on
pub concat-drop : (m : ℕ) (xs : List (List ℕ)) → AreWhole xs → drop (8192 * m) (concat xs) ≡ concat (drop m xs)
concat-drop zero xs whole = refl
concat-drop (suc m) [] whole = drop-nil (8192 * suc m)
concat-drop (suc m) (x ∷ xs) whole =
    let count : 8192 * suc m ≡ length x + 8192 * m = omega (arith, first_whole x xs whole) in
    ap (λ (k : ℕ). drop k (x ++ concat xs)) count
    ∙ drop-append-add x (concat xs) (8192 * m)
    ∙ concat-drop m xs (rest_whole x xs whole)

-- the first bytes of a block
concat-take : (n : ℕ) (xs : List (List ℕ)) → AreWhole xs → n ≤ 8192 → 0 < length xs → take n (concat xs) ≡ take n (get_or xs 0 [])
concat-take n [] whole few some = absurd (omega (arith, some))
concat-take n (x ∷ xs) whole few some =
    let long = first_whole x xs whole in
    let sum : 8192 ≡ n + (8192 - n) = omega (arith, few) in
    let front : take 8192 (x ++ concat xs) ≡ x = ap (λ (k : ℕ). take k (x ++ concat xs)) (sym long) ∙ take-append_seam x (concat xs) in
    sym (take-take n 8192 (x ++ concat xs) few) ∙ ap (λ (ys : List ℕ). take n ys) front

drop_whole : (m : ℕ) (xs : List (List ℕ)) → AreWhole xs → AreWhole (drop m xs)
drop_whole zero xs whole = whole
drop_whole (suc m) [] whole = whole
drop_whole (suc m) (x ∷ xs) whole = drop_whole m xs (rest_whole x xs whole)

-- the first bytes of block m
pub block-take : (n m : ℕ) (xs : List (List ℕ)) → AreWhole xs → n ≤ 8192 → m < length xs → take n (drop (8192 * m) (concat xs)) ≡ take n (get_or xs m [])
block-take n m xs whole few there =
    let here : m + 0 ≡ m = omega arith in
    ap (λ (ys : List ℕ). take n ys) (concat-drop m xs whole)
    ∙ concat-take n (drop m xs) (drop_whole m xs whole) few (omega (arith, length-drop m xs, there))
    ∙ ap (λ (ys : List ℕ). take n ys) (get_or-drop m xs 0 [] ∙ ap (λ (k : ℕ). get_or xs k []) here)

-- bytes of block m, from a place within it on, that don't reach its end
block-part : (n from m : ℕ) (xs : List (List ℕ)) → AreWhole xs → from + n ≤ 8192 → m < length xs → take n (drop (8192 * m + from) (concat xs)) ≡ take n (drop from (get_or xs m []))
block-part n from m xs whole few there =
    let sum : 8192 * m + from ≡ 8192 * m + from = refl in
    sym (ap (λ (ys : List ℕ). take n ys) (drop-drop from (8192 * m) (concat xs)))
    ∙ sym (drop-take from n (drop (8192 * m) (concat xs)))
    ∙ ap (λ (ys : List ℕ). drop from ys) (block-take (from + n) m xs whole few there)
    ∙ drop-take from n (get_or xs m [])

-- bytes that reach into the block after it, and those that don't
module _ (n from m : ℕ) (xs : List (List ℕ)) (whole : AreWhole xs) (low : from < 8192) (few : n ≤ 8192) where
  abbrev head : ℕ
  head = min n (8192 - from)

  reaches : 8192 < from + n → m + 1 < length xs → take (n - head) (drop head (drop (8192 * m + from) (concat xs))) ≡ take (n - head) (get_or xs (m + 1) [])
  reaches far next =
      let at : 8192 * m + from + head ≡ 8192 * (m + 1) = omega (arith, far, low) in
      ap (λ (ys : List ℕ). take (n - head) ys) (drop-drop head (8192 * m + from) (concat xs) ∙ ap (λ (k : ℕ). drop k (concat xs)) at)
      ∙ block-take (n - head) (m + 1) xs whole (omega (arith, few)) next

  none : (ys zs : List ℕ) → from + n ≤ 8192 → take (n - head) ys ≡ take (n - head) zs
  none ys zs near =
      let zero : n - head ≡ 0 = omega (arith, near) in
      ap (λ (k : ℕ). take k ys) zero ∙ sym (ap (λ (k : ℕ). take k zs) zero)

  behind : (8192 < from + n → m + 1 < length xs) → take (n - head) (drop head (drop (8192 * m + from) (concat xs))) ≡ take (n - head) (get_or xs (m + 1) [])
  behind next = elim (cases_lt 8192 (from + n)) [ inl far ↦ reaches far (next far) | inr near ↦ none _ _ near ]

pub two-parts : (n from m : ℕ) (xs : List (List ℕ)) → AreWhole xs → from < 8192 → n ≤ 8192 → m < length xs → (8192 < from + n → m + 1 < length xs)
    → take n (drop (8192 * m + from) (concat xs)) ≡ take (min n (8192 - from)) (drop from (get_or xs m [])) ++ take (n - min n (8192 - from)) (get_or xs (m + 1) [])
two-parts n from m xs whole low few there next =
    let head : ℕ = min n (8192 - from) in
    let sum : n ≡ head + (n - head) = omega arith in
    ap (λ (k : ℕ). take k (drop (8192 * m + from) (concat xs))) sum
    ∙ take-add head (n - head) (drop (8192 * m + from) (concat xs))
    ∙ ap (λ (ys : List ℕ). ys ++ take (n - head) (drop head (drop (8192 * m + from) (concat xs)))) (block-part head from m xs whole (omega arith) there)
    ∙ ap (λ (ys : List ℕ). take head (drop from (get_or xs m [])) ++ ys) (behind n from m xs whole low few next)

-- ---- the data of a window

-- how many bytes of block k of a window belong to it
abbrev pub piece_bytes : ℕ → ℕ → ℕ → ℕ
piece_bytes size w k = min (window_bytes size w - 8192 * k) 8192

-- the fewer of two numbers of bytes
pub take-fewer : (a b : ℕ) (xs : List ℕ) → take a (take b xs) ≡ take (min b a) xs
take-fewer a b xs = elim (cases_lt a b) [ inl less ↦ shorter less | inr more ↦ longer more ]
  where
    shorter : a < b → take a (take b xs) ≡ take (min b a) xs
    shorter less = let is : a ≡ min b a = omega (arith, less) in take-take a b xs (omega (arith, less)) ∙ ap (λ (k : ℕ). take k xs) is

    longer : b ≤ a → take a (take b xs) ≡ take (min b a) xs
    longer more = let is : b ≡ min b a = omega (arith, more) in take_all a (take b xs) (omega (arith, more, length-take b xs)) ∙ ap (λ (k : ℕ). take k xs) is

pub data-more : (size w k : ℕ) (xs : List (List ℕ)) → AreWhole xs → length xs ≡ data_blocks size → 8192 * k < window_bytes size w
    → take (8192 * (k + 1)) (data_window size w xs) ≡ take (8192 * k) (data_window size w xs) ++ take (piece_bytes size w k) (get_or xs (8 * w + k) [])
data-more size w k xs whole count low =
    let sum : 8192 * (k + 1) ≡ 8192 * k + 8192 = omega arith in
    let all = data_window size w xs in
    let wide : window_bytes size w ≡ 8192 * k + (window_bytes size w - 8192 * k) = omega (arith, low) in
    let at : 65536 * w + 8192 * k ≡ 8192 * (8 * w + k) = omega arith in
    let left : ℕ = window_bytes size w - 8192 * k in
    ap (λ (n : ℕ). take n all) sum ∙ take-add (8192 * k) 8192 all
    ∙ ap (λ (ys : List ℕ). take (8192 * k) all ++ ys)
    (ap (λ (n : ℕ). take 8192 (drop (8192 * k) (take n (drop (65536 * w) (concat xs))))) wide
    ∙ ap (take 8192) (drop-take (8192 * k) left (drop (65536 * w) (concat xs)))
    ∙ take-fewer 8192 left (drop (8192 * k) (drop (65536 * w) (concat xs)))
    ∙ ap (λ (ys : List ℕ). take (piece_bytes size w k) ys) (drop-drop (8192 * k) (65536 * w) (concat xs) ∙ ap (λ (n : ℕ). drop n (concat xs)) at)
    ∙ block-take (piece_bytes size w k) (8 * w + k) xs whole (omega arith) (omega (arith, count, low)))

-- all of its blocks have all of it
pub data-all : (size w count : ℕ) (xs : List (List ℕ)) → window_bytes size w ≤ 8192 * count → take (8192 * count) (data_window size w xs) ≡ data_window size w xs
data-all size w count xs all =
    take_all (8192 * count) (data_window size w xs) (omega (arith, all, length-take (window_bytes size w) (drop (65536 * w) (concat xs))))
