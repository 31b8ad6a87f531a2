-- Version 2: the digests of a block of a level stand in one block of the tree, or in two.
use Rattle.std.proofs.Common.{◌≡◌, ℕ, ◌+◌, ◌-◌, ◌*◌, ◌/◌, ◌%◌, ◌<◌, ◌≤◌, ◌^◌, min, List, [], ◌++◌, length, take, drop, get_or, replicate, refl, ap, sym, ◌∙◌, arith, append-nil}
use Rattle.std.specs.Int.{div_ceil}
use Rattle.std.specs.List.{concat, range_with_len, sum_by}
use Rattle.std.proofs.lemmas.List.{drop-replicate, length-append, length-drop, length-take}
use Rattle.std.proofs.Math.Seq.{take-append_seam, drop-append-add}
use Rattle.spec_disk.specs.Laws.{AreWhole}
use Rattle.spec_tree.specs.Tree.{digests_at, filled, levels_of, tree_blocks_of}
use Rattle.spec_tree.proofs.SizesLemmas.{digests_at-more}
use Rattle.spec_window.specs.Window.{used_places}
use Rattle.bv_fetch.specs.Windows.{compact_among}
use Rattle.bv_fetch.proofs.Sums.{digests-few, sum-next}
use Rattle.bv_fetch.proofs.Wholes.{two-parts}

tree-two : (size : ℕ) → tree_blocks_of 2 size ≡ div_ceil (sum_by (digests_at size) (range_with_len 0 (levels_of size))) 256
unfolding tree_blocks_of
tree-two size = refl

-- the digests of a block are among those of the level below
above : (size level i : ℕ) → 1 ≤ level → i < digests_at size level → 256 * i < digests_at size (level - 1)
above size level i low there =
    let up : level - 1 + 1 ≡ level = omega (arith, low) in
    let next : digests_at size level ≡ div_ceil (digests_at size (level - 1)) 256 = ap (digests_at size) (sym up) ∙ digests_at-more size (level - 1) in
    omega (arith, there, next)

pub few : (size level i : ℕ) → 1 ≤ level → i < digests_at size level → size < 2 ^ 64 → 256 * i ≤ 2 ^ 51
few size level i low there fits = omega (arith, above size level i low there, digests-few size (level - 1) fits)

module _ (size level i dg u head n : ℕ) (low : 1 ≤ level) (high : level ≤ levels_of size) (there : i < digests_at size level) (count : n ≡ tree_blocks_of 2 size) (dg_is : dg ≡ sum_by (digests_at size) (range_with_len 0 (level - 1))) (u_is : u ≡ used_places size level i) where
  used : (1 ≤ u) × (u ≤ 256) × (256 * i + u ≤ digests_at size (level - 1))
  used = (omega (arith, u_is, above size level i low there), omega (arith, u_is), omega (arith, u_is, above size level i low there))

  within : dg + 256 * i + u ≤ sum_by (digests_at size) (range_with_len 0 (levels_of size))
  within =
      let zero : 0 + (level - 1) ≡ level - 1 = omega arith in
      omega (arith, used.2, dg_is, sum-next (digests_at size) 0 level (levels_of size) low high, ap (digests_at size) zero)

  abbrev place : ℕ
  place = dg + 256 * i

  abbrev from : ℕ
  from = 32 * (place % 256)

  pub first_there : place / 256 < n
  first_there = omega (arith, within, used.0, count, tree-two size)

  module _ (head_is : head ≡ min (32 * u) (8192 - from)) where
    pub next_there : head < 32 * u → place / 256 + 1 < n
    next_there more = omega (arith, more, head_is, within, used.1, count, tree-two size)

    module _ (xs : List (List ℕ)) (whole : AreWhole xs) (long : length xs ≡ n) where
      all_of_it : take (32 * u) (drop (32 * place) (concat xs)) ≡ take head (drop from (get_or xs (place / 256) [])) ++ take (32 * u - head) (get_or xs (place / 256 + 1) [])
      all_of_it =
          let at : 32 * place ≡ 8192 * (place / 256) + from = omega arith in
          ap (λ (k : ℕ). take (32 * u) (drop k (concat xs))) at
          ∙ two-parts (32 * u) from (place / 256) xs whole (omega arith) (omega (arith, used.1)) (omega (arith, first_there, long)) (λ far. omega (arith, long, next_there (omega (arith, far, head_is))))
          ∙ ap (λ (k : ℕ). take k (drop from (get_or xs (place / 256) [])) ++ take (32 * u - k) (get_or xs (place / 256 + 1) [])) (sym head_is)

      compact_is : compact_among size xs level i ≡ filled (take (32 * u) (drop (32 * place) (concat xs)))
      compact_is =
          ap (λ (k : ℕ). filled (take (32 * k) (drop (32 * (sum_by (digests_at size) (range_with_len 0 (level - 1)) + 256 * i)) (concat xs)))) (sym u_is)
          ∙ ap (λ (k : ℕ). filled (take (32 * u) (drop (32 * (k + 256 * i)) (concat xs)))) (sym dg_is)

      first_long : length (take head (drop from (get_or xs (place / 256) []))) ≡ head
      first_long = omega (arith, length-take head (drop from (get_or xs (place / 256) [])), length-drop from (get_or xs (place / 256) []), whole (place / 256) [] (omega (arith, first_there, long)), head_is)

      abbrev zeros : List ℕ
      zeros = replicate 8192 0

      module _ (x out : List ℕ) (x_is : x ≡ get_or xs (place / 256) []) (out_is : out ≡ (take 0 zeros ++ take head (drop from x)) ++ drop (0 + head) zeros) where
        abbrev front : List ℕ
        front = take head (drop from (get_or xs (place / 256) []))

        first_out : out ≡ front ++ replicate (8192 - head) 0
        first_out =
            let at : 0 + head ≡ head = omega arith in
            out_is ∙ ap (λ (y : List ℕ). take head (drop from y) ++ drop (0 + head) zeros) x_is
            ∙ ap (λ (k : ℕ). front ++ drop k zeros) at ∙ ap (λ (zs : List ℕ). front ++ zs) (drop-replicate head 8192 0)

        pub compact_one : 32 * u ≤ head → out ≡ compact_among size xs level i
        compact_one all =
            let none : 32 * u - head ≡ 0 = omega (arith, all) in
            let whole_part : take (32 * u) (drop (32 * place) (concat xs)) ≡ front =
            all_of_it ∙ ap (λ (k : ℕ). front ++ take k (get_or xs (place / 256 + 1) [])) none ∙ append-nil front in
            first_out ∙ ap (λ (k : ℕ). front ++ replicate (8192 - k) 0) (sym first_long)
            ∙ ap filled (sym whole_part) ∙ sym compact_is

        pub compact_two : (y out2 : List ℕ) → head < 32 * u → y ≡ get_or xs (place / 256 + 1) [] → out2 ≡ (take head out ++ take (32 * u - head) (drop 0 y)) ++ drop (head + (32 * u - head)) out → out2 ≡ compact_among size xs level i
        compact_two y out2 more y_is is =
            let rest : ℕ = 32 * u - head in
            let back : List ℕ = take rest (get_or xs (place / 256 + 1) []) in
            let back_long : length back ≡ rest = omega (arith, length-take rest (get_or xs (place / 256 + 1) []), whole (place / 256 + 1) [] (omega (arith, next_there more, long)), used.1) in
            let tail : List ℕ = replicate (8192 - head) 0 in
            let kept : take head (front ++ tail) ≡ front = ap (λ (k : ℕ). take k (front ++ tail)) (sym first_long) ∙ take-append_seam front tail in
            let left : drop (head + rest) (front ++ tail) ≡ replicate (8192 - head - rest) 0 =
            ap (λ (k : ℕ). drop (k + rest) (front ++ tail)) (sym first_long) ∙ drop-append-add front tail rest ∙ drop-replicate rest (8192 - head) 0 in
            let sum : 8192 - head - rest ≡ 8192 - length (front ++ back) = omega (arith, length-append front back, first_long, back_long) in
            is ∙ ap (λ (o : List ℕ). (take head o ++ take rest y) ++ drop (head + rest) o) first_out
            ∙ ap (λ (z : List ℕ). (take head (front ++ tail) ++ take rest z) ++ drop (head + rest) (front ++ tail)) y_is
            ∙ ap (λ (o : List ℕ). (o ++ back) ++ drop (head + rest) (front ++ tail)) kept
            ∙ ap (λ (o : List ℕ). (front ++ back) ++ o) left
            ∙ ap (λ (k : ℕ). (front ++ back) ++ replicate k 0) sum
            ∙ ap filled (sym all_of_it) ∙ sym compact_is
