-- A blob's blocks: how many those of its tree are, and which stands where.
use Rattle.std.proofs.Common.{◌≡◌, ℕ, zero, suc, ◌+◌, ◌-◌, ◌<◌, ◌≤◌, ◌==◌, List, [], ◌∷◌, ◌++◌, length, map, refl, sym, ap, ◌∙◌, subst, length-append, get_or, arith, eq-eqb, ne_eqb}
use Rattle.std.specs.Prelude.{Bool, true, false, if◌then◌else◌}
use Rattle.std.specs.List.{range_with_len, flat_map, sum_by}
use Rattle.std.specs.Int.{div_ceil}
use Rattle.std.proofs.Math.Seq.{get_or-append_right}
use Rattle.std.proofs.lemmas.List.{get_or_append_left}
use Rattle.std.proofs.lemmas.List.Sums.{sum_by-cons}
use Rattle.std.proofs.lemmas.List.FromFn.{length-map-range_with_len, get_or-map-range_with_len}
use Rattle.spec_tree.specs.Tree.{data_blocks, digests_at, filled, level_of, levels_of, need_of, piece, tree_blocks_of}
use Rattle.spec_tree.proofs.SizesLemmas.{digests_at-more}
use Rattle.spec_tree.proofs.TreeLemmas.{length-level_of}
use Rattle.bv_merkle.specs.Built.{tree_levels}
use Rattle.bv_merkle.specs.Levels.{all_blocks}
use Rattle.bv_writer.specs.Blocks.{data_of, digests_below, placed, tree_blocks}
use Rattle.bv_writer.proofs.CompactLemmas.{length-all_blocks}

-- ---- how many blocks a tree has

-- the blocks of levels, one after another
pub flat-map : {X Y : Type 0} (f : X → List Y) (xs : List X) → flat_map f xs ≡ flat_map (λ (ys : List Y). ys) (map f xs)
flat-map f [] = refl
flat-map f (x ∷ xs) = ap (λ ys. f x ++ ys) (flat-map f xs)

-- how many they are
pub length-levels : (bytes : List ℕ) (a n : ℕ)
    → length (flat_map (λ (blocks : List (List ℕ)). blocks) (map (λ level. all_blocks (level_of bytes level)) (range_with_len a n)))
    ≡ sum_by (digests_at (length bytes)) (range_with_len (a + 1) n)
length-levels bytes a zero = refl
length-levels bytes a (suc n) =
    let here : length (all_blocks (level_of bytes a)) ≡ digests_at (length bytes) (a + 1) =
    length-all_blocks (level_of bytes a) ∙ ap (λ (k : ℕ). div_ceil k 256) (length-level_of bytes a) ∙ sym (digests_at-more (length bytes) a) in
    let f = digests_at (length bytes) in
    let next : sum_by f (range_with_len (a + 1) (suc n)) ≡ f (a + 1) + sum_by f (range_with_len (a + 1 + 1) n) = sum_by-cons f (a + 1) (range_with_len (a + 1 + 1) n) in
    length-append (all_blocks (level_of bytes a)) _ ∙ omega (arith, here, next, length-levels bytes (a + 1) n)

-- how many digests some levels have
pub length-digests : (bytes : List ℕ) (a n : ℕ) → length (flat_map (level_of bytes) (range_with_len a n)) ≡ sum_by (digests_at (length bytes)) (range_with_len a n)
length-digests bytes a zero = refl
length-digests bytes a (suc n) =
    let f = digests_at (length bytes) in
    let next : sum_by f (range_with_len a (suc n)) ≡ f a + sum_by f (range_with_len (a + 1) n) = sum_by-cons f a (range_with_len (a + 1) n) in
    length-append (level_of bytes a) _ ∙ omega (arith, next, length-level_of bytes a, length-digests bytes (a + 1) n)

-- the blocks of a tree
pub length-tree_blocks : (version : ℕ) (bytes : List ℕ) → length (tree_blocks version bytes) ≡ tree_blocks_of version (length bytes)
unfolding tree_blocks_of
length-tree_blocks version bytes = by_version (version == 2) where
  by_version : (two : Bool) → length (if two then all_blocks (digests_below bytes) else flat_map (λ blocks. blocks) (tree_levels bytes))
      ≡ (if two then div_ceil (sum_by (digests_at (length bytes)) (range_with_len 0 (levels_of (length bytes)))) 256
      else sum_by (digests_at (length bytes)) (range_with_len 1 (levels_of (length bytes))))
  by_version true = length-all_blocks (digests_below bytes) ∙ ap (λ (k : ℕ). div_ceil k 256) (length-digests bytes 0 (levels_of (length bytes)))
  by_version false = length-levels bytes 0 (levels_of (length bytes))

-- the blocks of the levels are those of a tree that isn't of version 2
pub padded : {X : Type 0} (items : X → List (List ℕ)) (rows : List X) (version : ℕ) (bytes : List ℕ) → ¬ (version ≡ 2) → map items rows ≡ tree_levels bytes
    → flat_map items rows ≡ tree_blocks version bytes
padded items rows version bytes other same =
    let e : (version == 2) ≡ false = ne_eqb version 2 other in
    let whole : flat_map items rows ≡ flat_map (λ (ys : List (List ℕ)). ys) (tree_levels bytes) =
    flat-map items rows ∙ ap (flat_map (λ (ys : List (List ℕ)). ys)) same in
    rw e whole

-- a place within the need of a blob is one of its data or of its tree
pub within_need : (version size v s tree i : ℕ) → version ≡ v → size ≡ s → i < need_of v s → tree ≡ tree_blocks_of version size → i < data_blocks size + tree
unfolding need_of
within_need version size v s tree i same_version same_size low count =
    let at : i < need_of version size = subst (λ (x : ℕ × ℕ). i < need_of x.0 x.1) (λ j. (sym same_version j, sym same_size j)) low in
    omega (arith, at, count)

-- ---- which block stands where

-- a data block
data-at : (bytes : List ℕ) (i : ℕ) → i < data_blocks (length bytes) → get_or (data_of bytes) i [] ≡ filled (piece bytes i)
data-at bytes i low = get_or-map-range_with_len (λ (k : ℕ). filled (piece bytes k)) 0 (data_blocks (length bytes)) i i [] low (omega arith)

pub length-data_of : (bytes : List ℕ) → length (data_of bytes) ≡ data_blocks (length bytes)
length-data_of bytes = length-map-range_with_len (λ (k : ℕ). filled (piece bytes k)) 0 (data_blocks (length bytes))

module _ (version : ℕ) (tree : List (List ℕ)) (bytes bs : List ℕ) (same : bs ≡ bytes) where
  second : version ≡ 2 → placed version tree (data_of bytes) ≡ data_of bytes ++ tree
  second is = let e : (version == 2) ≡ true = eq-eqb version 2 is in rw e refl

  first : ¬ (version ≡ 2) → placed version tree (data_of bytes) ≡ tree ++ data_of bytes
  first other = let e : (version == 2) ≡ false = ne_eqb version 2 other in rw e refl

  -- in version 2 the data comes first
  pub data_first : (i : ℕ) (block : List ℕ) → version ≡ 2 → i < data_blocks (length bytes) → block ≡ filled (piece bs i) → block ≡ get_or (placed version tree (data_of bytes)) i []
  data_first i block is low found =
      found ∙ ap (λ (v : List ℕ). filled (piece v i)) same ∙ sym (data-at bytes i low)
      ∙ sym (get_or_append_left (data_of bytes) tree [] i (omega (arith, low, length-data_of bytes)))
      ∙ ap (λ (xs : List (List ℕ)). get_or xs i []) (sym (second is))

  -- and then the tree
  pub tree_after : (i k : ℕ) (block : List ℕ) → version ≡ 2 → data_blocks (length bytes) ≤ i → k ≡ i - data_blocks (length bytes) → block ≡ get_or tree k [] → block ≡ get_or (placed version tree (data_of bytes)) i []
  tree_after i k block is high place found =
      found ∙ ap (λ (j : ℕ). get_or tree j []) (place ∙ omega (arith, length-data_of bytes))
      ∙ sym (get_or-append_right (data_of bytes) tree i [] (omega (arith, high, length-data_of bytes)))
      ∙ ap (λ (xs : List (List ℕ)). get_or xs i []) (sym (second is))

  -- in version 1 the tree comes first
  pub tree_first : (i : ℕ) (block : List ℕ) → ¬ (version ≡ 2) → i < length tree → block ≡ get_or tree i [] → block ≡ get_or (placed version tree (data_of bytes)) i []
  tree_first i block other low found =
      found ∙ sym (get_or_append_left tree (data_of bytes) [] i low)
      ∙ ap (λ (xs : List (List ℕ)). get_or xs i []) (sym (first other))

  -- and then the data
  pub data_after : (i k : ℕ) (block : List ℕ) → ¬ (version ≡ 2) → length tree ≤ i → k ≡ i - length tree → k < data_blocks (length bytes) → block ≡ filled (piece bs k) → block ≡ get_or (placed version tree (data_of bytes)) i []
  data_after i k block other high place low found =
      found ∙ ap (λ (v : List ℕ). filled (piece v k)) same ∙ sym (data-at bytes k low)
      ∙ ap (λ (j : ℕ). get_or (data_of bytes) j []) place
      ∙ sym (get_or-append_right tree (data_of bytes) i [] high)
      ∙ ap (λ (xs : List (List ℕ)). get_or xs i []) (sym (first other))
