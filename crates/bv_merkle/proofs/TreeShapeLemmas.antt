-- A block put into a list of levels, each of which is seen as its list of blocks.
use Rattle.std.proofs.Common.{◌≡◌, ℕ, ◌+◌, ◌<◌, ◌≤◌, List, [], ◌∷◌, ◌++◌, map, length, get_or, set, refl, sym, ap, ◌∙◌, add_comm, add-one}
use Rattle.std.specs.Prelude.{max}
use Rattle.std.specs.List.{range_with_len}
use Rattle.std.specs.Int.{div_ceil}
use Rattle.std.proofs.lemmas.List.{map-append, map-set, get_or-map}
use Rattle.spec_tree.specs.Tree.{data_blocks, digests_at}
use Rattle.spec_tree.proofs.SizesLemmas.{range-suc}
use Rattle.bv_merkle.specs.TreeShape.{put_block, tree_shape}
use Rattle.bv_merkle.proofs.SizesLemmas.{Reached, reached-zero, reached-more, reached-top}

-- a write through a level of the list is a block put into the lists that it is seen as
pub put_block-seen : {X : Type 0} (blocks_of : X → List (List ℕ)) (levels : List X) (level index : ℕ) (old new : X) (block : List ℕ)
    → level < length levels → old ≡ get_or levels level old → blocks_of new ≡ set (blocks_of old) index block
    → map blocks_of (set levels level new) ≡ put_block (map blocks_of levels) level index block
put_block-seen blocks_of levels level index old new block within read write =
    let row : blocks_of old ≡ get_or (map blocks_of levels) level [] =
    ap blocks_of read ∙ sym (get_or-map blocks_of levels level old [] within) in
    map-set blocks_of levels level new
    ∙ ap (λ r. set (map blocks_of levels) level r) (write ∙ ap (λ r. set r index block) row)

-- the levels of a tree as they are made, from level 1 upward: how many blocks each has
pub record Growing (size digests : ℕ) (shape : List ℕ) : Type 0 where
  pub level : ℕ
  pub reached : Reached size level digests
  pub shape_is : shape ≡ map (digests_at size) (range_with_len 1 level)

pub growing-zero : (size digests : ℕ) (shape : List ℕ) → digests ≡ max 1 (data_blocks size) → shape ≡ [] → Growing size digests shape
growing-zero size digests shape e none = record {
  level = 0;
  reached = reached-zero size digests e;
  shape_is = none;
}

pub growing-more : (size digests next : ℕ) (shape more : List ℕ) → Growing size digests shape → 1 < digests → next ≡ div_ceil digests 256
    → more ≡ shape ++ next ∷ [] → Growing size next more
growing-more size digests next shape more g many e m =
    let reached : Reached size (g.level + 1) next = reached-more size g.level digests next g.reached many e in
    let at : next ≡ digests_at size (1 + g.level) = reached.here ∙ ap (digests_at size) (add_comm g.level 1) in
    record {
      level = g.level + 1;
      reached = reached;
      shape_is = m ∙ ap (λ (xs : List ℕ). xs ++ next ∷ []) g.shape_is
          ∙ ap (λ (n : ℕ). map (digests_at size) (range_with_len 1 g.level) ++ n ∷ []) at
          ∙ sym (map-append (digests_at size) (range_with_len 1 g.level) ((1 + g.level) ∷ []))
          ∙ ap (map (digests_at size)) (sym (range-suc 1 g.level))
          ∙ ap (λ (n : ℕ). map (digests_at size) (range_with_len 1 n)) (sym (add-one g.level));
    }

pub growing-top : (size digests : ℕ) (shape : List ℕ) → Growing size digests shape → digests ≤ 1 → shape ≡ tree_shape size
growing-top size digests shape g one =
    g.shape_is
    ∙ ap (λ (n : ℕ). map (digests_at size) (range_with_len 1 n)) (sym (reached-top size g.level digests g.reached one))

-- how many blocks each level has, through what it is seen as
pub shape-seen : {X : Type 0} (blocks_of : X → List (List ℕ)) (levels : List X)
    → map (λ blocks. length blocks) (map blocks_of levels) ≡ map (λ v. length (blocks_of v)) levels
shape-seen blocks_of [] = refl
shape-seen blocks_of (x ∷ xs) = ap (λ (ns : List ℕ). length (blocks_of x) ∷ ns) (shape-seen blocks_of xs)
