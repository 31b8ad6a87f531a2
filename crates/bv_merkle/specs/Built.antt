-- A tree as contracts see it.
use Rattle.std.specs.Prelude.{ℕ, List, length, map}
use Rattle.std.specs.List.{range_with_len}
use Rattle.spec_tree.specs.declared.Digest.{Digest}
use Rattle.spec_tree.specs.Tree.{level_of, levels_of}
use Rattle.bv_merkle.specs.Levels.{all_blocks}

-- the root, and the blocks of each level from level 1 upward
pub record Built : Type 0 where
  pub root : Digest
  pub levels : List (List (List ℕ))

-- the blocks of the levels of these bytes: those of level k + 1 hold the digests of level k
abbrev pub tree_levels : List ℕ → List (List (List ℕ))
tree_levels bytes =
    let levels = range_with_len 0 (levels_of (length bytes)) in
    map (λ level. all_blocks (level_of bytes level)) levels
