-- Where the tree of the blob by hand stands, computed.
use Rattle.std.proofs.Common.{◌≡◌, [], ◌∷◌, ◌++◌, take, refl}
use Rattle.std.specs.List.{range_with_len}
use Rattle.spec_tree.specs.Tree.{filled, digests_at}
use Rattle.spec_image.specs.Stored.{stored_data, tree_block}
use Rattle.spec_image.specs.SampleTrees.{blob, numbered, digest, joined, compact}

pub padded_first_level : tree_block (blob 1) (numbered 260) 1 0 ≡ 0 ∷ []
unfolding digests_at
padded_first_level = refl

pub padded_next_of_it : tree_block (blob 1) (numbered 260) 1 1 ≡ 1 ∷ []
unfolding digests_at
padded_next_of_it = refl

pub padded_second_level : tree_block (blob 1) (numbered 260) 2 0 ≡ 2 ∷ []
unfolding digests_at
padded_second_level = refl

pub padded_content : stored_data (blob 1) (numbered 260) ≡ range_with_len 3 257
unfolding digests_at
padded_content = refl

pub compact_first_level : tree_block (blob 2) compact 1 0 ≡ take 8192 joined
unfolding digests_at
compact_first_level = refl

pub compact_next_of_it : tree_block (blob 2) compact 1 1 ≡ filled (digest 256)
unfolding digests_at
compact_next_of_it = refl

pub compact_second_level : tree_block (blob 2) compact 2 0 ≡ filled (digest 257 ++ digest 258)
unfolding digests_at
compact_second_level = refl

pub compact_content : take 257 (stored_data (blob 2) compact) ≡ range_with_len 0 257
unfolding digests_at
compact_content = refl
