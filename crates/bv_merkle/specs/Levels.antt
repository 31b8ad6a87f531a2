-- The levels of a tree that is still growing, and the blocks of digests in them.
use Rattle.std.specs.Prelude.{ℕ, ◌*◌, ◌/◌, List, length, map}
use Rattle.std.specs.List.{range_with_len}
use Rattle.std.specs.Int.{div_ceil}
use Rattle.spec_tree.specs.declared.Digest.{Digest}
use Rattle.spec_tree.specs.Tree.{block_digest, data_blocks, piece, digest_block}

-- the digests of the blocks that so many bytes fill or begin; none of no bytes
unfoldable pub data_digests : List ℕ → List Digest
data_digests bytes =
    let blocks = data_blocks (length bytes) in
    map (λ i. block_digest 0 (8192 * i) (piece bytes i)) (range_with_len 0 blocks)

-- the level above, as far as its blocks are whole: a last block with free places is left out
unfoldable pub whole_above : ℕ → List Digest → List Digest
whole_above level digests =
    let blocks = length digests / 256 in
    map (λ i. block_digest level (8192 * i) (digest_block digests i)) (range_with_len 0 blocks)

-- the whole blocks of these digests
unfoldable pub whole_blocks : List Digest → List (List ℕ)
whole_blocks digests = map (digest_block digests) (range_with_len 0 (length digests / 256))

-- all blocks of these digests, the last one filled with zeros
unfoldable pub all_blocks : List Digest → List (List ℕ)
all_blocks digests = map (digest_block digests) (range_with_len 0 (div_ceil (length digests) 256))
