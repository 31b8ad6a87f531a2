-- Where the data and the tree of a blob stand in its blocks (this project's profile).
--
-- | version | a blob's blocks, in the order of its extents                              |
-- |--------:|---------------------------------------------------------------------------|
-- |       1 | the blocks of digests of level 1, of level 2 and so on, then the data     |
-- |       2 | the data, then joined the digests that levels 1, 2 and so on hold         |
--
-- Zeros fill the last block of the data, in version 1 that of each level, in version 2 that of the
-- digests. Whoever reads looks at no filling of data, and at none behind the joined digests.
use Rattle.std.specs.Prelude.{ℕ, ◌+◌, ◌-◌, ◌*◌, ◌<◌, List, [], length, take, drop, map, sum_by, slice_index_or, if◌then◌else◌, ◌==◌}
use Rattle.std.specs.List.{range_with_len, flat_map, concat}
use Rattle.spec_disk.specs.Disk.{block}
use Rattle.spec_tree.specs.Tree.{data_blocks, digests_at, filled, levels_of, windows_of}
use Rattle.spec_record.specs.declared.geometry.Geometry.{Geometry}
use Rattle.spec_record.specs.declared.extent.Extent.{Extent}
use Rattle.spec_record.specs.Geometry.{block_at}
use Rattle.spec_image.specs.Chain.{BlobRecord}
use Rattle.spec_window.specs.Window.{window_bytes, index_above, used_places, Verifies}

-- the numbers of the data blocks in these extents, in order
abbrev pub blocks_of : List Extent → List ℕ
blocks_of es = flat_map (λ e. range_with_len e.start e.len) es

-- the blob's blocks in the image, in the order of its extents
abbrev pub stored : Geometry → List (List ℕ) → BlobRecord → List (List ℕ)
stored g image b = map (λ d. block image (block_at g d)) (blocks_of b.extents)

-- the bytes of its data blocks: in version 1 the last blocks, in version 2 the first
abbrev pub stored_data : BlobRecord → List (List ℕ) → List ℕ
stored_data b blocks =
    concat (if b.version == 2
    then take (data_blocks b.size) blocks
    else drop (length blocks - data_blocks b.size) blocks)

-- BytesOf: the first `size` bytes of its data
abbrev pub bytes_in : Geometry → List (List ℕ) → BlobRecord → List ℕ
bytes_in g image b = take b.size (stored_data b (stored g image b))

-- version 1: block i of a level above level 0 stands behind the blocks of the levels between
abbrev pub padded_block : BlobRecord → List (List ℕ) → ℕ → ℕ → List ℕ
padded_block b blocks level i =
    slice_index_or blocks (sum_by (digests_at b.size) (range_with_len 1 (level - 1)) + i) []

-- version 2: the digests that block i of a level holds stand behind those that the levels below
-- hold, and zeros are in the unused places
abbrev pub compact_block : BlobRecord → List (List ℕ) → ℕ → ℕ → List ℕ
compact_block b blocks level i =
    let tree = concat (drop (data_blocks b.size) blocks) in
    let held_below = sum_by (digests_at b.size) (range_with_len 0 (level - 1)) in
    filled (take (32 * used_places b.size level i) (drop (32 * (held_below + 256 * i)) tree))

-- block i of a level above level 0, as a fetch finds it
abbrev pub tree_block : BlobRecord → List (List ℕ) → ℕ → ℕ → List ℕ
tree_block b blocks level i =
    if b.version == 2 then compact_block b blocks level i else padded_block b blocks level i

-- the bytes of window w, as a fetch finds them
abbrev pub fetched_bytes : BlobRecord → List (List ℕ) → ℕ → List ℕ
fetched_bytes b blocks w = take (window_bytes b.size w) (drop (65536 * w) (stored_data b blocks))

-- the path of window w, as a fetch finds it
abbrev pub fetched_path : BlobRecord → List (List ℕ) → ℕ → List (List ℕ)
fetched_path b blocks w =
    map (λ level. tree_block b blocks level (index_above w level))
    (range_with_len 1 (levels_of b.size))

-- every window of the blob verifies to its root and size
abbrev pub AllVerify : Geometry → List (List ℕ) → BlobRecord → Type 0
AllVerify g image b = (w : ℕ) → w < windows_of b.size
    → let blocks = stored g image b in
    Verifies b.root b.size w (fetched_bytes b blocks w) (fetched_path b blocks w)
