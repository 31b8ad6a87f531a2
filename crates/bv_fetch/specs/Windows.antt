-- A window of a blob, by which of the blob's blocks are data and which are of its tree.
use Rattle.std.specs.Prelude.{◌≡◌, ℕ, ◌+◌, ◌-◌, ◌*◌, ◌≤◌, ◌==◌, List, [], length, take, drop, map, sum_by, slice_index_or, if◌then◌else◌, vec_len, vec_capacity}
use Rattle.std.specs.List.{range_with_len, concat}
use Rattle.spec_record.specs.declared.geometry.Geometry.{Geometry}
use Rattle.spec_tree.specs.declared.Digest.{Digest}
use Rattle.spec_tree.specs.declared.blob.Blob.{Blob}
use Rattle.spec_tree.specs.Tree.{data_blocks, digests_at, filled, levels_of}
use Rattle.spec_image.specs.Stored.{fetched_bytes, fetched_path}
use Rattle.spec_window.specs.Window.{index_above, used_places, window_bytes}
use Rattle.bv_device.specs.Told.{Disk}
use Rattle.bv_proof.specs.declared.raw.RawWindow.{RawWindow}
use Rattle.bv_store.specs.Stored.{blob_record, blocks_on}

-- those of the data among the entries for a blob's blocks
abbrev pub data_among : {X : Type 0} → ℕ → ℕ → List X → List X
data_among version size xs =
    if version == 2 then take (data_blocks size) xs
    else drop (length xs - data_blocks size) xs

-- those of the tree
abbrev pub tree_among : {X : Type 0} → ℕ → ℕ → List X → List X
tree_among version size xs =
    if version == 2 then drop (data_blocks size) xs
    else take (length xs - data_blocks size) xs

-- the bytes of window w, by the data blocks
abbrev pub data_window : ℕ → ℕ → List (List ℕ) → List ℕ
data_window size w content =
    take (window_bytes size w) (drop (65536 * w) (concat content))

-- version 1: block i of a level, by the blocks of the tree
abbrev pub padded_among : ℕ → List (List ℕ) → ℕ → ℕ → List ℕ
padded_among size tree level i =
    slice_index_or tree (sum_by (digests_at size) (range_with_len 1 (level - 1)) + i) []

-- version 2: the same
abbrev pub compact_among : ℕ → List (List ℕ) → ℕ → ℕ → List ℕ
compact_among size tree level i =
    let held_below = sum_by (digests_at size) (range_with_len 0 (level - 1)) in
    filled (take (32 * used_places size level i) (drop (32 * (held_below + 256 * i)) (concat tree)))

-- in either version
abbrev pub block_among : ℕ → ℕ → List (List ℕ) → ℕ → ℕ → List ℕ
block_among version size tree level i =
    if version == 2 then compact_among size tree level i else padded_among size tree level i

-- the path of window w
abbrev pub path_among : ℕ → ℕ → List (List ℕ) → ℕ → List (List ℕ)
path_among version size tree w =
    map (λ level. block_among version size tree level (index_above w level))
    (range_with_len 1 (levels_of size))

-- an empty window, which has room for window w of a blob of this size
pub record HasRoom (size w : ℕ) (raw : RawWindow) : Type 0 where
  pub window : raw.window ≡ w
  pub bytes : vec_len raw.bytes ≡ 0
  pub path : vec_len raw.path ≡ 0
  pub bytes_room : window_bytes size w ≤ vec_capacity raw.bytes
  pub path_room : levels_of size ≤ vec_capacity raw.path

-- the lengths are those of window w of a blob of this size
pub record HasLengths (size w : ℕ) (raw : RawWindow) : Type 0 where
  pub window : raw.window ≡ w
  pub bytes : length raw.bytes.items ≡ window_bytes size w
  pub path : length raw.path.items ≡ levels_of size

-- the window is that of the blob at these places of the disk
abbrev pub Holds : Geometry → List ℕ → Blob → RawWindow → Disk → Type 0
Holds g places blob raw d =
    (root : Digest)
    → let b = blob_record root blob in
    (raw.bytes.items ≡ fetched_bytes b (blocks_on g d places) raw.window)
    × (raw.path.items ≡ fetched_path b (blocks_on g d places) raw.window)
