-- What each read gives of a window.
use Rattle.std.proofs.Common.{◌≡◌, ℕ, ◌+◌, ◌-◌, ◌*◌, ◌<◌, min, List, [], ◌∷◌, ◌++◌, length, take, map, get_or, Option, Some, None, ap, sym, ◌∙◌, arith}
use Rattle.std.specs.Prelude.{All, IfSome}
use Rattle.std.specs.List.{range_with_len, sum_by}
use Rattle.std.proofs.lemmas.List.{length-map, get_or-map}
use Rattle.std.proofs.lemmas.List.Elements.{All-map}
use Rattle.std.proofs.lemmas.List.FromFn.{map-range_with_len_more}
use Rattle.spec_disk.specs.Disk.{block}
use Rattle.spec_disk.specs.Laws.{AreWhole}
use Rattle.spec_record.specs.Geometry.{block_at}
use Rattle.spec_record.specs.declared.geometry.Geometry.{Geometry}
use Rattle.spec_tree.specs.declared.blob.Blob.{Blob}
use Rattle.spec_tree.specs.Tree.{data_blocks, digests_at, need_of, windows_of}
use Rattle.spec_window.specs.Window.{index_above, window_bytes}
use Rattle.bv_device.specs.Told.{Disk, now_of}
use Rattle.bv_proof.specs.declared.raw.RawWindow.{RawWindow}
use Rattle.bv_store.specs.Stored.{HasWholeBlocks, blocks_on}
use Rattle.bv_fetch.specs.Windows.{Holds, block_among, data_among, data_window, padded_among, path_among, tree_among}
use Rattle.bv_fetch.proofs.Amongs.{data-map, path-is, tree-map}
use Rattle.bv_fetch.proofs.Wholes.{data-more}

module _ (g : Geometry) (d : Disk) (places : List ℕ) where
  abbrev blocks : List (List ℕ)
  blocks = blocks_on g d places

  -- what stands at a place is that block
  pub block_is : (k : ℕ) → k < length places → block (now_of d) (block_at g (get_or places k 0)) ≡ get_or blocks k []
  block_is k there = sym (get_or-map (λ (b : ℕ). block (now_of d) (block_at g b)) places k 0 [] there)

  -- where each data block is whole, so are those at these places
  blocks_whole : HasWholeBlocks g d → All (λ b. b < g.blocks) places → AreWhole blocks
  blocks_whole whole within =
      All-map (λ (bytes : List ℕ). length bytes ≡ 8192) (λ (b : ℕ). block (now_of d) (block_at g b)) places (λ k e there. whole (get_or places k e) (within k e there))

  pub as_long : length blocks ≡ length places
  as_long = length-map places (λ (b : ℕ). block (now_of d) (block_at g b))

  -- a piece of the data
  pub data_step : (size w k bytes count : ℕ) (old new : List ℕ) → bytes ≡ window_bytes size w → count ≡ min (bytes - 8192 * k) 8192 → 8192 * k < bytes → length places ≡ data_blocks size → w < windows_of size → AreWhole blocks
      → old ≡ take (8192 * k) (data_window size w blocks) → new ≡ old ++ take count (block (now_of d) (block_at g (get_or places (8 * w + k) 0))) → new ≡ take (8192 * (k + 1)) (data_window size w blocks)
  data_step size w k bytes count old new bytes_is count_is low long there whole old_is new_is =
      let within : 8 * w + k < length places = omega (arith, long, low, bytes_is) in
      let few : 8192 * k < window_bytes size w = omega (arith, low, bytes_is) in
      new_is ∙ ap (λ (ys : List ℕ). ys ++ take count (block (now_of d) (block_at g (get_or places (8 * w + k) 0)))) old_is
      ∙ ap (λ (b : List ℕ). take (8192 * k) (data_window size w blocks) ++ take count b) (block_is (8 * w + k) within)
      ∙ ap (λ (n : ℕ). take (8192 * k) (data_window size w blocks) ++ take n (get_or blocks (8 * w + k) [])) (count_is ∙ ap (λ (n : ℕ). min (n - 8192 * k) 8192) bytes_is)
      ∙ sym (data-more size w k blocks whole (as_long ∙ long) few)

  -- a block of the tree in version 1
  pub padded_step : (size level i before : ℕ) (x : List ℕ) → before ≡ sum_by (digests_at size) (range_with_len 1 (level - 1)) → before + i < length places → x ≡ block (now_of d) (block_at g (get_or places (before + i) 0)) → x ≡ padded_among size blocks level i
  padded_step size level i before x before_is there is = is ∙ block_is (before + i) there ∙ ap (λ (n : ℕ). get_or blocks (n + i) []) before_is

  -- a level of the path
  pub path_step : (version size w below i : ℕ) (old new : List (List ℕ)) (x : List ℕ) → i ≡ index_above w (below + 1) → old ≡ map (λ level. block_among version size blocks level (index_above w level)) (range_with_len 1 below)
      → x ≡ block_among version size blocks (below + 1) i → new ≡ old ++ x ∷ [] → new ≡ map (λ level. block_among version size blocks level (index_above w level)) (range_with_len 1 (below + 1))
  path_step version size w below i old new x i_is old_is x_is new_is =
      let f : ℕ → List ℕ = λ level. block_among version size blocks level (index_above w level) in
      new_is ∙ ap (λ (bs : List (List ℕ)). bs ++ x ∷ []) old_is
      ∙ ap (λ (b : List ℕ). map f (range_with_len 1 below) ++ b ∷ []) (x_is ∙ ap (block_among version size blocks (below + 1)) i_is)
      ∙ sym (map-range_with_len_more f 1 below (below + 1) (omega arith))

  -- data and path are the window
  pub holds_of : (blob : Blob) (raw : RawWindow) (content tree : List ℕ) → length places ≡ need_of blob.version blob.size → raw.window < windows_of blob.size → content ≡ data_among blob.version blob.size places → tree ≡ tree_among blob.version blob.size places
      → raw.path.items ≡ path_among blob.version blob.size (blocks_on g d tree) raw.window
      → raw.bytes.items ≡ data_window blob.size raw.window (blocks_on g d content)
      → Holds g places blob raw d
  holds_of blob raw content tree need there content_is tree_is path bytes root =
      let v : ℕ = blob.version in
      let n : ℕ = blob.size in
      let f : ℕ → List ℕ = λ b. block (now_of d) (block_at g b) in
      let content_blocks : blocks_on g d content ≡ data_among v n blocks = ap (map f) content_is ∙ data-map f v n places in
      let tree_blocks : blocks_on g d tree ≡ tree_among v n blocks = ap (map f) tree_is ∙ tree-map f v n places in (
        bytes ∙ ap (data_window n raw.window) content_blocks,
        path ∙ ap (λ (bs : List (List ℕ)). path_among v n bs raw.window) tree_blocks ∙ path-is root blob raw.window blocks (as_long ∙ need) there,
      )

pub told_blocks_whole : (g : Geometry) (places : List ℕ) (o : Option Disk) → All (λ b. b < g.blocks) places → IfSome o (HasWholeBlocks g) → IfSome o (λ d. AreWhole (blocks_on g d places))
told_blocks_whole g places None within whole = tt
told_blocks_whole g places (Some d) within whole = blocks_whole g d places whole within
