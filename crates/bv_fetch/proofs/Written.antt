-- What a fetch finds among the blocks of a blob, as they are written, is the honest window.
use Rattle.std.proofs.Common.{◌≡◌, ℕ, zero, suc, ◌+◌, ◌-◌, ◌*◌, ◌<◌, ◌≤◌, ◌==◌, min, Bool, true, false, List, [], ◌∷◌, ◌++◌, length, take, drop, map, get_or, replicate, ap, sym, ◌∙◌, subst, inl, inr, arith, append_assoc, append-nil}
use Rattle.std.specs.Int.{div_ceil}
use Rattle.std.specs.Prelude.{if◌then◌else◌}
use Rattle.std.specs.List.{concat, flat_map, range_with_len, sum_by}
use Rattle.std.proofs.lemmas.Bool.{cases_lt}
use Rattle.std.proofs.lemmas.List.{drop-drop, drop-take, length-append, length-drop, length-take, drop-append-le, take-append-le, take-append-drop, take-take, take_all}
use Rattle.std.proofs.lemmas.List.Concat.{flat_map-append, get_or-flat_map}
use Rattle.std.proofs.lemmas.List.FromFn.{get_or-map-range_with_len, length-map-range_with_len, take-map-range_with_len}
use Rattle.std.proofs.Math.Seq.{drop-append-add, drop-append_seam, take-append-add, take-append_seam, take-nil}
use Rattle.spec_tree.specs.declared.Digest.{Digest}
use Rattle.spec_tree.specs.declared.blob.Blob.{Blob}
use Rattle.spec_tree.specs.Tree.{data_blocks, digest_block, digests_at, filled, level_of, levels_of, need_of, piece, root_of, tree_blocks_of, windows_of}
use Rattle.spec_tree.proofs.SizesLemmas.{digests_at-more}
use Rattle.spec_tree.proofs.TreeLemmas.{length-level_of}
use Rattle.spec_image.specs.Stored.{fetched_bytes, fetched_path}
use Rattle.spec_window.specs.Honest.{path_of, window_of}
use Rattle.spec_window.specs.Window.{Verifies, index_above, used_places, window_bytes}
use Rattle.spec_window.proofs.HonestLemmas.{honest_verifies}
use Rattle.bv_merkle.specs.Built.{tree_levels}
use Rattle.bv_merkle.specs.Levels.{all_blocks}
use Rattle.bv_store.specs.Stored.{HasBlob, blob_record}
use Rattle.bv_writer.specs.Blocks.{blob_blocks, data_of, digest_bytes, digests_below, tree_blocks}
use Rattle.bv_writer.proofs.CompactLemmas.{AreDigests-drop, block-is, data_of-digests, digest_bytes-drop, digest_bytes-take, digests_of, digests_of-sized, length-all_blocks, length-digest_bytes}
use Rattle.bv_writer.proofs.PlacedLemmas.{length-data_of, length-digests, length-levels, length-tree_blocks}
use Rattle.bv_fetch.specs.Laws.{WrittenBlobsVerify}
use Rattle.bv_fetch.specs.Windows.{block_among, compact_among, data_among, data_window, padded_among, path_among, tree_among}
use Rattle.bv_fetch.proofs.Amongs.{path-is, same-on}
use Rattle.bv_fetch.proofs.Sums.{index-there}
use Rattle.bv_fetch.proofs.Wholes.{take-fewer}

-- ---- bytes in blocks, joined again

module _ (bytes : List ℕ) where
  abbrev from_block : ℕ → List ℕ
  from_block a = drop (8192 * a) bytes

  abbrev pieces : ℕ → ℕ → List ℕ
  pieces a n = concat (map (λ i. filled (piece bytes i)) (range_with_len a n))

  next_block : (a : ℕ) → drop 8192 (from_block a) ≡ from_block (a + 1)
  next_block a = let at : 8192 * a + 8192 ≡ 8192 * (a + 1) = omega arith in drop-drop 8192 (8192 * a) bytes ∙ ap (λ (k : ℕ). drop k bytes) at

  joined : (a n : ℕ) → length (from_block a) ≤ 8192 * n → take (length (from_block a)) (pieces a n) ≡ from_block a
  joined a zero few = take-nil (length (from_block a)) ∙ take_all 0 (from_block a) (omega (arith, few))
  joined a (suc n) few = elim (cases_lt 8192 (length (from_block a))) [ inl far ↦ whole far (joined (a + 1) n) | inr near ↦ last near ]
    where
      whole : 8192 < length (from_block a) → (length (from_block (a + 1)) ≤ 8192 * n → take (length (from_block (a + 1))) (pieces (a + 1) n) ≡ from_block (a + 1)) → take (length (from_block a)) (filled (take 8192 (from_block a)) ++ pieces (a + 1) n) ≡ from_block a
      whole far later =
          let r = from_block a in
          let first = take 8192 r in
          let next = from_block (a + 1) in
          let long : length first ≡ 8192 = omega (arith, length-take 8192 r, far) in
          let less : length next ≡ length r - 8192 = ap (λ (ys : List ℕ). length ys) (sym (next_block a)) ∙ length-drop 8192 r in
          let sum : length r ≡ length first + length next = omega (arith, long, less, far) in
          let full : filled first ≡ first = ap (λ (k : ℕ). first ++ replicate (8192 - k) 0) long ∙ append-nil first in
          ap (λ (ys : List ℕ). take (length r) (ys ++ pieces (a + 1) n)) full
          ∙ ap (λ (k : ℕ). take k (first ++ pieces (a + 1) n)) sum
          ∙ take-append-add first (pieces (a + 1) n) (length next)
          ∙ ap (λ (ys : List ℕ). first ++ ys) (later (omega (arith, less, few)) ∙ sym (next_block a))
          ∙ take-append-drop 8192 r

      last : length (from_block a) ≤ 8192 → take (length (from_block a)) (filled (take 8192 (from_block a)) ++ pieces (a + 1) n) ≡ from_block a
      last near =
          let r = from_block a in
          let all : take 8192 r ≡ r = take_all 8192 r near in
          ap (λ (ys : List ℕ). take (length r) (filled ys ++ pieces (a + 1) n)) all
          ∙ ap (take (length r)) (append_assoc r (replicate (8192 - length r) 0) (pieces (a + 1) n))
          ∙ take-append_seam r (replicate (8192 - length r) 0 ++ pieces (a + 1) n)

  content_is : take (length bytes) (concat (data_of bytes)) ≡ bytes
  content_is = joined 0 (data_blocks (length bytes)) (omega arith)

  -- a part of them
  part_is : (n from : ℕ) → from + n ≤ length bytes → take n (drop from (concat (data_of bytes))) ≡ take n (drop from bytes)
  part_is n from within =
      let left : ℕ = length bytes - from in
      let sum : length bytes ≡ from + left = omega (arith, within) in
      let all : List ℕ = concat (data_of bytes) in
      sym (take-take n left (drop from all) (omega (arith, within)))
      ∙ ap (take n) (sym (drop-take from left all) ∙ ap (λ (k : ℕ). drop from (take k all)) (sym sum) ∙ ap (drop from) content_is)

  -- the data of a window
  window_is : (w : ℕ) → w < windows_of (length bytes) → data_window (length bytes) w (data_of bytes) ≡ window_of bytes w
  window_is w there =
      let size : ℕ = length bytes in
      let left : ℕ = size - 65536 * w in
      let all : take left (drop (65536 * w) bytes) ≡ drop (65536 * w) bytes = take_all left (drop (65536 * w) bytes) (omega (arith, length-drop (65536 * w) bytes)) in
      let fewer : min left 65536 ≡ window_bytes size w = omega arith in
      part_is (window_bytes size w) (65536 * w) (omega (arith, there))
      ∙ ap (λ (k : ℕ). take k (drop (65536 * w) bytes)) (sym fewer)
      ∙ sym (take-fewer 65536 left (drop (65536 * w) bytes))
      ∙ ap (take 65536) all

-- ---- the path

take-short : {X : Type 0} (n : ℕ) (xs : List X) → take (min n (length xs)) xs ≡ take n xs
take-short n xs = elim (cases_lt n (length xs)) [ inl less ↦ shorter less | inr more ↦ longer more ]
  where
    shorter : n < length xs → take (min n (length xs)) xs ≡ take n xs
    shorter less = let is : min n (length xs) ≡ n = omega (arith, less) in ap (λ (k : ℕ). take k xs) is

    longer : length xs ≤ n → take (min n (length xs)) xs ≡ take n xs
    longer more = let is : min n (length xs) ≡ length xs = omega (arith, more) in ap (λ (k : ℕ). take k xs) is ∙ take_all (length xs) xs (omega arith) ∙ sym (take_all n xs more)

range-split : (a n k : ℕ) → range_with_len a (n + k) ≡ range_with_len a n ++ range_with_len (a + n) k
range-split a zero k =
    let here : 0 + k ≡ k = omega arith in
    let at : a ≡ a + 0 = omega arith in
    ap (range_with_len a) here ∙ ap (λ (x : ℕ). range_with_len x k) at
range-split a (suc n) k =
    let up : suc n + k ≡ suc (n + k) = omega arith in
    let at : a + 1 + n ≡ a + suc n = omega arith in
    ap (range_with_len a) up ∙ ap (λ (xs : List ℕ). a ∷ xs) (range-split (a + 1) n k) ∙ ap (λ (x : ℕ). a ∷ (range_with_len (a + 1) n ++ range_with_len x k)) at

module _ (bytes : List ℕ) (level i : ℕ) (low : 1 ≤ level) (high : level ≤ levels_of (length bytes)) (there : i < digests_at (length bytes) level) where
  abbrev size : ℕ
  size = length bytes

  abbrev top : ℕ
  top = levels_of size

  abbrev below : ℕ
  below = level - 1

  abbrev digests : List Digest
  digests = level_of bytes below

  count : digests_at size level ≡ div_ceil (length digests) 256
  count =
      let up : below + 1 ≡ level = omega (arith, low) in
      ap (digests_at size) (sym up) ∙ digests_at-more size below ∙ ap (λ (k : ℕ). div_ceil k 256) (sym (length-level_of bytes below))

  padded_is : padded_among size (flat_map (λ (blocks : List (List ℕ)). blocks) (tree_levels bytes)) level i ≡ digest_block digests i
  padded_is =
      let f : ℕ → List (List ℕ) = λ l. all_blocks (level_of bytes l) in
      let rows : List (List (List ℕ)) = map f (range_with_len 0 top) in
      let itself : List (List ℕ) → List (List ℕ) = λ blocks. blocks in
      let row : get_or rows below [] ≡ all_blocks digests = get_or-map-range_with_len f 0 top below below [] (omega (arith, low, high)) (omega arith) in
      let within : i < div_ceil (length digests) 256 = subst (λ (n : ℕ). i < n) count there in
      let wide : length (get_or rows below []) ≡ div_ceil (length digests) 256 = ap (λ (bs : List (List ℕ)). length bs) row ∙ length-all_blocks digests in
      let before : length (flat_map itself (take below rows)) ≡ sum_by (digests_at size) (range_with_len 1 below) =
      ap (λ (rs : List (List (List ℕ))). length (flat_map itself rs)) (take-map-range_with_len f 0 top below (omega (arith, high))) ∙ length-levels bytes 0 below in
      ap (λ (n : ℕ). get_or (flat_map itself rows) (n + i) []) (sym before)
      ∙ get_or-flat_map itself rows below i [] [] (omega (arith, length-map-range_with_len f 0 top, low, high)) (subst (λ (n : ℕ). i < n) (sym wide) within)
      ∙ ap (λ (bs : List (List ℕ)). get_or bs i []) row ∙ block-is digests i [] within

  abbrev used : ℕ
  used = used_places size level i

  abbrev held : ℕ
  held = sum_by (digests_at size) (range_with_len 0 below)

  abbrev all_digests : List Digest
  all_digests = digests_of bytes top

  used_is : used ≡ min 256 (length digests - 256 * i)
  used_is = ap (λ (n : ℕ). min 256 (n - 256 * i)) (sym (length-level_of bytes below))

  fits : 256 * i + used ≤ length digests
  fits = let within : i < div_ceil (length digests) 256 = subst (λ (n : ℕ). i < n) count there in omega (arith, used_is, within)

  parts : all_digests ≡ digests_of bytes below ++ (digests ++ flat_map (level_of bytes) (range_with_len (below + 1) (top - level)))
  parts =
      let f = level_of bytes in
      let sum : top ≡ below + suc (top - level) = omega (arith, low, high) in
      let zero_at : 0 + below ≡ below = omega arith in
      ap (λ (n : ℕ). flat_map f (range_with_len 0 n)) sum
      ∙ ap (flat_map f) (range-split 0 below (suc (top - level)))
      ∙ flat_map-append f (range_with_len 0 below) (range_with_len (0 + below) (suc (top - level)))
      ∙ ap (λ (x : ℕ). digests_of bytes below ++ flat_map f (range_with_len x (suc (top - level)))) zero_at

  group : take used (drop (held + 256 * i) all_digests) ≡ take 256 (drop (256 * i) digests)
  group =
      let more : List Digest = flat_map (level_of bytes) (range_with_len (below + 1) (top - level)) in
      let before : length (digests_of bytes below) ≡ held = length-digests bytes 0 below in
      let whole : length digests ≡ 256 * i + (length digests - 256 * i) = omega (arith, fits) in
      ap (λ (ds : List Digest). take used (drop (held + 256 * i) ds)) parts
      ∙ ap (λ (n : ℕ). take used (drop (n + 256 * i) (digests_of bytes below ++ (digests ++ more)))) (sym before)
      ∙ ap (take used) (drop-append-add (digests_of bytes below) (digests ++ more) (256 * i))
      ∙ ap (take used) (drop-append-le (256 * i) digests more (omega (arith, fits)))
      ∙ take-append-le used (drop (256 * i) digests) more (omega (arith, length-drop (256 * i) digests, fits))
      ∙ ap (λ (n : ℕ). take n (drop (256 * i) digests)) (used_is ∙ ap (min 256) (sym (length-drop (256 * i) digests)))
      ∙ take-short 256 (drop (256 * i) digests)

  compact_is : compact_among size (all_blocks all_digests) level i ≡ digest_block digests i
  compact_is =
      let place : ℕ = held + 256 * i in
      let sized = digests_of-sized bytes top in
      let b : List ℕ = digest_bytes all_digests in
      let more : List Digest = flat_map (level_of bytes) (range_with_len (below + 1) (top - level)) in
      let many : length all_digests ≡ length (digests_of bytes below) + length (digests ++ more) = ap (λ (ds : List Digest). length ds) parts ∙ length-append (digests_of bytes below) (digests ++ more) in
      let within : 32 * place + 32 * used ≤ length b = omega (arith, length-digest_bytes all_digests sized, many, length-append digests more, fits, length-digests bytes 0 below) in
      ap (λ (bs : List (List ℕ)). filled (take (32 * used) (drop (32 * place) (concat bs)))) (sym (data_of-digests all_digests sized))
      ∙ ap filled (part_is b (32 * used) (32 * place) within
      ∙ ap (take (32 * used)) (sym (digest_bytes-drop place all_digests sized))
      ∙ sym (digest_bytes-take used (drop place all_digests) (AreDigests-drop place all_digests sized))
      ∙ ap digest_bytes group)

  tree_is : (version : ℕ) → block_among version size (tree_blocks version bytes) level i ≡ digest_block digests i
  tree_is version = go (version == 2)
    where
      go : (two : Bool) → (if two then compact_among size (if two then all_blocks (digests_below bytes) else flat_map (λ blocks. blocks) (tree_levels bytes)) level i
          else padded_among size (if two then all_blocks (digests_below bytes) else flat_map (λ blocks. blocks) (tree_levels bytes)) level i) ≡ digest_block digests i
      go true = compact_is
      go false = padded_is

path_is : (version : ℕ) (bytes : List ℕ) (w : ℕ) → w < windows_of (length bytes) → path_among version (length bytes) (tree_blocks version bytes) w ≡ path_of bytes w
path_is version bytes w there =
    same-on _ _ 1 (levels_of (length bytes)) (λ level low high. tree_is bytes level (index_above w level) low (omega (arith, high)) (index-there (length bytes) w level there) version)

-- ---- a blob's blocks

module _ (version : ℕ) (bytes : List ℕ) where
  abbrev whole : List (List ℕ)
  whole = blob_blocks version bytes

  abbrev tree : List (List ℕ)
  tree = tree_blocks version bytes

  abbrev content : List (List ℕ)
  content = data_of bytes

  content_long : length content ≡ data_blocks (length bytes)
  content_long = length-data_of bytes

  content_found : data_among version (length bytes) whole ≡ content
  content_found = go (version == 2)
    where
      go : (two : Bool) → (if two then take (data_blocks (length bytes)) (if two then content ++ tree else tree ++ content)
          else drop (length (if two then content ++ tree else tree ++ content) - data_blocks (length bytes)) (if two then content ++ tree else tree ++ content)) ≡ content
      go true = ap (λ (k : ℕ). take k (content ++ tree)) (sym content_long) ∙ take-append_seam content tree
      go false =
          let at : length (tree ++ content) - data_blocks (length bytes) ≡ length tree = omega (arith, length-append tree content, content_long) in
          ap (λ (k : ℕ). drop k (tree ++ content)) at ∙ drop-append_seam tree content

  tree_found : tree_among version (length bytes) whole ≡ tree
  tree_found = go (version == 2)
    where
      go : (two : Bool) → (if two then drop (data_blocks (length bytes)) (if two then content ++ tree else tree ++ content)
          else take (length (if two then content ++ tree else tree ++ content) - data_blocks (length bytes)) (if two then content ++ tree else tree ++ content)) ≡ tree
      go true = ap (λ (k : ℕ). drop k (content ++ tree)) (sym content_long) ∙ drop-append_seam content tree
      go false =
          let at : length (tree ++ content) - data_blocks (length bytes) ≡ length tree = omega (arith, length-append tree content, content_long) in
          ap (λ (k : ℕ). take k (tree ++ content)) at ∙ take-append_seam tree content

  need : length whole ≡ need_of version (length bytes)
  unfolding need_of
  need = go (version == 2)
    where
      go : (two : Bool) → length (if two then content ++ tree else tree ++ content) ≡ data_blocks (length bytes) + tree_blocks_of version (length bytes)
      go true = length-append content tree ∙ omega (arith, content_long, length-tree_blocks version bytes)
      go false = length-append tree content ∙ omega (arith, content_long, length-tree_blocks version bytes)

  has_blob : HasBlob (root_of bytes) (record { size = length bytes; version = version }) whole
  has_blob = record {
    need = need;
    sound = λ w there. sound w there;
  }
    where
      sound : (w : ℕ) → w < windows_of (length bytes) → Verifies (root_of bytes) (length bytes) w (fetched_bytes (blob_record (root_of bytes) (record { size = length bytes; version = version })) whole w) (fetched_path (blob_record (root_of bytes) (record { size = length bytes; version = version })) whole w)
      sound w there =
          let blob : Blob = record { size = length bytes; version = version } in
          let b = blob_record (root_of bytes) blob in
          let bytes_are : fetched_bytes b whole w ≡ window_of bytes w = ap (data_window (length bytes) w) content_found ∙ window_is bytes w there in
          let path_are : fetched_path b whole w ≡ path_of bytes w = sym (path-is (root_of bytes) blob w whole need there) ∙ ap (λ (bs : List (List ℕ)). path_among version (length bytes) bs w) tree_found ∙ path_is version bytes w there in
          subst (λ (p : List (List ℕ)). Verifies (root_of bytes) (length bytes) w (fetched_bytes b whole w) p) (sym path_are)
          (subst (λ (v : List ℕ). Verifies (root_of bytes) (length bytes) w v (path_of bytes w)) (sym bytes_are) (honest_verifies bytes w there))

pub written_blobs_verify : WrittenBlobsVerify
written_blobs_verify version size root blocks is =
    let here = has_blob version is.bytes in
    let of_root : HasBlob root (record { size = length is.bytes; version = version }) (blob_blocks version is.bytes) = subst (λ (r : Digest). HasBlob r (record { size = length is.bytes; version = version }) (blob_blocks version is.bytes)) is.root_is here in
    let of_size : HasBlob root (record { size = size; version = version }) (blob_blocks version is.bytes) = subst (λ (n : ℕ). HasBlob root (record { size = n; version = version }) (blob_blocks version is.bytes)) is.long of_root in
    subst (λ (bs : List (List ℕ)). HasBlob root (record { size = size; version = version }) bs) (sym is.blocks_are) of_size
