-- An image with the superblock of version 2 has the blobs that it had, with the same bytes.
use Rattle.std.proofs.Common.{◌≡◌, ◌≤◌, ℕ, zero, suc, ◌+◌, List, [], length, map, take, drop, Bool, true, cond, eqb, eq-eqb, Option, Some, None, Ok, refl, ap, sym, ◌∙◌, subst, arith}
use Rattle.std.proofs.lemmas.List.{length-set, get_or-set_same, get_or-set_other}
use Rattle.std.proofs.lemmas.List.FromFn.{get_or-map-range_with_len}
use Rattle.std.specs.List.{range_with_len}
use Rattle.std.specs.Option.{unwrap_or}
use Rattle.std.specs.Prelude.{IsSomeAnd, option_map, option_and_then, is_some, find, if◌then◌else◌}
use Rattle.spec_tree.specs.declared.Digest.{Digest}
use Rattle.spec_tree.specs.Tree.{root_of}
use Rattle.spec_tree.specs.Order.{same_digest}
use Rattle.spec_disk.specs.Disk.{Blocks, block}
use Rattle.spec_record.specs.declared.geometry.Geometry.{Geometry}
use Rattle.spec_record.specs.declared.superblock.Super.{Super}
use Rattle.spec_record.specs.Geometry.{IsGeometry, meta_blocks, bitmap_blocks, node_blocks, info_at, slot_at, block_at, total_blocks}
use Rattle.spec_record.specs.Bitmap.{bitmap_bit}
use Rattle.spec_record.specs.Node.{place_bytes, node_or_fault}
use Rattle.spec_record.specs.Superblock.{IsSuper, super_bytes, super_of}
use Rattle.spec_record.specs.Entry.{Entry}
use Rattle.spec_record.proofs.SuperLemmas.{super_is_read, super_is_block}
use Rattle.spec_image.specs.Chain.{BlobRecord}
use Rattle.spec_image.specs.Journal.{Journal, journal_of}
use Rattle.spec_image.specs.Replay.{replay}
use Rattle.spec_image.specs.After.{payloads_of, last_naming, after}
use Rattle.spec_image.specs.Metadata.{Metadata, metadata_in}
use Rattle.spec_image.specs.WellFormed.{records_of, is_well_formed}
use Rattle.spec_image.specs.Blobs.{blob_map}
use Rattle.spec_image.specs.Stored.{blocks_of, stored_data, bytes_in}
use Rattle.spec_image.specs.Volume.{HasGeometry, same_geometry, replayed_super, metadata_with, metadata_of, blobs, blob_in, bytes_of, IsWhole}
use Rattle.spec_image.proofs.SameLemmas.{map_same, journal_same}
use Rattle.spec_upgrade.specs.Newer.{SaysSame}
use Rattle.spec_upgrade.specs.Upgraded.{newest, newest_super, IsOlder, upgraded}
use Rattle.spec_upgrade.proofs.NewerLemmas.{node_newer, newer_well, newer_records}

-- ---- the metadata of an image with an empty journal

same_as_itself : (g : Geometry) → same_geometry g g ≡ true
same_as_itself g = rw (eq-eqb g.version g.version refl, eq-eqb g.blocks g.blocks refl, eq-eqb g.nodes g.nodes refl, eq-eqb g.journal g.journal refl) refl

-- with nothing to replay the metadata blocks are those of the image
after_empty : (g : Geometry) (x : Blocks) → replay (journal_of g x) ≡ [] → after g x ≡ map (block x) (range_with_len 0 (meta_blocks g))
unfolding after
after_empty g x empty = ap (λ (es : List Entry). map (λ t. unwrap_or (last_naming t (payloads_of es)) (block x t)) (range_with_len 0 (meta_blocks g))) empty

head_stays : (g : Geometry) (x : Blocks) → replay (journal_of g x) ≡ [] → block (after g x) 0 ≡ block x 0
head_stays g x empty = ap (λ (bs : Blocks). block bs 0) (after_empty g x empty) ∙ get_or-map-range_with_len (block x) 0 (meta_blocks g) 0 0 [] (omega arith) (omega arith)

-- ---- what is behind the first block

tails_same : (f h : ℕ → List ℕ) (n k : ℕ) → 1 ≤ k → ((t : ℕ) → 1 ≤ t → f t ≡ h t) → drop k (map f (range_with_len 0 n)) ≡ drop k (map h (range_with_len 0 n))
tails_same f h zero k pos same = refl
tails_same f h (suc n) zero pos same = absurd (omega (arith, pos))
tails_same f h (suc n) (suc k) pos same = ap (drop k) (map_same f h 1 n (λ t low high. same t low))

-- the superblock, and the metadata that it gives
module _ (s : Super) (x : Blocks) (lawful : IsSuper s) (room : total_blocks s.geometry ≤ length x) (bytes : block x 0 ≡ super_bytes s) where
  super_read : super_of (block x 0) (length x) ≡ Some s
  super_read =
      ap (λ (b : List ℕ). super_of b (length x)) bytes
      ∙ (super_is_read (super_bytes s) (length x) s (super_is_block s lawful)).1 (record { lawful = lawful; room = room; bytes_are = refl })

  module _ (empty : replay (journal_of s.geometry x) ≡ []) where
    replayed_is : replayed_super s.geometry x ≡ Some s
    replayed_is =
        ap (λ (b : List ℕ). option_and_then (λ y. if same_geometry y.geometry s.geometry then Some y else None) (super_of b (length x))) (head_stays s.geometry x empty)
        ∙ ap (option_and_then (λ y. if same_geometry y.geometry s.geometry then Some y else None)) super_read
        ∙ ap (λ (t : Bool). cond t (Some s) None) (same_as_itself s.geometry)

    metadata_is : is_some (journal_of s.geometry x).info ≡ true → is_well_formed (metadata_in s (after s.geometry x)) ≡ true → metadata_of x ≡ Some (metadata_in s (after s.geometry x))
    unfolding metadata_of
    metadata_is info well =
        ap (option_and_then (λ (y : Super). metadata_with x y.geometry)) super_read
        ∙ ap (λ (t : Bool). option_and_then (λ y. let m = metadata_in y (after s.geometry x) in if is_well_formed m then Some m else None) (if t then replayed_super s.geometry x else None)) info
        ∙ ap (option_and_then (λ y. let m = metadata_in y (after s.geometry x) in if is_well_formed m then Some m else None)) replayed_is
        ∙ ap (λ (t : Bool). cond t (Some (metadata_in s (after s.geometry x))) None) well

-- ---- the superblock of version 2

-- what version 1 allows, version 2 does too
pub newest_lawful : (s : Super) → s.geometry.version ≡ 1 → IsSuper s → IsSuper (newest_super s)
newest_lawful s one lawful =
    let g : Geometry = s.geometry in
    let counts : IsGeometry s.geometry = lawful.geometry in
    let blocks : g.blocks ≤ 1048576 = subst (λ (v : ℕ). s.geometry.blocks ≤ cond (eqb v 1) 1048576 4194304) one counts.blocks.to_high in
    let nodes : g.nodes ≤ 32768 = subst (λ (v : ℕ). s.geometry.nodes ≤ cond (eqb v 1) 32768 65536) one counts.nodes.to_high in
    record {
      geometry = record {
        version = record { from_low = omega arith; to_high = omega arith };
        blocks = record { from_low = counts.blocks.from_low; to_high = omega (arith, blocks) };
        nodes = record { from_low = counts.nodes.from_low; to_high = omega (arith, nodes) };
        whole_node_blocks = counts.whole_node_blocks;
        journal = counts.journal;
      };
      blobs = lawful.blobs;
      used_blocks = lawful.used_blocks;
      used_nodes = lawful.used_nodes;
    }

-- ---- the image that is made

module _ (s : Super) (x : Blocks) (is : IsOlder s x) where
  abbrev g : Geometry
  g = s.geometry

  abbrev t : Super
  t = newest_super s

  abbrev j : Blocks
  j = upgraded s x

  some_room : 1 ≤ length x
  some_room = omega (arith, is.head.room)

  as_long : length j ≡ length x
  as_long = length-set x 0 (super_bytes t)

  here : block j 0 ≡ super_bytes t
  here = get_or-set_same x 0 (super_bytes t) [] (omega (arith, some_room))

  pub behind : (b : ℕ) → 1 ≤ b → block j b ≡ block x b
  behind b pos = get_or-set_other x 0 b (super_bytes t) [] (λ e. absurd (omega (arith, e, pos)))

  lawful_newest : IsSuper t
  lawful_newest = newest_lawful s is.version is.head.lawful

  room_newest : total_blocks t.geometry ≤ length j
  room_newest = subst (λ (n : ℕ). total_blocks g ≤ n) (sym as_long) is.head.room

  -- info and ring are behind block 0
  same_journal : journal_of t.geometry j ≡ journal_of g x
  unfolding journal_of
  same_journal =
      sym (journal_same g x j (record {
        first_whole = is.head.room;
        second_whole = room_newest;
        info = sym (behind (info_at g) (omega arith));
        slots = λ k lt. sym (behind (slot_at g k) (omega arith));
      }))

  info_newest : is_some (journal_of t.geometry j).info ≡ true
  info_newest = ap (λ (y : Journal). is_some y.info) same_journal ∙ is.read

  empty_newest : replay (journal_of t.geometry j) ≡ []
  empty_newest = ap replay same_journal ∙ is.empty

  abbrev old_meta : Metadata
  old_meta = metadata_in s (after g x)

  abbrev new_meta : Metadata
  new_meta = metadata_in t (after t.geometry j)

  meta_behind : (k : ℕ) → 1 ≤ k → drop k (after t.geometry j) ≡ drop k (after g x)
  meta_behind k pos =
      ap (drop k) (after_empty t.geometry j empty_newest)
      ∙ tails_same (block j) (block x) (meta_blocks g) k pos behind
      ∙ sym (ap (drop k) (after_empty g x is.empty))

  says_same : SaysSame old_meta new_meta
  says_same = record {
    count = refl;
    blocks = refl;
    bit_count = refl;
    bits = λ d. ap (λ (bs : Blocks). bitmap_bit (take (bitmap_blocks g) bs) d) (meta_behind 1 (omega arith));
    blobs = refl;
    used_blocks = refl;
    used_nodes = refl;
    reads = λ k n read.
        let first : node_or_fault (place_bytes (take (node_blocks g) (drop (1 + bitmap_blocks g) (after g x))) k) 1 ≡ Ok n =
        subst (λ (v : ℕ). node_or_fault (place_bytes (take (node_blocks g) (drop (1 + bitmap_blocks g) (after g x))) k) v ≡ Ok n) is.version read in
        ap (λ (bs : Blocks). node_or_fault (place_bytes (take (node_blocks g) bs) k) 2) (meta_behind (1 + bitmap_blocks g) (omega arith))
        ∙ node_newer (place_bytes (take (node_blocks g) (drop (1 + bitmap_blocks g) (after g x))) k) n first;
  }

  same_records : records_of new_meta ≡ records_of old_meta
  same_records = newer_records old_meta new_meta says_same is.well

  old_is : metadata_of x ≡ Some old_meta
  old_is = metadata_is s x is.head.lawful is.head.room is.head.bytes_are is.empty is.read is.well

  new_is : metadata_of j ≡ Some new_meta
  new_is = metadata_is t j lawful_newest room_newest here empty_newest info_newest (newer_well old_meta new_meta says_same is.well)

  pub upgraded_geometry : HasGeometry j (newest g)
  upgraded_geometry = subst (λ (o : Option Super). IsSomeAnd o (λ y. y.geometry ≡ newest g)) (sym (super_read t j lawful_newest room_newest here)) refl

  pub upgraded_blobs : blobs j ≡ blobs x
  upgraded_blobs =
      ap (option_map (λ m. blob_map (records_of m))) new_is
      ∙ ap (λ (bs : List BlobRecord). Some (blob_map bs)) same_records
      ∙ sym (ap (option_map (λ m. blob_map (records_of m))) old_is)

  -- data blocks are behind block 0 too
  bytes_same : (b : BlobRecord) → bytes_in t.geometry j b ≡ bytes_in g x b
  bytes_same b = ap (λ (xs : List (List ℕ)). take b.size (stored_data b xs)) (λ i. map (λ d. behind (block_at g d) (omega arith) i) (blocks_of b.extents))

  pub upgraded_bytes : (root : Digest) → bytes_of j root ≡ bytes_of x root
  upgraded_bytes root =
      ap (option_and_then (λ m. option_map (bytes_in m.super.geometry j) (blob_in m root))) new_is
      ∙ (λ i. option_map (λ b. bytes_same b i) (find (λ b. same_digest root b.root) (same_records i)))
      ∙ sym (ap (option_and_then (λ m. option_map (bytes_in m.super.geometry x) (blob_in m root))) old_is)

  pub upgraded_whole : (root : Digest) → IsWhole x root → IsWhole j root
  upgraded_whole root whole = subst (λ (o : Option (List ℕ)). IsSomeAnd o (λ bytes. root_of bytes ≡ root)) (sym (upgraded_bytes root)) whole
