-- An image that begins with the blocks of a volume without a blob stands for the empty volume.
use Rattle.std.proofs.Common.{◌≡◌, ℕ, zero, suc, ◌+◌, ◌-◌, ◌*◌, ◌/◌, ◌%◌, ◌^◌, ◌<◌, ◌≤◌, List, [], ◌∷◌, ◌++◌, length, map, take, drop, get_or, replicate, unwrap_or, Bool, true, false, cond, leb, eqb, ◌||◌, Option, Some, None, Result, Ok, mod-eq_of_lt, refl, ap, sym, ◌∙◌, subst, inl, inr, arith, length-append}
use Rattle.std.proofs.lemmas.Bool.{cases_lt}
use Rattle.std.proofs.lemmas.List.{length-replicate, get_or-replicate, get_or_append_left, get_or-append_right, get_or-take, get_or-drop, get_or_past, length-take}
use Rattle.std.proofs.lemmas.List.FromFn.{get_or-map-range_with_len}
use Rattle.std.proofs.Math.Nat.{zero-div}
use Rattle.std.specs.Prelude.{is_ok, is_some, IsSomeAnd, sum_by, option_map, option_and_then}
use Rattle.std.specs.List.{range_with_len}
use Rattle.spec_disk.specs.Disk.{block}
use Rattle.spec_record.specs.declared.geometry.Geometry.{Geometry}
use Rattle.spec_record.specs.declared.info.Info.{Info}
use Rattle.spec_record.specs.declared.node.Node.{Node}
use Rattle.spec_record.specs.declared.node.Node.TheVariants as nodes
use Rattle.spec_record.specs.declared.node_fault.NodeFault.{NodeFault}
use Rattle.spec_record.specs.Field.{IsBlock, field}
use Rattle.spec_record.specs.Geometry.{IsGeometry, bitmap_blocks, node_blocks, meta_blocks, ring_slots, info_at, slot_at, bitmap_in, node_map_in, ring_in}
use Rattle.spec_record.specs.Superblock.{super_of, IsSuper}
use Rattle.spec_record.specs.Info.{info_of, info_bytes, IsInfo}
use Rattle.spec_record.specs.Bitmap.{bit, bitmap_bit}
use Rattle.spec_record.specs.Node.{place_bytes, node_or_fault}
use Rattle.spec_record.specs.Places.{entry_magic, block_in, begins_with_magic}
use Rattle.spec_record.specs.Entry.{Entry, entry_of, entry_or_fault}
use Rattle.spec_record.specs.EntryBlocks.{ring_from, entry_at, entry_slots}
use Rattle.spec_record.proofs.ZeroLemmas.{zero_field}
use Rattle.spec_record.proofs.TestLemmas.{both, eqb_same}
use Rattle.spec_record.proofs.SuperLemmas.{super_is_read, super_is_block}
use Rattle.spec_record.proofs.InfoLemmas.{info_is_read, info_is_block}
use Rattle.spec_record.proofs.PartLemmas.{ring_is_cyclic}
use Rattle.spec_image.specs.Empty.{zero_block, empty_super, empty_info, first_bit_block, empty_bitmap, empty_behind, BeginsEmpty}
use Rattle.spec_image.specs.Journal.{Journal, journal_of, slot_past}
use Rattle.spec_image.specs.Replay.{onto, entries_from, replay_at, replay}
use Rattle.spec_image.specs.After.{payloads_of, last_naming, after}
use Rattle.spec_image.specs.Chain.{Nodes, BlobRecord, chain}
use Rattle.spec_image.specs.Metadata.{Metadata, metadata_in}
use Rattle.spec_image.specs.WellFormed.{read_of, records_below, records_of, count_below, extents_with, blobs_named, is_inode, is_container, is_well_formed}
use Rattle.spec_image.specs.WellFormedParts.{WellFormed}
use Rattle.spec_image.specs.Blobs.{blob_map}
use Rattle.spec_image.specs.Volume.{image_super, same_geometry, replayed_super, metadata_with, metadata_of, blobs}
use Rattle.spec_image.proofs.SameLemmas.{length-ring, ring_slot}
use Rattle.spec_image.proofs.WellFormedLemmas.{parts_well_formed}

-- ---- bytes that are zero

abbrev Zeros : List ℕ → Type 0
Zeros bytes = (i : ℕ) → get_or bytes i 0 ≡ 0

zeros_replicate : (n : ℕ) → Zeros (replicate n 0)
zeros_replicate zero i = refl
zeros_replicate (suc n) zero = refl
zeros_replicate (suc n) (suc i) = zeros_replicate n i

zeros_block : Zeros zero_block
unfolding zero_block
zeros_block = zeros_replicate 8192

zeros_part : (offset width : ℕ) (bytes : List ℕ) → Zeros bytes → Zeros (take width (drop offset bytes))
zeros_part offset width bytes zeros i =
    elim (cases_lt i width) [
      | inl lt ↦ get_or-take width (drop offset bytes) i 0 lt ∙ get_or-drop offset bytes i 0 ∙ zeros (offset + i)
      | inr past ↦ get_or_past (take width (drop offset bytes)) i 0 (omega (arith, past, length-take width (drop offset bytes)))
    ]

zeros_field : (bytes : List ℕ) (offset width : ℕ) → Zeros bytes → field bytes offset width ≡ 0
zeros_field bytes offset width zeros = zero_field bytes offset width (λ i lt. zeros (offset + i))

first_byte : get_or first_bit_block 0 0 ≡ 1
unfolding first_bit_block
first_byte = refl

later_byte : (i : ℕ) → 1 ≤ i → get_or first_bit_block i 0 ≡ 0
unfolding first_bit_block
later_byte zero le = absurd (omega (arith, le))
later_byte (suc i) le = zeros_replicate 8191 i

-- ---- numbers and tests

or_false : (b : Bool) → (b || false) ≡ b
or_false true = refl
or_false false = refl

-- the bits of the byte 1
one_bit : (b : ℕ) → b < 8 → eqb (1 / 2 ^ (b % 8) % 2) 1 ≡ eqb b 0
one_bit zero lt = refl
one_bit (suc zero) lt = refl
one_bit (suc (suc zero)) lt = refl
one_bit (suc (suc (suc zero))) lt = refl
one_bit (suc (suc (suc (suc zero)))) lt = refl
one_bit (suc (suc (suc (suc (suc zero))))) lt = refl
one_bit (suc (suc (suc (suc (suc (suc zero)))))) lt = refl
one_bit (suc (suc (suc (suc (suc (suc (suc zero))))))) lt = refl
one_bit (suc (suc (suc (suc (suc (suc (suc (suc b)))))))) lt = absurd (omega (arith, lt))

zero_bit : (bytes : List ℕ) (b : ℕ) → get_or bytes (b / 8) 0 ≡ 0 → bit bytes b ≡ false
zero_bit bytes b e = ap (λ (x : ℕ). eqb (x / 2 ^ (b % 8) % 2) 1) e ∙ ap (λ (x : ℕ). eqb (x % 2) 1) (zero-div (2 ^ (b % 8)))

same_geometry-same : (g : Geometry) → same_geometry g g ≡ true
same_geometry-same g =
    both _ _ (both _ _ (both _ _ (eqb_same g.version g.version refl) (eqb_same g.blocks g.blocks refl)) (eqb_same g.nodes g.nodes refl)) (eqb_same g.journal g.journal refl)

-- ---- a ring and a node of zeros

no_entry : (blocks : List (List ℕ)) (number meta : ℕ) → Zeros (block_in blocks 0) → entry_of blocks number meta ≡ None
unfolding entry_or_fault
no_entry blocks number meta zeros =
    let zero_magic : field (block_in blocks 0) 0 8 ≡ 0 = zeros_field (block_in blocks 0) 0 8 zeros in
    let none : begins_with_magic (block_in blocks 0) ≡ false = ap (λ (n : ℕ). eqb n entry_magic) zero_magic in
    rw none refl

none_from : (jn : Journal) (most room slot number : ℕ) → entry_at jn.ring slot number jn.meta ≡ None → entries_from jn most room slot number ≡ []
unfolding entries_from
none_from jn zero room slot number none = refl
none_from jn (suc most) room slot number none =
    ap (λ (o : Option Entry). onto o room (λ e. entries_from jn most (room - entry_slots e) (slot_past jn slot (entry_slots e)) (number + 1))) none

no_replay : (jn : Journal) (i : Info) → jn.info ≡ Some i → entry_at jn.ring i.start i.number jn.meta ≡ None → replay jn ≡ []
unfolding replay
no_replay jn i is none = ap (replay_at jn) is ∙ none_from jn (length jn.ring) (length jn.ring) i.start i.number none

abbrev free : Result Node NodeFault
free = Ok nodes.Free

zeros_node : (bytes : List ℕ) (volume : ℕ) → Zeros bytes → node_or_fault bytes volume ≡ free
unfolding node_or_fault
zeros_node bytes volume zeros =
    let flags : field bytes 0 2 ≡ 0 = zeros_field bytes 0 2 zeros in
    let rest : field bytes 0 64 ≡ 0 = zeros_field bytes 0 64 zeros in
    rw (flags, rest) refl

no_chain : (ns : Nodes) (blocks k : ℕ) → ns.read k ≡ free → read_of (chain ns blocks k) ≡ []
unfolding chain
no_chain ns blocks k e = rw e refl

no_records : (ns : Nodes) (blocks n : ℕ) → ((k : ℕ) → k < n → ns.read k ≡ free) → records_below ns blocks n ≡ []
unfolding records_below
no_records ns blocks zero reads = refl
no_records ns blocks (suc n) reads =
    rw (no_records ns blocks n (λ k lt. reads k (omega (arith, lt))), no_chain ns blocks n (reads n (omega arith))) refl

count_none : (n : ℕ) → count_below n (λ _. false) ≡ 0
unfolding count_below
count_none zero = refl
count_none (suc n) = omega (arith, count_none n)

-- metadata without a blob is well formed
empty_well_formed : (m : Metadata) → ((k : ℕ) → k < m.nodes.count → m.nodes.read k ≡ free) → ((d : ℕ) → d < m.bit_count → m.bit d ≡ eqb d 0)
    → m.super.blobs ≡ 0 → m.super.used_blocks ≡ 1 → m.super.used_nodes ≡ 0 → WellFormed m
empty_well_formed m reads bits blobs used_blocks used_nodes =
    let none : records_of m ≡ [] = no_records m.nodes m.super.geometry.blocks m.nodes.count reads in
    record {
      nodes = λ k lt. ap is_ok (reads k lt);
      chains = λ k lt is. absurd (bad (is_inode (m.nodes.read k)) is (ap is_inode (reads k lt)));
      containers = λ k lt is. absurd (bad (is_container (m.nodes.read k)) is (ap is_container (reads k lt)));
      blocks = λ d. omega (arith, ap (λ (bs : List BlobRecord). extents_with bs d) none);
      roots = λ root. omega (arith, ap (λ (bs : List BlobRecord). blobs_named bs root) none);
      bits = λ d lt. bits d lt ∙ sym (or_false (eqb d 0)) ∙ sym (ap (λ (bs : List BlobRecord). eqb d 0 || leb 1 (extents_with bs d)) none);
      blob_count = blobs ∙ sym (ap (length {A = BlobRecord}) none);
      block_count = used_blocks ∙ sym (ap (λ (bs : List BlobRecord). 1 + count_below m.super.geometry.blocks (λ d. leb 1 (extents_with bs d))) none ∙ ap (λ (n : ℕ). 1 + n) (count_none m.super.geometry.blocks));
      node_count = used_nodes ∙ sym (ap (λ (bs : List BlobRecord). sum_by (λ b. length b.nodes) bs) none);
    }
  where
    bad : (b : Bool) → b ≡ true → b ≡ false → ⊥
    bad true a b = cc
    bad false a b = cc

-- ---- the blocks of the image

module _ (g : Geometry) (j : List (List ℕ)) (lawful : IsGeometry g) (begins : BeginsEmpty g j) where
  some_bitmap : 1 ≤ bitmap_blocks g
  some_bitmap = omega (arith, lawful.blocks.from_low)

  abbrev ring_part : List (List ℕ)
  ring_part = replicate (ring_slots g) zero_block

  abbrev node_part : List (List ℕ)
  node_part = replicate (node_blocks g) zero_block

  abbrev behind_bitmap : List (List ℕ)
  behind_bitmap = node_part ++ (info_bytes empty_info ∷ ring_part)

  long_bitmap : length (empty_bitmap g) ≡ bitmap_blocks g
  long_bitmap = omega (arith, some_bitmap, length-replicate (bitmap_blocks g - 1) zero_block)

  long_nodes : length node_part ≡ node_blocks g
  long_nodes = length-replicate (node_blocks g) zero_block

  long_behind : length (empty_behind g) ≡ bitmap_blocks g + (node_blocks g + (1 + ring_slots g))
  long_behind =
      omega (arith, length-append (empty_bitmap g) behind_bitmap, length-append node_part (info_bytes empty_info ∷ ring_part), long_bitmap, long_nodes, length-replicate (ring_slots g) zero_block)

  -- the blocks behind the bitmap
  past_bitmap : (i at : ℕ) → i < node_blocks g + (1 + ring_slots g) → at ≡ 1 + (bitmap_blocks g + i) → block j at ≡ get_or behind_bitmap i []
  past_bitmap i at lt e =
      let same : bitmap_blocks g + i - bitmap_blocks g ≡ i = omega arith in
      ap (block j) e ∙ begins.behind (bitmap_blocks g + i) (omega (arith, long_behind, lt))
      ∙ get_or-append_right (empty_bitmap g) behind_bitmap (bitmap_blocks g) (bitmap_blocks g + i) [] long_bitmap (omega arith)
      ∙ ap (λ (k : ℕ). get_or behind_bitmap k []) same

  first_block : block j 1 ≡ first_bit_block
  first_block = begins.behind 0 (omega (arith, long_behind, some_bitmap))

  bitmap_block : (i : ℕ) → 1 ≤ i → i < bitmap_blocks g → block j (1 + i) ≡ zero_block
  bitmap_block zero le lt = absurd (omega (arith, le))
  bitmap_block (suc i) le lt =
      begins.behind (suc i) (omega (arith, long_behind, lt))
      ∙ get_or_append_left (empty_bitmap g) behind_bitmap [] (suc i) (omega (arith, long_bitmap, lt))
      ∙ get_or-replicate (bitmap_blocks g - 1) i zero_block [] (omega (arith, lt))

  node_block : (i : ℕ) → i < node_blocks g → block j (1 + bitmap_blocks g + i) ≡ zero_block
  node_block i lt =
      past_bitmap i (1 + bitmap_blocks g + i) (omega (arith, lt)) (omega arith)
      ∙ get_or_append_left node_part (info_bytes empty_info ∷ ring_part) [] i (omega (arith, long_nodes, lt))
      ∙ get_or-replicate (node_blocks g) i zero_block [] lt

  -- the blocks behind the node map
  past_nodes : (i at : ℕ) → i < 1 + ring_slots g → at ≡ meta_blocks g + i → block j at ≡ get_or (info_bytes empty_info ∷ ring_part) i []
  past_nodes i at lt e =
      let same : node_blocks g + i - node_blocks g ≡ i = omega arith in
      past_bitmap (node_blocks g + i) at (omega (arith, lt)) (omega (arith, e))
      ∙ get_or-append_right node_part (info_bytes empty_info ∷ ring_part) (node_blocks g) (node_blocks g + i) [] long_nodes (omega arith)
      ∙ ap (λ (k : ℕ). get_or (info_bytes empty_info ∷ ring_part) k []) same

  pub info_block : block j (info_at g) ≡ info_bytes empty_info
  info_block = past_nodes 0 (info_at g) (omega arith) (omega arith)

  pub slot_block : (s : ℕ) → s < ring_slots g → block j (slot_at g s) ≡ zero_block
  slot_block s lt =
      past_nodes (suc s) (slot_at g s) (omega (arith, lt)) (omega arith) ∙ get_or-replicate (ring_slots g) s zero_block [] lt

  -- ---- the superblock and the journal

  pub super_lawful : IsSuper (empty_super g)
  super_lawful = record {
    geometry = lawful;
    blobs = omega arith;
    used_blocks = record { from_low = omega arith; to_high = omega (arith, lawful.blocks.from_low) };
    used_nodes = omega arith;
  }

  super_is : image_super j ≡ Some (empty_super g)
  super_is =
      let is_block : IsBlock (block j 0) = subst IsBlock (sym begins.super) (super_is_block (empty_super g) super_lawful) in
      (super_is_read (block j 0) (length j) (empty_super g) is_block).1 (record { lawful = super_lawful; room = begins.room; bytes_are = begins.super })

  some_slots : 3 ≤ ring_slots g
  some_slots = omega (arith, lawful.journal.from_low)

  info_lawful : IsInfo (ring_slots g) empty_info
  info_lawful = record { start = omega (arith, some_slots); number = record { from_low = omega arith; to_high = omega arith } }

  few_slots : ring_slots g ≤ 2 ^ 64
  few_slots = omega (arith, lawful.journal.to_high)

  info_is : info_of (block j (info_at g)) (ring_slots g) ≡ Some empty_info
  info_is =
      let is_block : IsBlock (block j (info_at g)) = subst IsBlock (sym info_block) (info_is_block (ring_slots g) empty_info info_lawful few_slots) in
      (info_is_read (block j (info_at g)) (ring_slots g) empty_info is_block few_slots).1 (record { lawful = info_lawful; bytes_are = info_block })

  long_ring : 0 < length (ring_in g j)
  long_ring = omega (arith, length-ring g j, begins.room, some_slots)

  first_slot : block_in (ring_from (ring_in g j) 0) 0 ≡ zero_block
  first_slot =
      let same : (0 + 0) % length (ring_in g j) ≡ 0 = mod-eq_of_lt long_ring in
      ring_is_cyclic (ring_in g j) 0 0 long_ring ∙ ap (λ (k : ℕ). get_or (ring_in g j) k []) same ∙ ring_slot g j 0 (omega (arith, some_slots)) ∙ slot_block 0 (omega (arith, some_slots))

  pub empty_replay : replay (journal_of g j) ≡ []
  unfolding journal_of
  empty_replay =
      no_replay (journal_of g j) empty_info info_is (no_entry (ring_from (ring_in g j) 0) 1 (meta_blocks g) (subst Zeros (sym first_slot) zeros_block))

  has_info : is_some (journal_of g j).info ≡ true
  unfolding journal_of
  has_info = ap is_some info_is

  -- ---- the metadata blocks

  after_is : after g j ≡ map (block j) (range_with_len 0 (meta_blocks g))
  unfolding after
  after_is = ap (λ (es : List Entry). map (λ t. unwrap_or (last_naming t (payloads_of es)) (block j t)) (range_with_len 0 (meta_blocks g))) empty_replay

  after_at : (t : ℕ) → t < meta_blocks g → get_or (after g j) t [] ≡ block j t
  after_at t lt =
      ap (λ (blocks : List (List ℕ)). get_or blocks t []) after_is ∙ get_or-map-range_with_len (block j) 0 (meta_blocks g) t t [] lt (omega arith)

  same_super : replayed_super g j ≡ Some (empty_super g)
  same_super =
      let read : super_of (block (after g j) 0) (length j) ≡ Some (empty_super g) =
      ap (λ (bytes : List ℕ). super_of bytes (length j)) (after_at 0 (omega arith)) ∙ super_is in
      ap (option_and_then (λ s. cond (same_geometry s.geometry g) (Some s) None)) read ∙ ap (λ (b : Bool). cond b (Some (empty_super g)) None) (same_geometry-same g)

  bitmap_at : (i : ℕ) → i < bitmap_blocks g → get_or (bitmap_in g (after g j)) i [] ≡ block j (1 + i)
  bitmap_at i lt =
      get_or-take (bitmap_blocks g) (drop 1 (after g j)) i [] lt ∙ get_or-drop 1 (after g j) i [] ∙ after_at (1 + i) (omega (arith, lt))

  node_map_at : (i : ℕ) → i < node_blocks g → get_or (node_map_in g (after g j)) i [] ≡ zero_block
  node_map_at i lt =
      get_or-take (node_blocks g) (drop (1 + bitmap_blocks g) (after g j)) i [] lt ∙ get_or-drop (1 + bitmap_blocks g) (after g j) i []
      ∙ after_at (1 + bitmap_blocks g + i) (omega (arith, lt)) ∙ node_block i lt

  abbrev found : Metadata
  found = metadata_in (empty_super g) (after g j)

  all_free : (k : ℕ) → k < g.nodes → found.nodes.read k ≡ free
  all_free k lt =
      let within : k / 128 < node_blocks g = omega (arith, lt, lawful.whole_node_blocks) in
      let zeros : Zeros (get_or (node_map_in g (after g j)) (k / 128) []) = subst Zeros (sym (node_map_at (k / 128) within)) zeros_block in
      zeros_node (place_bytes (node_map_in g (after g j)) k) g.version (zeros_part (64 * (k % 128)) 64 (get_or (node_map_in g (after g j)) (k / 128) []) zeros)

  -- the byte with bit d of the bitmap, past the first byte
  byte_past : (d : ℕ) → 8 ≤ d → d < 65536 * bitmap_blocks g → get_or (get_or (bitmap_in g (after g j)) (d / 65536) []) (d % 65536 / 8) 0 ≡ 0
  byte_past d le lt =
      let within : d / 65536 < bitmap_blocks g = omega (arith, lt) in
      ap (λ (bytes : List ℕ). get_or bytes (d % 65536 / 8) 0) (bitmap_at (d / 65536) within) ∙ elim (cases_lt (d / 65536) 1) [
        | inl first ↦
            let is : 1 + d / 65536 ≡ 1 = omega (arith, first) in
            ap (λ (b : ℕ). get_or (block j b) (d % 65536 / 8) 0) is ∙ ap (λ (bytes : List ℕ). get_or bytes (d % 65536 / 8) 0) first_block
            ∙ later_byte (d % 65536 / 8) (omega (arith, first, le))
        | inr other ↦ ap (λ (bytes : List ℕ). get_or bytes (d % 65536 / 8) 0) (bitmap_block (d / 65536) other within) ∙ zeros_block (d % 65536 / 8)
      ]

  one_used : (d : ℕ) → d < 65536 * bitmap_blocks g → bitmap_bit (bitmap_in g (after g j)) d ≡ eqb d 0
  one_used d lt =
      let bitmap : List (List ℕ) = bitmap_in g (after g j) in
      elim (cases_lt d 8) [
        | inl low ↦
            let in_block : d / 65536 ≡ 0 = omega (arith, low) in
            let in_bits : d % 65536 ≡ d = omega (arith, low) in
            let in_byte : d / 8 ≡ 0 = omega (arith, low) in
            ap (λ (i : ℕ). bit (get_or bitmap i []) (d % 65536)) in_block ∙ ap (bit (get_or bitmap 0 [])) in_bits
            ∙ ap (λ (bytes : List ℕ). bit bytes d) (bitmap_at 0 some_bitmap ∙ first_block)
            ∙ ap (λ (k : ℕ). eqb (get_or first_bit_block k 0 / 2 ^ (d % 8) % 2) 1) in_byte
            ∙ ap (λ (x : ℕ). eqb (x / 2 ^ (d % 8) % 2) 1) first_byte ∙ one_bit d low
        | inr high ↦
            let no_first : eqb d 0 ≡ false = grind (arith, high) in
            zero_bit (get_or bitmap (d / 65536) []) (d % 65536) (byte_past d high lt) ∙ sym no_first
      ]

  well_formed : is_well_formed found ≡ true
  well_formed = parts_well_formed found (empty_well_formed found all_free one_used refl refl refl)

  pub empty_records : records_of (metadata_in (empty_super g) (after g j)) ≡ []
  empty_records = no_records found.nodes g.blocks g.nodes all_free

  pub empty_metadata : metadata_of j ≡ Some (metadata_in (empty_super g) (after g j))
  unfolding metadata_of
  empty_metadata =
      let read : cond (is_some (journal_of g j).info) (replayed_super g j) None ≡ Some (empty_super g) =
      ap (λ (b : Bool). cond b (replayed_super g j) None) has_info ∙ same_super in
      ap (option_and_then (λ s. metadata_with j s.geometry)) super_is
      ∙ ap (option_and_then (λ s. let m = metadata_in s (after g j) in cond (is_well_formed m) (Some m) None)) read
      ∙ ap (λ (b : Bool). cond b (Some found) None) well_formed

  pub empty_blobs : blobs j ≡ Some []
  empty_blobs =
      ap (option_map (λ m. blob_map (records_of m))) empty_metadata ∙ ap (λ (bs : List BlobRecord). Some (blob_map bs)) empty_records

pub BeginsEmpty-is : (g : Geometry) (j : List (List ℕ)) → IsGeometry g → BeginsEmpty g j → IsSomeAnd (metadata_of j) (λ m. m.super.geometry ≡ g) × (blobs j ≡ Some [])
BeginsEmpty-is g j lawful begins =
    (subst (λ (o : Option Metadata). IsSomeAnd o (λ m. m.super.geometry ≡ g)) (sym (empty_metadata g j lawful begins)) refl, empty_blobs g j lawful begins)
