-- An entry: a sync, room in the ring, and its blocks.
use Rattle.std.proofs.Common.{◌≡◌, ◌<◌, ◌≤◌, ◌⊎◌, ℕ, ◌+◌, List, [], ◌++◌, length, map, Bool, true, false, cond, leb, Option, Some, None, refl, ap, sym, ◌∙◌, subst, inl, inr, arith}
use Rattle.std.proofs.lemmas.List.{append-nil}
use Rattle.std.proofs.Math.Nat.{mod-eq_of_lt}
use Rattle.std.specs.Prelude.{Contains, IfSome, IsSomeAnd}
use Rattle.spec_tree.specs.declared.Digest.{Digest}
use Rattle.spec_tree.specs.declared.blob.Blob.{Blob}
use Rattle.spec_disk.specs.declared.event.Event.{Event}
use Rattle.spec_disk.specs.Disk.{Blocks, block}
use Rattle.spec_record.specs.declared.geometry.Geometry.{Geometry}
use Rattle.spec_record.specs.declared.info.Info.{Info}
use Rattle.spec_record.specs.Geometry.{block_at, ring_slots, meta_blocks}
use Rattle.spec_record.specs.Entry.{Entry}
use Rattle.spec_record.specs.EntryBlocks.{IsEntry, entry_blocks}
use Rattle.spec_record.proofs.SpelledEntry.{length-entry_blocks}
use Rattle.spec_record.proofs.TestLemmas.{at_most}
use Rattle.spec_image.specs.Blobs.{value_of}
use Rattle.spec_image.specs.Chain.{BlobRecord}
use Rattle.spec_image.specs.Stored.{stored}
use Rattle.spec_core.specs.Log.{changed}
use Rattle.spec_core.specs.declared.map_change.MapChange.{MapChange}
use Rattle.spec_crash.specs.Crash.{HoldsWhole}
use Rattle.spec_meta.specs.Blocks.{metadata_at}
use Rattle.spec_meta.specs.Change.{Publish as Published, after_all, log_of_all}
use Rattle.spec_rest.specs.Rest.{Map, HoldsEither}
use Rattle.bv_device.specs.Told.{Disk, disk_with, now_of}
use Rattle.bv_device.specs.Plan.{a_sync, IsPlan}
use Rattle.bv_device.proofs.PlanLemmas.{disk_with-nil, disk_with-append, IsPlan-append}
use Rattle.bv_journal.specs.Holds.{entries_of, patched as replayed}
use Rattle.bv_journal.specs.Plans.{ring_writes, checkpoint_plan}
use Rattle.bv_journal.specs.Rests.{IsHead, IsNext, slot_behind, number_behind}
use Rattle.bv_journal.specs.Stops.{Stops}
use Rattle.bv_journal.proofs.DiskLemmas.{now-sync, pending-sync}
use Rattle.bv_journal.proofs.StopLemmas.{Stops-none, Stops-append, Stops-weaker}
use Rattle.bv_ring.specs.Cursor.{Cursor, StandsBehind, emptied, info_at_cursor}
use Rattle.bv_store.specs.declared.publication.Publication.{Publication}
use Rattle.bv_store.specs.Stored.{HasBlob, blocks_on, entry_changes}
use Rattle.bv_journaled.specs.declared.prepared.Prepared.{Prepared}
use Rattle.bv_journaled.specs.Kept.{IsKept, KeepsMap, Keeps}
use Rattle.bv_journaled.specs.Standing.{Standing, asked, IsStanding, IsRecordOf, IsPrepared, RestsOn}
use Rattle.bv_journaled.specs.Entering.{room_plan, with_room, entry_plan}
use Rattle.bv_journaled.specs.Held.{kept_held}
use Rattle.bv_journaled.proofs.CallLemmas.{sync_done, sync_stops, checkpoint_done, checkpoint_stops, append_stops, append_done}
use Rattle.bv_journaled.proofs.EntryLemmas.{changed_map, written_kept}
use Rattle.bv_journaled.proofs.PatchLemmas.{patched_same, same_geometry}
use Rattle.bv_journaled.proofs.QuietLemmas.{kept_through, SparesData, spares_both, sync_spares, ring_spares, checkpoint_spares}
use Rattle.bv_journaled.proofs.StopLemmas.{ring_plan, whole_checkpoint}

-- a blob that is there, said of its record
there_of : (g : Geometry) (d : Disk) (r : BlobRecord) (q : Publication) → IsRecordOf r q → HasBlob q.root q.blob (blocks_on g d q.blocks.items) → HasBlob r.root (value_of r) (stored g (now_of d) r)
there_of g d r q is has =
    let with_blocks : HasBlob q.root q.blob (stored g (now_of d) r) = subst (λ (bs : List ℕ). HasBlob q.root q.blob (map (λ b. block (now_of d) (block_at g b)) bs)) (sym is.blocks) has in
    let with_blob : HasBlob q.root (value_of r) (stored g (now_of d) r) = subst (λ (b : Blob). HasBlob q.root b (stored g (now_of d) r)) (sym is.blob) with_blocks in
    subst (λ (x : Digest). HasBlob x (value_of r) (stored g (now_of d) r)) (sym is.root) with_blob

some_there : (g : Geometry) (d : Disk) (r : BlobRecord) (o : Option Publication) → IfSome o (λ q. HasBlob q.root q.blob (blocks_on g d q.blocks.items)) → IsSomeAnd o (IsRecordOf r) → HasBlob r.root (value_of r) (stored g (now_of d) r)
some_there g d r None has is = absurd is
some_there g d r (Some q) has is = there_of g d r q is has

-- the ring has room once more, and the disk keeps the newest map
pub record Roomy (g : Geometry) (meta : Blocks) (b : Map) (d : Disk) (plan : List Event) (c : Cursor) : Type 0 where
  pub stops : Stops d plan (HoldsEither b b)
  pub info : Info
  pub entries : List Entry
  pub keeps : Keeps g info entries None meta (disk_with d plan) b b
  pub stands : StandsBehind c info entries

module _ (s : Standing) (is : IsStanding s) (p : Prepared) (prep : IsPrepared s.meta.geometry s.meta.blocks s.cursor.number p) where
  abbrev pub g : Geometry
  g = s.meta.geometry

  abbrev pub meta : Blocks
  meta = s.meta.blocks

  abbrev pub n : ℕ
  n = length p.blocks.items

  abbrev pub plan : List Event
  plan = entry_plan s.meta.geometry s.cursor s.meta.blocks p.blocks.items

  abbrev pub room : List Event
  room = room_plan s.meta.geometry s.cursor s.meta.blocks (length p.blocks.items)

  abbrev blocks_plan : List Event
  blocks_plan = ring_writes s.cursor.geometry s.cursor.slot p.blocks.items

  -- ---- the plan

  room_is_plan : (t : Bool) → IsPlan (cond t [] (checkpoint_plan s.meta.geometry s.meta.blocks (info_at_cursor s.cursor)))
  room_is_plan true = tt
  room_is_plan false = whole_checkpoint s.meta.geometry s.meta.blocks (info_at_cursor s.cursor)

  pub entry_is_plan : IsPlan plan
  entry_is_plan = IsPlan-append room blocks_plan (room_is_plan (leb n s.cursor.room)) (ring_plan s.cursor.geometry s.cursor.slot p.blocks.items)

  room_spares : (t : Bool) → SparesData g (cond t [] (checkpoint_plan s.meta.geometry s.meta.blocks (info_at_cursor s.cursor)))
  room_spares true b = refl
  room_spares false b = checkpoint_spares g is.lawful meta (info_at_cursor s.cursor) is.count b

  pub entry_spares : SparesData g plan
  entry_spares =
      spares_both g a_sync (room ++ blocks_plan) (sync_spares g)
      (spares_both g room blocks_plan (room_spares (leb n s.cursor.room))
      (subst (λ (x : Geometry). SparesData g (ring_writes x s.cursor.slot p.blocks.items)) (sym is.same) (ring_spares g is.lawful s.cursor.slot p.blocks.items)))

  -- ---- the entry

  pub long : n ≡ length p.entry.targets + 2
  long = ap (length {A = List ℕ}) prep.blocks ∙ length-entry_blocks p.entry

  pub few : n ≤ ring_slots g
  few = omega (arith, long, prep.plans.lawful.count.to_high, is.lawful.journal.from_low)

  lawful_entry : IsEntry (meta_blocks g) p.entry
  lawful_entry = record {
    number = prep.plans.lawful.number;
    count = prep.plans.lawful.count;
    rising = prep.plans.lawful.rising;
    below = prep.plans.lawful.below;
    blocks = prep.whole;
  }

  says : metadata_at g (replayed p.entry.targets meta) ≡ after_all (metadata_at g meta) prep.changes
  says = ap (metadata_at g) (patched_same p.entry.targets meta) ∙ prep.plans.says

  head : IsHead g (block (replayed p.entry.targets meta) 0)
  head = record {
    super = (after_all (metadata_at g meta) prep.changes).super;
    lawful = prep.plans.super_lawful;
    geometry = same_geometry (metadata_at g meta) prep.changes;
    bytes_are = ap (λ (x : Blocks). block x 0) (patched_same p.entry.targets meta) ∙ prep.plans.super_is;
  }

  -- ---- one disk

  module _ (d : Disk) (a b : Map) (rests : RestsOn s d a b) (there : IfSome p.published (λ q. HasBlob q.root q.blob (blocks_on s.meta.geometry d q.blocks.items))) where
    abbrev pub made : Map
    made = changed b (entry_changes b (asked p))

    abbrev pub d1 : Disk
    d1 = disk_with d a_sync

    abbrev all : List Entry
    all = rests.entries ++ entries_of rests.more

    k1 : Keeps g rests.info all None meta d1 b b
    k1 = subst (λ (m : Blocks). Keeps g rests.info all None m d1 b b) rests.newest (sync_done g rests.info rests.entries rests.more rests.durable d a b rests.keeps)

    make_room : (t : Bool) → Roomy g meta b d1 (cond t [] (checkpoint_plan s.meta.geometry s.meta.blocks (info_at_cursor s.cursor))) (cond t s.cursor (emptied s.cursor))
    make_room true = record {
      stops = Stops-none d1 (HoldsEither b b) (kept_held g rests.info all None meta d1 b b k1);
      info = rests.info;
      entries = all;
      keeps = subst (λ (x : Disk). Keeps g rests.info all None meta x b b) (sym (disk_with-nil d1)) k1;
      stands = rests.stands;
    }
    make_room false =
        let next : Info = info_at_cursor s.cursor in
        let nil : all ++ [] ≡ all = append-nil all in
        let start : next.start ≡ slot_behind g rests.info (all ++ []) = rests.stands.slot ∙ ap (λ (x : Geometry). slot_behind x rests.info all) is.same ∙ ap (slot_behind g rests.info) (sym nil) in
        let number : next.number ≡ number_behind rests.info (all ++ []) = rests.stands.number ∙ ap (number_behind rests.info) (sym nil) in
        record {
          stops = checkpoint_stops g rests.info all None meta d1 b b k1 next start number is.cursor.number.to_high;
          info = next;
          entries = [];
          keeps = checkpoint_done g rests.info all None meta d1 b b k1 next start number is.cursor.number.to_high;
          stands = record {
            slot = let low : s.cursor.slot + 0 < ring_slots s.cursor.geometry = omega (arith, is.cursor.slot) in sym (mod-eq_of_lt low ∙ omega arith);
            number = omega arith;
            room = omega arith;
          };
        }

    pub roomy : Roomy g meta b d1 room (with_room s.cursor n)
    roomy = make_room (leb n s.cursor.room)

    abbrev d2 : Disk
    d2 = disk_with d1 room

    -- what the room leaves of the ring
    same_number : (t : Bool) → (cond t s.cursor (emptied s.cursor)).number ≡ s.cursor.number
    same_number true = refl
    same_number false = refl

    same_slot : (t : Bool) → (cond t s.cursor (emptied s.cursor)).slot ≡ s.cursor.slot
    same_slot true = refl
    same_slot false = refl

    same_counts : (t : Bool) → (cond t s.cursor (emptied s.cursor)).geometry ≡ s.cursor.geometry
    same_counts true = refl
    same_counts false = refl

    pub enough : (t : Bool) → leb n s.cursor.room ≡ t → n ≤ (cond t s.cursor (emptied s.cursor)).room
    enough true e = at_most n s.cursor.room e
    enough false e = subst (λ (x : Geometry). n ≤ ring_slots x) (sym is.same) few

    counts : (with_room s.cursor n).geometry ≡ g
    counts = same_counts (leb n s.cursor.room) ∙ is.same

    slot_is : s.cursor.slot ≡ slot_behind g roomy.info roomy.entries
    slot_is = sym (same_slot (leb n s.cursor.room)) ∙ roomy.stands.slot ∙ ap (λ (x : Geometry). slot_behind x roomy.info roomy.entries) counts

    slots_are : ring_slots (with_room s.cursor n).geometry ≡ ring_slots g
    slots_are = ap ring_slots counts

    pub entry_next : IsNext g roomy.info roomy.entries meta p.entry
    entry_next = record {
      lawful = lawful_entry;
      number_is = prep.plans.number_is ∙ sym (same_number (leb n s.cursor.room)) ∙ roomy.stands.number;
      fits = omega (arith, roomy.stands.room, slots_are, enough (leb n s.cursor.room) refl, long);
      head = head;
    }

    published_kept : (r : BlobRecord) → Contains prep.changes (Published r) → IsKept g d2 r
    published_kept r c =
        let has : HasBlob r.root (value_of r) (stored g (now_of d) r) = some_there g d r p.published there (prep.published r c) in
        kept_through g d1 r room (λ x of. room_spares (leb n s.cursor.room) x)
        (written_kept g d1 r (λ x. pending-sync d x) (subst (λ (image : Blocks). HasBlob r.root (value_of r) (stored g image r)) (sym (now-sync d)) has))

    makes : KeepsMap g d2 (replayed p.entry.targets meta) made
    makes =
        let log : log_of_all (metadata_at g meta) prep.changes ≡ entry_changes b (asked p) = prep.logged ∙ ap (λ (m : Map). entry_changes m (asked p)) (sym roomy.keeps.durable.map) in
        subst (λ (l : List MapChange). KeepsMap g d2 (replayed p.entry.targets meta) (changed b l)) log
        (changed_map g d2 meta (replayed p.entry.targets meta) b prep.changes roomy.keeps.durable prep.fit says published_kept)

    pub entry_in_ring : ring_writes g (slot_behind g roomy.info roomy.entries) (entry_blocks p.entry) ≡ blocks_plan
    entry_in_ring =
        let counts_are : g ≡ s.cursor.geometry = sym is.same in
        let slot_was : slot_behind g roomy.info roomy.entries ≡ s.cursor.slot = sym slot_is in
        let blocks_are : entry_blocks p.entry ≡ p.blocks.items = sym prep.blocks in
        λ i. ring_writes (counts_are i) (slot_was i) (blocks_are i)

    abbrev P : Blocks → Type 0
    P j = HoldsEither a b j ⊎ HoldsWhole j made

    joined : disk_with d2 blocks_plan ≡ disk_with d plan
    joined = disk_with-append d1 room blocks_plan ∙ disk_with-append d a_sync (room ++ blocks_plan)

    pub entry_stops : Stops d plan (λ j. HoldsEither a b j ⊎ HoldsWhole j (changed b (entry_changes b (asked p))))
    entry_stops =
        Stops-append d a_sync (room ++ blocks_plan) P
        (Stops-weaker d a_sync (HoldsEither a b) P (λ j h. inl h) (sync_stops g rests.info rests.entries rests.more rests.durable d a b rests.keeps))
        (Stops-append d1 room blocks_plan P
        (Stops-weaker d1 room (HoldsEither b b) P (λ j h. inl (elim h [ inl x ↦ inr x | inr x ↦ inr x ])) roomy.stops)
        (Stops-weaker d2 blocks_plan (HoldsEither b made) P (λ j h. elim h [ inl x ↦ inl (inr x) | inr x ↦ inr x ])
        (subst (λ (q : List Event). Stops d2 q (HoldsEither b made)) entry_in_ring (append_stops g roomy.info roomy.entries meta d2 b made p.entry roomy.keeps entry_next makes))))

    pub entry_done : Keeps g roomy.info roomy.entries (Some p.entry) meta (disk_with d plan) b made
    entry_done =
        subst (λ (x : Disk). Keeps g roomy.info roomy.entries (Some p.entry) meta x b made) joined
        (subst (λ (q : List Event). Keeps g roomy.info roomy.entries (Some p.entry) meta (disk_with d2 q) b made) entry_in_ring (append_done g roomy.info roomy.entries meta d2 b made p.entry roomy.keeps entry_next makes))
