-- What the calls of a store keep, over plain disks: a put, a sync, a checkpoint and an append.
use Rattle.std.proofs.Common.{◌≡◌, ◌≤◌, ◌⊎◌, ◌^◌, ℕ, List, [], ◌∷◌, ◌++◌, take, drop, true, Option, Some, None, refl, ap, ◌∙◌, subst, inl, inr, arith}
use Rattle.std.proofs.lemmas.List.{take-append-drop}
use Rattle.std.specs.Prelude.{Contains}
use Rattle.spec_disk.specs.declared.event.Event.{Event}
use Rattle.spec_disk.specs.declared.event.Event.TheVariants.{Write, Sync}
use Rattle.spec_disk.specs.Disk.{Blocks, block}
use Rattle.spec_disk.specs.Images.{written_to}
use Rattle.spec_record.specs.declared.geometry.Geometry.{Geometry}
use Rattle.spec_record.specs.declared.info.Info.{Info}
use Rattle.spec_record.specs.Geometry.{block_at}
use Rattle.spec_record.specs.Entry.{Entry}
use Rattle.spec_record.specs.EntryBlocks.{entry_blocks}
use Rattle.spec_image.specs.Chain.{BlobRecord}
use Rattle.spec_rest.specs.Rest.{Map, HoldsEither}
use Rattle.bv_device.specs.Told.{Disk, disk_with}
use Rattle.bv_device.specs.Plan.{a_write, a_sync}
use Rattle.bv_journal.specs.Holds.{HoldsMeta, HoldsEntries, entries_of, with_entry, patched}
use Rattle.bv_journal.specs.Plans.{ring_writes, checkpoint_plan}
use Rattle.bv_journal.specs.Rests.{IsNext, IsHead, synced, slot_behind, number_behind}
use Rattle.bv_journal.specs.Stops.{Stops}
use Rattle.bv_journal.proofs.StopLemmas.{Stops-one, Stops-weaker}
use Rattle.bv_journal.proofs.HoldLemmas.{length-meta}
use Rattle.bv_journal.proofs.AppendLemmas.{append-stops, append-done}
use Rattle.bv_journal.proofs.SyncLemmas.{at_rest-sync, at_rest-data}
use Rattle.bv_journal.proofs.CheckpointLemmas.{checkpoint-stops, checkpoint-done}
use Rattle.bv_journaled.specs.Kept.{records_at, IsOf, IsFree, KeepsMap, Keeps}
use Rattle.bv_journaled.specs.Held.{image_whole, kept_held, newest_head}
use Rattle.bv_journaled.proofs.QuietLemmas.{map_through, written_other, parts_none, SparesData, ring_spares, checkpoint_spares}

-- ---- runs that write to no data block

take_spares : (g : Geometry) (plan : List Event) (k : ℕ) → SparesData g plan → SparesData g (take k plan)
take_spares g plan k spares b = (parts_none (block_at g b) (take k plan) (drop k plan) (ap (written_to (block_at g b)) (take-append-drop k plan) ∙ spares b)).0

pub map_spared : (g : Geometry) (d : Disk) (meta : Blocks) (held : Map) (plan : List Event) → SparesData g plan → KeepsMap g d meta held → KeepsMap g (disk_with d plan) meta held
map_spared g d meta held plan spares kept = map_through g d meta held plan (λ r b c is. spares b) kept

-- where the stops of a run leave one of two metadata, they leave one of two maps
stops_hold : (g : Geometry) (d : Disk) (plan : List Event) (old new : Blocks) (a b : Map) → IsHead g (block old 0) → IsHead g (block new 0) → SparesData g plan → KeepsMap g d old a → KeepsMap g d new b
    → Stops d plan (λ j. HoldsMeta g old j ⊎ HoldsMeta g new j) → Stops d plan (HoldsEither a b)
stops_hold g d plan old new a b old_head new_head spares old_kept new_kept stops k le j left fair =
    let spares' : SparesData g (take k plan) = take_spares g plan k spares in
    elim (stops k le j left fair) [
      | inl here ↦ inl (image_whole g (disk_with d (take k plan)) old j a here old_head left (map_spared g d old a (take k plan) spares' old_kept))
      | inr here ↦ inr (image_whole g (disk_with d (take k plan)) new j b here new_head left (map_spared g d new b (take k plan) spares' new_kept))
    ]

module _ (g : Geometry) (i : Info) (es : List Entry) (more : Option Entry) (meta : Blocks) (d : Disk) (a b : Map) (k : Keeps g i es more meta d a b) where
  newest : Blocks
  newest = with_entry more meta

  -- ---- a put

  module _ (at : ℕ) (bytes : List ℕ) (old_free : IsFree g meta at) (new_free : IsFree g (with_entry more meta) at) where
    spared : (m : Blocks) → IsFree g m at → (r : BlobRecord) (x : ℕ) → Contains (records_at g m) r → IsOf r x → written_to (block_at g x) (a_write (block_at g at) bytes) ≡ []
    spared m free r x c is = written_other (block_at g at) (block_at g x) bytes [] (λ e. let same : x ≡ at = omega (arith, e) in free r c (subst (IsOf r) same is))

    pub put_done : Keeps g i es more meta (disk_with d (a_write (block_at g at) bytes)) a b
    put_done = record {
      journal = at_rest-data g i es more meta d (block_at g at) bytes (omega arith) k.journal;
      durable = map_through g d meta a (a_write (block_at g at) bytes) (spared meta old_free) k.durable;
      newest = map_through g d (with_entry more meta) b (a_write (block_at g at) bytes) (spared (with_entry more meta) new_free) k.newest;
    }

    pub put_stops : Stops d (a_write (block_at g at) bytes) (HoldsEither a b)
    put_stops =
        Stops-one d (Write (block_at g at) bytes true) (HoldsEither a b) (kept_held g i es more meta d a b k)
        (kept_held g i es more meta (disk_with d (a_write (block_at g at) bytes)) a b put_done)

  -- ---- a sync

  pub sync_done : Keeps g i (es ++ entries_of more) None (with_entry more meta) (disk_with d a_sync) b b
  sync_done =
      let kept : KeepsMap g (disk_with d a_sync) (with_entry more meta) b = map_spared g d (with_entry more meta) b a_sync (λ x. refl) k.newest in
      record { journal = at_rest-sync g i es more meta d k.journal; durable = kept; newest = kept }

  only : (j : Blocks) → HoldsEither b b j → HoldsEither a b j
  only j h = elim h [ inl x ↦ inr x | inr x ↦ inr x ]

  pub sync_stops : Stops d a_sync (HoldsEither a b)
  sync_stops =
      Stops-one d (Sync true) (HoldsEither a b) (kept_held g i es more meta d a b k)
      (λ j left fair. only j (kept_held g i (es ++ entries_of more) None (with_entry more meta) (disk_with d a_sync) b b sync_done j left fair))

  -- ---- a checkpoint

  module _ (next : Info) (start : next.start ≡ slot_behind g i (es ++ entries_of more)) (number : next.number ≡ number_behind i (es ++ entries_of more)) (most : next.number ≤ 2 ^ 62) where
    abbrev plan : List Event
    plan = checkpoint_plan g (with_entry more meta) next

    spares : SparesData g plan
    spares = checkpoint_spares g (sync_done.journal.rests.durable.lawful) (with_entry more meta) next (length-meta g i (es ++ entries_of more) (with_entry more meta) (synced (disk_with d a_sync)) sync_done.journal.rests.durable)

    pub checkpoint_stops : Stops d (checkpoint_plan g (with_entry more meta) next) (HoldsEither a b)
    checkpoint_stops =
        stops_hold g d plan meta (with_entry more meta) a b k.journal.rests.durable.meta_head (newest_head g i es more meta d k.journal) spares k.durable k.newest
        (checkpoint-stops g i next es more meta d k.journal start number most)

    pub checkpoint_done : Keeps g next [] None (with_entry more meta) (disk_with d (checkpoint_plan g (with_entry more meta) next)) b b
    checkpoint_done =
        let kept : KeepsMap g (disk_with d plan) (with_entry more meta) b = map_spared g d (with_entry more meta) b plan spares k.newest in
        record { journal = checkpoint-done g i next es more meta d k.journal start number most; durable = kept; newest = kept }

-- ---- an append

module _ (g : Geometry) (i : Info) (es : List Entry) (meta : Blocks) (d : Disk) (b c : Map) (e : Entry) (k : Keeps g i es None meta d b b) (next : IsNext g i es meta e) (made : KeepsMap g d (patched e.targets meta) c) where
  abbrev entry_plan : List Event
  entry_plan = ring_writes g (slot_behind g i es) (entry_blocks e)

  entry_spares : SparesData g entry_plan
  entry_spares = ring_spares g k.journal.rests.durable.lawful (slot_behind g i es) (entry_blocks e)

  pub append_stops : Stops d (ring_writes g (slot_behind g i es) (entry_blocks e)) (HoldsEither b c)
  append_stops =
      stops_hold g d entry_plan meta (patched e.targets meta) b c k.journal.rests.durable.meta_head next.head entry_spares k.durable made
      (Stops-weaker d entry_plan (λ j. HoldsEntries g i es meta j ⊎ HoldsEntries g i (es ++ e ∷ []) (patched e.targets meta) j) (λ j. HoldsMeta g meta j ⊎ HoldsMeta g (patched e.targets meta) j)
      (λ j h. elim h [ inl x ↦ inl x.holds | inr x ↦ inr x.holds ])
      (append-stops g i es meta d e k.journal next))

  pub append_done : Keeps g i es (Some e) meta (disk_with d (ring_writes g (slot_behind g i es) (entry_blocks e))) b c
  append_done = record {
    journal = append-done g i es meta d e k.journal next;
    durable = map_spared g d meta b entry_plan entry_spares k.durable;
    newest = map_spared g d (patched e.targets meta) c entry_plan entry_spares made;
  }
