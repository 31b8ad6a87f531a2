-- The rows of a store's calls: a put, a sync and a checkpoint, over what the store shows.
use Rattle.std.proofs.Common.{◌≡◌, ◌≢◌, ◌<◌, ℕ, ◌+◌, List, [], ◌∷◌, ◌++◌, true, Option, Some, None, Result, Ok, Err, refl, ap, sym, ◌∙◌, subst, inl, arith, append_assoc}
use Rattle.std.proofs.lemmas.List.{append-nil}
use Rattle.std.proofs.Math.Nat.{mod-eq_of_lt}
use Rattle.std.specs.Prelude.{Contains, IfSome, OnOk}
use Rattle.spec_disk.specs.declared.event.Event.{Event}
use Rattle.spec_disk.specs.declared.event.Event.TheVariants as device
use Rattle.spec_disk.specs.Disk.{Blocks, block}
use Rattle.spec_disk.specs.Images.{IsSettled}
use Rattle.spec_disk.proofs.ImageLemmas.{IsSettled-push_sync}
use Rattle.spec_record.specs.declared.geometry.Geometry.{Geometry}
use Rattle.spec_record.specs.declared.info.Info.{Info}
use Rattle.spec_record.specs.Geometry.{block_at, info_at, ring_slots}
use Rattle.spec_record.specs.Info.{info_bytes}
use Rattle.spec_record.specs.Entry.{Entry}
use Rattle.spec_image.specs.Chain.{BlobRecord}
use Rattle.spec_image.proofs.WellFormedLemmas.{well_formed_parts}
use Rattle.spec_meta.specs.Blocks.{metadata_at}
use Rattle.spec_rest.specs.Rest.{Map, HoldsEither}
use Rattle.bv_device.specs.Told.{Disk, disk_with, now_of}
use Rattle.bv_device.specs.Plan.{a_write, a_sync, writes}
use Rattle.bv_device.specs.Seen.{Seen, Performs}
use Rattle.bv_journal.specs.Holds.{entries_of, with_entry}
use Rattle.bv_journal.specs.Plans.{checkpoint_plan}
use Rattle.bv_journal.specs.Rests.{slot_behind}
use Rattle.bv_journal.specs.Stops.{Stops}
use Rattle.bv_ring.specs.Cursor.{StandsBehind, emptied, info_at_cursor}
use Rattle.bv_store.specs.Stored.{Grows, OneAtOk, SyncedAtOk, SameData, LeavesEither, blocks_in}
use Rattle.bv_journaled.specs.Kept.{records_at, IsOf, IsFree, Keeps}
use Rattle.bv_journaled.specs.Standing.{Standing, stored_of, IsHeld, IsStanding, RestsOn, Both}
use Rattle.bv_journaled.proofs.CallLemmas.{put_done, put_stops, sync_done, sync_stops, checkpoint_done, checkpoint_stops}
use Rattle.bv_journaled.proofs.PlacedLemmas.{placed_blocks}
use Rattle.bv_journaled.proofs.QuietLemmas.{written_other, checkpoint_spares}
use Rattle.bv_journaled.proofs.RowLemmas.{run_grows, told_rests, rests_told, more_leaves, more_spares, more_ok, ok_from}
use Rattle.bv_journaled.proofs.StopLemmas.{whole_checkpoint}

-- the metadata in memory has its blobs' blocks among those that are placed
newest_held : (s : Standing) (r : BlobRecord) (x : ℕ) → IsStanding s → Contains (records_at s.meta.geometry s.meta.blocks) r → IsOf r x → Contains (blocks_in (stored_of s).placed) x
newest_held s r x is c of = placed_blocks (metadata_at s.meta.geometry s.meta.blocks) r x (well_formed_parts (metadata_at s.meta.geometry s.meta.blocks) is.formed) c of

module _ (s : Standing) (is : IsStanding s) (at : ℕ) (bytes : List ℕ) (free : IsHeld s at → ⊥) where
  abbrev g : Geometry
  g = s.meta.geometry

  abbrev a_put : List Event
  a_put = a_write (block_at s.meta.geometry at) bytes

  old_free : (d : Disk) (a b : Map) (rests : RestsOn s d a b) → IsFree g rests.durable at
  old_free d a b rests r c of = free (rests.older r at c of)

  new_free : (d : Disk) (a b : Map) (rests : RestsOn s d a b) → IsFree g (with_entry rests.more rests.durable) at
  new_free d a b rests r c of = free (inl (newest_held s r at is (subst (λ (m : Blocks). Contains (records_at g m) r) rests.newest c) of))

  -- what a put does to the disk
  abbrev pub PutGrows : {T E : Type 0} → Result T E → Disk → List Event → Type 0
  PutGrows r d more = OneAtOk r (device.Write (block_at s.meta.geometry at) bytes true) more
      × ((a b : Map) → Both s a b → LeavesEither d more a b)
      × ((b : ℕ) → b ≢ at → block (now_of (disk_with d more)) (block_at s.meta.geometry b) ≡ block (now_of d) (block_at s.meta.geometry b))

  pub put_grows : {T E : Type 0} (r : Result T E) (dev : Seen) → Performs r a_put s.device dev → Grows (stored_of s).told (stored_of (record s { device = dev })).told (PutGrows r)
  put_grows r dev performs =
      run_grows r a_put s (record s { device = dev }) is refl refl performs (PutGrows r) (λ d more told f. (
        one r more (more_ok r d a_put more f),
        λ a b both.
            let rests = told_rests s d a b told both in
            more_leaves r d a_put more (HoldsEither a b) tt
            (put_stops g rests.info rests.entries rests.more rests.durable d a b rests.keeps at bytes (old_free d a b rests) (new_free d a b rests)) f,
        λ b other. more_spares r d a_put more (block_at g b) (written_other (block_at g at) (block_at g b) bytes [] (λ e. other (omega (arith, e)))) f,
      ))
    where
      one : {T E : Type 0} (r : Result T E) (more : List Event) → OnOk r (more ≡ a_put) → OneAtOk r (device.Write (block_at s.meta.geometry at) bytes true) more
      one (Ok v) more e = e
      one (Err x) more e = tt

  pub put_both : {T E : Type 0} (r : Result T E) (v : T) (dev : Seen) → Performs r a_put s.device dev → r ≡ Ok v → (a b : Map) → Both s a b → Both (record s { device = dev }) a b
  put_both r v dev performs ok a b both =
      let new : Standing = record s { device = dev } in
      rests_told new a b (stored_of new).told refl (λ d' e.
      let from = ok_from r v a_put s new is refl refl performs ok d' e in
      let d : Disk = from.0 in
      let rests = told_rests s d a b from.1 both in
      record {
        info = rests.info;
        entries = rests.entries;
        more = rests.more;
        durable = rests.durable;
        keeps = subst (λ (x : Disk). Keeps g rests.info rests.entries rests.more rests.durable x a b) (sym from.2)
            (put_done g rests.info rests.entries rests.more rests.durable d a b rests.keeps at bytes (old_free d a b rests) (new_free d a b rests));
        newest = rests.newest;
        stands = rests.stands;
        older = rests.older;
      })

-- ---- a sync

module _ {T E : Type 0} (r : Result T E) (s new : Standing) (is : IsStanding s) (geometry : new.meta.geometry ≡ s.meta.geometry) (opened : new.opened ≡ s.opened) (performs : Performs r a_sync s.device new.device) where
  abbrev pub SyncGrows : Disk → List Event → Type 0
  SyncGrows d more = SyncedAtOk r more × SameData s.meta.geometry d more × ((a b : Map) → Both s a b → LeavesEither d more a b)

  ends_synced : (x : Result T E) (more : List Event) → OnOk x (more ≡ a_sync) → SyncedAtOk x more
  ends_synced (Ok v) more e = ([], e)
  ends_synced (Err x) more e = tt

  pub sync_grows : Grows (stored_of s).told (stored_of new).told SyncGrows
  sync_grows = run_grows r a_sync s new is geometry opened performs SyncGrows (λ d more told f. (
    ends_synced r more (more_ok r d a_sync more f),
    λ b. more_spares r d a_sync more (block_at s.meta.geometry b) refl f,
    λ a b both.
        let rests = told_rests s d a b told both in
        more_leaves r d a_sync more (HoldsEither a b) tt (sync_stops s.meta.geometry rests.info rests.entries rests.more rests.durable d a b rests.keeps) f,
  ))

pub sync_both : {T E : Type 0} (r : Result T E) (v : T) (s : Standing) (dev : Seen) → IsStanding s → Performs r a_sync s.device dev → r ≡ Ok v → (a b : Map) → Both s a b → Both (record s { device = dev; gone = [] }) b b
sync_both r v s dev is performs ok a b both =
    let new : Standing = record s { device = dev; gone = [] } in
    rests_told new b b (stored_of new).told refl (λ d' e.
    let from = ok_from r v a_sync s new is refl refl performs ok d' e in
    let d : Disk = from.0 in
    let rests = told_rests s d a b from.1 both in
    let all : List Entry = rests.entries ++ entries_of rests.more in
    record {
      info = rests.info;
      entries = all;
      more = None;
      durable = with_entry rests.more rests.durable;
      keeps = subst (λ (x : Disk). Keeps s.meta.geometry rests.info all None (with_entry rests.more rests.durable) x b b) (sym from.2)
          (sync_done s.meta.geometry rests.info rests.entries rests.more rests.durable d a b rests.keeps);
      newest = rests.newest;
      stands = subst (λ (es : List Entry). StandsBehind s.cursor rests.info es) (sym (append-nil all)) rests.stands;
      older = λ x k c of. inl (newest_held s x k is (subst (λ (m : Blocks). Contains (records_at s.meta.geometry m) x) rests.newest c) of);
    })

-- ---- a checkpoint

module _ (s : Standing) (is : IsStanding s) where
  abbrev next : Info
  next = info_at_cursor s.cursor

  abbrev in_place : List Event
  in_place = checkpoint_plan s.meta.geometry s.meta.blocks (info_at_cursor s.cursor)

  starts : (d : Disk) (a b : Map) (rests : RestsOn s d a b) → next.start ≡ slot_behind s.meta.geometry rests.info (rests.entries ++ entries_of rests.more)
  starts d a b rests = rests.stands.slot ∙ ap (λ (x : Geometry). slot_behind x rests.info (rests.entries ++ entries_of rests.more)) is.same

  place_stops : (d : Disk) (a b : Map) → RestsOn s d a b → Stops d in_place (HoldsEither a b)
  place_stops d a b rests =
      subst (λ (m : Blocks). Stops d (checkpoint_plan s.meta.geometry m next) (HoldsEither a b)) rests.newest
      (checkpoint_stops s.meta.geometry rests.info rests.entries rests.more rests.durable d a b rests.keeps next (starts d a b rests) rests.stands.number is.cursor.number.to_high)

  place_done : (d : Disk) (a b : Map) (rests : RestsOn s d a b) → Keeps s.meta.geometry next [] None s.meta.blocks (disk_with d in_place) b b
  place_done d a b rests =
      subst (λ (m : Blocks). Keeps s.meta.geometry next [] None m (disk_with d (checkpoint_plan s.meta.geometry m next)) b b) rests.newest
      (checkpoint_done s.meta.geometry rests.info rests.entries rests.more rests.durable d a b rests.keeps next (starts d a b rests) rests.stands.number is.cursor.number.to_high)

  abbrev pub PlaceGrows : {T E : Type 0} → Result T E → Disk → List Event → Type 0
  PlaceGrows r d more = SyncedAtOk r more × SameData s.meta.geometry d more × ((b : Map) → Both s b b → LeavesEither d more b b)

  ends_placed : {T E : Type 0} (x : Result T E) (more : List Event) → OnOk x (more ≡ in_place) → SyncedAtOk x more
  ends_placed (Ok v) more e = (
    a_sync ++ (writes 0 s.meta.blocks ++ (a_sync ++ a_write (info_at s.meta.geometry) (info_bytes next))),
    e ∙ ap (λ (p : List Event). device.Sync true ∷ p) (sym (append_assoc (writes 0 s.meta.blocks) (a_sync ++ a_write (info_at s.meta.geometry) (info_bytes next)) a_sync)),
  )
  ends_placed (Err x) more e = tt

  pub place_grows : {T E : Type 0} (r : Result T E) (new : Standing) → new.meta.geometry ≡ s.meta.geometry → new.opened ≡ s.opened → Performs r in_place s.device new.device → Grows (stored_of s).told (stored_of new).told (PlaceGrows r)
  place_grows r new geometry opened performs = run_grows r in_place s new is geometry opened performs (PlaceGrows r) (λ d more told f. (
    ends_placed r more (more_ok r d in_place more f),
    λ b. more_spares r d in_place more (block_at s.meta.geometry b) (checkpoint_spares s.meta.geometry is.lawful s.meta.blocks next is.count b) f,
    λ b both.
        let rests = told_rests s d b b told both in
        more_leaves r d in_place more (HoldsEither b b) (whole_checkpoint s.meta.geometry s.meta.blocks next) (place_stops d b b rests) f,
  ))

  emptied_stands : StandsBehind (emptied s.cursor) next []
  emptied_stands =
      let low : s.cursor.slot + 0 < ring_slots s.cursor.geometry = omega (arith, is.cursor.slot) in
      record {
        slot = sym (mod-eq_of_lt low ∙ omega arith);
        number = omega arith;
        room = omega arith;
      }

  pub place_both : {T E : Type 0} (r : Result T E) (v : T) (dev : Seen) → Performs r in_place s.device dev → r ≡ Ok v → (a b : Map) → Both s a b → Both (record s { device = dev; cursor = emptied s.cursor }) b b
  place_both r v dev performs ok a b both =
      let new : Standing = record s { device = dev; cursor = emptied s.cursor } in
      rests_told new b b (stored_of new).told refl (λ d' e.
      let from = ok_from r v in_place s new is refl refl performs ok d' e in
      let d : Disk = from.0 in
      let rests = told_rests s d a b from.1 both in
      record {
        info = next;
        entries = [];
        more = None;
        durable = s.meta.blocks;
        keeps = subst (λ (x : Disk). Keeps s.meta.geometry next [] None s.meta.blocks x b b) (sym from.2) (place_done d a b rests);
        newest = refl;
        stands = emptied_stands;
        older = λ x k c of. inl (newest_held s x k is c of);
      })

  pub place_settled : {T E : Type 0} (r : Result T E) (v : T) (new : Standing) → new.meta.geometry ≡ s.meta.geometry → new.opened ≡ s.opened → Performs r in_place s.device new.device → r ≡ Ok v → IfSome (stored_of new).told (λ d. IsSettled d.trace)
  place_settled r v new geometry opened performs ok =
      each (stored_of new).told (λ d' e.
      let from = ok_from r v in_place s new is geometry opened performs ok d' e in
      let first : List Event = a_sync ++ (writes 0 s.meta.blocks ++ (a_sync ++ a_write (info_at s.meta.geometry) (info_bytes next))) in
      let ends : in_place ≡ first ++ a_sync = ap (λ (p : List Event). device.Sync true ∷ p) (sym (append_assoc (writes 0 s.meta.blocks) (a_sync ++ a_write (info_at s.meta.geometry) (info_bytes next)) a_sync)) in
      let d : Disk = from.0 in
      let trace : d'.trace ≡ (d.trace ++ first) ++ a_sync = ap (λ (x : Disk). x.trace) from.2 ∙ ap (λ (p : List Event). d.trace ++ p) ends ∙ sym (append_assoc d.trace first a_sync) in
      subst (λ (t : List Event). IsSettled t) (sym trace) (IsSettled-push_sync (d.trace ++ first)))
    where
      each : (o : Option Disk) → ((d : Disk) → o ≡ Some d → IsSettled d.trace) → IfSome o (λ d. IsSettled d.trace)
      each None h = tt
      each (Some d) h = h d refl
