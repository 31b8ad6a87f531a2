-- What the disk shows after a call that failed: the map of the metadata in memory, as before it.
use Rattle.std.proofs.Common.{◌≡◌, ◌<◌, ◌≤◌, ℕ, zero, suc, ◌+◌, ◌-◌, List, [], ◌∷◌, ◌++◌, length, take, Bool, true, false, cond, leb, Option, Some, None, Result, Ok, Err, refl, ap, sym, ◌∙◌, subst, inl, inr, arith, length-append}
use Rattle.std.proofs.lemmas.Bool.{cases_lt}
use Rattle.std.proofs.lemmas.List.{take-append-le}
use Rattle.std.proofs.Math.Seq.{take-append-add}
use Rattle.std.specs.Prelude.{IfSome, OnErr}
use Rattle.spec_tree.specs.declared.Digest.{Digest}
use Rattle.spec_disk.specs.declared.event.Event.{Event}
use Rattle.spec_disk.specs.Disk.{Blocks, now_after}
use Rattle.spec_disk.proofs.EventLemmas.{now_after-append}
use Rattle.spec_record.specs.declared.geometry.Geometry.{Geometry}
use Rattle.spec_record.specs.EntryBlocks.{entry_blocks}
use Rattle.spec_rest.specs.Rest.{Map}
use Rattle.bv_device.specs.Told.{Disk, disk_with, now_of}
use Rattle.bv_device.specs.Plan.{a_sync, Follows}
use Rattle.bv_device.specs.Seen.{Performs}
use Rattle.bv_journal.specs.Holds.{HoldsMeta, entries_of}
use Rattle.bv_journal.specs.Plans.{ring_writes, checkpoint_plan}
use Rattle.bv_journal.specs.Rests.{slot_behind}
use Rattle.bv_journal.proofs.DiskLemmas.{now-sync}
use Rattle.bv_journal.proofs.MapLemmas.{metadata_alike}
use Rattle.bv_ring.specs.Cursor.{info_at_cursor}
use Rattle.bv_store.specs.Shown.{HasRecords}
use Rattle.bv_store.specs.Stored.{Entry as Asked, Grows, IsThere, HasBlob, blocks_on}
use Rattle.bv_txn.specs.Metas.{MetaBlocks}
use Rattle.bv_journaled.specs.declared.prepared.Prepared.{Prepared}
use Rattle.bv_journaled.specs.Entering.{entry_plan, StopsShort}
use Rattle.bv_journaled.specs.Standing.{Standing, placed_at, stored_of, IsStanding, IsPrepared, RestsOn, Both}
use Rattle.bv_journaled.specs.StoreLaws.{shows_newest}
use Rattle.bv_journaled.proofs.CommitLemmas.{entry_in_ring, entry_next, roomy}
use Rattle.bv_journaled.proofs.CommitRows.{Done, after}
use Rattle.bv_journaled.proofs.RowLemmas.{run_grows, told_rests, either}
use Rattle.bv_journaled.proofs.StoppedLemmas.{cut_now, now_whole, checkpoint_now, append_now, length-ring_writes}

-- ---- any call

-- images with the same metadata once replayed show the same
records_same : (g : Geometry) (meta x y : Blocks) (placed : List (Digest × List ℕ)) (b : Map) → HoldsMeta g meta x → HoldsMeta g meta y → HasRecords g placed b x → HasRecords g placed b y
records_same g meta x y placed b at_x at_y h = record {
  metadata = h.metadata;
  is = metadata_alike g meta y x at_y at_x ∙ h.is;
  same = h.same;
  geometry = h.geometry;
  lie = h.lie;
}

on_err : {T E : Type 0} (r : Result T E) (P : Type 0) → ((x : E) → r ≡ Err x → P) → OnErr r P
on_err (Ok v) P h = tt
on_err (Err x) P h = h x refl

grown_now : (old new : Option Disk) (Q : Blocks → Type 0) → Grows old new (λ d more. Q (now_of (disk_with d more))) → IfSome new (λ d. Q (now_of d))
grown_now None new Q grows = subst (λ (o : Option Disk). IfSome o (λ d. Q (now_of d))) (sym grows) tt
grown_now (Some d) new Q grows = subst (λ (o : Option Disk). IfSome o (λ x. Q (now_of x))) (sym grows.1) grows.2

-- what reads give holds the metadata in memory
memory_now : (s : Standing) (d : Disk) (a b : Map) → RestsOn s d a b → HoldsMeta s.meta.geometry s.meta.blocks (now_of d)
memory_now s d a b rests =
    subst (λ (m : Blocks). HoldsMeta s.meta.geometry m (now_of d)) rests.newest (now_whole s.meta.geometry rests.info rests.entries rests.more rests.durable d rests.keeps.journal)

-- so it does after some events of the plan, but not all
abbrev pub StaysShort : Standing → List Event → Disk → Type 0
StaysShort s plan d = (k : ℕ) → k < length plan → HoldsMeta s.meta.geometry s.meta.blocks (now_after (now_of d) (take k plan))

pub shown_failed : {T E : Type 0} (r : Result T E) (plan : List Event) (s new : Standing) → IsStanding s → new.meta.geometry ≡ s.meta.geometry → new.opened ≡ s.opened → Performs r plan s.device new.device
    → ((d : Disk) (a b : Map) → (stored_of s).told ≡ Some d → RestsOn s d a b → StaysShort s plan d)
    → OnErr r ((a b : Map) → Both s a b → IfSome (stored_of new).told (λ d. HasRecords (stored_of s).geometry (stored_of s).placed b (now_of d)))
shown_failed {T} {E} r plan s new is geometry opened performs stays = on_err r _ (λ x err a b both.
    let g : Geometry = s.meta.geometry in
    let placed : List (Digest × List ℕ) = placed_at s.meta.geometry s.meta.blocks in
    let Q : Blocks → Type 0 = HasRecords g placed b in
    grown_now (stored_of s).told (stored_of new).told Q
    (run_grows r plan s new is geometry opened performs (λ d more. Q (now_of (disk_with d more))) (λ d more told f.
    let rests = told_rests s d a b told both in
    let cut = cut_now plan d (disk_with d more) (subst (λ (y : Result T E). Follows y plan (Some d) (Some (disk_with d more))) err f) in
    let before : HasRecords g placed b (now_of d) = subst (λ (o : Option Disk). IfSome o (λ y. HasRecords g placed b (now_of y))) told (shows_newest s a b both) in
    let after : HoldsMeta g s.meta.blocks (now_of (disk_with d more)) = subst (HoldsMeta g s.meta.blocks) (sym cut.2) (stays d a b told rests cut.0 cut.1) in
    records_same g s.meta.blocks (now_of d) (now_of (disk_with d more)) placed b (memory_now s d a b rests) after before)))

-- ---- a put or a sync

-- of one event none came
pub one_short : (s : Standing) (e : Event) (d : Disk) (a b : Map) → RestsOn s d a b → StaysShort s (e ∷ []) d
one_short s e d a b rests zero lt = memory_now s d a b rests
one_short s e d a b rests (suc k) lt = absurd (omega (arith, lt))

-- ---- a checkpoint

module _ (s : Standing) (is : IsStanding s) where
  place_upto : (d : Disk) (a b : Map) → RestsOn s d a b → (k : ℕ) → k ≤ length (checkpoint_plan s.meta.geometry s.meta.blocks (info_at_cursor s.cursor))
      → HoldsMeta s.meta.geometry s.meta.blocks (now_after (now_of d) (take k (checkpoint_plan s.meta.geometry s.meta.blocks (info_at_cursor s.cursor))))
  place_upto d a b rests =
      subst (λ (m : Blocks). (k : ℕ) → k ≤ length (checkpoint_plan s.meta.geometry m (info_at_cursor s.cursor)) → HoldsMeta s.meta.geometry m (now_after (now_of d) (take k (checkpoint_plan s.meta.geometry m (info_at_cursor s.cursor))))) rests.newest
      (checkpoint_now s.meta.geometry rests.info rests.entries rests.more rests.durable d rests.keeps.journal (info_at_cursor s.cursor)
      (rests.stands.slot ∙ ap (λ (x : Geometry). slot_behind x rests.info (rests.entries ++ entries_of rests.more)) is.same) rests.stands.number is.cursor.number.to_high)

  pub place_short : (d : Disk) (a b : Map) → RestsOn s d a b → StaysShort s (checkpoint_plan s.meta.geometry s.meta.blocks (info_at_cursor s.cursor)) d
  place_short d a b rests k lt = place_upto d a b rests k (omega (arith, lt))

-- ---- an entry

module _ (s : Standing) (is : IsStanding s) (p : Prepared) (prep : IsPrepared s.meta.geometry s.meta.blocks s.cursor.number p)
    (d : Disk) (a b : Map) (rests : RestsOn s d a b) (there : IfSome p.published (λ q. HasBlob q.root q.blob (blocks_on s.meta.geometry d q.blocks.items))) where
  abbrev g : Geometry
  g = s.meta.geometry

  abbrev meta : Blocks
  meta = s.meta.blocks

  abbrev n : ℕ
  n = length p.blocks.items

  -- room for it, where there is none
  abbrev a_room : Bool → List Event
  a_room t = cond t [] (checkpoint_plan s.meta.geometry s.meta.blocks (info_at_cursor s.cursor))

  abbrev room : List Event
  room = a_room (leb n s.cursor.room)

  abbrev blocks_plan : List Event
  blocks_plan = ring_writes s.cursor.geometry s.cursor.slot p.blocks.items

  abbrev ready : Disk
  ready = disk_with (disk_with d a_sync) room

  room_now : (t : Bool) (k : ℕ) → k ≤ length (a_room t) → HoldsMeta g meta (now_after (now_of d) (take k (a_room t)))
  room_now true zero le = memory_now s d a b rests
  room_now true (suc k) le = absurd (omega (arith, le))
  room_now false k le = place_upto s is d a b rests k le

  ready_now : now_of ready ≡ now_after (now_of d) room
  ready_now = now_after-append d.base (d.trace ++ a_sync) room ∙ ap (λ (x : Blocks). now_after x room) (now-sync d)

  -- a first part of its blocks makes no entry
  part_now : (m : ℕ) → m < length blocks_plan → HoldsMeta g meta (now_after (now_of d) (room ++ take m blocks_plan))
  part_now m lt =
      let way = roomy s is p prep d a b rests there in
      let is_plan = entry_in_ring s is p prep d a b rests there in
      let slot : ℕ = slot_behind g way.info way.entries in
      let few : m < length (entry_blocks p.entry) = omega (arith, lt, ap (λ (q : List Event). length q) is_plan, length-ring_writes g slot (entry_blocks p.entry)) in
      let part : HoldsMeta g meta (now_after (now_of ready) (take m (ring_writes g slot (entry_blocks p.entry)))) =
      append_now g way.info way.entries meta ready p.entry way.keeps.journal (entry_next s is p prep d a b rests there) m few in
      subst (HoldsMeta g meta) (ap (λ (q : List Event). now_after (now_of ready) (take m q)) is_plan ∙ ap (λ (x : Blocks). now_after x (take m blocks_plan)) ready_now ∙ sym (now_after-append (now_of d) room (take m blocks_plan))) part

  behind_sync : (k : ℕ) → k < length (room ++ blocks_plan) → HoldsMeta g meta (now_after (now_of d) (take k (room ++ blocks_plan)))
  behind_sync k lt =
      elim (cases_lt (length room) k) [
        | inl far ↦
            let m : ℕ = k - length room in
            let k_is : length room + m ≡ k = omega (arith, far) in
            let parts : room ++ take m blocks_plan ≡ take k (room ++ blocks_plan) = sym (take-append-add room blocks_plan m) ∙ ap (λ (x : ℕ). take x (room ++ blocks_plan)) k_is in
            subst (λ (q : List Event). HoldsMeta g meta (now_after (now_of d) q)) parts (part_now m (omega (arith, lt, length-append room blocks_plan, far)))
        | inr near ↦
            subst (λ (q : List Event). HoldsMeta g meta (now_after (now_of d) q)) (sym (take-append-le k room blocks_plan near)) (room_now (leb n s.cursor.room) k near)
      ]

  pub entry_short : StaysShort s (a_sync ++ (room ++ blocks_plan)) d
  entry_short zero lt = memory_now s d a b rests
  entry_short (suc k) lt = behind_sync k (omega (arith, lt))

module _ {T E : Type 0} (r : Result T E) (s new : Standing) (e : Asked) (c : Done r s new e) where
  same_geometry : new.meta.geometry ≡ s.meta.geometry
  same_geometry =
      either r (new ≡ after s c.is c.p c.prep new.device) (StopsShort s new) (new.meta.geometry ≡ s.meta.geometry) c.ok c.err (λ h. ap (λ (x : Standing). x.meta.geometry) h) (λ h. ap (λ (x : MetaBlocks). x.geometry) h.meta)

  same_opened : new.opened ≡ s.opened
  same_opened = either r (new ≡ after s c.is c.p c.prep new.device) (StopsShort s new) (new.opened ≡ s.opened) c.ok c.err (λ h. ap (λ (x : Standing). x.opened) h) (λ h. h.opened)

  there_on : (d : Disk) → (stored_of s).told ≡ Some d → IsThere s.meta.geometry (stored_of s).told e.published → IfSome c.p.published (λ q. HasBlob q.root q.blob (blocks_on s.meta.geometry d q.blocks.items))
  there_on d told has =
      subst (λ (x : Asked). IfSome x.published (λ q. HasBlob q.root q.blob (blocks_on s.meta.geometry d q.blocks.items))) (sym c.asks)
      (subst (λ (o : Option Disk). IsThere s.meta.geometry o e.published) told has)

  pub done_shown : IsThere s.meta.geometry (stored_of s).told e.published
      → OnErr r ((a b : Map) → Both s a b → IfSome (stored_of new).told (λ d. HasRecords (stored_of s).geometry (stored_of s).placed b (now_of d)))
  done_shown has =
      shown_failed r (entry_plan s.meta.geometry s.cursor s.meta.blocks c.p.blocks.items) s new c.is same_geometry same_opened c.performs
      (λ d a b told rests. entry_short s c.is c.p c.prep d a b rests (there_on d told has))
