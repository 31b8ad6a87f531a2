-- The parts of an entry's call, joined.
use Rattle.std.proofs.Common.{◌≡◌, ◌≤◌, ℕ, List, [], ◌++◌, length, Bool, true, false, cond, leb, Option, Some, None, Result, Ok, Err, refl, ap, sym, ◌∙◌, subst}
use Rattle.std.specs.Prelude.{Contains, IfSome, IsErrAnd, OnErr, option_map}
use Rattle.spec_disk.specs.declared.event.Event.{Event}
use Rattle.spec_disk.specs.Disk.{Blocks}
use Rattle.spec_record.specs.declared.geometry.Geometry.{Geometry}
use Rattle.spec_record.specs.Geometry.{IsGeometry, meta_blocks, total_blocks}
use Rattle.spec_image.specs.WellFormed.{is_well_formed}
use Rattle.spec_meta.specs.Blocks.{metadata_at, patched}
use Rattle.spec_meta.proofs.ChangeLemmas.{changes_keep}
use Rattle.bv_device.specs.declared.failed.Failed.{Failed}
use Rattle.bv_device.proofs.PlanLemmas.{IsPlan-append}
use Rattle.bv_device.specs.Plan.{IsPlan, a_sync}
use Rattle.bv_device.specs.Reads.{ReadsRight}
use Rattle.bv_device.specs.Seen.{Seen, Performs}
use Rattle.bv_device.proofs.SeenLemmas.{Performs-append, Performs-stopped}
use Rattle.bv_journal.specs.Plans.{checkpoint_plan, ring_writes}
use Rattle.bv_ring.specs.Cursor.{Cursor, emptied, info_at_cursor}
use Rattle.bv_journaled.specs.declared.prepared.Prepared.{Prepared}
use Rattle.bv_txn.specs.declared.change.Change.{Change}
use Rattle.bv_txn.specs.Metas.{MetaBlocks}
use Rattle.bv_journaled.specs.Standing.{Standing, stored_of, placed_at, freed_by, IsStanding, IsPrepared}
use Rattle.bv_journaled.specs.Entering.{room_plan, with_room, entry_plan, StopsShort}
use Rattle.bv_journaled.proofs.PatchLemmas.{length-patched}
use Rattle.bv_journaled.specs.Since.{since}
use Rattle.bv_journaled.proofs.RightLemmas.{long_enough, right_all, right_synced}
use Rattle.bv_journaled.proofs.StopLemmas.{ring_plan, whole_checkpoint}

abbrev Answer : Type 0
Answer = Result Unit Failed

abbrev Did : Answer → List Event → Seen → Seen → Type 0
Did r plan old new = Performs {T = Unit {0}} {E = Failed} r plan old new

ring_same : (c : Cursor) (n : ℕ) (blocks : Blocks) → ring_writes (with_room c n).geometry (with_room c n).slot blocks ≡ ring_writes c.geometry c.slot blocks
ring_same c n blocks = each (leb n c.room)
  where
    each : (t : Bool) → ring_writes (cond t c (emptied c)).geometry (cond t c (emptied c)).slot blocks ≡ ring_writes c.geometry c.slot blocks
    each true = refl
    each false = refl

module _ (s s1 : Standing) (blocks : Blocks) (e1 : s1 ≡ record s { device = s1.device; gone = [] }) (p1 : Did (Ok tt) a_sync s.device s1.device) where
  abbrev room : List Event
  room = room_plan s.meta.geometry s.cursor s.meta.blocks (length blocks)

  abbrev ring : List Event
  ring = ring_writes s.cursor.geometry s.cursor.slot blocks

  room_is : room_plan s1.meta.geometry s1.cursor s1.meta.blocks (length blocks) ≡ room
  room_is = ap (λ (x : Standing). room_plan x.meta.geometry x.cursor x.meta.blocks (length blocks)) e1

  pub all_performs : (r : Answer) (s2 : Standing) (new : Seen) → s2 ≡ record s1 { device = s2.device; cursor = with_room s1.cursor (length blocks) }
      → Did (Ok tt) (room_plan s1.meta.geometry s1.cursor s1.meta.blocks (length blocks)) s1.device s2.device
      → Did r (ring_writes s2.cursor.geometry s2.cursor.slot blocks) s2.device new
      → Did r (entry_plan s.meta.geometry s.cursor s.meta.blocks blocks) s.device new
  all_performs r s2 new e2 p2 p3 =
      let ring_is : ring_writes s2.cursor.geometry s2.cursor.slot blocks ≡ ring =
      ap (λ (x : Standing). ring_writes x.cursor.geometry x.cursor.slot blocks) e2 ∙ ring_same s1.cursor (length blocks) blocks ∙ ap (λ (x : Standing). ring_writes x.cursor.geometry x.cursor.slot blocks) e1 in
      let p2' : Did (Ok tt) room s1.device s2.device = subst (λ (p : List Event). Did (Ok tt) p s1.device s2.device) room_is p2 in
      let p3' : Did r ring s2.device new = subst (λ (p : List Event). Did r p s2.device new) ring_is p3 in
      Performs-append {T = Unit {0}} {U = Unit {0}} {E = Failed} {F = Failed} r tt a_sync (room ++ ring) s.device s1.device new p1
      (Performs-append {T = Unit {0}} {U = Unit {0}} {E = Failed} {F = Failed} r tt room ring s1.device s2.device new p2' p3')

  pub room_stops : (r : Answer) (x : Failed) (new : Seen) → Did (Err x) (room_plan s1.meta.geometry s1.cursor s1.meta.blocks (length blocks)) s1.device new → IsErrAnd r (λ y. y ≡ x)
      → Did r (entry_plan s.meta.geometry s.cursor s.meta.blocks blocks) s.device new
  room_stops r x new p2 handed =
      let p2' : Did (Err x) room s1.device new = subst (λ (p : List Event). Did (Err x) p s1.device new) room_is p2 in
      Performs-append {T = Unit {0}} {U = Unit {0}} {E = Failed} {F = Failed} r tt a_sync (room ++ ring) s.device s1.device new p1
      (Performs-stopped {T = Unit {0}} {U = Unit {0}} {E = Failed} r x room ring s1.device new p2' handed)

-- what a prepared entry makes is well formed
pub made_formed : (s : Standing) (p : Prepared) → IsStanding s → IsPrepared s.meta.geometry s.meta.blocks s.cursor.number p → is_well_formed (metadata_at s.meta.geometry (patched p.entry.targets s.meta.blocks)) ≡ true
made_formed s p is prep = ap is_well_formed prep.plans.says ∙ changes_keep (metadata_at s.meta.geometry s.meta.blocks) prep.changes is.formed prep.fit

pub prepared_of : (s : Standing) (o : Option Prepared) (p : Prepared) → IsStanding s → o ≡ s.planned → o ≡ Some p → IsPrepared s.meta.geometry s.meta.blocks s.cursor.number p
prepared_of s o p is same some = subst (λ (x : Option Prepared). IfSome x (IsPrepared s.meta.geometry s.meta.blocks s.cursor.number)) (sym same ∙ some) is.prepared

-- the changes of an entry in memory
pub entered : (s : Standing) (meta : MetaBlocks) (targets : List (ℕ × List ℕ)) (gone : List Change) → IsStanding s → s.planned ≡ None
    → is_well_formed (metadata_at s.meta.geometry (patched targets s.meta.blocks)) ≡ true → meta.geometry ≡ s.meta.geometry → meta.blocks ≡ patched targets s.meta.blocks
    → IfSome (stored_of s).told ReadsRight → IsStanding (record s { meta = meta; gone = gone })
entered s meta targets gone is none formed geometry blocks right = record {
  lawful = subst IsGeometry (sym geometry) is.lawful;
  cursor = is.cursor;
  same = is.same ∙ sym geometry;
  total = subst (λ (g : Geometry). total_blocks g ≤ s.device.block_count) (sym geometry) is.total;
  count = ap (length {A = List ℕ}) blocks ∙ length-patched targets s.meta.blocks ∙ is.count ∙ ap meta_blocks (sym geometry);
  formed = (λ i. is_well_formed (metadata_at (geometry i) (blocks i))) ∙ formed;
  opened = is.opened;
  told = is.told;
  prepared = subst (λ (o : Option Prepared). IfSome o (IsPrepared meta.geometry meta.blocks s.cursor.number)) (sym none) tt;
  right = right_all meta.geometry (placed_at meta.geometry meta.blocks) (stored_of s).told right;
}

-- a failure leaves what it left of the store without its plan
pub stops_from : (r : Answer) (s t new : Standing) → t ≡ record s { planned = None } → StopsShort t new → OnErr r (StopsShort s new)
stops_from (Ok v) s t new e h = tt
stops_from (Err x) s t new e h = record {
  opened = h.opened ∙ ap (λ (y : Standing). y.opened) e;
  meta = h.meta ∙ ap (λ (y : Standing). y.meta) e;
  gone = λ b c. subst (λ (y : Standing). Contains (freed_by y.gone) b) e (h.gone b c);
}

-- after an entry's call that was Ok every block reads right: it began with a sync
pub entry_right : (t w : Standing) (blocks : Blocks) → IsStanding t → w.opened ≡ t.opened → Did (Ok tt) (entry_plan t.meta.geometry t.cursor t.meta.blocks blocks) t.device w.device → IfSome (stored_of w).told ReadsRight
entry_right t w blocks is opened did =
    let room : List Event = room_plan t.meta.geometry t.cursor t.meta.blocks (length blocks) in
    let ring : List Event = ring_writes t.cursor.geometry t.cursor.slot blocks in
    let ok : Answer = Ok tt in
    subst (λ (n : ℕ). IfSome (option_map (since n) w.device.told) ReadsRight) (sym opened)
    (right_synced ok tt (room ++ ring) t.opened t.device.told w.device.told (long_enough t.device.told t.opened t.device.calls_made is.opened is.told)
    (IsPlan-append room ring (planned (leb (length blocks) t.cursor.room)) (ring_plan t.cursor.geometry t.cursor.slot blocks)) did.plan refl)
  where
    planned : (b : Bool) → IsPlan (cond b [] (checkpoint_plan t.meta.geometry t.meta.blocks (info_at_cursor t.cursor)))
    planned true = tt
    planned false = whole_checkpoint t.meta.geometry t.meta.blocks (info_at_cursor t.cursor)
