-- Whatever a stop of a recovery leaves has the blobs that were there.
use Rattle.std.proofs.Common.{◌≡◌, ◌≤◌, ◌^◌, ◌⊎◌, inl, inr, ℕ, ◌+◌, ◌%◌, List, [], ◌++◌, length, take, Bool, true, false, cond, Option, None, Result, Ok, Err, IfSome, refl, ap, sym, ◌∙◌, subst, arith}
use Rattle.std.proofs.lemmas.List.{append_assoc, append-nil}
use Rattle.std.specs.Option.{is_some}
use Rattle.spec_disk.specs.declared.event.Event.{Event}
use Rattle.spec_disk.specs.Disk.{Blocks, block, now_after, synced_after}
use Rattle.spec_disk.specs.Images.{IsImage, IsSettled}
use Rattle.spec_disk.proofs.ImageLemmas.{image-now, image-settled, IsSettled-push_sync}
use Rattle.spec_record.specs.declared.geometry.Geometry.{Geometry}
use Rattle.spec_record.specs.declared.info.Info.{Info}
use Rattle.spec_record.specs.Geometry.{info_at, meta_blocks, ring_in, block_at, total_blocks}
use Rattle.spec_record.specs.Info.{info_bytes}
use Rattle.spec_record.specs.Entry.{Entry}
use Rattle.spec_image.specs.After.{payloads_of, after}
use Rattle.spec_image.specs.Leaves.{Leaves}
use Rattle.spec_image.specs.Journal.{journal_of}
use Rattle.spec_image.specs.Metadata.{Metadata}
use Rattle.spec_image.specs.Replay.{slots_of_all}
use Rattle.spec_image.specs.Volume.{metadata_of}
use Rattle.spec_image.proofs.SameLemmas.{length-whole_ring}
use Rattle.bv_device.specs.Told.{Disk, disk_with}
use Rattle.bv_device.specs.Plan.{a_write, a_sync}
use Rattle.bv_journal.specs.Holds.{HoldsMeta}
use Rattle.bv_journal.specs.Plans.{info_plan, in_place, scrub, is_clean, recovery, recover_plan}
use Rattle.bv_journal.specs.Rests.{IsHead, Journalled, Opened, AtRest, slot_behind, number_behind}
use Rattle.bv_journal.specs.Stops.{Stops}
use Rattle.bv_journal.proofs.HoldLemmas.{head_geometry, info_read}
use Rattle.bv_journal.proofs.MapLemmas.{metadata_alike, blobs_alike}
use Rattle.bv_journal.proofs.RecoveryLemmas.{recover-stops, recover-done}
use Rattle.spec_inspect.specs.declared.mount_fault.MountFault.{MountFault}
use Rattle.spec_inspect.specs.Faults.{◌>>=◌}
use Rattle.spec_inspect.specs.Readable.{Readable}
use Rattle.spec_inspect.specs.Laws.{HasVolume, HasNone}
use Rattle.spec_inspect.proofs.OutcomeLemmas.{inspected}
use Rattle.spec_inspect.specs.Inspection.{Inspection, inspection_of, readable_well, inspect_of}
use Rattle.bv_mount.specs.declared.inspected.Inspected.{Inspected}
use Rattle.bv_mount.specs.Opens.{IsSpelled}
use Rattle.bv_mount.specs.Inspects.{inspection, IsInspected}
use Rattle.bv_mount.specs.Recovers.{plan_for, next_for, HasBlobsOf}
use Rattle.bv_mount.proofs.StayLemmas.{AllBelow, below-append, below-take, below-in_place, below-scrub, below-unwritten, block_stays, whole_same}

head_of : (g : Geometry) (bytes : List ℕ) → IsSpelled g bytes → IsHead g bytes
head_of g bytes s = record { super = _; lawful = s.lawful; geometry = refl; bytes_are = s.bytes_are }

ok_same : (a b : Inspection) (r : Result Inspection MountFault) → r ≡ Ok a → r ≡ Ok b → a ≡ b
ok_same a b r e f = cc

inspected_after : (j : Blocks) (x : Inspection) (r : Result Readable MountFault) → (r >>= λ o. Ok (inspection_of j o)) ≡ Ok x → after x.geometry j ≡ x.meta
inspected_after j x (Err f) e = absurd cc
inspected_after j x (Ok o) e = subst (λ (y : Inspection). after y.geometry j ≡ y.meta) (ok_same (inspection_of j o) x (Ok (inspection_of j o)) refl e) refl

-- a plan that does something ends with a sync
plan_ends : (g : Geometry) (entries : List Entry) (stale : List ℕ) (n : Info) → (front : List Event) × (recovery g entries stale n ≡ front ++ a_sync)
plan_ends g entries stale n =
    let a : List Event = in_place (payloads_of entries) 0 (meta_blocks g) in
    let b : List Event = scrub g stale in
    let w : List Event = a_write (info_at g) (info_bytes n) in (
      a ++ (a_sync ++ (b ++ (a_sync ++ w))),
      sym (append_assoc a (a_sync ++ (b ++ (a_sync ++ w))) a_sync ∙ ap (λ (r : List Event). a ++ (a_sync ++ r)) (append_assoc b (a_sync ++ w) a_sync)),
    )

-- so a settled disk is settled at its end
pub plan_settles : (trace : List Event) (x : Inspection) → IsSettled trace → IsSettled (trace ++ plan_for x)
plan_settles trace x settled = by_clean (is_clean x.replay.entries x.replay.stale) where
  by_clean : (t : Bool) → IsSettled (trace ++ cond t [] (recovery x.geometry x.replay.entries x.replay.stale (next_for x)))
  by_clean true = subst IsSettled (sym (append-nil trace)) settled
  by_clean false =
      let ends = plan_ends x.geometry x.replay.entries x.replay.stale (next_for x) in
      subst IsSettled (append_assoc trace ends.0 a_sync ∙ ap (λ (p : List Event). trace ++ p) (sym ends.1)) (IsSettled-push_sync (trace ++ ends.0))

-- the metadata of an inspected image is of the geometry that was found
pub meta_geometry : (j : Blocks) (x : Inspection) → inspect_of j ≡ Ok x → HasVolume j ⊎ HasNone j → IfSome (metadata_of j) (λ m. m.super.geometry ≡ x.geometry)
meta_geometry j x e (inl v) =
    subst (λ (o : Option Metadata). IfSome o (λ m. m.super.geometry ≡ x.geometry)) (sym v.metadata)
    (ap (λ (y : Inspection). y.geometry) (ok_same (inspection_of j v.found) x (inspect_of j) (inspected j (Ok v.found) v.well) e))
meta_geometry j x e (inr n) = subst (λ (o : Option Metadata). IfSome o (λ m. m.super.geometry ≡ x.geometry)) (sym n.metadata) tt

module _ (i : Inspected) (base : Blocks) (is : IsInspected base i) (room : total_blocks i.geometry ≤ length base) where
  abbrev g : Geometry
  g = i.geometry

  abbrev es : List Entry
  es = i.replay.entries.items

  abbrev meta : Blocks
  meta = i.meta.blocks

  abbrev info : Info
  info = is.replay.info

  abbrev next : Info
  next = next_for (inspection i)

  abbrev d : Disk
  d = record { base = base; trace = [] }

  after_meta : after g base ≡ meta
  after_meta = inspected_after base (inspection i) (readable_well base) is.is

  journalled : Journalled g info es meta base
  journalled = record {
    lawful = i.lawful.limits;
    room = room;
    head = head_of g (block base 0) is.head;
    info = is.replay.spelled;
    entries = sym is.replay.entries;
    after = after_meta;
    meta_head = head_of g (block meta 0) i.lawful.left;
  }

  opened : Opened g info es meta d
  opened = record { durable = journalled; quiet = λ b lt. refl; last = λ s lt. refl }

  start_is : next.start ≡ slot_behind g info es
  unfolding journal_of
  start_is =
      is.replay.slot
      ∙ ap (λ (l : List Entry). (info.start + slots_of_all l) % length (ring_in g base)) (sym is.replay.entries)
      ∙ ap (λ (n : ℕ). (info.start + slots_of_all es) % n) (length-whole_ring g base room)

  number_is : next.number ≡ number_behind info es
  number_is = is.replay.number ∙ ap (λ (l : List Entry). info.number + length l) (sym is.replay.entries)

  most : next.number ≤ 2 ^ 62
  most = i.lawful.within.number.to_high

  meta_stops : Stops d (plan_for (inspection i)) (HoldsMeta g meta)
  meta_stops =
      subst (λ (stale : List ℕ). Stops d (recover_plan g es stale next) (HoldsMeta g meta)) (sym is.replay.stale)
      (recover-stops g info next es meta d opened start_is number_is most)

  holds_now : HoldsMeta g meta base
  holds_now = record {
    geometry = head_geometry g base (head_of g (block base 0) is.head) room;
    read = ap is_some (info_read g info base i.lawful.limits is.replay.spelled);
    after = after_meta;
  }

  -- ---- the plan writes to metadata and journal alone

  below_info : AllBelow (block_at g 0) (info_plan g next)
  below_info = (omega (arith, i.lawful.limits.journal.from_low), tt)

  below_recovery : AllBelow (block_at g 0) (recovery g es i.replay.stale.items next)
  below_recovery =
      below-append (block_at g 0) (in_place (payloads_of es) 0 (meta_blocks g)) (a_sync ++ (scrub g i.replay.stale.items ++ (a_sync ++ info_plan g next)))
      (below-in_place (block_at g 0) (payloads_of es) 0 (meta_blocks g) (omega arith))
      (below-append (block_at g 0) (scrub g i.replay.stale.items) (a_sync ++ info_plan g next) (below-scrub g i.replay.stale.items i.lawful.within.stale) below_info)

  below_plan : AllBelow (block_at g 0) (plan_for (inspection i))
  below_plan = by_clean (is_clean es i.replay.stale.items) where
    by_clean : (t : Bool) → AllBelow (block_at g 0) (cond t [] (recovery g es i.replay.stale.items next))
    by_clean true = tt
    by_clean false = below_recovery

  data_stays : (k : ℕ) (j : Blocks) → IsImage base (take k (plan_for (inspection i))) j → (b : ℕ) → block_at g 0 ≤ b → block j b ≡ block base b
  data_stays k j image b le =
      block_stays base (take k (plan_for (inspection i))) j b image
      (below-unwritten (block_at g 0) b (take k (plan_for (inspection i))) le (below-take (block_at g 0) k (plan_for (inspection i)) below_plan))

  -- a stop of the plan leaves the blobs
  pub plan_keeps : IfSome (metadata_of base) (λ m. m.super.geometry ≡ i.geometry) → (k : ℕ) → k ≤ length (plan_for (inspection i)) → Leaves base (take k (plan_for (inspection i))) (HasBlobsOf base)
  plan_keeps geometry k le j image fair =
      let holds : HoldsMeta g meta j = meta_stops k le j image fair in
      record {
        map = blobs_alike g meta j base holds holds_now;
        whole = λ root whole. whole_same g base j root (metadata_of base) refl (metadata_alike g meta j base holds holds_now) geometry (data_stays k j image) whole;
      }

  -- at its end the journal is empty and at rest
  pub plan_rests : AtRest i.geometry (next_for (inspection i)) [] None i.meta.blocks (record { base = base; trace = plan_for (inspection i) })
  plan_rests =
      subst (λ (stale : List ℕ). AtRest g next [] None meta (disk_with d (recover_plan g es stale next))) (sym is.replay.stale)
      (recover-done g info next es meta d opened start_is number_is most)

  abbrev end : Blocks
  end = now_after base (plan_for (inspection i))

  -- which is what Now has then
  pub plan_durable : Journalled i.geometry (next_for (inspection i)) [] i.meta.blocks (now_after base (plan_for (inspection i)))
  plan_durable =
      let synced_is : end ≡ synced_after base (plan_for (inspection i)) = image-settled base (plan_for (inspection i)) end (plan_settles [] (inspection i) (λ b. refl)) (image-now base (plan_for (inspection i))) in
      subst (λ (x : Blocks). Journalled g next [] meta x) (sym synced_is) plan_rests.rests.durable

  -- Now at its end has the blobs
  pub plan_now : IfSome (metadata_of base) (λ m. m.super.geometry ≡ i.geometry) → HasBlobsOf base (now_after base (plan_for (inspection i)))
  plan_now geometry =
      let p : List Event = plan_for (inspection i) in
      let durable = plan_durable in
      let holds : HoldsMeta g meta end = record {
        geometry = head_geometry g end durable.head durable.room;
        read = ap is_some (info_read g next end durable.lawful durable.info);
        after = durable.after;
      } in
      record {
        map = blobs_alike g meta end base holds holds_now;
        whole = λ root whole. whole_same g base end root (metadata_of base) refl (metadata_alike g meta end base holds holds_now) geometry
            (λ b le. block_stays base p end b (image-now base p) (below-unwritten (block_at g 0) b p le below_plan)) whole;
      }
