-- What a recovery leaves a mount with: the theorem of stops, and a store that can go on.
use Rattle.std.proofs.Common.{◌≡◌, ◌<◌, ◌≤◌, ◌⊎◌, ℕ, suc, ◌+◌, ◌%◌, [], ◌∷◌, length, map, get_or, Bool, true, false, cond, Option, Some, None, Result, Ok, Err, refl, ap, sym, ◌∙◌, subst, inl, inr, arith}
use Rattle.std.specs.Prelude.{All, Contains, option_map}
use Rattle.std.proofs.Math.Nat.{mod-eq_of_lt}
use Rattle.std.specs.BTreeMap.{is_at}
use Rattle.std.specs.Map.{lookup}
use Rattle.spec_tree.specs.declared.Digest.{Digest}
use Rattle.spec_tree.specs.declared.blob.Blob.{Blob}
use Rattle.spec_tree.specs.Order.{digest_cmp}
use Rattle.spec_tree.specs.Tree.{root_of}
use Rattle.spec_disk.specs.Disk.{Blocks}
use Rattle.spec_record.specs.declared.geometry.Geometry.{Geometry}
use Rattle.spec_record.specs.Geometry.{IsGeometry, ring_slots, total_blocks}
use Rattle.spec_image.specs.Blobs.{value_of, blob_map}
use Rattle.spec_image.specs.Chain.{BlobRecord}
use Rattle.spec_image.specs.Metadata.{Metadata}
use Rattle.spec_image.specs.Replay.{slots_of_all}
use Rattle.spec_image.specs.Stored.{bytes_in}
use Rattle.spec_image.specs.Volume.{metadata_of, blobs, IsWhole}
use Rattle.spec_image.specs.WellFormed.{records_of}
use Rattle.spec_image.proofs.SoundLemmas.{one_root}
use Rattle.spec_inspect.specs.declared.mount_fault.MountFault.{MountFault}
use Rattle.spec_inspect.specs.Inspection.{Inspection, inspection_of, inspect_of}
use Rattle.spec_inspect.specs.Laws.{HasVolume, HasNone}
use Rattle.spec_inspect.proofs.OutcomeLemmas.{inspected, volume_or_none}
use Rattle.spec_meta.specs.Blocks.{metadata_at}
use Rattle.spec_core.specs.History.{History, opening_map}
use Rattle.spec_crash.specs.Crash.{HoldsWhole, CrashPrefix}
use Rattle.spec_laws.specs.Keeps.{KeepsBlobs}
use Rattle.spec_laws.proofs.KeepLemmas.{keeps_theorem}
use Rattle.spec_laws.proofs.RecordLemmas.{value_known, whole_known}
use Rattle.spec_rest.specs.Rest.{Map}
use Rattle.bv_device.specs.Told.{Disk, now_of}
use Rattle.bv_journal.specs.Plans.{recover_plan}
use Rattle.bv_journal.specs.Rests.{AtRest}
use Rattle.bv_mount.specs.declared.inspected.Inspected.{Inspected}
use Rattle.bv_mount.specs.Inspects.{inspection, IsInspected}
use Rattle.bv_mount.specs.Recovers.{plan_for, next_for, KeepsVolume}
use Rattle.bv_mount.proofs.KeepLemmas.{meta_geometry, plan_keeps, plan_rests}
use Rattle.bv_ring.specs.Cursor.{cursor_at, StandsBehind}
use Rattle.bv_journaled.specs.Kept.{map_at, KeepsMap}
use Rattle.bv_journaled.proofs.RecoveryLemmas.{recovered_kept}
use Rattle.bv_mounted.specs.Mounts.{records_in, opening_of, history_of}
use Rattle.bv_mounted.proofs.FreshLemmas.{is_formed, well}

-- ---- the metadata of an image

same_found : (a b : Inspection) (r : Result Inspection MountFault) → r ≡ Ok a → r ≡ Ok b → a ≡ b
same_found a b r e f = cc

not_found : {A : Type 0} (x : Inspection) (f : MountFault) (r : Result Inspection MountFault) → r ≡ Ok x → r ≡ Err f → A
not_found x f r e g = absurd cc

-- an inspected image has the metadata that was found
found_metadata : (j : Blocks) (x : Inspection) → HasVolume j ⊎ HasNone j → inspect_of j ≡ Ok x → metadata_of j ≡ Some (metadata_at x.geometry x.meta)
found_metadata j x (inl v) is =
    let value : inspection_of j v.found ≡ x = same_found (inspection_of j v.found) x (inspect_of j) (inspected j (Ok v.found) v.well) is in
    v.metadata ∙ ap (λ (m : Metadata). Some m) (sym v.blocks) ∙ ap (λ (y : Inspection). Some (metadata_at y.geometry y.meta)) value
found_metadata j x (inr n) is = not_found x n.why (inspect_of j) is n.refused

pub image_metadata : (i : Inspected) (j : Blocks) → IsInspected j i → metadata_of j ≡ Some (metadata_at i.meta.geometry i.meta.blocks)
image_metadata i j is =
    subst (λ (g : Geometry). metadata_of j ≡ Some (metadata_at g i.meta.blocks)) (sym i.lawful.geometry) (found_metadata j (inspection i) (volume_or_none j) is.is)

pub image_blobs : (i : Inspected) (j : Blocks) → IsInspected j i → blobs j ≡ Some (blob_map (records_in i))
image_blobs i j is = ap (option_map (λ (m : Metadata). blob_map (records_of m))) (image_metadata i j is)

-- ---- its blobs

-- what holds of each root of a map holds where a root is found
known_at : (P : Digest → Type 0) (es : Map) (root : Digest) (v : Blob) → lookup (is_at (digest_cmp root)) es ≡ Some v → All (λ e. P e.0) es → P root
known_at P [] root v e all = absurd cc
known_at P (x ∷ es) root v e all =
    chosen (is_at (digest_cmp root) x.0) refl e (λ is. known_at P es root v is (λ k d lt. all (suc k) d (omega (arith, lt))))
  where
    chosen : (t : Bool) → is_at (digest_cmp root) x.0 ≡ t → cond t (Some x.1) (lookup (is_at (digest_cmp root)) es) ≡ Some v → (lookup (is_at (digest_cmp root)) es ≡ Some v → P root) → P root
    chosen true t is later = subst P (sym (one_root root x.0 t)) (all 0 x (omega arith))
    chosen false t is later = later is

-- each blob of an image that holds the map whole has the bytes of its root
records_whole : (i : Inspected) (j : Blocks) → IsInspected j i → HoldsWhole j (blob_map (records_in i)) → (r : BlobRecord) → Contains (records_in i) r → root_of (bytes_in i.meta.geometry j r) ≡ r.root
records_whole i j is holds r c =
    let m : Metadata = metadata_at i.meta.geometry i.meta.blocks in
    (whole_known j m r (image_metadata i j is) c).0
    (known_at (IsWhole j) (blob_map (records_in i)) r.root (value_of r) (value_known m r (well i) c) holds.whole)

-- a run that keeps the volume keeps the theorem of stops of a mount without an event
pub kept_theorem : (d : Disk) (told : Option Disk) (h : History) (kept : KeepsVolume d told) → h.events ≡ [] → HoldsWhole (now_of d) (opening_map h) → CrashPrefix (now_of d) kept.events h
kept_theorem d told h kept none holds =
    keeps_theorem (now_of d) kept.events h none (λ n le j image fair.
    let stays = kept.stops n le j image fair in
    record { is = stays.map ∙ holds.is; whole = λ k e lt. stays.whole (get_or (opening_map h) k e).0 (holds.whole k e lt) })

-- ---- the recovery

pub opening_is : (m : Map) → map (λ e. (e.0, record { size = e.1; version = e.2 })) (opening_of m) ≡ m
opening_is [] = refl
opening_is (e ∷ m) = ap (λ (l : Map). e ∷ l) (opening_is m)

-- a ring behind an empty journal
pub stands : (g : Geometry) (slot number : ℕ) → slot < ring_slots g → StandsBehind (cursor_at g slot number (ring_slots g)) (record { start = slot; number = number }) []
stands g slot number lt =
    let same : slot + slots_of_all [] ≡ slot = omega arith in
    record {
      slot = sym (ap (λ (n : ℕ). n % ring_slots g) same ∙ mod-eq_of_lt lt);
      number = omega arith;
      room = omega arith;
    }

module _ (i : Inspected) (base : Blocks) (is : IsInspected base i) (room : total_blocks i.geometry ≤ length base) (holds : HoldsWhole base (blob_map (records_in i))) where
  -- each stop of the recovery leaves the blobs
  recovery_keeps : KeepsBlobs base (plan_for (inspection i)) (blob_map (records_in i))
  recovery_keeps n le j image fair =
      let kept = plan_keeps i base is room (meta_geometry base (inspection i) is.is (volume_or_none base)) n le j image fair in
      record { is = kept.map ∙ holds.is; whole = λ k e lt. kept.whole (get_or (blob_map (records_in i)) k e).0 (holds.whole k e lt) }

  pub recovery_safe : CrashPrefix base (plan_for (inspection i)) (history_of i)
  recovery_safe =
      keeps_theorem base (plan_for (inspection i)) (history_of i) refl
      (subst (λ (m : Map). KeepsBlobs base (plan_for (inspection i)) m) (sym (opening_is (blob_map (records_in i)))) recovery_keeps)

  -- at its end the journal is at rest, and each blob is kept
  pub rests_after : AtRest i.meta.geometry (next_for (inspection i)) [] None i.meta.blocks (record { base = base; trace = plan_for (inspection i) })
  rests_after =
      subst (λ (g : Geometry). AtRest g (next_for (inspection i)) [] None i.meta.blocks (record { base = base; trace = plan_for (inspection i) })) (sym i.lawful.geometry) (plan_rests i base is room)

  pub kept_after : KeepsMap i.meta.geometry (record { base = base; trace = plan_for (inspection i) }) i.meta.blocks (map_at i.meta.geometry i.meta.blocks)
  kept_after =
      let g : Geometry = i.meta.geometry in
      let lawful : IsGeometry g = subst IsGeometry (sym i.lawful.geometry) i.lawful.limits in
      let stale : All (λ s. s < ring_slots g) i.replay.stale.items = subst (λ (k : Geometry). All (λ s. s < ring_slots k) i.replay.stale.items) (sym i.lawful.geometry) i.lawful.within.stale in
      subst (λ (k : Geometry). KeepsMap g (record { base = base; trace = recover_plan k i.replay.entries.items i.replay.stale.items (next_for (inspection i)) }) i.meta.blocks (map_at g i.meta.blocks)) i.lawful.geometry
      (recovered_kept g i.meta.blocks base i.replay.entries.items i.replay.stale.items (next_for (inspection i)) lawful stale (is_formed i) (records_whole i base is holds))
