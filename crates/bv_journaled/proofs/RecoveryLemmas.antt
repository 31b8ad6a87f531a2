-- A recovery writes to no data block: each blob that the image has whole is kept over it.
use Rattle.std.proofs.Common.{◌≡◌, ◌<◌, ◌≤◌, ℕ, zero, suc, ◌+◌, List, [], ◌∷◌, ◌++◌, Bool, true, false, cond, Option, Some, None, refl, ◌∙◌, arith}
use Rattle.std.specs.Prelude.{Contains, All}
use Rattle.std.specs.List.{AllByRecursion}
use Rattle.spec_tree.specs.Tree.{root_of}
use Rattle.spec_disk.specs.Disk.{Blocks}
use Rattle.spec_record.specs.declared.geometry.Geometry.{Geometry}
use Rattle.spec_record.specs.declared.info.Info.{Info}
use Rattle.spec_record.specs.Geometry.{IsGeometry, meta_blocks, ring_slots, block_at, slot_at}
use Rattle.spec_record.specs.Entry.{Entry}
use Rattle.spec_image.specs.After.{payloads_of, last_naming}
use Rattle.spec_image.specs.Chain.{BlobRecord}
use Rattle.spec_image.specs.Empty.{zero_block}
use Rattle.spec_image.specs.Stored.{bytes_in}
use Rattle.spec_image.specs.WellFormed.{is_well_formed}
use Rattle.spec_meta.specs.Blocks.{metadata_at}
use Rattle.bv_device.specs.Told.{disk_with}
use Rattle.bv_device.specs.Plan.{a_sync}
use Rattle.bv_journal.specs.Plans.{one_in_place, in_place, scrub, recovery, is_clean, recover_plan, info_plan}
use Rattle.bv_journaled.specs.Kept.{records_at, map_at, KeepsMap}
use Rattle.bv_journaled.proofs.CallLemmas.{map_spared}
use Rattle.bv_journaled.proofs.QuietLemmas.{written_other, SparesData, spares_both, sync_spares, info_spares}

one_spares : (g : Geometry) (t : ℕ) (o : Option (List ℕ)) → t < meta_blocks g → SparesData g (one_in_place t o)
one_spares g t None lt b = refl
one_spares g t (Some bytes) lt b = written_other t (block_at g b) bytes [] (λ e. absurd (omega (arith, e, lt)))

in_place_spares : (g : Geometry) (payloads : List (ℕ × List ℕ)) (t count : ℕ) → t + count ≤ meta_blocks g → SparesData g (in_place payloads t count)
in_place_spares g payloads t zero le b = refl
in_place_spares g payloads t (suc count) le b =
    spares_both g (one_in_place t (last_naming t payloads)) (in_place payloads (t + 1) count) (one_spares g t (last_naming t payloads) (omega (arith, le)))
    (in_place_spares g payloads (t + 1) count (omega (arith, le))) b

scrub_spares : (g : Geometry) → IsGeometry g → (slots : List ℕ) → AllByRecursion (λ s. s < ring_slots g) slots → SparesData g (scrub g slots)
scrub_spares g lawful [] all b = refl
scrub_spares g lawful (s ∷ slots) all b =
    written_other (slot_at g s) (block_at g b) zero_block (scrub g slots) (λ e. absurd (omega (arith, e, all.0)))
    ∙ scrub_spares g lawful slots all.1 b

each_slot : (g : Geometry) (slots : List ℕ) → All (λ s. s < ring_slots g) slots → AllByRecursion (λ s. s < ring_slots g) slots
each_slot g [] all = tt
each_slot g (s ∷ slots) all = (all 0 0 (omega arith), each_slot g slots (λ k d lt. all (suc k) d (omega (arith, lt))))

recovery_spares : (g : Geometry) → IsGeometry g → (es : List Entry) (stale : List ℕ) (next : Info) → All (λ s. s < ring_slots g) stale → SparesData g (recovery g es stale next)
recovery_spares g lawful es stale next all =
    spares_both g (in_place (payloads_of es) 0 (meta_blocks g)) (a_sync ++ (scrub g stale ++ (a_sync ++ info_plan g next))) (in_place_spares g (payloads_of es) 0 (meta_blocks g) (omega arith))
    (spares_both g a_sync (scrub g stale ++ (a_sync ++ info_plan g next)) (sync_spares g)
    (spares_both g (scrub g stale) (a_sync ++ info_plan g next) (scrub_spares g lawful stale (each_slot g stale all))
    (spares_both g a_sync (info_plan g next) (sync_spares g) (info_spares g lawful next))))

pub recover_spares : (g : Geometry) → IsGeometry g → (es : List Entry) (stale : List ℕ) (next : Info) → All (λ s. s < ring_slots g) stale → SparesData g (recover_plan g es stale next)
recover_spares g lawful es stale next all = each (is_clean es stale)
  where
    each : (t : Bool) → SparesData g (cond t [] (recovery g es stale next))
    each true b = refl
    each false b = recovery_spares g lawful es stale next all b

-- an image that is opened keeps the map of its metadata where each blob is whole
pub opening_kept : (g : Geometry) (meta image : Blocks) → is_well_formed (metadata_at g meta) ≡ true → ((r : BlobRecord) → Contains (records_at g meta) r → root_of (bytes_in g image r) ≡ r.root)
    → KeepsMap g (record { base = image; trace = [] }) meta (map_at g meta)
opening_kept g meta image formed whole = record {
  formed = formed;
  map = refl;
  blobs = λ r c. record { quiet = λ b is. refl; whole = whole r c };
}

pub recovered_kept : (g : Geometry) (meta image : Blocks) (es : List Entry) (stale : List ℕ) (next : Info) → IsGeometry g → All (λ s. s < ring_slots g) stale → is_well_formed (metadata_at g meta) ≡ true
    → ((r : BlobRecord) → Contains (records_at g meta) r → root_of (bytes_in g image r) ≡ r.root) → KeepsMap g (disk_with (record { base = image; trace = [] }) (recover_plan g es stale next)) meta (map_at g meta)
recovered_kept g meta image es stale next lawful all formed whole =
    map_spared g (record { base = image; trace = [] }) meta (map_at g meta) (recover_plan g es stale next) (recover_spares g lawful es stale next all) (opening_kept g meta image formed whole)
