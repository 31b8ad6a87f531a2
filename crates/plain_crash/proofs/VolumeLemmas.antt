-- What an inspection and a check answer, as what the image holds.
use Rattle.std.proofs.Common.{◌≡◌, ◌⊎◌, ◌↔◌, ◌≤◌, inl, inr, List, Option, Some, IsSomeAnd, Result, Ok, Err, [], length, ap, sym, refl, subst, ◌∙◌}
use Rattle.std.specs.Option.{option_map}
use Rattle.spec_record.specs.declared.geometry.Geometry.{Geometry}
use Rattle.spec_record.specs.Geometry.{total_blocks, ring_slots, info_at}
use Rattle.spec_image.specs.Journal.{journal_of}
use Rattle.spec_image.proofs.SameLemmas.{length-whole_ring}
use Rattle.spec_tree.specs.declared.Digest.{Digest}
use Rattle.spec_tree.specs.declared.blob.Blob.{Blob}
use Rattle.spec_disk.specs.Disk.{Blocks, block}
use Rattle.spec_record.specs.Info.{info_of}
use Rattle.spec_crash.specs.Crash.{HoldsWhole}
use Rattle.spec_image.specs.Blobs.{blob_map}
use Rattle.spec_image.specs.Metadata.{Metadata}
use Rattle.spec_image.specs.Volume.{blobs}
use Rattle.spec_image.specs.WellFormed.{records_of}
use Rattle.spec_inspect.specs.declared.mount_fault.MountFault.{MountFault}
use Rattle.spec_inspect.specs.declared.open_fault.OpenFault.{OpenFault}
use Rattle.spec_inspect.specs.Inspection.{Inspection, inspect_of, inspection_of}
use Rattle.spec_inspect.specs.Laws.{HasVolume, HasNone}
use Rattle.spec_inspect.specs.Report.{Findings, IsClean, report_of}
use Rattle.spec_inspect.proofs.CleanLemmas.{whole_is_clean, clean_is_whole}
use Rattle.spec_inspect.proofs.OutcomeLemmas.{inspected}
use Rattle.bv_device.specs.Reads.{ReadsRight}
use Rattle.bv_device.specs.Told.{Disk, now_of}
use Rattle.plain_crash.specs.Volumes as held
use Rattle.plain_crash.specs.declared.volumes.Volume.{Volume}

abbrev opened : Blocks → Disk
opened image = record { base = image; trace = [] }

-- a disk that was made with an image, and has no event, is the image
pub seen_now : (image : Blocks) (P : Blocks → Type 0) (d : Disk) → d ≡ opened image → (ReadsRight d → P (now_of d)) → P image
seen_now image P d is sees = subst (λ (x : Disk). ReadsRight x → P (now_of x)) is sees (λ b. refl)

abbrev ok_with : Inspection → Result Inspection MountFault
ok_with i = Ok i

-- an image that was inspected has a volume of these counts and these blobs
pub has_volume : (image : Blocks) (i : Inspection) (v : Volume) → inspect_of image ≡ Ok i → v.geometry ≡ i.geometry
    → blobs image ≡ Some v.blobs.entries → HasVolume image ⊎ HasNone image → held.HasVolume image v
has_volume image i v is geometry blobs_are (inl has) =
    let same : ok_with (inspection_of image has.found) ≡ ok_with i = sym (inspected image (Ok has.found) has.well) ∙ is in
    let one : inspection_of image has.found ≡ i = cc in
    record {
      metadata = subst (λ (o : Option Metadata). IsSomeAnd o (λ (m : Metadata). m.super.geometry ≡ v.geometry)) (sym has.metadata) (ap (λ (x : Inspection). x.geometry) one ∙ sym geometry);
      blobs = blobs_are;
    }
has_volume image i v is geometry blobs_are (inr none) = let z : Err none.why ≡ ok_with i = sym none.refused ∙ is in absurd cc

-- an image that an inspection refuses has none
pub has_none : (image : Blocks) (f : MountFault) → inspect_of image ≡ Err f → HasVolume image ⊎ HasNone image → held.HasNoVolume image
has_none image f is (inl has) = let z : ok_with (inspection_of image has.found) ≡ Err f = sym (inspected image (Ok has.found) has.well) ∙ is in absurd cc
has_none image f is (inr none) = record { metadata = none.metadata; blobs = ap (option_map (λ (x : Metadata). blob_map (records_of x))) none.metadata }

-- the ring of an image that is long enough
pub ring_length : (g : Geometry) (image : Blocks) → total_blocks g ≤ length image → length (journal_of g image).ring ≡ ring_slots g
unfolding journal_of
ring_length g image room = length-whole_ring g image room

abbrev ok_findings : Findings → Result Findings OpenFault
ok_findings f = Ok f

-- a report is clean where each blob is whole, and there alone
pub clean_where_whole : (image : Blocks) (f : Findings) → report_of image ≡ Ok f → IsClean f ↔ ((held : List (Digest × Blob)) × HoldsWhole image held)
clean_where_whole image f is = (
  clean_is_whole image f is,
  λ whole. let clean = whole_is_clean image whole.0 whole.1 in let same : ok_findings clean.0 ≡ ok_findings f = sym clean.1 ∙ is in let one : clean.0 ≡ f = cc in subst IsClean one clean.2,
)

-- an image that a check refuses holds no whole blobs
pub refused_not_whole : (image : Blocks) (f : OpenFault) → report_of image ≡ Err f → (held : List (Digest × Blob)) → HoldsWhole image held → ⊥
refused_not_whole image f is held whole = let clean = whole_is_clean image held whole in let z : ok_findings clean.0 ≡ Err f = sym clean.1 ∙ is in absurd cc

-- the info block of an image's journal
pub info_there : (g : Geometry) (image : Blocks) → (journal_of g image).info ≡ info_of (block image (info_at g)) (ring_slots g)
unfolding journal_of
info_there g image = refl
