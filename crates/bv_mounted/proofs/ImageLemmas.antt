-- What an image says that an inspection found a volume in.
use Rattle.std.proofs.Common.{◌≡◌, ◌⊎◌, inl, inr, List, [], ◌∷◌, length, Option, Some, None, Result, Ok, Err, refl, ap, ◌∙◌, subst}
use Rattle.std.specs.Prelude.{IsSomeAnd, All}
use Rattle.std.specs.Result.{result_ok}
use Rattle.spec_disk.specs.Disk.{Blocks, block}
use Rattle.spec_record.specs.declared.geometry.Geometry.{Geometry}
use Rattle.spec_record.specs.declared.info.Info.{Info}
use Rattle.spec_record.specs.declared.superblock.Super.{Super}
use Rattle.spec_record.specs.Geometry.{info_at, ring_slots}
use Rattle.spec_record.specs.Info.{info_or_fault}
use Rattle.spec_record.specs.Superblock.{super_of, super_or_fault}
use Rattle.spec_tree.specs.declared.Digest.{Digest}
use Rattle.spec_tree.specs.declared.blob.Blob.{Blob}
use Rattle.spec_image.specs.After.{after}
use Rattle.spec_image.specs.Journal.{journal_of}
use Rattle.spec_image.specs.Replay.{next_number}
use Rattle.spec_image.specs.Volume.{IsWhole, blobs, image_super, replayed_super}
use Rattle.spec_meta.specs.Survey.{survey_of}
use Rattle.spec_meta.specs.declared.survey_fault.SurveyFault.{SurveyFault}
use Rattle.spec_inspect.specs.Faults.{of_opening, or_fault, ◌>>=◌}
use Rattle.spec_inspect.specs.Inspection.{Inspection, inspect_of, inspection_of, readable_well, surveyed, unless_wrong}
use Rattle.spec_inspect.specs.Laws.{HasNone, HasVolume}
use Rattle.spec_inspect.specs.Readable.{Readable, geometry_of, info_or_why, metadata_after, or_moved, readable, readable_with, super_or_why}
use Rattle.spec_inspect.specs.declared.mount_fault.MountFault.{MountFault}
use Rattle.spec_inspect.specs.declared.open_fault.OpenFault.{OpenFault}
use Rattle.spec_inspect.specs.declared.open_fault.OpenFault.TheVariants as opening
use Rattle.spec_inspect.proofs.OutcomeLemmas.{inspected, kept_some, same_is, volume_or_none}

-- ---- a result that is Ok

went_on : {A B F : Type 0} (r : Result A F) (f : A → Result B F) (b : B) → (r >>= f) ≡ Ok b → (a : A) × (r ≡ Ok a) × (f a ≡ Ok b)
went_on (Ok a) f b is = (a, refl, is)
went_on (Err e) f b is = absurd (cc)

faultless : {A E F : Type 0} (f : E → F) (r : Result A E) (a : A) → or_fault f r ≡ Ok a → r ≡ Ok a
faultless f (Ok x) a is = let same : x ≡ a = cc in ap (λ y. Ok y) same
faultless f (Err e) a is = absurd (cc)

unmoved : (o : Option Super) (s : Super) → or_moved o ≡ Ok s → o ≡ Some s
unmoved None s is = absurd (cc)
unmoved (Some x) s is = let same : x ≡ s = cc in ap (λ (y : Super). Some y) same

nothing_wrong : (fs : List SurveyFault) (a b : Readable) → unless_wrong fs a ≡ Ok b → a ≡ b
nothing_wrong [] a b is = cc
nothing_wrong (f ∷ fs) a b is = absurd (cc)

-- ---- what is read of the image

-- the superblock and the info of an image, and what an inspection has of them
pub record HasHead (j : Blocks) (x : Inspection) : Type 0 where
  pub super : Super
  pub info : Info
  pub super_is : image_super j ≡ Some super
  pub geometry : x.geometry ≡ super.geometry
  pub info_is : (journal_of super.geometry j).info ≡ Some info
  pub next : x.replay.next_number ≡ next_number (journal_of super.geometry j) info

well_readable : (j : Blocks) (o : Readable) → readable_well j ≡ Ok o → readable j ≡ Ok o
unfolding readable_well
well_readable j o is =
    let step = went_on (or_fault of_opening (readable j)) (surveyed j) o is in
    faultless of_opening (readable j) step.0 step.1 ∙ ap (λ (y : Readable). Ok y) (nothing_wrong (survey_of (metadata_after j step.0)) step.0 o step.2)

readable_parts : (j : Blocks) (o : Readable) → readable j ≡ Ok o → (s : Super) × (super_or_why j ≡ Ok s) × (readable_with s.geometry j ≡ Ok o)
unfolding readable
readable_parts j o is = went_on (super_or_why j) (λ s. readable_with s.geometry j) o is

abbrev readable_of : Info → Super → Readable
readable_of i x = record { info = i; super = x }

replayed_head : (j : Blocks) (g : Geometry) (o : Readable) → readable_with g j ≡ Ok o → (info_or_why g j ≡ Ok o.info) × (replayed_super g j ≡ Some o.super)
replayed_head j g o is =
    let first = went_on (info_or_why g j) (λ i. or_moved (replayed_super g j) >>= λ s. Ok (readable_of i s)) o is in
    let second = went_on (or_moved (replayed_super g j)) (λ s. Ok (readable_of first.0 s)) o first.2 in
    let same : readable_of first.0 second.0 ≡ o = ok_is (readable_of first.0 second.0) o (Ok (readable_of first.0 second.0)) refl second.2 in
    (first.1 ∙ ap (λ (y : Readable). Ok y.info) same, unmoved (replayed_super g j) second.0 second.1 ∙ ap (λ (y : Readable). Some y.super) same) where
      ok_is : (a b : Readable) (r : Result Readable OpenFault) → r ≡ Ok a → r ≡ Ok b → a ≡ b
      ok_is a b r e f = cc

readable_head : (j : Blocks) (o : Readable) → readable j ≡ Ok o → HasHead j (inspection_of j o)
unfolding journal_of
readable_head j o is =
    let parts = readable_parts j o is in
    let s : Super = parts.0 in
    let read : super_or_fault (block j 0) (length j) ≡ Ok s = faultless (λ f. opening.Super f) (super_or_fault (block j 0) (length j)) s parts.1 in
    let rest = replayed_head j s.geometry o parts.2 in
    let info : info_or_fault (block j (info_at s.geometry)) (ring_slots s.geometry) ≡ Ok o.info =
    faultless (λ f. opening.Replay f) (info_or_fault (block j (info_at s.geometry)) (ring_slots s.geometry)) o.info rest.0 in
    let kept = kept_some s.geometry (super_of (block (after s.geometry j) 0) (length j)) o.super rest.1 in
    let same : geometry_of o ≡ s.geometry = same_is (geometry_of o) s.geometry kept.1 in
    record {
      super = s;
      info = o.info;
      super_is = ap result_ok read;
      geometry = same;
      info_is = ap result_ok info;
      next = ap (λ (g : Geometry). next_number (journal_of g j) o.info) same;
    }

same_found : (a b : Inspection) (r : Result Inspection MountFault) → r ≡ Ok a → r ≡ Ok b → a ≡ b
same_found a b r e f = cc

-- an image that an inspection finds a volume in
pub found_head : (j : Blocks) (x : Inspection) → inspect_of j ≡ Ok x → HasHead j x
found_head j x is = by_volume (volume_or_none j) where
  by_volume : HasVolume j ⊎ HasNone j → HasHead j x
  by_volume (inl v) =
      subst (HasHead j) (same_found (inspection_of j v.found) x (inspect_of j) (inspected j (Ok v.found) v.well) is) (readable_head j v.found (well_readable j v.found v.well))
  by_volume (inr n) = absurd (differ (inspect_of j) is n.refused) where
    differ : (r : Result Inspection MountFault) → r ≡ Ok x → r ≡ Err n.why → ⊥
    differ r e f = cc

-- each blob of a map that the image has is whole
pub holds_whole : (j : Blocks) (held : List (Digest × Blob)) → blobs j ≡ Some held → IsSomeAnd (blobs j) (λ held. All (λ entry. IsWhole j entry.0) held) → All (λ entry. IsWhole j entry.0) held
holds_whole j held is whole = subst (λ (o : Option (List (Digest × Blob))). IsSomeAnd o (λ held. All (λ entry. IsWhole j entry.0) held)) is whole
