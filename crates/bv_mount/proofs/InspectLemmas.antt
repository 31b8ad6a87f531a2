-- What a survey makes of an opened image.
use Rattle.std.proofs.Common.{◌≡◌, ◌⊎◌, inl, inr, ℕ, List, [], ◌∷◌, Option, None, Result, Ok, Err, IfOk, refl, ap, sym, ◌∙◌, subst}
use Rattle.std.specs.Prelude.{IfErr, IsErrAnd}
use Rattle.spec_disk.specs.Disk.{Blocks, block}
use Rattle.spec_record.specs.declared.geometry.Geometry.{Geometry}
use Rattle.spec_record.specs.declared.superblock.Super.{Super}
use Rattle.spec_image.specs.After.{after}
use Rattle.spec_image.specs.Metadata.{Metadata, metadata_in}
use Rattle.spec_meta.specs.Blocks.{metadata_at}
use Rattle.spec_meta.specs.Survey.{survey_of}
use Rattle.spec_meta.specs.declared.survey_fault.SurveyFault.{SurveyFault}
use Rattle.spec_meta.specs.declared.survey_fault.SurveyFault.TheVariants as survey
use Rattle.bv_device.specs.Seen.{Seen}
use Rattle.bv_device.specs.Reads.{Reads}
use Rattle.bv_device.proofs.ReadsLemmas.{Reads-weaker}
use Rattle.bv_replay.specs.declared.replay.Replay.{Replay}
use Rattle.bv_txn.specs.declared.survey.Survey.{Survey}
use Rattle.spec_inspect.specs.declared.open_fault.OpenFault.{OpenFault}
use Rattle.spec_inspect.specs.declared.open_fault.OpenFault.TheVariants as opening
use Rattle.spec_inspect.specs.declared.mount_fault.MountFault.{MountFault}
use Rattle.spec_inspect.specs.declared.mount_fault.MountFault.TheVariants as mount
use Rattle.spec_inspect.specs.Faults.{of_opening, of_survey, or_fault, ◌>>=◌}
use Rattle.spec_inspect.specs.Readable.{Readable, readable, metadata_after}
use Rattle.spec_inspect.specs.Inspection.{Inspection, inspection_of, unless_wrong, surveyed, readable_well, inspect_of}
use Rattle.bv_mount.specs.declared.opening.Opening.{Opening}
use Rattle.bv_mount.specs.declared.inspected.Inspected.{Inspected}
use Rattle.bv_mount.specs.Reports.{reported_by, mount_reported, mount_reported_by}
use Rattle.bv_mount.specs.Opens.{Refuses, IsRead, IsSpelled}
use Rattle.bv_replay.specs.Found.{IsReplayOf}
use Rattle.bv_mount.specs.Inspects.{inspection, RefusesMount, AnswersInspectAll, IsInspectedOf, IsFirstOf}

-- ---- an opening that was refused

refused_well : (j : Blocks) (f : OpenFault) → readable j ≡ Err f → inspect_of j ≡ Err (of_opening f)
unfolding readable_well
refused_well j f is = ap (λ (r : Result Readable OpenFault). or_fault of_opening r >>= surveyed j >>= λ o. Ok (inspection_of j o)) is

pub RefusesMount-opening : (j : Blocks) (f : OpenFault) → Refuses (readable j) f → RefusesMount (inspect_of j) (of_opening f)
RefusesMount-opening j (opening.Super f) refuses = refused_well j (opening.Super f) refuses
RefusesMount-opening j (opening.Replay f) refuses = refused_well j (opening.Replay f) refuses
RefusesMount-opening j opening.Moved refuses = refused_well j opening.Moved refuses
RefusesMount-opening j (opening.DeviceFault count) refuses = tt
RefusesMount-opening j opening.NoMemory refuses = tt

same_report : (f : OpenFault) → reported_by f ≡ mount_reported_by (of_opening f)
same_report (opening.Super f) = refl
same_report (opening.Replay f) = refl
same_report opening.Moved = refl
same_report (opening.DeviceFault count) = refl
same_report opening.NoMemory = refl

pub inspect_stopped : (r : Result (Inspected × Survey) MountFault) (f : OpenFault) (old new : Seen) → IsErrAnd r (λ y. y ≡ of_opening f) → Reads (reported_by f) old new (λ j. Refuses (readable j) f)
    → Reads (mount_reported r) old new (AnswersInspectAll r)
inspect_stopped (Ok p) f old new is reads = absurd is
inspect_stopped (Err y) f old new is reads =
    let due : Reads (reported_by f) old new (λ j. RefusesMount (inspect_of j) (of_opening f)) = Reads-weaker (reported_by f) old new _ _ reads (λ j refuses. RefusesMount-opening j f refuses) in
    let counted : Reads (mount_reported_by (of_opening f)) old new (λ j. RefusesMount (inspect_of j) (of_opening f)) =
    subst (λ (o : Option ℕ). Reads o old new (λ j. RefusesMount (inspect_of j) (of_opening f))) (same_report f) due in
    subst (λ (x : MountFault). Reads (mount_reported_by x) old new (λ j. RefusesMount (inspect_of j) x)) (sym is) counted

-- ---- an opened image

first_refused : {A : Type 0} (faults : List SurveyFault) (f : MountFault) (x : A) → IsFirstOf faults f → unless_wrong faults x ≡ Err f
first_refused [] f x is = absurd is
first_refused (s ∷ ss) f x is = ap (λ (y : MountFault). Err y) (sym is)

-- the fault is one of a survey
of_a_survey : (faults : List SurveyFault) (f : MountFault) → IsFirstOf faults f → (s : SurveyFault) × (f ≡ of_survey s)
of_a_survey [] f is = absurd is
of_a_survey (s ∷ ss) f is = (s, is)

RefusesMount-survey : {A : Type 0} (due : Result A MountFault) (s : SurveyFault) → due ≡ Err (of_survey s) → RefusesMount due (of_survey s)
RefusesMount-survey due (survey.Node node fault) is = is
RefusesMount-survey due (survey.Overlap at) is = is
RefusesMount-survey due (survey.Twice root) is = is
RefusesMount-survey due (survey.Bitmap at says) is = is
RefusesMount-survey due (survey.SuperCount field said found) is = is

no_report : (s : SurveyFault) → None ≡ mount_reported_by (of_survey s)
no_report (survey.Node node fault) = refl
no_report (survey.Overlap at) = refl
no_report (survey.Twice root) = refl
no_report (survey.Bitmap at says) = refl
no_report (survey.SuperCount field said found) = refl

module _ (o : Opening) where
  g : Geometry
  g = o.superblock.geometry

  -- what its blocks say is what the image's do
  pub metadata_same : (j : Blocks) (x : Readable) → x.super ≡ o.superblock → o.meta.blocks ≡ after o.superblock.geometry j
      → metadata_at o.superblock.geometry o.meta.blocks ≡ metadata_after j x
  metadata_same j x super meta =
      ap (λ (s : Super). metadata_in s o.meta.blocks) o.lawful.counts
      ∙ ap (λ (bs : Blocks). metadata_in o.superblock bs) meta
      ∙ ap (λ (s : Super). metadata_in s (after s.geometry j)) (sym super)

  pub well_read : (j : Blocks) (is : IsRead j o.superblock o.meta o.replay) (r : Result Readable MountFault)
      → unless_wrong (survey_of (metadata_at o.superblock.geometry o.meta.blocks)) (record { info = is.replay.info; super = o.superblock }) ≡ r → readable_well j ≡ r
  unfolding readable_well
  well_read j is r e =
      let x : Readable = record { info = is.replay.info; super = o.superblock } in
      ap (λ (y : Result Readable OpenFault). or_fault of_opening y >>= surveyed j) is.readable_is
      ∙ ap (λ (m : Metadata). unless_wrong (survey_of m) x) (sym (metadata_same j x refl is.meta)) ∙ e

  pub inspected : (j : Blocks) (i : Inspected) → IsRead j o.superblock o.meta o.replay → IsInspectedOf o i → inspect_of j ≡ Ok (inspection i)
  inspected j i is of =
      let x : Readable = record { info = is.replay.info; super = o.superblock } in
      let well : readable_well j ≡ Ok x = well_read j is (Ok x) (ap (λ (fs : List SurveyFault). unless_wrong fs x) of.well) in
      let value : inspection_of j x ≡ inspection i = λ k. record {
        geometry = sym of.geometry k;
        meta = (sym is.meta ∙ ap (λ m. m.blocks) (sym of.meta)) k;
        replay = record {
          entries = (sym is.replay.entries ∙ ap (λ (r : Replay). r.entries.items) (sym of.replay)) k;
          next_slot = (sym is.replay.slot ∙ ap (λ (r : Replay). r.next_slot) (sym of.replay)) k;
          next_number = (sym is.replay.number ∙ ap (λ (r : Replay). r.next_number) (sym of.replay)) k;
          stale = (sym is.replay.stale ∙ ap (λ (r : Replay). r.stale.items) (sym of.replay)) k;
        };
      } in
      ap (λ (r : Result Readable MountFault). r >>= λ y. Ok (inspection_of j y)) well ∙ ap (λ (v : Inspection). Ok v) value

  pub refused : (j : Blocks) (f : MountFault) → IsRead j o.superblock o.meta o.replay → IsFirstOf (survey_of (metadata_at o.superblock.geometry o.meta.blocks)) f → inspect_of j ≡ Err f
  refused j f is first =
      let x : Readable = record { info = is.replay.info; super = o.superblock } in
      ap (λ (r : Result Readable MountFault). r >>= λ y. Ok (inspection_of j y))
      (well_read j is (Err f) (first_refused (survey_of (metadata_at o.superblock.geometry o.meta.blocks)) f x first))

  pub surveyed_reads : (r : Result (Inspected × Survey) MountFault) (old new : Seen) → IfOk r (λ p. IsInspectedOf o p.0)
      → IfErr r (λ f. (f ≡ mount.NoMemory) ⊎ IsFirstOf (survey_of (metadata_at o.superblock.geometry o.meta.blocks)) f)
      → Reads None old new (λ j. IsRead j o.superblock o.meta o.replay) → Reads (mount_reported r) old new (AnswersInspectAll r)
  surveyed_reads (Ok p) old new ok err reads = Reads-weaker None old new _ _ reads (λ j is. record {
    is = inspected j p.0 is ok;
    head = subst (λ (g : Geometry). IsSpelled g (block j 0)) (sym ok.geometry) is.head;
    replay = subst (λ (r : Replay). IsReplayOf (p.0).geometry j r) (sym ok.replay) (subst (λ (g : Geometry). IsReplayOf g j o.replay) (sym ok.geometry) is.replay);
  })
  surveyed_reads (Err f) old new ok (inl none) reads =
      subst (λ (x : MountFault). Reads (mount_reported_by x) old new (λ j. RefusesMount (inspect_of j) x)) (sym none) (Reads-weaker None old new _ _ reads (λ j is. tt))
  surveyed_reads (Err f) old new ok (inr first) reads =
      let s = of_a_survey (survey_of (metadata_at o.superblock.geometry o.meta.blocks)) f first in
      let due : Reads None old new (λ j. RefusesMount (inspect_of j) (of_survey s.0)) =
      Reads-weaker None old new _ _ reads (λ j is. RefusesMount-survey (inspect_of j) s.0 (refused j f is first ∙ ap (λ (y : MountFault). Err y) s.1)) in
      subst (λ (x : MountFault). Reads (mount_reported_by x) old new (λ j. RefusesMount (inspect_of j) x)) (sym s.1)
      (subst (λ (c : Option ℕ). Reads c old new (λ j. RefusesMount (inspect_of j) (of_survey s.0))) (no_report s.0) due)
