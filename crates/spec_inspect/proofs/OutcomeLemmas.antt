-- Whether an image has a volume, part by part: its superblock, its info, the replayed superblock,
-- and the survey.
use Rattle.std.proofs.Common.{◌≡◌, ◌⊎◌, inl, inr, ℕ, List, [], ◌∷◌, length, Bool, true, false, cond, eqb, Option, Some, None, Result, Ok, Err, refl, ap, sym, ◌∙◌, subst}
use Rattle.std.specs.Prelude.{◌&&◌, option_and_then, option_map, is_some, IsSome, IsOk}
use Rattle.std.proofs.lemmas.Bool.{false≢true}
use Rattle.std.specs.Result.{result_ok}
use Rattle.spec_disk.specs.Disk.{Blocks, block}
use Rattle.spec_record.specs.declared.geometry.Geometry.{Geometry}
use Rattle.spec_record.specs.declared.info.Info.{Info}
use Rattle.spec_record.specs.declared.superblock.Super.{Super}
use Rattle.spec_record.specs.declared.info_fault.InfoFault.{InfoFault}
use Rattle.spec_record.specs.declared.super_fault.SuperFault.{SuperFault}
use Rattle.spec_record.specs.Geometry.{ring_slots, info_at}
use Rattle.spec_record.specs.Info.{info_or_fault}
use Rattle.spec_record.specs.Superblock.{super_in, super_tests, super_or_fault, super_of}
use Rattle.spec_record.proofs.TestLemmas.{value_passed, some_ok, both_true, equal}
use Rattle.spec_image.specs.Journal.{journal_of}
use Rattle.spec_image.specs.After.{after}
use Rattle.spec_image.specs.Metadata.{Metadata, metadata_in}
use Rattle.spec_image.specs.Blobs.{blob_map}
use Rattle.spec_image.specs.WellFormed.{records_of, is_well_formed}
use Rattle.spec_image.specs.Volume.{same_geometry, replayed_super, metadata_with, metadata_of, blobs}
use Rattle.spec_meta.specs.declared.survey_fault.SurveyFault.{SurveyFault}
use Rattle.spec_meta.specs.Blocks.{counts_in, metadata_at}
use Rattle.spec_meta.specs.Survey.{survey_of}
use Rattle.spec_meta.proofs.SurveyLemmas.{survey_is_clean}
use Rattle.spec_inspect.specs.declared.open_fault.OpenFault.{OpenFault}
use Rattle.spec_inspect.specs.declared.open_fault.OpenFault.TheVariants as opening
use Rattle.spec_inspect.specs.declared.mount_fault.MountFault.{MountFault}
use Rattle.spec_inspect.specs.Faults.{of_opening, of_survey, or_fault, ◌>>=◌}
use Rattle.spec_inspect.specs.Readable.{Readable, or_moved, readable_with, readable, metadata_after}
use Rattle.spec_inspect.specs.Inspection.{Inspection, unless_wrong, surveyed, inspection_of, readable_well, inspect_of}
use Rattle.spec_inspect.specs.Laws.{HasVolume, HasNone}

-- ---- a superblock that the replay left

some_is : (a b : Super) → Some a ≡ Some b → a ≡ b
some_is a b e = cc

-- it is a valid one of this geometry
pub kept_some : (g : Geometry) (o : Option Super) (s : Super) → option_and_then (λ x. cond (same_geometry x.geometry g) (Some x) None) o ≡ Some s
    → (o ≡ Some s) × (same_geometry s.geometry g ≡ true)
kept_some g None s e = absurd cc
kept_some g (Some x) s e = one (same_geometry x.geometry g) refl e where
  one : (b : Bool) → same_geometry x.geometry g ≡ b → cond b (Some x) None ≡ Some s → (Some x ≡ Some s) × (same_geometry s.geometry g ≡ true)
  one true is e = (e, ap (λ (y : Super). same_geometry y.geometry g) (sym (some_is x s e)) ∙ is)
  one false is e = absurd cc

pub same_is : (a b : Geometry) → same_geometry a b ≡ true → a ≡ b
same_is a b e =
    let most = both_true (eqb a.version b.version && eqb a.blocks b.blocks && eqb a.nodes b.nodes) (eqb a.journal b.journal) e in
    let some = both_true (eqb a.version b.version && eqb a.blocks b.blocks) (eqb a.nodes b.nodes) most.0 in
    let first = both_true (eqb a.version b.version) (eqb a.blocks b.blocks) some.0 in
    let blocks = equal a.blocks b.blocks first.1 in
    let nodes = equal a.nodes b.nodes some.1 in
    let journal = equal a.journal b.journal most.1 in
    let version = equal a.version b.version first.0 in
    λ k. record { blocks = blocks k; nodes = nodes k; journal = journal k; version = version k }

-- what was read of a block is what stands in its fields
pub super_is : (bytes : List ℕ) (n : ℕ) (s : Super) → super_of bytes n ≡ Some s → super_in bytes ≡ s
unfolding super_or_fault
super_is bytes n s is = (value_passed (super_tests bytes n) (super_in bytes) s (some_ok _ s is)).1

-- ---- an image is readable or not

-- the metadata, where it's well formed
abbrev pub tested : Metadata → Option Metadata
tested m = if_well (is_well_formed m) m where
  if_well : Bool → Metadata → Option Metadata
  if_well b m = cond b (Some m) None

-- an image is readable, and its metadata is that which is tested
pub record IsReadable (j : Blocks) : Type 0 where
  pub found : Readable
  pub is : readable j ≡ Ok found
  pub counts : counts_in found.super.geometry (block (after found.super.geometry j) 0) ≡ found.super
  pub metadata : metadata_of j ≡ cond (is_well_formed (metadata_after j found)) (Some (metadata_after j found)) None

-- an image isn't readable
pub record IsUnread (j : Blocks) : Type 0 where
  pub why : OpenFault
  pub is : readable j ≡ Err why
  pub metadata : metadata_of j ≡ None

module _ (j : Blocks) where
  abbrev to_super : Result Super SuperFault → Result Readable OpenFault
  to_super r = or_fault (λ f. opening.Super f) r >>= λ s. readable_with s.geometry j

  abbrev to_metadata : Result Super SuperFault → Option Metadata
  to_metadata r = option_and_then (λ s. metadata_with j s.geometry) (result_ok r)

  from_super : (r : Result Super SuperFault) → super_or_fault (block j 0) (length j) ≡ r → (readable j ≡ to_super r) × (metadata_of j ≡ to_metadata r)
  unfolding readable metadata_of
  from_super r e = (ap to_super e, ap to_metadata e)

  module _ (g : Geometry) where
    abbrev to_info : Result Info InfoFault → Option Super → Result Readable OpenFault
    to_info r o = or_fault (λ f. opening.Replay f) r >>= λ i. or_moved o >>= λ s. Ok (record { info = i; super = s })

    abbrev to_tested : Result Info InfoFault → Option Super → Option Metadata
    to_tested r o =
        option_and_then (λ s. let m = metadata_in s (after g j) in cond (is_well_formed m) (Some m) None) (cond (is_some (result_ok r)) o None)

    from_info : (r : Result Info InfoFault) (o : Option Super) → info_or_fault (block j (info_at g)) (ring_slots g) ≡ r → replayed_super g j ≡ o
        → (readable_with g j ≡ to_info r o) × (metadata_with j g ≡ to_tested r o)
    unfolding journal_of
    from_info r o e f = (λ k. to_info (e k) (f k), λ k. to_tested (e k) (f k))

  split_replayed : (s : Super) (i : Info) → super_or_fault (block j 0) (length j) ≡ Ok s → info_or_fault (block j (info_at s.geometry)) (ring_slots s.geometry) ≡ Ok i
      → (o : Option Super) → replayed_super s.geometry j ≡ o → IsReadable j ⊎ IsUnread j
  split_replayed s i e e1 None e2 =
      let a = from_super (Ok s) e in let b = from_info s.geometry (Ok i) None e1 e2 in
      inr (record { why = opening.Moved; is = a.0 ∙ b.0; metadata = a.1 ∙ b.1 })
  split_replayed s i e e1 (Some x) e2 =
      let a = from_super (Ok s) e in let b = from_info s.geometry (Ok i) (Some x) e1 e2 in
      let kept = kept_some s.geometry (super_of (block (after s.geometry j) 0) (length j)) x e2 in
      let same : x.geometry ≡ s.geometry = same_is x.geometry s.geometry kept.1 in
      let value : super_in (block (after s.geometry j) 0) ≡ x = super_is (block (after s.geometry j) 0) (length j) x kept.0 in
      inl (record {
        found = record { info = i; super = x };
        is = a.0 ∙ b.0;
        counts =
            ap (λ (g : Geometry). counts_in x.geometry (block (after g j) 0)) same
            ∙ λ k. record { geometry = x.geometry; blobs = (value k).blobs; used_blocks = (value k).used_blocks; used_nodes = (value k).used_nodes };
        metadata = a.1 ∙ b.1 ∙ ap (λ (g : Geometry). cond (is_well_formed (metadata_in x (after g j))) (Some (metadata_in x (after g j))) None) (sym same);
      })

  split_info : (s : Super) → super_or_fault (block j 0) (length j) ≡ Ok s → (r : Result Info InfoFault) → info_or_fault (block j (info_at s.geometry)) (ring_slots s.geometry) ≡ r
      → IsReadable j ⊎ IsUnread j
  split_info s e (Err f) e1 =
      let a = from_super (Ok s) e in let b = from_info s.geometry (Err f) (replayed_super s.geometry j) e1 refl in
      inr (record { why = opening.Replay f; is = a.0 ∙ b.0; metadata = a.1 ∙ b.1 })
  split_info s e (Ok i) e1 = split_replayed s i e e1 (replayed_super s.geometry j) refl

  split_super : (r : Result Super SuperFault) → super_or_fault (block j 0) (length j) ≡ r → IsReadable j ⊎ IsUnread j
  split_super (Err f) e = let a = from_super (Err f) e in inr (record { why = opening.Super f; is = a.0; metadata = a.1 })
  split_super (Ok s) e = split_info s e (info_or_fault (block j (info_at s.geometry)) (ring_slots s.geometry)) refl

pub readable_or_not : (j : Blocks) → IsReadable j ⊎ IsUnread j
readable_or_not j = split_super j (super_or_fault (block j 0) (length j)) refl

-- ---- and it has a volume or none

well : (j : Blocks) (x : Readable) → readable j ≡ Ok x → readable_well j ≡ unless_wrong (survey_of (metadata_after j x)) x
unfolding readable_well
well j x is = ap (λ (r : Result Readable OpenFault). or_fault of_opening r >>= surveyed j) is

unread : (j : Blocks) (f : OpenFault) → readable j ≡ Err f → readable_well j ≡ Err (of_opening f)
unfolding readable_well
unread j f is = ap (λ (r : Result Readable OpenFault). or_fault of_opening r >>= surveyed j) is

pub inspected : (j : Blocks) (r : Result Readable MountFault) → readable_well j ≡ r → inspect_of j ≡ r >>= λ o. Ok (inspection_of j o)
inspected j r is = ap (λ (y : Result Readable MountFault). y >>= λ o. Ok (inspection_of j o)) is

by_survey : (j : Blocks) (x : IsReadable j) (fs : List SurveyFault) → survey_of (metadata_after j x.found) ≡ fs → HasVolume j ⊎ HasNone j
by_survey j x [] e = inl (record {
  found = x.found;
  well = well j x.found x.is ∙ ap (λ (fs : List SurveyFault). unless_wrong fs x.found) e;
  metadata = x.metadata ∙ ap (λ (b : Bool). cond b (Some (metadata_after j x.found)) None) ((survey_is_clean (metadata_after j x.found)).0 e);
  blocks = ap (λ (s : Super). metadata_in s (after (x.found).super.geometry j)) x.counts;
})
by_survey j x (s ∷ ss) e = inr (record {
  why = of_survey s;
  refused = inspected j (Err (of_survey s)) (well j x.found x.is ∙ ap (λ (fs : List SurveyFault). unless_wrong fs x.found) e);
  metadata = x.metadata ∙ ap (λ (b : Bool). cond b (Some (metadata_after j x.found)) None) (ill (is_well_formed (metadata_after j x.found)) refl);
}) where
  ill : (b : Bool) → is_well_formed (metadata_after j x.found) ≡ b → is_well_formed (metadata_after j x.found) ≡ false
  ill false is = is
  ill true is = absurd (differ (sym e ∙ (survey_is_clean (metadata_after j x.found)).1 is)) where
    differ : (s ∷ ss) ≡ [] → ⊥
    differ p = cc

either_way : (j : Blocks) → IsReadable j ⊎ IsUnread j → HasVolume j ⊎ HasNone j
either_way j (inl x) = by_survey j x (survey_of (metadata_after j x.found)) refl
either_way j (inr x) = inr (record { why = of_opening x.why; refused = inspected j (Err (of_opening x.why)) (unread j x.why x.is); metadata = x.metadata })

pub volume_or_none : (j : Blocks) → HasVolume j ⊎ HasNone j
volume_or_none j = either_way j (readable_or_not j)

-- ---- what laws say of it

pub ok_has_blobs : (j : Blocks) → HasVolume j ⊎ HasNone j → IsOk (inspect_of j) → IsSome (blobs j)
ok_has_blobs j (inl v) ok = subst (λ o. IsSome (option_map (λ m. blob_map (records_of m)) o)) (sym v.metadata) refl
ok_has_blobs j (inr n) ok = absurd (false≢true (subst IsOk n.refused ok))

pub blobs_are_ok : (j : Blocks) → HasVolume j ⊎ HasNone j → IsSome (blobs j) → IsOk (inspect_of j)
blobs_are_ok j (inl v) some = subst IsOk (sym (inspected j (Ok v.found) v.well)) refl
blobs_are_ok j (inr n) some = absurd (false≢true (subst (λ o. IsSome (option_map (λ m. blob_map (records_of m)) o)) n.metadata some))

is_found : (a b : Inspection) (r : Result Inspection MountFault) → r ≡ Ok a → r ≡ Ok b → a ≡ b
is_found a b r e f = cc

not_refused : {A : Type 0} (i : Inspection) (f : MountFault) (r : Result Inspection MountFault) → r ≡ Ok i → r ≡ Err f → A
not_refused i f r e g = absurd cc

pub found_blobs : (j : Blocks) (i : Inspection) → HasVolume j ⊎ HasNone j → inspect_of j ≡ Ok i → blobs j ≡ Some (blob_map (records_of (metadata_at i.geometry i.meta)))
found_blobs j i (inl v) is =
    let value : inspection_of j v.found ≡ i = is_found (inspection_of j v.found) i (inspect_of j) (inspected j (Ok v.found) v.well) is in
    ap (option_map (λ m. blob_map (records_of m))) v.metadata
    ∙ ap (λ (m : Metadata). Some (blob_map (records_of m))) (sym v.blocks)
    ∙ ap (λ (x : Inspection). Some (blob_map (records_of (metadata_at x.geometry x.meta)))) value
found_blobs j i (inr n) is = not_refused i n.why (inspect_of j) is n.refused
