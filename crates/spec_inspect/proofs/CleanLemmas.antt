-- A report is clean exactly where the image has a map of blobs, and each of them is whole.
use Rattle.std.proofs.Common.{◌≡◌, ◌<◌, ◌⊎◌, inl, inr, ℕ, zero, suc, List, [], ◌∷◌, length, map, get_or, All, Bool, true, false, cond, Option, Some, None, Result, Ok, Err, Ordering, refl, ap, sym, ◌∙◌, subst, arith}
use Rattle.std.proofs.lemmas.Cmp.{eq_by_cmp_equiv}
use Rattle.std.proofs.lemmas.List.Elements.{All-contains, Contains-get_or}
use Rattle.std.proofs.lemmas.Map.Views.{Contains-from_lookup, IsSome-lookup_from_Contains}
use Rattle.std.specs.BTreeMap.{is_at}
use Rattle.std.specs.BTreeSet.{insert_key}
use Rattle.std.specs.Map.{lookup, keys_of}
use Rattle.std.specs.Ordering.{match_ordering}
use Rattle.std.specs.Prelude.{Contains, IsSome, option_map, filter, find, not, ◌↔◌}
use Rattle.spec_disk.specs.Disk.{Blocks}
use Rattle.spec_disk.proofs.ImageLemmas.{Contains-head, Contains-cons, Contains-map}
use Rattle.spec_tree.specs.declared.Digest.{Digest}
use Rattle.spec_tree.specs.declared.blob.Blob.{Blob}
use Rattle.spec_tree.specs.Order.{digest_cmp, same_digest}
use Rattle.spec_tree.specs.Tree.{root_of}
use Rattle.spec_record.specs.declared.geometry.Geometry.{Geometry}
use Rattle.spec_image.specs.Chain.{BlobRecord}
use Rattle.spec_image.specs.Metadata.{Metadata}
use Rattle.spec_image.specs.Blobs.{value_of, blob_map}
use Rattle.spec_image.specs.Stored.{bytes_in}
use Rattle.spec_image.specs.Volume.{metadata_of, blobs, IsWhole}
use Rattle.spec_image.specs.WellFormed.{records_of}
use Rattle.spec_image.proofs.MapLemmas.{digest_total, map_has}
use Rattle.spec_image.proofs.SoundLemmas.{one_root}
use Rattle.spec_crash.specs.Crash.{HoldsWhole}
use Rattle.spec_laws.proofs.MetadataLemmas.{found}
use Rattle.spec_laws.proofs.RecordLemmas.{value_known, known_blob, whole_known}
use Rattle.spec_meta.specs.declared.survey_fault.SurveyFault.{SurveyFault}
use Rattle.spec_meta.specs.Survey.{survey_of}
use Rattle.spec_inspect.specs.declared.open_fault.OpenFault.{OpenFault}
use Rattle.spec_inspect.specs.declared.mount_fault.MountFault.{MountFault}
use Rattle.spec_inspect.specs.Faults.{of_opening, of_survey, or_fault, ◌>>=◌}
use Rattle.spec_inspect.specs.Readable.{Readable, readable, geometry_of, metadata_after}
use Rattle.spec_inspect.specs.Inspection.{Inspection, unless_wrong, surveyed, readable_well, inspection_of, inspect_of}
use Rattle.spec_inspect.specs.Report.{Findings, is_damaged, rising, damaged_in, findings_of, report_of, IsClean}
use Rattle.spec_inspect.specs.Laws.{HasVolume, HasNone}
use Rattle.spec_inspect.proofs.OutcomeLemmas.{volume_or_none, inspected}

-- ---- what was read of an image with a volume

-- it is readable, and nothing is wrong with its metadata
record IsFound (j : Blocks) (o : Readable) : Type 0 where
  is : readable j ≡ Ok o
  clean : survey_of (metadata_after j o) ≡ []

ok_same : (a b : Readable) (r : Result Readable MountFault) → r ≡ Ok a → r ≡ Ok b → a ≡ b
ok_same a b r e f = cc

no_fault : (j : Blocks) (x o : Readable) → readable j ≡ Ok x → (fs : List SurveyFault) → survey_of (metadata_after j x) ≡ fs → unless_wrong fs x ≡ Ok o → IsFound j o
no_fault j x o is [] clean e = subst (IsFound j) (ok_same x o (Ok x) refl e) (record { is = is; clean = clean })
no_fault j x o is (f ∷ fs) clean e = absurd cc

well_by : (j : Blocks) (o : Readable) (r : Result Readable OpenFault) → readable j ≡ r → (or_fault of_opening r >>= surveyed j) ≡ Ok o → IsFound j o
well_by j o (Err f) is e = absurd cc
well_by j o (Ok x) is e = no_fault j x o is (survey_of (metadata_after j x)) refl e

found_well : (j : Blocks) (o : Readable) → readable_well j ≡ Ok o → IsFound j o
unfolding readable_well
found_well j o e = well_by j o (readable j) refl e

well_found : (j : Blocks) (o : Readable) → IsFound j o → readable_well j ≡ Ok o
unfolding readable_well
well_found j o f = ap (λ (r : Result Readable OpenFault). or_fault of_opening r >>= surveyed j) f.is ∙ ap (λ (fs : List SurveyFault). unless_wrong fs o) f.clean

-- ---- lists

kept_none : (p : BlobRecord → Bool) (xs : List BlobRecord) → ((b : BlobRecord) → Contains xs b → p b ≡ false) → filter p xs ≡ []
kept_none p [] none = refl
kept_none p (x ∷ xs) none =
    ap (λ (t : Bool). cond t (x ∷ filter p xs) (filter p xs)) (none x (Contains-head x xs)) ∙ kept_none p xs (λ b c. none b (Contains-cons x xs b c))

none_kept : (p : BlobRecord → Bool) (xs : List BlobRecord) → filter p xs ≡ [] → (b : BlobRecord) → Contains xs b → p b ≡ false
none_kept p xs none = by_place xs none where
  first : (t : Bool) (x : BlobRecord) (rest : List BlobRecord) → cond t (x ∷ rest) rest ≡ [] → (t ≡ false) × (rest ≡ [])
  first true x rest e = absurd cc
  first false x rest e = (refl, e)

  at_place : (xs : List BlobRecord) → filter p xs ≡ [] → (k : ℕ) (d : BlobRecord) → k < length xs → p (get_or xs k d) ≡ false
  at_place [] e k d lt = absurd (omega (arith, lt))
  at_place (x ∷ xs) e zero d lt = (first (p x) x (filter p xs) e).0
  at_place (x ∷ xs) e (suc k) d lt = at_place xs (first (p x) x (filter p xs) e).1 k d (omega (arith, lt))

  by_place : (xs : List BlobRecord) → filter p xs ≡ [] → (b : BlobRecord) → Contains xs b → p b ≡ false
  by_place xs e b (k, lt, is) = ap p (sym is) ∙ at_place xs e k b lt

nothing_mapped : {A B : Type 0} (f : A → B) (xs : List A) → map f xs ≡ [] → xs ≡ []
nothing_mapped f [] e = refl
nothing_mapped f (x ∷ xs) e = absurd cc

insert_some : (ds : List Digest) (d : Digest) → insert_key digest_cmp ds d ≡ [] → ⊥
insert_some [] d e = absurd cc
insert_some (x ∷ xs) d e = by_order (digest_cmp d x) e where
  by_order : (o : Ordering) → match_ordering o (d ∷ x ∷ xs) (x ∷ xs) (x ∷ insert_key digest_cmp xs d) ≡ [] → ⊥
  by_order Ordering.Less e = absurd cc
  by_order Ordering.Equal e = absurd cc
  by_order Ordering.Greater e = absurd cc

none_rising : (ds : List Digest) → rising ds ≡ [] → ds ≡ []
none_rising [] e = refl
none_rising (d ∷ ds) e = absurd (insert_some (rising ds) d e)

-- ---- blobs that are whole

same_root : (root : Digest) → same_digest root root ≡ true
same_root root = (eq_by_cmp_equiv digest_total).refl root

not_true : (t : Bool) → not t ≡ false → t ≡ true
not_true true e = refl
not_true false e = absurd cc

module _ (j : Blocks) (m : Metadata) (has : metadata_of j ≡ Some m) where
  abbrev held : List (Digest × Blob)
  held = blob_map (records_of m)

  abbrev damage : BlobRecord → Bool
  damage = is_damaged m.super.geometry j

  -- the map's blobs are whole exactly where no record is damaged
  whole_clean : All (λ e. IsWhole j e.0) held → (b : BlobRecord) → Contains (records_of m) b → damage b ≡ false
  whole_clean whole b c =
      let known = value_known m b (found j m has).formed c in
      let among : Contains held (b.root, value_of b) = Contains-from_lookup {eq = λ x y. is_at (digest_cmp x) y} one_root b.root (value_of b) held known in
      let bytes : root_of (bytes_in m.super.geometry j b) ≡ b.root = (whole_known j m b has c).0 (All-contains (λ (e : Digest × Blob). IsWhole j e.0) held (b.root, value_of b) whole among) in
      ap not (ap (λ (d : Digest). same_digest d b.root) bytes ∙ same_root b.root)

  found_blob : (root : Digest) (o : Option BlobRecord) → find (λ b. same_digest root b.root) (records_of m) ≡ o → IsSome (option_map value_of o) → (b : BlobRecord) × (find (λ b. same_digest root b.root) (records_of m) ≡ Some b)
  found_blob root None e some = absurd cc
  found_blob root (Some b) e some = (b, e)

  clean_whole : ((b : BlobRecord) → Contains (records_of m) b → damage b ≡ false) → All (λ e. IsWhole j e.0) held
  clean_whole none k d lt =
      let e : Digest × Blob = get_or held k d in
      let key : Contains (keys_of held) e.0 = Contains-map (λ (x : Digest × Blob). x.0) held e (Contains-get_or held k d lt) in
      let some : IsSome (lookup (is_at (digest_cmp e.0)) held) = IsSome-lookup_from_Contains {eq = λ x y. is_at (digest_cmp x) y} (eq_by_cmp_equiv digest_total) e.0 held key in
      let there = found_blob e.0 (find (λ b. same_digest e.0 b.root) (records_of m)) refl (subst (λ (o : Option Blob). IsSome o) (map_has (records_of m) e.0) some) in
      let known = known_blob m e.0 there.0 there.1 in
      let bytes : root_of (bytes_in m.super.geometry j there.0) ≡ (there.0).root = one_root (root_of (bytes_in m.super.geometry j there.0)) (there.0).root (not_true (same_digest (root_of (bytes_in m.super.geometry j there.0)) (there.0).root) (none there.0 known.0)) in
      subst (IsWhole j) known.1 ((whole_known j m there.0 has known.0).1 bytes)

-- ---- the report

some_same : (a b : List (Digest × Blob)) (o : Option (List (Digest × Blob))) → o ≡ Some a → o ≡ Some b → a ≡ b
some_same a b o e f = cc

report_is : (j : Blocks) (o : Readable) → readable j ≡ Ok o → report_of j ≡ Ok (findings_of j o)
report_is j o is = ap (λ (r : Result Readable OpenFault). r >>= λ x. Ok (findings_of j x)) is

clean_by : (j : Blocks) (held : List (Digest × Blob)) → HoldsWhole j held → HasVolume j ⊎ HasNone j → (f : Findings) × (report_of j ≡ Ok f) × IsClean f
clean_by j held h (inr n) = absurd (none_some held (blobs j) (ap (option_map (λ m. blob_map (records_of m))) n.metadata) h.is) where
  none_some : (held : List (Digest × Blob)) (o : Option (List (Digest × Blob))) → o ≡ None → o ≡ Some held → ⊥
  none_some held o e f = absurd cc
clean_by j held h (inl v) =
    let o : Readable = v.found in
    let m : Metadata = metadata_after j o in
    let read = found_well j o v.well in
    let same : held ≡ blob_map (records_of m) = some_same held (blob_map (records_of m)) (blobs j) h.is (ap (option_map (λ (x : Metadata). blob_map (records_of x))) v.metadata) in
    let none = whole_clean j m v.metadata (subst (All (λ e. IsWhole j e.0)) same h.whole) in (
      findings_of j o,
      report_is j o read.is,
      record {
        faults = ap (map of_survey) read.clean;
        damaged = ap (λ (bs : List BlobRecord). rising (map (λ b. b.root) bs)) (kept_none (is_damaged (geometry_of o) j) (records_of m) none);
      },
    )

-- an image whose blobs are whole has a clean report
pub whole_is_clean : (j : Blocks) (held : List (Digest × Blob)) → HoldsWhole j held → (f : Findings) × (report_of j ≡ Ok f) × IsClean f
whole_is_clean j held h = clean_by j held h (volume_or_none j)

whole_by : (j : Blocks) (o : Readable) → IsFound j o → rising (damaged_in (geometry_of o) j (records_of (metadata_after j o))) ≡ [] → HasVolume j ⊎ HasNone j → (held : List (Digest × Blob)) × HoldsWhole j held
whole_by j o read damaged (inr n) = absurd (not_both (inspect_of j) n.why (inspected j (Ok o) (well_found j o read)) n.refused) where
  not_both : (r : Result Inspection MountFault) (f : MountFault) → r ≡ Ok (inspection_of j o) → r ≡ Err f → ⊥
  not_both r f e g = absurd cc
whole_by j o read damaged (inl v) =
    let same : v.found ≡ o = ok_same v.found o (readable_well j) v.well (well_found j o read) in
    let m : Metadata = metadata_after j o in
    let has : metadata_of j ≡ Some m = v.metadata ∙ ap (λ (x : Readable). Some (metadata_after j x)) same in
    let kept : filter (is_damaged (geometry_of o) j) (records_of m) ≡ [] = nothing_mapped (λ (b : BlobRecord). b.root) (filter (is_damaged (geometry_of o) j) (records_of m)) (none_rising (damaged_in (geometry_of o) j (records_of m)) damaged) in (
      blob_map (records_of m),
      record {
        is = ap (option_map (λ (x : Metadata). blob_map (records_of x))) has;
        whole = clean_whole j m has (none_kept (is_damaged (geometry_of o) j) (records_of m) kept);
      },
    )

clean_report : (j : Blocks) (f : Findings) (r : Result Readable OpenFault) → readable j ≡ r → (r >>= λ o. Ok (findings_of j o)) ≡ Ok f → IsClean f → (held : List (Digest × Blob)) × HoldsWhole j held
clean_report j f (Err x) is e clean = absurd cc
clean_report j f (Ok o) is e clean =
    let same : findings_of j o ≡ f = findings_same (findings_of j o) f (Ok (findings_of j o)) refl e in
    let survey : survey_of (metadata_after j o) ≡ [] = nothing_mapped of_survey (survey_of (metadata_after j o)) (ap (λ (x : Findings). x.faults) same ∙ clean.faults) in
    whole_by j o (record { is = is; clean = survey }) (ap (λ (x : Findings). x.damaged) same ∙ clean.damaged) (volume_or_none j)
  where
    findings_same : (a b : Findings) (r : Result Findings OpenFault) → r ≡ Ok a → r ≡ Ok b → a ≡ b
    findings_same a b r e g = cc

-- an image with a clean report has a map of blobs, each of them whole
pub clean_is_whole : (j : Blocks) (f : Findings) → report_of j ≡ Ok f → IsClean f → (held : List (Digest × Blob)) × HoldsWhole j held
clean_is_whole j f e clean = clean_report j f (readable j) refl e clean
