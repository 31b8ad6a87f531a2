-- The answer of a check from its parts.
use Rattle.std.proofs.Common.{◌≡◌, ℕ, List, [], ◌∷◌, ◌++◌, length, map, get_or, take, drop, ◌+◌, ◌-◌, ◌<◌, ◌≤◌, Bool, true, false, cond, eqb, drop-cons, add-one, Result, Ok, Err, refl, ap, sym, ◌∙◌, subst, arith, length-append}
use Rattle.std.proofs.lemmas.List.{take_all, take_more, length-drop, append-nil}
use Rattle.std.proofs.lemmas.List.FromFn.{length-range_with_len}
use Rattle.std.proofs.lemmas.Grind.{flat_map-append}
use Rattle.std.specs.BTreeSet.{insert_key}
use Rattle.std.specs.List.{range_with_len, concat}
use Rattle.std.specs.Prelude.{IsErrAnd, MatchResult}
use Rattle.spec_disk.specs.Disk.{Blocks}
use Rattle.spec_tree.specs.declared.Digest.{Digest}
use Rattle.spec_tree.specs.Order.{digest_cmp}
use Rattle.spec_tree.specs.Tree.{need_of, data_blocks, tree_blocks_of}
use Rattle.spec_record.specs.declared.extent.Extent.{Extent}
use Rattle.spec_record.specs.declared.geometry.Geometry.{Geometry}
use Rattle.spec_image.specs.Chain.{BlobRecord, lengths}
use Rattle.spec_image.specs.Stored.{blocks_of, bytes_in}
use Rattle.spec_image.specs.WellFormed.{records_of}
use Rattle.spec_meta.specs.Blocks.{metadata_at}
use Rattle.spec_meta.specs.Survey.{survey_of}
use Rattle.spec_meta.specs.declared.survey_fault.SurveyFault.{SurveyFault}
use Rattle.spec_meta.proofs.Counting.{lengths_more as lengths_cons}
use Rattle.bv_device.specs.Seen.{Seen}
use Rattle.bv_device.specs.Reads.{Reads}
use Rattle.bv_txn.specs.Metas.{metadata_of}
use Rattle.bv_txn.specs.declared.survey.Survey.{Survey}
use Rattle.spec_inspect.specs.declared.open_fault.OpenFault.{OpenFault}
use Rattle.spec_inspect.specs.Faults.{of_survey, ◌>>=◌}
use Rattle.spec_inspect.specs.Readable.{Readable, readable, metadata_after}
use Rattle.spec_inspect.specs.Report.{Findings, rising, damaged_in, findings_of, report_of}
use Rattle.bv_mount.specs.declared.opening.Opening.{Opening}
use Rattle.bv_mount.specs.Opens.{Refuses, IsOutside, IsRead}
use Rattle.bv_mount.specs.Reports.{reported, reported_by}
use Rattle.bv_mount.proofs.OpenLemmas.{Refuses-first, Refuses-outside}
use Rattle.bv_mount.proofs.InspectLemmas.{metadata_same}
use Rattle.bv_check.specs.declared.report.Report.{Report}
use Rattle.bv_check.specs.declared.data_hasher.DataHasher.{DataHasher}
use Rattle.bv_check.specs.Hashed.{Plan, plan_of, HashesData, taken_bytes}
use Rattle.bv_check.specs.Checks.{AnswersCheck, IsReportOf, data_at, findings, sizes}

-- one digest more, from the back
pub rising_at : (ds : List Digest) (i : ℕ) (d : Digest) → i < length ds → rising (drop i ds) ≡ insert_key digest_cmp (rising (drop (i + 1) ds)) (get_or ds i d)
rising_at ds i d within =
    let parts : drop i ds ≡ get_or ds i d ∷ drop (i + 1) ds = rw (add-one) (drop-cons ds i d within) in
    ap rising parts

-- ---- the blocks of one extent more

pub blocks_more : (es : List Extent) (i : ℕ) (d : Extent) → i < length es → blocks_of (take (i + 1) es) ≡ blocks_of (take i es) ++ range_with_len (get_or es i d).start (get_or es i d).len
blocks_more es i d within =
    let e : Extent = get_or es i d in
    ap blocks_of (take_more es i d within)
    ∙ flat_map-append (λ (x : Extent). range_with_len x.start x.len) (take i es) (get_or es i d ∷ [])
    ∙ ap (λ (x : List ℕ). blocks_of (take i es) ++ x) (append-nil (range_with_len e.start e.len))

lengths_append : (xs : List Extent) (e : Extent) → lengths (xs ++ e ∷ []) ≡ lengths xs + e.len
lengths_append [] e = omega arith
lengths_append (x ∷ xs) e = omega (arith, lengths_append xs e, lengths_cons x xs, lengths_cons x (xs ++ e ∷ []))

pub lengths_more : (es : List Extent) (i : ℕ) (d : Extent) → i < length es → lengths (take (i + 1) es) ≡ lengths (take i es) + (get_or es i d).len
lengths_more es i d within = ap lengths (take_more es i d within) ∙ lengths_append (take i es) (get_or es i d)

length_blocks : (es : List Extent) → length (blocks_of es) ≡ lengths es
length_blocks [] = refl
length_blocks (e ∷ es) = omega (arith, length-append (range_with_len e.start e.len) (blocks_of es), length-range_with_len e.start e.len, length_blocks es, lengths_cons e es)

length_data : (g : Geometry) (j : Blocks) (ds : List ℕ) → length (data_at g j ds) ≡ length ds
length_data g j [] = refl
length_data g j (d ∷ ds) = omega (arith, length_data g j ds)

-- ---- the bytes of a blob, whose blocks all came

need_parts : (version size : ℕ) → eqb version 2 ≡ false → need_of version size ≡ data_blocks size + tree_blocks_of version size
unfolding need_of
need_parts version size e = refl

chosen : (version n before : ℕ) (x : List (List ℕ)) → before ≡ cond (eqb version 2) 0 (length x - n) → (eqb version 2 ≡ false → n ≤ length x) → take n (drop before x) ≡ cond (eqb version 2) (take n x) (drop (length x - n) x)
chosen version n before x = by_version (eqb version 2) where
  by_version : (t : Bool) → before ≡ cond t 0 (length x - n) → (t ≡ false → n ≤ length x) → take n (drop before x) ≡ cond t (take n x) (drop (length x - n) x)
  by_version true is fits = ap (λ (k : ℕ). take n (drop k x)) is
  by_version false is fits =
      let few : n ≤ length x = fits refl in
      ap (λ (k : ℕ). take n (drop k x)) is ∙ take_all n (drop (length x - n) x) (omega (arith, length-drop (length x - n) x, few))

before_is : (version size n : ℕ) (before : ℕ) → before ≡ cond (eqb version 2) 0 (tree_blocks_of version size) → n ≡ need_of version size → before ≡ cond (eqb version 2) 0 (n - data_blocks size)
before_is version size n before = by_version (eqb version 2) refl where
  by_version : (t : Bool) → eqb version 2 ≡ t → before ≡ cond t 0 (tree_blocks_of version size) → n ≡ need_of version size → before ≡ cond t 0 (n - data_blocks size)
  by_version true e is need = is
  by_version false e is need = omega (arith, is, need, need_parts version size e)

fits_data : (version size n : ℕ) → n ≡ need_of version size → eqb version 2 ≡ false → data_blocks size ≤ n
fits_data version size n need e = omega (arith, need, need_parts version size e)

pub bytes_are : (h0 h : DataHasher) (g : Geometry) (j : Blocks) (b : BlobRecord) → HashesData b.version b.size h0 → plan_of h ≡ plan_of h0 → lengths b.extents ≡ need_of b.version b.size
    → taken_bytes h (data_at g j (blocks_of b.extents)) ≡ bytes_in g j b
bytes_are h0 h g j b hashes same need =
    let x : List (List ℕ) = data_at g j (blocks_of b.extents) in
    let n : ℕ = data_blocks b.size in
    let count : length x ≡ need_of b.version b.size = length_data g j (blocks_of b.extents) ∙ length_blocks b.extents ∙ need in
    let before : h.before ≡ cond (eqb b.version 2) 0 (tree_blocks_of b.version b.size) = ap (λ (p : Plan). p.before) same ∙ hashes.before in
    let blocks : h.blocks ≡ n = ap (λ (p : Plan). p.blocks) same ∙ hashes.blocks in
    let size : h.size ≡ b.size = ap (λ (p : Plan). p.size) same ∙ hashes.size in
    (λ i. take (size i) (concat (take (blocks i) (drop h.before x))))
    ∙ ap (λ (y : List (List ℕ)). take b.size (concat y))
    (chosen b.version n h.before x (before_is b.version b.size (length x) h.before before count) (fits_data b.version b.size (length x) count))

-- ---- the answer

pub check_stopped : (r : Result Report OpenFault) (f : OpenFault) (old new : Seen) → IsErrAnd r (λ y. y ≡ f) → Reads (reported_by f) old new (λ j. Refuses (report_of j) f)
    → Reads (reported r) old new (AnswersCheck r)
check_stopped (Ok x) f old new is reads = absurd is
check_stopped (Err y) f old new is reads = subst (λ (x : OpenFault). Reads (reported_by x) old new (λ j. Refuses (report_of j) x)) (sym is) reads

pub damaged_stopped : {X : Type 0} (r : Result X OpenFault) (f : OpenFault) (old new : Seen) (P : X → Blocks → Type 0) → IsErrAnd r (λ y. y ≡ f)
    → Reads (reported_by f) old new (λ j. IsOutside f) → Reads (reported r) old new (λ j. MatchResult r (λ x. P x j) IsOutside)
damaged_stopped (Ok x) f old new P is reads = absurd is
damaged_stopped (Err y) f old new P is reads = subst (λ (x : OpenFault). Reads (reported_by x) old new (λ j. IsOutside x)) (sym is) reads

pub refuse_readable : (j : Blocks) (f : OpenFault) → Refuses (readable j) f → Refuses (report_of j) f
refuse_readable j f refuses = Refuses-first (readable j) (λ o. Ok (findings_of j o)) f refuses

pub refuse_outside : (j : Blocks) (f : OpenFault) → IsOutside f → Refuses (report_of j) f
refuse_outside j f outside = Refuses-outside (report_of j) f outside

pub reported_is : (o : Opening) (s : Survey) (roots : List Digest) (r : Report) (j : Blocks) → IsRead j o.superblock o.meta o.replay
    → s.blobs.items ≡ records_of (metadata_of o.meta) → s.faults.items ≡ survey_of (metadata_of o.meta)
    → roots ≡ damaged_in o.superblock.geometry j s.blobs.items → IsReportOf s roots o.replay r → report_of j ≡ Ok (findings r)
reported_is o s roots r j is blobs faults damage of =
    let x : Readable = record { info = is.replay.info; super = o.superblock } in
    let m : metadata_of o.meta ≡ metadata_after j x = ap (λ (g : Geometry). metadata_at g o.meta.blocks) o.lawful.geometry ∙ metadata_same o j x refl is.meta in
    let records : s.blobs.items ≡ records_of (metadata_after j x) = blobs ∙ ap records_of m in
    let value : findings_of j x ≡ findings r = λ k. record {
      faults = sym (of.faults ∙ ap (λ (fs : List SurveyFault). map of_survey fs) (faults ∙ ap survey_of m)) k;
      damaged = sym (of.damaged ∙ ap rising (damage ∙ ap (λ (bs : List BlobRecord). damaged_in o.superblock.geometry j bs) records)) k;
      blobs = sym (of.blobs ∙ ap (λ (bs : List BlobRecord). length bs) records) k;
      bytes = sym (of.bytes ∙ ap sizes records) k;
      stale = sym (of.stale ∙ ap (λ (ss : List ℕ). length ss) is.replay.stale) k;
    } in
    ap (λ (y : Result Readable OpenFault). y >>= λ z. Ok (findings_of j z)) is.readable_is ∙ ap (λ (v : Findings). Ok v) value
