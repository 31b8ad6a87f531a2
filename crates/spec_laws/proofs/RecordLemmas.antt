-- A record of well-formed metadata is the one of its root.
use Rattle.std.proofs.Common.{◌≡◌, ℕ, ◌<◌, ◌≤◌, ◌⊎◌, List, [], ◌∷◌, Bool, true, false, cond, Option, Some, refl, ap, sym, ◌∙◌, subst, inl, inr, arith}
use Rattle.std.proofs.lemmas.List.Sums.{sum_by-cons}
use Rattle.std.proofs.lemmas.Cmp.{eq_by_cmp_equiv}
use Rattle.std.specs.Prelude.{Contains, IsSomeAnd, option_map, option_and_then, find, count_by, ◌↔◌}
use Rattle.std.specs.BTreeMap.{is_at}
use Rattle.std.specs.Map.{lookup}
use Rattle.spec_tree.specs.declared.Digest.{Digest}
use Rattle.spec_tree.specs.Order.{digest_cmp, same_digest}
use Rattle.spec_tree.specs.Tree.{root_of}
use Rattle.spec_disk.proofs.ImageLemmas.{Contains-head, Contains-cons, Contains-cons_cases}
use Rattle.spec_image.specs.Chain.{BlobRecord}
use Rattle.spec_image.specs.Metadata.{Metadata}
use Rattle.spec_image.specs.Stored.{bytes_in, AllVerify}
use Rattle.spec_image.specs.Volume.{metadata_of, blob_in, bytes_of, IsWhole, IsSound}
use Rattle.spec_image.specs.WellFormed.{records_of}
use Rattle.spec_image.specs.WellFormedParts.{WellFormed}
use Rattle.spec_image.specs.Blobs.{value_of, blob_map}
use Rattle.spec_image.proofs.CountLemmas.{count, true_or_false}
use Rattle.spec_image.proofs.MapLemmas.{digest_total, map_has}
use Rattle.spec_image.proofs.SoundLemmas.{one_root}
use Rattle.spec_laws.proofs.MetadataLemmas.{found}

-- ---- the first that passes

-- one that passes and is among these counts
counted : {A : Type 0} (test : A → Bool) (xs : List A) (y : A) → Contains xs y → test y ≡ true → 0 < count_by test xs
counted test [] y (k, below, is) e = absurd (omega (arith, below))
counted test (x ∷ xs) y c e =
    elim (Contains-cons_cases x xs y c) [
      | inl is ↦ let here : count (test x) ≡ 1 = ap (λ z. count (test z)) is ∙ ap count e in omega (arith, here, sum_by-cons (λ z. count (test z)) x xs)
      | inr later ↦ omega (arith, counted test xs y later e, sum_by-cons (λ z. count (test z)) x xs)
    ]

-- where one alone passes, it is found
pub find_alone : {A : Type 0} (test : A → Bool) (xs : List A) (y : A) → Contains xs y → test y ≡ true → count_by test xs ≤ 1 → find test xs ≡ Some y
find_alone test [] y (k, below, is) e alone = absurd (omega (arith, below))
find_alone {A} test (x ∷ xs) y c e alone =
    let sum = sum_by-cons (λ z. count (test z)) x xs in
    elim (true_or_false (test x)) [
      | inl passes ↦
          let one : count (test x) ≡ 1 = ap count passes in
          let here : x ≡ y = elim (Contains-cons_cases x xs y c) [
            | inl is ↦ is
            | inr later ↦ let more = counted test xs y later e in absurd (omega (arith, more, sum, one, alone))
          ] in
          ap (λ (b : Bool). cond b (Some x) (find test xs)) passes ∙ ap (λ (z : A). Some z) here
      | inr fails ↦
          let later : Contains xs y = elim (Contains-cons_cases x xs y c) [
            | inl is ↦ absurd (apart (test x) (ap test is ∙ e) fails)
            | inr more ↦ more
          ] in
          ap (λ (b : Bool). cond b (Some x) (find test xs)) fails
          ∙ find_alone test xs y later e (omega (arith, sum, alone))
    ]
  where
    apart : (b : Bool) → b ≡ true → b ≡ false → ⊥
    apart true a b = cc
    apart false a b = cc

-- what is found is among these, and passes
found_there : {A : Type 0} (test : A → Bool) (xs : List A) (y : A) → find test xs ≡ Some y → Contains xs y × (test y ≡ true)
found_there test [] y e = absurd cc
found_there test (x ∷ xs) y e =
    elim (first_or_later (test x) x y (find test xs) e) [
      | inl here ↦ (subst (Contains (x ∷ xs)) here.1 (Contains-head x xs), ap test (sym here.1) ∙ here.0)
      | inr later ↦ let more = found_there test xs y later in (Contains-cons x xs y more.0, more.1)
    ]
  where
    first_or_later : {B : Type 0} (b : Bool) (v w : B) (rest : Option B) → cond b (Some v) rest ≡ Some w → ((b ≡ true) × (v ≡ w)) ⊎ (rest ≡ Some w)
    first_or_later true v w rest is = inl (refl, cc)
    first_or_later false v w rest is = inr is

-- ---- records

same_root : (root : Digest) → same_digest root root ≡ true
same_root root = (eq_by_cmp_equiv digest_total).refl root

pub blob_known : (m : Metadata) (b : BlobRecord) → WellFormed m → Contains (records_of m) b → blob_in m b.root ≡ Some b
blob_known m b w c = find_alone (λ x. same_digest b.root x.root) (records_of m) b c (same_root b.root) (w.roots b.root)

pub value_known : (m : Metadata) (b : BlobRecord) → WellFormed m → Contains (records_of m) b → lookup (is_at (digest_cmp b.root)) (blob_map (records_of m)) ≡ Some (value_of b)
value_known m b w c = map_has (records_of m) b.root ∙ ap (option_map value_of) (blob_known m b w c)

pub known_blob : (m : Metadata) (root : Digest) (b : BlobRecord) → blob_in m root ≡ Some b → Contains (records_of m) b × (b.root ≡ root)
known_blob m root b e = let all = found_there (λ x. same_digest root x.root) (records_of m) b e in (all.0, sym (one_root root b.root all.1))

-- ---- an image

abbrev bytes_at : List (List ℕ) → Digest → Option Metadata → Option (List ℕ)
bytes_at image root o = option_and_then (λ m. option_map (bytes_in m.super.geometry image) (blob_in m root)) o

pub bytes_known : (image : List (List ℕ)) (m : Metadata) (b : BlobRecord) → metadata_of image ≡ Some m → Contains (records_of m) b → bytes_of image b.root ≡ Some (bytes_in m.super.geometry image b)
bytes_known image m b e c =
    ap (bytes_at image b.root) e ∙ ap (option_map (bytes_in m.super.geometry image)) (blob_known m b (found image m e).formed c)

some_and : {A : Type 0} (P : A → Type 0) (o : Option A) (x : A) → o ≡ Some x → IsSomeAnd o P ↔ P x
some_and P o x e = (subst (λ o. IsSomeAnd o P) e, subst (λ o. IsSomeAnd o P) (sym e))

pub whole_known : (image : List (List ℕ)) (m : Metadata) (b : BlobRecord) → metadata_of image ≡ Some m → Contains (records_of m) b → IsWhole image b.root ↔ (root_of (bytes_in m.super.geometry image b) ≡ b.root)
whole_known image m b e c = some_and (λ bytes. root_of bytes ≡ b.root) (bytes_of image b.root) (bytes_in m.super.geometry image b) (bytes_known image m b e c)

pub sound_known : (image : List (List ℕ)) (m : Metadata) (b : BlobRecord) → metadata_of image ≡ Some m → Contains (records_of m) b → IsSound image b.root ↔ AllVerify m.super.geometry image b
sound_known image m b e c =
    let outer = some_and (λ (x : Metadata). IsSomeAnd (blob_in x b.root) (AllVerify x.super.geometry image)) (metadata_of image) m e in
    let inner = some_and (AllVerify m.super.geometry image) (blob_in m b.root) b (blob_known m b (found image m e).formed c) in
    (λ s. inner.0 (outer.0 s), λ v. outer.1 (inner.1 v))
