-- The metadata of an image are what its replayed blocks say, where these are well formed.
use Rattle.std.proofs.Common.{◌≡◌, ℕ, List, length, Bool, true, false, cond, Option, Some, None, refl, ap, sym, ◌∙◌, subst}
use Rattle.std.specs.Prelude.{IsSomeAnd, option_map, option_and_then, is_some, if◌then◌else◌}
use Rattle.spec_disk.specs.Disk.{block}
use Rattle.spec_record.specs.declared.geometry.Geometry.{Geometry}
use Rattle.spec_record.specs.declared.superblock.Super.{Super}
use Rattle.spec_record.specs.Superblock.{super_of}
use Rattle.spec_record.proofs.TestLemmas.{both_true, equal}
use Rattle.spec_image.specs.Journal.{journal_of}
use Rattle.spec_image.specs.After.{after}
use Rattle.spec_image.specs.Metadata.{Metadata, metadata_in}
use Rattle.spec_image.specs.WellFormed.{records_of, is_well_formed}
use Rattle.spec_image.specs.WellFormedParts.{WellFormed}
use Rattle.spec_image.specs.Blobs.{blob_map}
use Rattle.spec_image.specs.Volume.{image_super, same_geometry, replayed_super, metadata_with, metadata_of, HasGeometry, blobs}
use Rattle.spec_image.proofs.WellFormedLemmas.{well_formed_parts}

-- ---- equal blocks, equal metadata

-- the metadata over the parts that it is made of
abbrev metadata_from : Geometry → Bool → List (List ℕ) → ℕ → Option Metadata
metadata_from g read blocks size =
    option_and_then (λ s. let m = metadata_in s blocks in if is_well_formed m then Some m else None)
    (if read then option_and_then (λ s. if same_geometry s.geometry g then Some s else None) (super_of (block blocks 0) size) else None)

with_parts : (image : List (List ℕ)) (g : Geometry) → metadata_with image g ≡ metadata_from g (is_some (journal_of g image).info) (after g image) (length image)
with_parts image g = refl

of_super : (g : Geometry) (a : List (List ℕ)) (o : Option Super) → IsSomeAnd o (λ s. s.geometry ≡ g) → option_and_then (λ s. metadata_with a s.geometry) o ≡ metadata_with a g
of_super g a None has = absurd has
of_super g a (Some s) has = ap (metadata_with a) has

of_geometry : (g : Geometry) (a : List (List ℕ)) → HasGeometry a g → metadata_of a ≡ metadata_with a g
unfolding metadata_of
of_geometry g a has = of_super g a (image_super a) has

pub equal_metadata : (g : Geometry) (a b : List (List ℕ)) → HasGeometry a g → HasGeometry b g → length a ≡ length b → is_some (journal_of g a).info ≡ is_some (journal_of g b).info → after g a ≡ after g b → metadata_of a ≡ metadata_of b
equal_metadata g a b has has' size read blocks =
    let parts : metadata_from g (is_some (journal_of g a).info) (after g a) (length a) ≡ metadata_from g (is_some (journal_of g b).info) (after g b) (length b) = λ i. metadata_from g (read i) (blocks i) (size i) in
    of_geometry g a has ∙ with_parts a g ∙ parts ∙ sym (with_parts b g) ∙ sym (of_geometry g b has')

pub equal_map : (g : Geometry) (a b : List (List ℕ)) → HasGeometry a g → HasGeometry b g → length a ≡ length b → is_some (journal_of g a).info ≡ is_some (journal_of g b).info → after g a ≡ after g b → blobs a ≡ blobs b
equal_map g a b has has' size read blocks = ap (option_map (λ m. blob_map (records_of m))) (equal_metadata g a b has has' size read blocks)

-- ---- the metadata of an image

and_then_some : {A B : Type 0} (o : Option A) (f : A → Option B) (y : B) → option_and_then f o ≡ Some y → (x : A) × (o ≡ Some x) × (f x ≡ Some y)
and_then_some None f y e = absurd cc
and_then_some (Some x) f y e = (x, refl, e)

if_some : {A : Type 0} (test : Bool) (o : Option A) (y : A) → cond test o None ≡ Some y → (test ≡ true) × (o ≡ Some y)
if_some true o y e = (refl, e)
if_some false o y e = absurd cc

one_of : {A : Type 0} (x y : A) → Some x ≡ Some y → x ≡ y
one_of x y e = cc

one_geometry : (a b : Geometry) → same_geometry a b ≡ true → a ≡ b
one_geometry a b e =
    let all = both_true _ _ e in
    let three = both_true _ _ all.0 in
    let two = both_true _ _ three.0 in
    let version = equal a.version b.version two.0 in
    let blocks = equal a.blocks b.blocks two.1 in
    let nodes = equal a.nodes b.nodes three.1 in
    let journal = equal a.journal b.journal all.1 in
    λ i. record { blocks = blocks i; nodes = nodes i; journal = journal i; version = version i }

-- what is known of an image's metadata
pub record Found (image : List (List ℕ)) (m : Metadata) : Type 0 where
  pub formed : WellFormed m
  pub geometry : HasGeometry image m.super.geometry
  pub read : m ≡ metadata_in m.super (after m.super.geometry image)

found_with : (image : List (List ℕ)) (g : Geometry) (m : Metadata) → metadata_with image g ≡ Some m → WellFormed m × (m.super.geometry ≡ g) × (m ≡ metadata_in m.super (after g image))
found_with image g m e =
    let outer = and_then_some _ _ m e in
    let s : Super = outer.0 in
    let made : Metadata = metadata_in s (after g image) in
    let formed = if_some (is_well_formed made) (Some made) m outer.2 in
    let same : made ≡ m = one_of made m formed.1 in
    let read = if_some (is_some (journal_of g image).info) (replayed_super g image) s outer.1 in
    let inner = and_then_some (super_of (block (after g image) 0) (length image)) (λ x. if same_geometry x.geometry g then Some x else None) s read.1 in
    let kept = if_some (same_geometry (inner.0).geometry g) (Some inner.0) s inner.2 in
    let one : inner.0 ≡ s = one_of inner.0 s kept.1 in
    let geometry : s.geometry ≡ g = ap (λ (x : Super). x.geometry) (sym one) ∙ one_geometry (inner.0).geometry g kept.0 in (
      well_formed_parts m (ap is_well_formed (sym same) ∙ formed.0),
      ap (λ (x : Metadata). x.super.geometry) (sym same) ∙ geometry,
      sym same ∙ ap (λ (x : Metadata). metadata_in x.super (after g image)) same,
    )

pub found : (image : List (List ℕ)) (m : Metadata) → metadata_of image ≡ Some m → Found image m
unfolding metadata_of
found image m e =
    let outer = and_then_some (image_super image) (λ s. metadata_with image s.geometry) m e in
    let s : Super = outer.0 in
    let all = found_with image s.geometry m outer.2 in
    record {
      formed = all.0;
      geometry = subst (λ (o : Option Super). IsSomeAnd o (λ x. x.geometry ≡ m.super.geometry)) (sym outer.1) (sym all.1);
      read = all.2 ∙ ap (λ (x : Geometry). metadata_in m.super (after x image)) (sym all.1);
    }
