-- What an image stands for depends on its metadata blocks and its journal, and a blob on its blocks.
use Rattle.std.proofs.Common.{◌≡◌, ℕ, suc, ◌<◌, ◌≤◌, List, [], ◌∷◌, ◌++◌, length, map, get_or, Bool, true, false, cond, leb, Option, Some, None, refl, ap, sym, ◌∙◌, subst, arith}
use Rattle.std.specs.Result.{result_ok}
use Rattle.std.specs.Prelude.{IsSomeAnd, option_map, option_and_then, is_some, take, if◌then◌else◌}
use Rattle.spec_disk.specs.Disk.{block}
use Rattle.spec_record.specs.declared.geometry.Geometry.{Geometry}
use Rattle.spec_record.specs.declared.superblock.Super.{Super}
use Rattle.spec_record.specs.Geometry.{block_at, total_blocks}
use Rattle.spec_record.specs.declared.super_fault.SuperFault.TheVariants as faults
use Rattle.spec_record.specs.Superblock.{super_in, super_tests, super_or_fault, super_of}
use Rattle.spec_record.proofs.TestLemmas.{Passed, value_passed, passed_value, some_ok, both_true, equal, leb_true}
use Rattle.spec_image.specs.Same.{SameJournal, SameMetadata, SameBlocks}
use Rattle.spec_image.specs.Journal.{Journal, journal_of}
use Rattle.spec_image.specs.After.{after}
use Rattle.spec_image.specs.Chain.{BlobRecord}
use Rattle.spec_image.specs.Metadata.{Metadata, metadata_in}
use Rattle.spec_image.specs.WellFormed.{records_of, is_well_formed}
use Rattle.spec_image.specs.Stored.{blocks_of, stored, stored_data, bytes_in}
use Rattle.spec_image.specs.Volume.{image_super, same_geometry, metadata_with, metadata_of, HasGeometry, blobs}
use Rattle.spec_image.specs.Blobs.{blob_map}
use Rattle.spec_image.proofs.SameLemmas.{journal_same, after_same}

-- ---- a superblock is the same on every device that holds its blocks

-- what holds of a value with an equation
pub some_and : {A B : Type 0} (o : Option A) (f : A → B) (b : B) → IsSomeAnd o (λ x. f x ≡ b) → (x : A) × (o ≡ Some x) × (f x ≡ b)
some_and (Some x) f b e = (x, refl, e)
some_and None f b e = absurd e

last_changed : {E : Type 0} (tests : List (Bool × E)) (x y : Bool × E) → Passed (tests ++ x ∷ []) → y.0 ≡ true → Passed (tests ++ y ∷ [])
last_changed [] x y passed is = (is, tt)
last_changed (test ∷ tests) x y passed is = (passed.0, last_changed tests x y passed.1 is)

pub super_fits : (bytes : List ℕ) (n m : ℕ) (s : Super) → super_of bytes n ≡ Some s → total_blocks s.geometry ≤ m → super_of bytes m ≡ Some s
unfolding super_or_fault
super_fits bytes n m s is fits =
    let r = value_passed (super_tests bytes n) (super_in bytes) s (some_ok _ s is) in
    let needed : ℕ = total_blocks (super_in bytes).geometry in
    let few : needed ≤ m = subst (λ (x : Super). total_blocks x.geometry ≤ m) (sym r.1) fits in
    let passed : Passed (super_tests bytes m) =
    last_changed (take 12 (super_tests bytes n)) (leb needed n, faults.ShortDevice needed n) (leb needed m, faults.ShortDevice needed m) r.0 (leb_true needed m few) in
    ap result_ok (passed_value (super_tests bytes m) (super_in bytes) passed) ∙ ap (λ (x : Super). Some x) r.1

super_same : (g : Geometry) (a b : List (List ℕ)) → HasGeometry a g → SameJournal g a b → SameMetadata g a b → image_super a ≡ image_super b
super_same g a b has s m =
    let found = some_and (image_super a) (λ x. x.geometry) g has in
    let fits : total_blocks (found.0).geometry ≤ length b = subst (λ (x : Geometry). total_blocks x ≤ length b) (sym found.2) s.second_whole in
    let there : super_of (block a 0) (length b) ≡ Some found.0 = super_fits (block a 0) (length a) (length b) found.0 found.1 fits in
    found.1 ∙ sym there ∙ ap (λ (x : List ℕ). super_of x (length b)) (m 0 (omega arith))

-- the superblock of these bytes on a device of so many blocks, where it has this geometry
abbrev with_geometry : Geometry → List ℕ → ℕ → Option Super
with_geometry g bytes size = option_and_then (λ s. if same_geometry s.geometry g then Some s else None) (super_of bytes size)

one_geometry : (a b : Geometry) → same_geometry a b ≡ true → a ≡ b
one_geometry a b e =
    let all = both_true _ _ e in
    let three = both_true _ _ all.0 in
    let two = both_true _ _ three.0 in
    let version = equal a.version b.version two.0 in
    let blocks = equal a.blocks b.blocks two.1 in
    let nodes = equal a.nodes b.nodes three.1 in
    let journal = equal a.journal b.journal all.1 in
    λ i. record { blocks = blocks i; nodes = nodes i; journal = journal i; version = version i }

and_then_some : {A B : Type 0} (o : Option A) (f : A → Option B) (y : B) → option_and_then f o ≡ Some y → (x : A) × (o ≡ Some x) × (f x ≡ Some y)
and_then_some None f y e = absurd cc
and_then_some (Some x) f y e = (x, refl, e)

kept : {A : Type 0} (test : Bool) (x y : A) → cond test (Some x) None ≡ Some y → test ≡ true
kept true x y e = refl
kept false x y e = absurd cc

geometry_kept : (g : Geometry) (bytes : List ℕ) (n m : ℕ) (s : Super) → total_blocks g ≤ m → with_geometry g bytes n ≡ Some s → with_geometry g bytes m ≡ Some s
geometry_kept g bytes n m s whole is =
    let found = and_then_some (super_of bytes n) _ s is in
    let one = one_geometry (found.0).geometry g (kept _ found.0 s found.2) in
    let fits : total_blocks (found.0).geometry ≤ m = subst (λ (x : Geometry). total_blocks x ≤ m) (sym one) whole in
    ap (option_and_then (λ x. if same_geometry x.geometry g then Some x else None)) (super_fits bytes n m found.0 found.1 fits) ∙ found.2

pub both_some : {A : Type 0} (o p : Option A) → ((x : A) → o ≡ Some x → p ≡ Some x) → ((x : A) → p ≡ Some x → o ≡ Some x) → o ≡ p
both_some (Some x) p there back = sym (there x refl)
both_some None None there back = refl
both_some None (Some y) there back = back y refl

geometry_same : (g : Geometry) (bytes : List ℕ) (n m : ℕ) → total_blocks g ≤ n → total_blocks g ≤ m → with_geometry g bytes n ≡ with_geometry g bytes m
geometry_same g bytes n m first second =
    both_some (with_geometry g bytes n) (with_geometry g bytes m) (λ s. geometry_kept g bytes n m s second) (λ s. geometry_kept g bytes m n s first)

-- ---- the metadata and the map

-- the metadata over the parts that it is made of
unfoldable pub metadata_from : Geometry → Journal → List (List ℕ) → ℕ → Option Metadata
metadata_from g j blocks size =
    option_and_then (λ s. let m = metadata_in s blocks in if is_well_formed m then Some m else None)
    (if is_some j.info then with_geometry g (block blocks 0) size else None)

pub with_parts : (image : List (List ℕ)) (g : Geometry) → metadata_with image g ≡ metadata_from g (journal_of g image) (after g image) (length image)
unfolding metadata_from
with_parts image g = refl

pub size_same : (g : Geometry) (j : Journal) (blocks : List (List ℕ)) (n m : ℕ) → total_blocks g ≤ n → total_blocks g ≤ m → metadata_from g j blocks n ≡ metadata_from g j blocks m
unfolding metadata_from
size_same g j blocks n m first second =
    ap (λ (o : Option Super). option_and_then (λ s. let m = metadata_in s blocks in if is_well_formed m then Some m else None) (if is_some j.info then o else None))
    (geometry_same g (block blocks 0) n m first second)

with_same : (g : Geometry) (a b : List (List ℕ)) → SameJournal g a b → SameMetadata g a b → metadata_with a g ≡ metadata_with b g
with_same g a b s m =
    let journal = journal_same g a b s in
    let blocks = after_same g a b s m in
    let parts : metadata_from g (journal_of g a) (after g a) (length a) ≡ metadata_from g (journal_of g b) (after g b) (length a) = λ i. metadata_from g (journal i) (blocks i) (length a) in
    with_parts a g ∙ parts ∙ size_same g (journal_of g b) (after g b) (length a) (length b) s.first_whole s.second_whole ∙ sym (with_parts b g)

pub for_super : (g : Geometry) (a b : List (List ℕ)) (o : Option Super) → IsSomeAnd o (λ s. s.geometry ≡ g) → metadata_with a g ≡ metadata_with b g
    → option_and_then (λ s. metadata_with a s.geometry) o ≡ option_and_then (λ s. metadata_with b s.geometry) o
for_super g a b None has same = absurd has
for_super g a b (Some s) has same = ap (metadata_with a) has ∙ same ∙ ap (metadata_with b) (sym has)

pub metadata_same : (g : Geometry) (a b : List (List ℕ)) → HasGeometry a g → SameJournal g a b → SameMetadata g a b → metadata_of a ≡ metadata_of b
unfolding metadata_of
metadata_same g a b has s m =
    for_super g a b (image_super a) has (with_same g a b s m) ∙ ap (option_and_then (λ s. metadata_with b s.geometry)) (super_same g a b has s m)

pub blobs_same : (g : Geometry) (a b : List (List ℕ)) → HasGeometry a g → SameJournal g a b → SameMetadata g a b → blobs a ≡ blobs b
blobs_same g a b has s m = ap (option_map (λ m. blob_map (records_of m))) (metadata_same g a b has s m)

-- functions that agree on a list's elements
map_alike : (f h : ℕ → List ℕ) (xs : List ℕ) → ((k : ℕ) → k < length xs → f (get_or xs k 0) ≡ h (get_or xs k 0)) → map f xs ≡ map h xs
map_alike f h [] same = refl
map_alike f h (x ∷ xs) same =
    ap (λ (y : List ℕ). y ∷ map f xs) (same 0 (omega arith)) ∙ ap (λ (ys : List (List ℕ)). h x ∷ ys) (map_alike f h xs (λ k lt. same (suc k) (omega (arith, lt))))

pub bytes_same : (g : Geometry) (a b : List (List ℕ)) (r : BlobRecord) → SameBlocks g a b (blocks_of r.extents) → bytes_in g a r ≡ bytes_in g b r
bytes_same g a b r same =
    let blocks : stored g a r ≡ stored g b r = map_alike (λ d. block a (block_at g d)) (λ d. block b (block_at g d)) (blocks_of r.extents) same in
    ap (λ (x : List (List ℕ)). take r.size (stored_data r x)) blocks
