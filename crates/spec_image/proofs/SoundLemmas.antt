-- A sound blob is whole.
use Rattle.std.proofs.Common.{◌≡◌, List, [], ◌∷◌, Bool, true, false, cond, Option, Some, None, ◌⊎◌, inl, inr, refl, ap, sym, ◌∙◌}
use Rattle.std.proofs.lemmas.Map.Lookups.{exact_bytes}
use Rattle.std.specs.Prelude.{ℕ, IsSomeAnd, option_map, option_and_then, find}
use Rattle.std.specs.declared.cmp.Ordering.{Ordering}
use Rattle.std.specs.declared.cmp.Ordering.TheVariants.{Less, Equal, Greater}
use Rattle.std.specs.Ordering.{is_eq}
use Rattle.spec_tree.specs.declared.Digest.{Digest}
use Rattle.spec_tree.specs.Tree.{root_of}
use Rattle.spec_tree.specs.Order.{same_digest}
use Rattle.spec_record.specs.declared.geometry.Geometry.{Geometry}
use Rattle.spec_image.specs.Chain.{BlobRecord}
use Rattle.spec_image.specs.Metadata.{Metadata}
use Rattle.spec_image.specs.WellFormed.{records_of}
use Rattle.spec_image.specs.Stored.{stored, stored_data, bytes_in, tree_block, AllVerify}
use Rattle.spec_image.specs.Volume.{metadata_of, blob_in, IsWhole, IsSound}
use Rattle.spec_window.proofs.WholeLemmas.{whole_root}

is_Equal : (o : Ordering) → is_eq o ≡ true → o ≡ Equal
is_Equal Less e = cc
is_Equal Equal e = refl
is_Equal Greater e = cc

pub one_root : (a b : Digest) → same_digest a b ≡ true → a ≡ b
one_root a b e = ap (λ (bytes : List ℕ). record { 0 = bytes }) (exact_bytes a.0 b.0 (is_Equal _ e))

found_or_later : {A : Type 0} (b : Bool) (x y : A) (rest : Option A) → cond b (Some x) rest ≡ Some y → ((b ≡ true) × (x ≡ y)) ⊎ (rest ≡ Some y)
found_or_later true x y rest e = inl (refl, cc)
found_or_later false x y rest e = inr e

found_passes : {A : Type 0} (test : A → Bool) (xs : List A) (y : A) → find test xs ≡ Some y → test y ≡ true
found_passes test [] y e = absurd cc
found_passes test (x ∷ xs) y e =
    elim (found_or_later (test x) x y (find test xs) e) [
      | inl here ↦ ap test (sym here.1) ∙ here.0
      | inr later ↦ found_passes test xs y later
    ]

of_record : (g : Geometry) (image : List (List ℕ)) (b : BlobRecord) → AllVerify g image b → root_of (bytes_in g image b) ≡ b.root
of_record g image b h =
    let blocks = stored g image b in
    whole_root b.root b.size (stored_data b blocks) (tree_block b blocks) h

of_found : (g : Geometry) (image : List (List ℕ)) (root : Digest) (bs : List BlobRecord) (o : Option BlobRecord) → find (λ b. same_digest root b.root) bs ≡ o
    → IsSomeAnd o (AllVerify g image) → IsSomeAnd (option_map (bytes_in g image) o) (λ bytes. root_of bytes ≡ root)
of_found g image root bs None is h = absurd h
of_found g image root bs (Some b) is h = of_record g image b h ∙ sym (one_root root b.root (found_passes (λ x. same_digest root x.root) bs b is))

of_metadata : (image : List (List ℕ)) (root : Digest) (o : Option Metadata) → IsSomeAnd o (λ m. IsSomeAnd (blob_in m root) (AllVerify m.super.geometry image))
    → IsSomeAnd (option_and_then (λ m. option_map (bytes_in m.super.geometry image) (blob_in m root)) o) (λ bytes. root_of bytes ≡ root)
of_metadata image root None h = absurd h
of_metadata image root (Some m) h = of_found m.super.geometry image root (records_of m) (blob_in m root) refl h

pub sound_whole : (image : List (List ℕ)) (root : Digest) → IsSound image root → IsWhole image root
sound_whole image root h = of_metadata image root (metadata_of image) h
