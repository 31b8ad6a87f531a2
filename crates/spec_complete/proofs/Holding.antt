-- What a line's blob has in its blocks verifies: what the opening image had there, of a sound blob, or
-- what verifies anyhow.
use Rattle.std.proofs.Common.{◌≡◌, ℕ, Bool, true, false, cond, Option, None, Some, List, [], ◌∷◌, map, refl, ap, sym, ◌∙◌, subst}
use Rattle.std.specs.Prelude.{All, IsSomeAnd, find as find_by, option_map}
use Rattle.std.specs.List.{AllByRecursion}
use Rattle.std.proofs.lemmas.List.Elements.{recursion_from_All}
use Rattle.spec_tree.specs.declared.Digest.{Digest}
use Rattle.spec_tree.specs.declared.blob.Blob.{Blob}
use Rattle.spec_tree.specs.Order.{same_digest}
use Rattle.spec_disk.specs.declared.event.Event.{Event}
use Rattle.spec_disk.specs.Disk.{Blocks, block}
use Rattle.spec_record.specs.Geometry.{block_at}
use Rattle.spec_record.specs.declared.geometry.Geometry.{Geometry}
use Rattle.spec_image.specs.Blobs.{blob_map, value_of}
use Rattle.spec_image.specs.Chain.{BlobRecord}
use Rattle.spec_image.specs.Metadata.{Metadata}
use Rattle.spec_image.specs.Stored.{AllVerify, blocks_of, fetched_bytes, fetched_path, stored}
use Rattle.spec_image.specs.Volume.{blob_in, blobs, metadata_of, IsSound}
use Rattle.spec_image.specs.WellFormed.{records_of}
use Rattle.spec_image.proofs.MapLemmas.{map_has}
use Rattle.spec_image.proofs.SoundLemmas.{one_root}
use Rattle.spec_window.specs.Window.{Verifies}
use Rattle.spec_core.proofs.Holding.{one_digest}
use Rattle.spec_core.specs.History.{History, Legal, last_state, opening_map}
use Rattle.spec_core.specs.State.{find}
use Rattle.spec_core.specs.declared.who.Who.{Who}
use Rattle.spec_served.specs.Device.{At, stored_at}
use Rattle.spec_served.specs.Places.{image_blocks, image_version, publisher, record_blocks, record_version, version_by}
use Rattle.spec_seen.proofs.VersionLemmas.{IsOf, versioned_last}
use Rattle.spec_seen.specs.Held.{up_to}
use Rattle.spec_headline.specs.Run.{HasSoundBlobs}
use Rattle.spec_complete.specs.Fit.{IsAbout, LinesFit}
use Rattle.spec_complete.specs.Sound.{ContentsVerify, HeldLinesFit, HoldsBy, LinesHoldTheirs, SoundContentsVerify, image_size, record_size}
use Rattle.spec_complete.proofs.Mapped.{has_before, legal_before}
use Rattle.spec_complete.proofs.Results.{some_is}

-- ---- a sound blob

found_passes : {A : Type 0} (test : A → Bool) (xs : List A) (y : A) → find_by test xs ≡ Some y → test y ≡ true
found_passes test [] y e = cc
found_passes test (x ∷ xs) y e = by (test x) refl e (found_passes test xs y) where
  by : (b : Bool) → test x ≡ b → cond b (Some x) (find_by test xs) ≡ Some y → (find_by test xs ≡ Some y → test y ≡ true) → test y ≡ true
  by true is e later = let same : x ≡ y = some_is x y e in ap test (sym same) ∙ is
  by false is e later = later e

-- what stands at these blocks of the device, and at the blob's
same_stored : (g : Geometry) (image : Blocks) (ks : List ℕ) → map (block image) (map (block_at g) ks) ≡ map (λ d. block image (block_at g d)) ks
same_stored g image [] = refl
same_stored g image (k ∷ ks) = ap (λ (bs : List (List ℕ)). block image (block_at g k) ∷ bs) (same_stored g image ks)

record_verifies : (g : Geometry) (image : Blocks) (root : Digest) (b : BlobRecord) → b.root ≡ root → AllVerify g image b
    → ContentsVerify root b.size b.version (map (block image) (map (block_at g) (blocks_of b.extents)))
record_verifies g image root b is all =
    subst (λ (contents : List (List ℕ)). ContentsVerify root b.size b.version contents) (sym (same_stored g image (blocks_of b.extents)))
    (λ w there. subst (λ (r : Digest). Verifies r b.size w (fetched_bytes b (stored g image b) w) (fetched_path b (stored g image b) w)) is (all w there))

pub sound_verifies : SoundContentsVerify
sound_verifies base root sound = by (metadata_of base) sound where
  found : (m : Metadata) (o : Option BlobRecord) → blob_in m root ≡ o → IsSomeAnd o (AllVerify m.super.geometry base)
      → ContentsVerify root (record_size o) (record_version o) (map (block base) (record_blocks m o))
  found m None is all = absurd all
  found m (Some b) is all = record_verifies m.super.geometry base root b (sym (one_root root b.root (found_passes (λ x. same_digest root x.root) (records_of m) b is))) all

  by : (o : Option Metadata) → IsSomeAnd o (λ m. IsSomeAnd (blob_in m root) (AllVerify m.super.geometry base))
      → ContentsVerify root (image_size root o) (image_version root o) (map (block base) (image_blocks root o))
  by None all = absurd all
  by (Some m) all = found m (blob_in m root) refl all

-- ---- the opening's blob

-- a blob of the opening is sound there, and has the size of the image's
sound_at : (base : Blocks) (root : Digest) (blob : Blob) (es : List (Digest × Blob)) → AllByRecursion (λ e. IsSound base e.0) es → find es root ≡ Some blob → IsSound base root
sound_at base root blob [] all is = cc
sound_at base root blob (e ∷ es) all is = by (same_digest root e.0) refl is (sound_at base root blob es all.1) where
  by : (b : Bool) → same_digest root e.0 ≡ b → cond b (Some e.1) (find es root) ≡ Some blob → (find es root ≡ Some blob → IsSound base root) → IsSound base root
  by true here is later = subst (IsSound base) (sym (one_digest root e.0 here)) all.0
  by false other is later = later is

all_sound : (base : Blocks) (opening : List (Digest × Blob)) → blobs base ≡ Some opening → HasSoundBlobs base → AllByRecursion (λ e. IsSound base e.0) opening
all_sound base opening is sound =
    recursion_from_All (λ (e : Digest × Blob). IsSound base e.0) opening
    (subst (λ (o : Option (List (Digest × Blob))). IsSomeAnd o (λ held. All (λ e. IsSound base e.0) held)) is sound)

sized : (o : Option BlobRecord) (blob : Blob) → option_map value_of o ≡ Some blob → record_size o ≡ blob.size
sized None blob is = cc
sized (Some b) blob is = let same : value_of b ≡ blob = some_is (value_of b) blob is in ap (λ (y : Blob). y.size) same

image_sized : (o : Option Metadata) (root : Digest) (opening : List (Digest × Blob)) (blob : Blob) → option_map (λ m. blob_map (records_of m)) o ≡ Some opening → find opening root ≡ Some blob
    → image_size root o ≡ blob.size
image_sized None root opening blob is found = cc
image_sized (Some m) root opening blob is found =
    let same : blob_map (records_of m) ≡ opening = some_is (blob_map (records_of m)) opening is in
    sized (blob_in m root) blob (sym (map_has (records_of m) root) ∙ ap (λ (es : List (Digest × Blob)). find es root) same ∙ found)

-- ---- a line's blob

module _ (base : Blocks) (told : List Event) (h : History) (next : ℕ) (legal : Legal h next) (opens : blobs base ≡ Some (opening_map h)) (sound : HasSoundBlobs base) where
  -- where nobody has published it, it is that of the opening
  opening_blob : (at : At) (about : IsAbout h at) → publisher at.blob.0 None at.before ≡ None → (blob : Blob) × (find (opening_map h) at.blob.0 ≡ Some blob) × (blob.size ≡ at.blob.1)
  opening_blob at about none = by (find (last_state (up_to h at.before) next).map at.blob.0) refl (has_before h next at legal about) where
    by : (o : Option Blob) → find (last_state (up_to h at.before) next).map at.blob.0 ≡ o → IsSomeAnd o (λ b. b.size ≡ at.blob.1)
        → (blob : Blob) × (find (opening_map h) at.blob.0 ≡ Some blob) × (blob.size ≡ at.blob.1)
    by None is size = absurd size
    by (Some blob) is size =
        let of = (versioned_last (up_to h at.before) next at.blob.0 (legal_before h next at legal about)).told blob is in
        (blob, subst (λ (o : Option Who). IsOf h.version (opening_map h) at.blob.0 blob o) none of, size)

  holds_by : (at : At) (about : IsAbout h at) (o : Option Who) → publisher at.blob.0 None at.before ≡ o → HoldsBy base told h at o
      → ContentsVerify at.blob.0 at.blob.1 (version_by base h at.blob.0 o) (stored_at base told h at)
  holds_by at about (Some who) is holds = holds
  holds_by at about None is holds =
      let own = opening_blob at about is in
      let size : image_size at.blob.0 (metadata_of base) ≡ at.blob.1 = image_sized (metadata_of base) at.blob.0 (opening_map h) own.0 opens own.1 ∙ own.2 in
      let verifies = sound_verifies base at.blob.0 (sound_at base at.blob.0 own.0 (opening_map h) (all_sound base (opening_map h) opens sound) own.1) in
      subst (λ (p : ℕ × List (List ℕ)). ContentsVerify at.blob.0 p.0 (image_version at.blob.0 (metadata_of base)) p.1) (λ i. (size i, (sym holds) i)) verifies

  pub held_fit : LinesHoldTheirs base told h → LinesFit base told h
  held_fit holds at about w there =
      let o : Option Who = publisher at.blob.0 None at.before in
      holds_by at about o refl (holds at about) w there

pub held_lines_fit : HeldLinesFit
held_lines_fit base told h next legal opens sound holds = held_fit base told h next legal opens sound holds
