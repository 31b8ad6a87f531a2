-- A blob that has its blocks where the disk's metadata has it is sound there.
use Rattle.std.proofs.Common.{◌≡◌, ◌<◌, ℕ, ◌∷◌, [], Bool, true, false, cond, List, map, Option, None, Some, IfSome, IsSomeAnd, refl, ap, sym, ◌∙◌, subst}
use Rattle.std.specs.Prelude.{find as find_first, option_map}
use Rattle.spec_disk.specs.Disk.{Blocks, block}
use Rattle.spec_record.specs.Geometry.{block_at}
use Rattle.spec_record.specs.declared.geometry.Geometry.{Geometry}
use Rattle.spec_tree.specs.Order.{same_digest}
use Rattle.spec_tree.specs.declared.Digest.{Digest}
use Rattle.spec_tree.specs.declared.blob.Blob.{Blob}
use Rattle.spec_image.proofs.MapLemmas.{map_has}
use Rattle.spec_image.specs.Blobs.{blob_map, value_of}
use Rattle.spec_image.specs.Chain.{BlobRecord}
use Rattle.spec_image.specs.Metadata.{Metadata}
use Rattle.spec_image.specs.Stored.{AllVerify, blocks_of, fetched_bytes, fetched_path, stored}
use Rattle.spec_image.specs.Volume.{IsSound, blob_in, metadata_of}
use Rattle.spec_window.specs.Window.{Verifies}
use Rattle.spec_tree.specs.Tree.{windows_of}
use Rattle.spec_disk.specs.Images.{IsSettled}
use Rattle.spec_crash.specs.Crash.{HoldsWhole}
use Rattle.spec_image.specs.WellFormed.{records_of}
use Rattle.spec_core.proofs.Holding.{one_digest}
use Rattle.spec_core.specs.History.{Legal, last_state, opening_map}
use Rattle.spec_core.specs.State.{find}
use Rattle.spec_core.specs.declared.who.Who.{Who}
use Rattle.spec_rest.specs.Rest.{Map}
use Rattle.spec_seen.proofs.VersionLemmas.{IsOf, versioned_last}
use Rattle.spec_served.specs.Adds.{AreByLine}
use Rattle.spec_served.specs.Places.{blocks_by, image_blocks, publisher, record_blocks}
use Rattle.bv_device.specs.Told.{Disk, now_of}
use Rattle.bv_store.specs.Shown.{HasRecords}
use Rattle.bv_store.specs.Stored.{HasBlob, blob_record, blocks_on}
use Rattle.bv_volume.specs.Contents.{HoldsIts, KeepsContents}
use Rattle.bv_volume.specs.Located.{LiesBy, Located}
use Rattle.bv_volume.specs.Seen.{HasBlobsNow, HasTheMap, Opened, Seen}
use Rattle.bv_volume.specs.Sound.{FoundAreSoundNow, PublishedAreSound, PublishedAreSoundNow}

-- what was found has the root that was asked for
found_root : (rs : List BlobRecord) (r : Digest) (f : BlobRecord) → find_first (λ b. same_digest r b.root) rs ≡ Some f → r ≡ f.root
found_root [] r f is = absurd (cc)
found_root (x ∷ rs) r f is = go (same_digest r x.root) refl is (found_root rs r f)
  where
    go : (b : Bool) → same_digest r x.root ≡ b → cond b (Some x) (find_first (λ y. same_digest r y.root) rs) ≡ Some f → (find_first (λ y. same_digest r y.root) rs ≡ Some f → r ≡ f.root) → r ≡ f.root
    go true same found later = let its : x ≡ f = cc in one_digest r x.root same ∙ ap (λ (b : BlobRecord). b.root) its
    go false same found later = later found

-- its blocks are those of the record
blob_sound : (image : Blocks) (g : Geometry) (m : Metadata) (r : Digest) (f : BlobRecord) (blob : Blob) → m.super.geometry ≡ g → r ≡ f.root → value_of f ≡ blob → HasBlob r blob (map (λ k. block image (block_at g k)) (blocks_of f.extents)) → AllVerify m.super.geometry image f
blob_sound image g m r f blob geometry root is has =
    let at : HasBlob f.root (value_of f) (map (λ k. block image (block_at m.super.geometry k)) (blocks_of f.extents)) =
    subst (λ (x : Geometry). HasBlob f.root (value_of f) (map (λ k. block image (block_at x k)) (blocks_of f.extents))) (sym geometry)
    (subst (λ (x : Digest). HasBlob x (value_of f) (map (λ k. block image (block_at g k)) (blocks_of f.extents))) root
    (subst (λ (b : Blob). HasBlob r b (map (λ k. block image (block_at g k)) (blocks_of f.extents))) (sym is) has)) in
    at.sound

-- the record of a blob of the map, and where it lies
record Recorded (g : Geometry) (placed : List (Digest × List ℕ)) (image : Blocks) (r : Digest) (blob : Blob) : Type 0 where
  metadata : Metadata
  is : metadata_of image ≡ Some metadata
  geometry : metadata.super.geometry ≡ g
  found : BlobRecord
  there : blob_in metadata r ≡ Some found
  value : value_of found ≡ blob
  lies : find placed r ≡ Some (blocks_of found.extents)

recorded : (g : Geometry) (placed : List (Digest × List ℕ)) (m : Map) (image : Blocks) (r : Digest) (blob : Blob) → HasRecords g placed m image → find m r ≡ Some blob → Recorded g placed image r blob
recorded g placed m image r blob x has = go (blob_in x.metadata r) refl
  where
    known : option_map value_of (blob_in x.metadata r) ≡ Some blob
    known = sym (ap (λ (k : Map). find k r) x.same ∙ map_has (records_of x.metadata) r) ∙ has

    go : (o : Option BlobRecord) → blob_in x.metadata r ≡ o → Recorded g placed image r blob
    go None is = let never : None ≡ Some blob = sym (ap (λ (k : Option BlobRecord). option_map value_of k) is) ∙ known in absurd (cc)
    go (Some f) is =
        let both : Some (value_of f) ≡ Some blob = sym (ap (λ (k : Option BlobRecord). option_map value_of k) is) ∙ known in
        let its : value_of f ≡ blob = cc in
        record { metadata = x.metadata; is = x.is; geometry = x.geometry; found = f; there = is; value = its; lies = x.lie r ∙ ap (λ (k : Option BlobRecord). option_map (λ b. blocks_of b.extents) k) is }

-- the record that an image had of a blob
record Had (image : Blocks) (r : Digest) (blob : Blob) : Type 0 where
  metadata : Metadata
  is : metadata_of image ≡ Some metadata
  found : BlobRecord
  there : blob_in metadata r ≡ Some found
  value : value_of found ≡ blob

had : (image : Blocks) (opening : Map) (r : Digest) (blob : Blob) (o : Option Metadata) → metadata_of image ≡ o → option_map (λ m. blob_map (records_of m)) o ≡ Some opening → find opening r ≡ Some blob → Had image r blob
had image opening r blob None is opens has = absurd (cc)
had image opening r blob (Some m) is opens has = go (blob_in m r) refl
  where
    same : blob_map (records_of m) ≡ opening
    same = let h : Some (blob_map (records_of m)) ≡ Some opening = opens in cc

    known : option_map value_of (blob_in m r) ≡ Some blob
    known = sym (map_has (records_of m) r) ∙ ap (λ (k : Map). find k r) same ∙ has

    go : (k : Option BlobRecord) → blob_in m r ≡ k → Had image r blob
    go None there = let never : None ≡ Some blob = sym (ap (λ (k : Option BlobRecord). option_map value_of k) there) ∙ known in absurd (cc)
    go (Some f) there =
        let both : Some (value_of f) ≡ Some blob = sym (ap (λ (k : Option BlobRecord). option_map value_of k) there) ∙ known in
        let its : value_of f ≡ blob = cc in
        record { metadata = m; is = is; found = f; there = there; value = its }

map_twice : (image : Blocks) (g : Geometry) (bs : List ℕ) → map (λ k. block image k) (map (block_at g) bs) ≡ map (λ k. block image (block_at g k)) bs
map_twice image g [] = refl
map_twice image g (b ∷ bs) = ap (λ (xs : List (List ℕ)). block image (block_at g b) ∷ xs) (map_twice image g bs)

-- the same blocks under the same root, size and version verify alike
alike_sound : (r : Digest) (f0 f : BlobRecord) (blocks0 blocks : List (List ℕ)) → f0.root ≡ r → f.root ≡ r → value_of f0 ≡ value_of f → blocks0 ≡ blocks → ((w : ℕ) → w < windows_of f0.size → Verifies f0.root f0.size w (fetched_bytes f0 blocks0 w) (fetched_path f0 blocks0 w)) → (w : ℕ) → w < windows_of f.size → Verifies f.root f.size w (fetched_bytes f blocks w) (fetched_path f blocks w)
alike_sound r f0 f blocks0 blocks root0 root value same sound =
    subst (λ (x : Digest). (w : ℕ) → w < windows_of f.size → Verifies x f.size w (fetched_bytes (blob_record x (value_of f)) blocks w) (fetched_path (blob_record x (value_of f)) blocks w)) (root0 ∙ sym root)
    (subst (λ (b : Blob). (w : ℕ) → w < windows_of b.size → Verifies f0.root b.size w (fetched_bytes (blob_record f0.root b) blocks w) (fetched_path (blob_record f0.root b) blocks w)) value
    (subst (λ (bs : List (List ℕ)). (w : ℕ) → w < windows_of f0.size → Verifies f0.root f0.size w (fetched_bytes f0 bs w) (fetched_path f0 bs w)) same sound))

-- what an image's soundness says of the record that it has
had_sound : (image : Blocks) (r : Digest) (blob : Blob) (x : Had image r blob) → IsSound image r → AllVerify x.metadata.super.geometry image x.found
had_sound image r blob x sound =
    let at : IsSomeAnd (blob_in x.metadata r) (AllVerify x.metadata.super.geometry image) = subst (λ (o : Option Metadata). IsSomeAnd o (λ k. IsSomeAnd (blob_in k r) (AllVerify k.super.geometry image))) x.is sound in
    subst (λ (o : Option BlobRecord). IsSomeAnd o (AllVerify x.metadata.super.geometry image)) x.there at

-- a blob of the opening whose blocks are as they were
found_now : (g : Geometry) (placed : List (Digest × List ℕ)) (base image : Blocks) (r : Digest) (blob : Blob) → (x : Recorded g placed image r blob) (y : Had base r blob) → map (block_at g) (blocks_of x.found.extents) ≡ image_blocks r (metadata_of base) → map (λ k. block image (block_at g k)) (blocks_of x.found.extents) ≡ map (λ k. block base (block_at g k)) (blocks_of x.found.extents) → IsSound base r → IsSound image r
found_now g placed base image r blob x y lies same sound =
    let bs : List ℕ = blocks_of x.found.extents in
    let places : map (block_at g) bs ≡ map (block_at y.metadata.super.geometry) (blocks_of y.found.extents) =
    lies ∙ ap (image_blocks r) y.is ∙ ap (record_blocks y.metadata) y.there in
    let blocks : stored y.metadata.super.geometry base y.found ≡ map (λ k. block image (block_at g k)) bs =
    sym (map_twice base y.metadata.super.geometry (blocks_of y.found.extents)) ∙ ap (λ (ps : List ℕ). map (λ k. block base k) ps) (sym places) ∙ map_twice base g bs ∙ sym same in
    let whole : AllVerify g image x.found =
    alike_sound r y.found x.found (stored y.metadata.super.geometry base y.found) (map (λ k. block image (block_at g k)) bs) (sym (found_root (records_of y.metadata) r y.found y.there)) (sym (found_root (records_of x.metadata) r x.found x.there)) (y.value ∙ sym x.value) blocks
    (had_sound base r blob y sound) in
    subst (λ (o : Option Metadata). IsSomeAnd o (λ k. IsSomeAnd (blob_in k r) (AllVerify k.super.geometry image))) (sym x.is)
    (subst (λ (o : Option BlobRecord). IsSomeAnd o (AllVerify x.metadata.super.geometry image)) (sym x.there)
    (subst (λ (k : Geometry). AllVerify k image x.found) (sym x.geometry) whole))

module _ (v : Seen) where
  abbrev Now : Disk → Type 0
  Now d = HasRecords v.store.geometry v.store.placed (last_state v.history v.next).map (now_of d)

  abbrev Lie : Disk → Disk → Type 0
  Lie b d = (r : Digest) (places : List ℕ) → find v.store.placed r ≡ Some places → LiesBy v.store.geometry b d v.history r places

  abbrev Hold : Disk → Type 0
  Hold d = (r : Digest) (places : List ℕ) → find v.store.placed r ≡ Some places → HoldsIts v.store.geometry d v.history places (publisher r None v.history.events)

  abbrev Stay : Disk → Disk → Type 0
  Stay b d = d.base ≡ now_of b → (r : Digest) (blob : Blob) → publisher r None v.history.events ≡ None → find (last_state v.history v.next).map r ≡ Some blob → IsSound (now_of b) r → IsSound (now_of d) r

  one : Legal v.history v.next → (b d : Disk) → HoldsWhole (now_of b) (opening_map v.history) → Now d → Lie b d → Hold d → Stay b d
  one legal b d whole now lie hold base r blob none has sound =
      let x : Recorded v.store.geometry v.store.placed (now_of d) r blob = recorded v.store.geometry v.store.placed (last_state v.history v.next).map (now_of d) r blob now has in
      let bs : List ℕ = blocks_of x.found.extents in
      let opening : find (opening_map v.history) r ≡ Some blob = subst (λ (o : Option Who). IsOf v.history.version (opening_map v.history) r blob o) none ((versioned_last v.history v.next r legal).told blob has) in
      let y : Had (now_of b) r blob = had (now_of b) (opening_map v.history) r blob (metadata_of (now_of b)) refl whole.is opening in
      let lies : map (block_at v.store.geometry) bs ≡ image_blocks r (metadata_of (now_of b)) = subst (λ (o : Option Who). map (block_at v.store.geometry) bs ≡ blocks_by (now_of b) d.trace v.history.events r o) none (lie r bs x.lies) in
      let same : map (λ k. block (now_of d) (block_at v.store.geometry k)) bs ≡ map (λ k. block d.base (block_at v.store.geometry k)) bs = subst (λ (o : Option Who). HoldsIts v.store.geometry d v.history bs o) none (hold r bs x.lies) in
      found_now v.store.geometry v.store.placed (now_of b) (now_of d) r blob x y lies (same ∙ ap (λ (z : Blocks). map (λ k. block z (block_at v.store.geometry k)) bs) base) sound

  on : Legal v.history v.next → (b : Disk) (t : Option Disk) → HoldsWhole (now_of b) (opening_map v.history) → IfSome t Now → IfSome t (λ d. Lie b d) → IfSome t Hold → IfSome t (λ d. Stay b d)
  on legal b None whole now lie hold = tt
  on legal b (Some d) whole now lie hold = one legal b d whole now lie hold

  over : Legal v.history v.next → (o : Option Disk) → IfSome o (λ b. IsSettled b.trace × HoldsWhole (now_of b) (opening_map v.history)) → IfSome v.store.told Now → IfSome o (λ b. IsSettled b.trace → AreByLine [] v.history.events → IfSome v.store.told (λ d. Lie b d)) → IfSome v.store.told Hold → AreByLine [] v.history.events → IfSome o (λ b. IfSome v.store.told (λ d. Stay b d))
  over legal None opened now lie hold by = tt
  over legal (Some b) opened now lie hold by = on legal b v.store.told opened.1 now (lie opened.0 by) hold

  -- the state's map is there, while no write or sync has failed
  pub state_now : HasBlobsNow v → Opened v.store v.history → (last_state v.history v.next).stopped ≡ None → IfSome v.store.told Now
  state_now shown opened going = go v.store.told (shown opened)
    where
      go : (o : Option Disk) → IfSome o (λ d. HasTheMap v.store.geometry v.store.placed (last_state v.history v.next) (now_of d)) → IfSome o Now
      go None x = tt
      go (Some d) x = subst (λ (m : Map). HasRecords v.store.geometry v.store.placed m (now_of d)) (x.going going) x.records

  pub sound_found : HasBlobsNow v → Legal v.history v.next → Located v.history v.store.geometry v.store.began v.store.told v.store.placed → KeepsContents v.history v.store.geometry v.store.told v.store.placed → FoundAreSoundNow v
  sound_found shown legal located contents = λ opened going by. over legal v.store.began opened (state_now shown opened going) located (contents by) by

pub sound_now : (g : Geometry) (placed : List (Digest × List ℕ)) (m : Map) (image : Blocks) (r : Digest) (blob : Blob) → HasRecords g placed m image → find m r ≡ Some blob → ((places : List ℕ) → find placed r ≡ Some places → HasBlob r blob (map (λ k. block image (block_at g k)) places)) → IsSound image r
sound_now g placed m image r blob x has each =
    subst (λ (o : Option Metadata). IsSomeAnd o (λ k. IsSomeAnd (blob_in k r) (AllVerify k.super.geometry image))) (sym x.is) (go (blob_in x.metadata r) refl)
  where
    known : option_map value_of (blob_in x.metadata r) ≡ Some blob
    known = sym (ap (λ (k : Map). find k r) x.same ∙ map_has (records_of x.metadata) r) ∙ has

    go : (o : Option BlobRecord) → blob_in x.metadata r ≡ o → IsSomeAnd o (AllVerify x.metadata.super.geometry image)
    go None is = let never : None ≡ Some blob = sym (ap (λ (k : Option BlobRecord). option_map value_of k) is) ∙ known in absurd (cc)
    go (Some f) is =
        let both : Some (value_of f) ≡ Some blob = sym (ap (λ (k : Option BlobRecord). option_map value_of k) is) ∙ known in
        let its : value_of f ≡ blob = cc in
        let lies : find placed r ≡ Some (blocks_of f.extents) = x.lie r ∙ ap (λ (k : Option BlobRecord). option_map (λ b. blocks_of b.extents) k) is in
        blob_sound image g x.metadata r f blob x.geometry (found_root (records_of x.metadata) r f is) its (each (blocks_of f.extents) lies)

pub published_now : (v : Seen) → HasBlobsNow v → PublishedAreSound v.history (last_state v.history v.next).map v.store → PublishedAreSoundNow v
published_now v shown sound = λ opened going. go v.store.told (state_now v shown opened going) sound
  where
    go : (o : Option Disk) → IfSome o (λ d. HasRecords v.store.geometry v.store.placed (last_state v.history v.next).map (now_of d))
        → IfSome o (λ d. (r : Digest) (blob : Blob) (places : List ℕ) (w : Who) → publisher r None v.history.events ≡ Some w → find (last_state v.history v.next).map r ≡ Some blob → find v.store.placed r ≡ Some places → HasBlob r blob (blocks_on v.store.geometry d places))
        → IfSome o (λ d. (r : Digest) (blob : Blob) (w : Who) → publisher r None v.history.events ≡ Some w → find (last_state v.history v.next).map r ≡ Some blob → IsSound (now_of d) r)
    go None x y = tt
    go (Some d) x y = λ r blob w by has. sound_now v.store.geometry v.store.placed (last_state v.history v.next).map (now_of d) r blob x has (λ places lies. y r blob places w by has lies)
