-- Where the blobs of a volume lie as a mount begins: at their extents in the image.
use Rattle.std.proofs.Common.{◌≡◌, ◌∷◌, ℕ, [], Bool, true, false, cond, List, map, Option, None, Some, IfSome, refl, ap, sym, ◌∙◌, subst}
use Rattle.std.specs.Prelude.{Contains, find as find_first, option_map}
use Rattle.spec_disk.specs.declared.event.Event.{Event}
use Rattle.spec_disk.specs.Images.{written_to}
use Rattle.spec_disk.specs.Disk.{Blocks, block, now_after}
use Rattle.spec_disk.proofs.ImageLemmas.{Contains-one, now_after-written}
use Rattle.spec_record.specs.declared.geometry.Geometry.{Geometry}
use Rattle.spec_record.specs.Geometry.{block_at}
use Rattle.spec_tree.specs.Order.{same_digest}
use Rattle.spec_tree.specs.declared.Digest.{Digest}
use Rattle.spec_image.specs.Chain.{BlobRecord}
use Rattle.spec_image.specs.Metadata.{Metadata}
use Rattle.spec_image.specs.Stored.{blocks_of}
use Rattle.spec_image.specs.Volume.{blob_in, metadata_of}
use Rattle.spec_meta.specs.Blocks.{metadata_at}
use Rattle.spec_core.proofs.EntryLemmas.{lookup-insert_entry}
use Rattle.spec_core.proofs.Holding.{digest_total}
use Rattle.spec_core.specs.History.{History}
use Rattle.spec_core.specs.State.{find}
use Rattle.spec_served.specs.Places.{image_blocks, record_blocks}
use Rattle.bv_device.specs.Told.{Disk, now_of}
use Rattle.bv_device.specs.Seen.{Seen}
use Rattle.bv_mount.specs.declared.inspected.Inspected.{Inspected}
use Rattle.bv_mount.specs.Inspects.{inspection}
use Rattle.bv_mount.specs.Recovers.{next_for, plan_for}
use Rattle.bv_ring.specs.Cursor.{Cursor}
use Rattle.bv_journaled.proofs.QuietLemmas.{SparesData}
use Rattle.bv_journaled.proofs.RecoveryLemmas.{recover_spares}
use Rattle.bv_journaled.specs.Since.{began_at, since}
use Rattle.bv_journaled.specs.Standing.{Standing, placed_at, placed_of, stored_of}
use Rattle.bv_volume.specs.Contents.{KeepsContents, contents_at}
use Rattle.bv_volume.specs.Located.{Located}
use Rattle.bv_mounted.specs.Mounts.{WasRecovered, first_standing, history_of}
use Rattle.bv_mounted.proofs.SafeLemmas.{image_metadata}

abbrev places_of : BlobRecord → List ℕ
places_of b = blocks_of b.extents

-- the blocks that are looked up are those of the first blob with this root
placed_first : (rs : List BlobRecord) (r : Digest) → find (placed_of rs) r ≡ option_map places_of (find_first (λ b. same_digest r b.root) rs)
placed_first [] r = refl
placed_first (x ∷ rs) r = lookup-insert_entry digest_total (placed_of rs) x.root (blocks_of x.extents) r ∙ go (same_digest r x.root) (placed_first rs r)
  where
    go : (b : Bool) → find (placed_of rs) r ≡ option_map places_of (find_first (λ y. same_digest r y.root) rs) → cond b (Some (blocks_of x.extents)) (find (placed_of rs) r) ≡ option_map places_of (cond b (Some x) (find_first (λ y. same_digest r y.root) rs))
    go true rest = refl
    go false rest = rest

record_places : (m : Metadata) (o : Option BlobRecord) (places : List ℕ) → option_map places_of o ≡ Some places → map (block_at m.super.geometry) places ≡ record_blocks m o
record_places m None places is = absurd (cc)
record_places m (Some b) places is = let same : blocks_of b.extents ≡ places = cc in ap (λ (bs : List ℕ). map (block_at m.super.geometry) bs) (sym same)

lies_in_image : (i : Inspected) (j : Blocks) (r : Digest) (places : List ℕ) → metadata_of j ≡ Some (metadata_at i.meta.geometry i.meta.blocks) → find (placed_at i.meta.geometry i.meta.blocks) r ≡ Some places → map (block_at i.meta.geometry) places ≡ image_blocks r (metadata_of j)
lies_in_image i j r places is there =
    let m : Metadata = metadata_at i.meta.geometry i.meta.blocks in
    record_places m (blob_in m r) places (sym (placed_first _ r) ∙ there) ∙ sym (ap (image_blocks r) is)

-- each blob lies where the image has it, where the device was settled
pub told_located : (i : Inspected) (n : ℕ) (dev : Seen) (ring : Cursor) (s : Standing) (h : History) → s ≡ first_standing dev n i.meta ring → h ≡ history_of i → IfSome dev.told (WasRecovered i n) → Located h (stored_of s).geometry (stored_of s).began (stored_of s).told (stored_of s).placed
told_located i n dev ring s h is opens was =
    subst (λ (k : History). Located k (stored_of s).geometry (stored_of s).began (stored_of s).told (stored_of s).placed) (sym opens)
    (subst (λ (x : Standing). Located (history_of i) (stored_of x).geometry (stored_of x).began (stored_of x).told (stored_of x).placed) (sym is) (go dev.told was))
  where
    go : (o : Option Disk) → IfSome o (WasRecovered i n) → Located (history_of i) i.meta.geometry (option_map (began_at n) o) (option_map (since n) o) (placed_at i.meta.geometry i.meta.blocks)
    go None w = tt
    go (Some d) w = λ settled by r places there. lies_in_image i (now_of (began_at n d)) r places (image_metadata i (now_of (began_at n d)) (w.gives settled)) there

-- ---- what blobs hold

-- the recovery writes to no data block
data_spared : (i : Inspected) → SparesData i.meta.geometry (plan_for (inspection i))
data_spared i =
    subst (λ (g : Geometry). SparesData g (plan_for (inspection i))) (sym i.lawful.geometry)
    (recover_spares i.geometry i.lawful.limits i.replay.entries.items i.replay.stale.items (next_for (inspection i)) i.lawful.within.stale)

block_spared : (base : Blocks) (events : List Event) (b : ℕ) → written_to b events ≡ [] → block (now_after base events) b ≡ block base b
block_spared base events b none =
    sym (Contains-one (block base b) (block (now_after base events) b) (subst (λ (ws : List (List ℕ)). Contains (block base b ∷ ws) (block (now_after base events) b)) none (now_after-written base events b)))

places_spared : (g : Geometry) (base : Blocks) (events : List Event) (places : List ℕ) → SparesData g events → map (λ b. block (now_after base events) (block_at g b)) places ≡ map (λ b. block base (block_at g b)) places
places_spared g base events [] spares = refl
places_spared g base events (b ∷ places) spares = λ k. block_spared base events (block_at g b) (spares b) k ∷ places_spared g base events places spares k

-- each blob holds what the image has there
pub told_contents : (i : Inspected) (n : ℕ) (dev : Seen) (ring : Cursor) (s : Standing) (h : History) → s ≡ first_standing dev n i.meta ring → h ≡ history_of i → IfSome dev.told (WasRecovered i n) → KeepsContents h (stored_of s).geometry (stored_of s).told (stored_of s).placed
told_contents i n dev ring s h is opens was =
    subst (λ (k : History). KeepsContents k (stored_of s).geometry (stored_of s).told (stored_of s).placed) (sym opens)
    (subst (λ (x : Standing). KeepsContents (history_of i) (stored_of x).geometry (stored_of x).told (stored_of x).placed) (sym is) (go dev.told was))
  where
    go : (o : Option Disk) → IfSome o (WasRecovered i n) → KeepsContents (history_of i) i.meta.geometry (option_map (since n) o) (placed_at i.meta.geometry i.meta.blocks)
    go None w by = tt
    go (Some d) w by = λ r places there.
        subst (λ (x : Disk). contents_at i.meta.geometry x places ≡ map (λ b. block x.base (block_at i.meta.geometry b)) places) (sym w.is)
        (places_spared i.meta.geometry (now_of (began_at n d)) (plan_for (inspection i)) places (data_spared i))
