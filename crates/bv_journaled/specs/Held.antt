-- An image with some metadata has its map, and each kept blob whole.
use Rattle.std.proofs.Common.{◌≡◌, ℕ, zero, suc, ◌≤◌, List, [], ◌∷◌, length, true, get_or, Option, Some, None, refl, ap, sym, ◌∙◌, subst, inl, inr, arith}
use Rattle.std.proofs.lemmas.List.Elements.{All-nil, All-contains_itself}
use Rattle.std.proofs.lemmas.Map.Views.{All-keys-insert_entry}
use Rattle.std.specs.Prelude.{All, Contains, IsSomeAnd, option_map, option_and_then, is_some}
use Rattle.std.specs.Map.{keys_of}
use Rattle.spec_tree.specs.declared.Digest.{Digest}
use Rattle.spec_tree.specs.declared.blob.Blob.{Blob}
use Rattle.spec_tree.specs.Order.{digest_cmp}
use Rattle.spec_tree.specs.Tree.{root_of}
use Rattle.spec_disk.specs.Disk.{Blocks, block}
use Rattle.spec_disk.proofs.ImageLemmas.{image-quiet, Contains-head, Contains-cons}
use Rattle.spec_record.specs.declared.geometry.Geometry.{Geometry}
use Rattle.spec_record.specs.declared.superblock.Super.{Super}
use Rattle.spec_record.specs.declared.info.Info.{Info}
use Rattle.spec_record.specs.Geometry.{total_blocks, block_at}
use Rattle.spec_record.specs.Superblock.{super_of, super_bytes}
use Rattle.spec_record.specs.Entry.{Entry}
use Rattle.spec_record.proofs.SuperLemmas.{super_is_read, super_is_block}
use Rattle.spec_image.specs.Blobs.{blob_map, value_of}
use Rattle.spec_image.specs.Chain.{BlobRecord}
use Rattle.spec_image.specs.Journal.{Journal, journal_of}
use Rattle.spec_image.specs.Metadata.{Metadata, metadata_in}
use Rattle.spec_image.specs.Stored.{blocks_of, bytes_in}
use Rattle.spec_image.specs.Volume.{image_super, same_geometry, metadata_with, metadata_of, IsWhole}
use Rattle.spec_image.specs.WellFormed.{records_of, is_well_formed}
use Rattle.spec_image.proofs.TornLemmas.{has_total}
use Rattle.spec_image.proofs.VolumeLemmas.{metadata_from, with_parts, bytes_same}
use Rattle.spec_laws.proofs.RecordLemmas.{whole_known}
use Rattle.spec_meta.specs.Blocks.{counts_in, metadata_at}
use Rattle.spec_crash.specs.Crash.{HoldsWhole}
use Rattle.spec_rest.specs.Rest.{Map, HoldsEither}
use Rattle.bv_txn.proofs.MetaLemmas.{counts_spelled}
use Rattle.bv_device.specs.Told.{Disk, MayLeave}
use Rattle.bv_journal.specs.Holds.{HoldsMeta, with_entry}
use Rattle.bv_journal.specs.Rests.{IsHead, AtRest, synced}
use Rattle.spec_image.specs.Leaves.{Leaves}
use Rattle.bv_journal.proofs.AppendLemmas.{at_rest-held}
use Rattle.bv_journaled.specs.Kept.{records_at, map_at, IsKept, KeepsMap, Keeps}

-- ---- the metadata of an image

itself : (g : Geometry) → same_geometry g g ≡ true
itself g = grind arith

with_super : (j : Blocks) (g : Geometry) (o : Option Super) → IsSomeAnd o (λ s. s.geometry ≡ g) → option_and_then (λ s. metadata_with j s.geometry) o ≡ metadata_with j g
with_super j g None has = absurd has
with_super j g (Some s) has = ap (metadata_with j) has

-- a superblock that spells itself is read
head_read : (g : Geometry) (meta : Blocks) (h : IsHead g (block meta 0)) (n : ℕ) → total_blocks g ≤ n → super_of (block meta 0) n ≡ Some h.super
head_read g meta h n room =
    let fits : total_blocks (h.super).geometry ≤ n = subst (λ (k : Geometry). total_blocks k ≤ n) (sym h.geometry) room in
    ap (λ (bytes : List ℕ). super_of bytes n) h.bytes_are
    ∙ (super_is_read (super_bytes h.super) n h.super (super_is_block h.super h.lawful)).1 (record { lawful = h.lawful; room = fits; bytes_are = refl })

from_parts : (g : Geometry) (o : Journal) (meta : Blocks) (n : ℕ) (s : Super) → is_some o.info ≡ true → super_of (block meta 0) n ≡ Some s → same_geometry s.geometry g ≡ true → is_well_formed (metadata_in s meta) ≡ true
    → metadata_from g o meta n ≡ Some (metadata_in s meta)
unfolding metadata_from
from_parts g o meta n s read found same formed = rw (read, found, same, formed) refl

-- what the head says are the counts that stand there
head_counts : (g : Geometry) (meta : Blocks) (h : IsHead g (block meta 0)) → counts_in g (block meta 0) ≡ h.super
head_counts g meta h = ap (counts_in g) h.bytes_are ∙ counts_spelled g h.super h.geometry h.lawful

pub image_metadata : (g : Geometry) (meta j : Blocks) → HoldsMeta g meta j → IsHead g (block meta 0) → is_well_formed (metadata_at g meta) ≡ true → metadata_of j ≡ Some (metadata_at g meta)
unfolding metadata_of
image_metadata g meta j holds h formed =
    let counts = head_counts g meta h in
    let same : same_geometry (h.super).geometry g ≡ true = ap (λ (k : Geometry). same_geometry k g) h.geometry ∙ itself g in
    let formed' : is_well_formed (metadata_in h.super meta) ≡ true = ap (λ (s : Super). is_well_formed (metadata_in s meta)) (sym counts) ∙ formed in
    with_super j g (image_super j) holds.geometry
    ∙ with_parts j g
    ∙ ap (λ (blocks : Blocks). metadata_from g (journal_of g j) blocks (length j)) holds.after
    ∙ from_parts g (journal_of g j) meta (length j) h.super holds.read (head_read g meta h (length j) (has_total g j holds.geometry)) same formed'
    ∙ ap (λ (s : Super). let o : Option Metadata = Some (metadata_in s meta) in o) (sym counts)

-- ---- its blobs

-- a blob's blocks are as they were synced
bytes_kept : (g : Geometry) (d : Disk) (r : BlobRecord) (j : Blocks) → IsKept g d r → MayLeave d j → bytes_in g j r ≡ bytes_in g (synced d) r
bytes_kept g d r j kept left =
    bytes_same g j (synced d) r (λ k lt. image-quiet d.base d.trace j (block_at g (get_or (blocks_of r.extents) k 0)) left (kept.quiet (get_or (blocks_of r.extents) k 0) (All-contains_itself (blocks_of r.extents) k 0 lt)))

all_roots : (P : Digest → Type 0) (rs : List BlobRecord) → ((r : BlobRecord) → Contains rs r → P r.root) → All P (keys_of (blob_map rs))
all_roots P [] h = All-nil P
all_roots P (r ∷ rs) h = All-keys-insert_entry digest_cmp r.root (value_of r) P (blob_map rs) (all_roots P rs (λ s c. h s (Contains-cons r rs s c))) (h r (Contains-head r rs))

entries_by_key : (P : Digest → Type 0) (es : List (Digest × Blob)) → All P (keys_of es) → All (λ e. P e.0) es
entries_by_key P [] h k e lt = absurd (omega (arith, lt))
entries_by_key P (x ∷ es) h zero e lt = h 0 x.0 (omega arith)
entries_by_key P (x ∷ es) h (suc k) e lt = entries_by_key P es (λ n d l. h (suc n) d (omega (arith, l))) k e (omega (arith, lt))

pub image_whole : (g : Geometry) (d : Disk) (meta j : Blocks) (held : Map) → HoldsMeta g meta j → IsHead g (block meta 0) → MayLeave d j → KeepsMap g d meta held → HoldsWhole j held
image_whole g d meta j held holds h left kept =
    let m : Metadata = metadata_at g meta in
    let is : metadata_of j ≡ Some m = image_metadata g meta j holds h kept.formed in
    let here : HoldsWhole j (map_at g meta) = record {
      is = ap (option_map (λ x. blob_map (records_of x))) is;
      whole = entries_by_key (IsWhole j) (map_at g meta) (all_roots (IsWhole j) (records_at g meta) (λ r c.
          (whole_known j m r is c).1 (ap root_of (bytes_kept g d r j (kept.blobs r c) left) ∙ (kept.blobs r c).whole)));
    } in
    subst (HoldsWhole j) (sym kept.map) here

pub newest_head : (g : Geometry) (i : Info) (es : List Entry) (more : Option Entry) (meta : Blocks) (d : Disk) → AtRest g i es more meta d → IsHead g (block (with_entry more meta) 0)
newest_head g i es None meta d a = a.rests.durable.meta_head
newest_head g i es (Some e) meta d a = a.next.head

-- each stop of a disk at rest leaves one of the two maps
pub kept_held : (g : Geometry) (i : Info) (es : List Entry) (more : Option Entry) (meta : Blocks) (d : Disk) (a b : Map) → Keeps g i es more meta d a b → Leaves d.base d.trace (HoldsEither a b)
kept_held g i es more meta d a b k j left fair =
    elim (at_rest-held g i es more meta d k.journal j left fair) [
      | inl old ↦ inl (image_whole g d meta j a old.holds (k.journal.rests.durable.meta_head) left k.durable)
      | inr new ↦ inr (image_whole g d (with_entry more meta) j b new.holds (newest_head g i es more meta d k.journal) left k.newest)
    ]
