-- The laws of the store.
use Rattle.std.proofs.Common.{◌≡◌, ◌-◌, ◌∷◌, ◌++◌, [], ℕ, Bool, true, false, cond, List, length, Option, Some, None, refl, ap, ◌∙◌, subst}
use Rattle.std.specs.Prelude.{find as find_first, option_map, IfSome}
use Rattle.spec_disk.specs.Disk.{Blocks}
use Rattle.spec_record.specs.declared.geometry.Geometry.{Geometry}
use Rattle.spec_record.specs.declared.info.Info.{Info}
use Rattle.spec_record.specs.Entry.{Entry}
use Rattle.spec_tree.specs.Order.{same_digest}
use Rattle.spec_tree.specs.declared.Digest.{Digest}
use Rattle.spec_image.specs.Chain.{BlobRecord}
use Rattle.spec_image.specs.Leaves.{Leaves}
use Rattle.spec_image.specs.Stored.{blocks_of}
use Rattle.spec_image.specs.Volume.{metadata_of}
use Rattle.spec_meta.specs.Blocks.{metadata_at}
use Rattle.spec_core.proofs.EntryLemmas.{lookup-insert_entry}
use Rattle.spec_core.proofs.Holding.{digest_total}
use Rattle.spec_core.specs.State.{find}
use Rattle.spec_rest.specs.Rest.{Map, HoldsEither}
use Rattle.bv_device.specs.Plan.{a_sync}
use Rattle.bv_device.specs.Told.{Disk, disk_with, now_of}
use Rattle.bv_journal.specs.Holds.{HoldsMeta, entries_of, with_entry}
use Rattle.bv_journal.specs.Rests.{synced}
use Rattle.bv_journal.proofs.AdvanceLemmas.{Journalled-holds}
use Rattle.bv_journal.proofs.DiskLemmas.{synced-sync}
use Rattle.bv_journal.proofs.SyncLemmas.{at_rest-sync}
use Rattle.bv_store.specs.Shown.{HasRecords}
use Rattle.bv_journaled.specs.Kept.{Keeps, map_at, records_at}
use Rattle.bv_journaled.specs.Since.{since, calls_since}
use Rattle.bv_journaled.specs.Standing.{Standing, stored_of, placed_at, placed_of, RestsOn, Both}
use Rattle.bv_journaled.specs.Held.{image_metadata, kept_held, newest_head}

pub leaves_both : (s : Standing) (a b : Map) → Both s a b → IfSome (stored_of s).told (λ d. Leaves d.base d.trace (HoldsEither a b))
leaves_both s a b both = each (stored_of s).told both
  where
    each : (o : Option Disk) → IfSome o (λ d. RestsOn s d a b) → IfSome o (λ d. Leaves d.base d.trace (HoldsEither a b))
    each None h = tt
    each (Some d) h = λ j left fair. kept_held s.meta.geometry h.info h.entries h.more h.durable d a b h.keeps j left fair

pub counts_events : (s : Standing) → IfSome (stored_of s).told (λ d. length d.trace ≡ (stored_of s).calls)
counts_events s = each s.device.told
  where
    each : (o : Option Disk) → IfSome (option_map (since s.opened) o) (λ d. length d.trace ≡ calls_since (option_map (since s.opened) o) (s.device.calls_made - s.opened))
    each None = tt
    each (Some d) = refl

-- the metadata that Now has: that of the entries, with the one that may not last yet
now_metadata : (g : Geometry) (i : Info) (es : List Entry) (more : Option Entry) (meta : Blocks) (d : Disk) (a b : Map) → Keeps g i es more meta d a b → metadata_of (now_of d) ≡ Some (metadata_at g (with_entry more meta))
now_metadata g i es more meta d a b k =
    image_metadata g (with_entry more meta) (now_of d)
    (subst (HoldsMeta g (with_entry more meta)) (synced-sync d) (Journalled-holds g i (es ++ entries_of more) (with_entry more meta) (synced (disk_with d a_sync)) (at_rest-sync g i es more meta d k.journal).rests.durable))
    (newest_head g i es more meta d k.journal) k.newest.formed

abbrev places_of : BlobRecord → List ℕ
places_of b = blocks_of b.extents

-- the blocks that are looked up are those of the first blob with this root
placed_first : (rs : List BlobRecord) (r : Digest) → find (placed_of rs) r ≡ option_map places_of (find_first (λ b. same_digest r b.root) rs)
placed_first [] r = refl
placed_first (x ∷ rs) r = lookup-insert_entry digest_total (placed_of rs) x.root (blocks_of x.extents) r ∙ go (same_digest r x.root) (placed_first rs r)
  where
    go : (b : Bool) → find (placed_of rs) r ≡ option_map places_of (find_first (λ y. same_digest r y.root) rs) → cond b (Some (blocks_of x.extents)) (find (placed_of rs) r) ≡ option_map places_of (cond b (Some x) (find_first (λ y. same_digest r y.root) rs))
    go true rest = refl
    go false rest = rest

shows : (s : Standing) (d : Disk) (a b : Map) → RestsOn s d a b → HasRecords s.meta.geometry (placed_at s.meta.geometry s.meta.blocks) b (now_of d)
shows s d a b k = record {
  metadata = metadata_at s.meta.geometry s.meta.blocks;
  is = subst (λ (m : Blocks). metadata_of (now_of d) ≡ Some (metadata_at s.meta.geometry m)) k.newest (now_metadata s.meta.geometry k.info k.entries k.more k.durable d a b k.keeps);
  same = k.keeps.newest.map ∙ ap (map_at s.meta.geometry) k.newest;
  geometry = refl;
  lie = placed_first (records_at s.meta.geometry s.meta.blocks);
}

pub shows_newest : (s : Standing) (a b : Map) → Both s a b → IfSome (stored_of s).told (λ d. HasRecords (stored_of s).geometry (stored_of s).placed b (now_of d))
shows_newest s a b both = each (stored_of s).told both
  where
    each : (o : Option Disk) → IfSome o (λ d. RestsOn s d a b) → IfSome o (λ d. HasRecords s.meta.geometry (placed_at s.meta.geometry s.meta.blocks) b (now_of d))
    each None h = tt
    each (Some d) h = shows s d a b h
