-- An entry that is drawn up from the changes that make what was asked for is prepared.
use Rattle.std.proofs.Common.{◌≡◌, ℕ, List, refl, sym, subst, map}
use Rattle.std.specs.Prelude.{All}
use Rattle.spec_tree.specs.declared.Digest.{Digest}
use Rattle.spec_disk.specs.Disk.{Blocks}
use Rattle.spec_record.specs.declared.geometry.Geometry.{Geometry}
use Rattle.spec_record.specs.Field.{IsBlock}
use Rattle.spec_record.specs.EntryBlocks.{entry_blocks}
use Rattle.spec_image.specs.Metadata.{Metadata}
use Rattle.spec_meta.specs.Blocks.{metadata_at}
use Rattle.spec_meta.specs.Change.{after_all}
use Rattle.bv_txn.specs.declared.change.Change.{Change}
use Rattle.bv_txn.specs.Changes.{change_of}
use Rattle.bv_txn.specs.Plans.{Plans}
use Rattle.bv_journaled.specs.declared.prepared.Prepared.{Prepared}
use Rattle.bv_journaled.specs.Preparing.{Makes}
use Rattle.bv_journaled.specs.Standing.{IsPrepared, asked}

pub prepared_is : (g : Geometry) (meta : Blocks) (number n : ℕ) (p : Prepared) (roots : List Digest) (cs : List Change)
    → n ≡ number → p.purged.items ≡ roots → cs ≡ p.changes.items
    → Makes (metadata_at g meta) (record { purged = roots; published = p.published }) (map change_of p.changes.items)
    → Plans g meta n (after_all (metadata_at g meta) (map change_of cs)) p.entry → All (λ t. IsBlock t.1) p.entry.targets
    → p.blocks.items ≡ entry_blocks p.entry → IsPrepared g meta number p
prepared_is g meta number n p roots cs same_number same_roots same made plans whole blocks =
    let m : Metadata = metadata_at g meta in
    let asks : Makes m (asked p) (map change_of p.changes.items) =
    subst (λ (r : List Digest). Makes m (record { purged = r; published = p.published }) (map change_of p.changes.items))
    (sym same_roots) made in
    let planned : Plans g meta n (after_all m (map change_of p.changes.items)) p.entry =
    subst (λ (l : List Change). Plans g meta n (after_all m (map change_of l)) p.entry) same plans in
    record {
      changes = map change_of p.changes.items;
      changes_are = refl;
      fit = asks.fit;
      plans = subst (λ (k : ℕ). Plans g meta k (after_all m (map change_of p.changes.items)) p.entry) same_number planned;
      whole = whole;
      blocks = blocks;
      logged = asks.logged;
      published = asks.published;
      placed = asks.placed;
      nodes = asks.nodes;
    }
