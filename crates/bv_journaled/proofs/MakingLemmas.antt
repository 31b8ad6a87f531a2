-- The changes of an entry make what it was asked for.
use Rattle.std.proofs.Common.{◌≡◌, ◌≤◌, ℕ, ◌+◌, ◌*◌, List, [], ◌∷◌, ◌++◌, length, true, Option, Some, None, refl, ap, sym, ◌∙◌, subst, inl, inr, arith}
use Rattle.std.proofs.lemmas.List.{append-nil}
use Rattle.std.specs.Prelude.{Contains, IfSome}
use Rattle.std.specs.BTreeMap.{insert_entry}
use Rattle.spec_tree.specs.declared.Digest.{Digest}
use Rattle.spec_tree.specs.Order.{digest_cmp}
use Rattle.spec_disk.proofs.ImageLemmas.{Contains-cons_cases}
use Rattle.spec_record.specs.declared.geometry.Geometry.{Geometry}
use Rattle.spec_record.specs.Geometry.{bitmap_blocks}
use Rattle.spec_image.specs.Blobs.{blob_map}
use Rattle.spec_image.specs.Chain.{BlobRecord}
use Rattle.spec_image.specs.Metadata.{Metadata}
use Rattle.spec_image.specs.Volume.{blob_in}
use Rattle.spec_image.specs.WellFormed.{records_of, is_well_formed}
use Rattle.spec_image.specs.WellFormedParts.{WellFormed}
use Rattle.spec_image.proofs.WellFormedLemmas.{well_formed_parts}
use Rattle.spec_core.specs.Log.{purges}
use Rattle.spec_core.specs.declared.map_change.MapChange.{MapChange}
use Rattle.spec_core.specs.declared.map_change.MapChange.TheVariants as log
use Rattle.spec_meta.specs.Change.{Change, Publish, Purge, published, after_all}
use Rattle.spec_meta.specs.Fits.{FitsPublish}
use Rattle.spec_meta.proofs.Counting.{Inserted}
use Rattle.spec_meta.proofs.PublishLemmas.{publish_records}
use Rattle.bv_store.specs.declared.publication.Publication.{Publication}
use Rattle.bv_store.specs.Stored.{Entry, CanPublish, CanWrite, HasNodes}
use Rattle.bv_journaled.specs.Preparing.{Makes}
use Rattle.bv_journaled.specs.Publishing.{record_of, CanTake}
use Rattle.bv_journaled.specs.Purging.{purge_change, purge_changes}
use Rattle.bv_journaled.specs.Standing.{Standing, placed_of, placed_at, stored_of, IsHeld, IsRecordOf}
use Rattle.bv_journaled.proofs.EntryLemmas.{no_nodes, one_or_other}
use Rattle.bv_journaled.proofs.PlacedLemmas.{places, placed_inserted}
use Rattle.bv_journaled.proofs.PurgingLemmas.{Purges, purges_go, after_append, fit_append, log_append}

-- ---- purges alone

none_in_nil : (c : Change) → ¬ Contains [] c
none_in_nil c (k, below, is) = omega (arith, below)

-- a purge publishes nothing
not_published : (o : Option BlobRecord) (rest : List Change) (r : BlobRecord) → (Contains rest (Publish r) → ⊥)
    → Contains (purge_change o ++ rest) (Publish r) → ⊥
not_published None rest r later c = later c
not_published (Some b) rest r later c = elim (Contains-cons_cases (Purge b.nodes b.extents) rest (Publish r) c) [
  | inl is ↦ cc
  | inr more ↦ later more
]

pub purges_publish_nothing : (m : Metadata) (roots : List Digest) (r : BlobRecord)
    → Contains (purge_changes m roots) (Publish r) → ⊥
purges_publish_nothing m [] r c = none_in_nil (Publish r) c
purges_publish_nothing m (root ∷ roots) r c =
    not_published (blob_in m root) (purge_changes (after_all m (purge_change (blob_in m root))) roots) r
    (purges_publish_nothing (after_all m (purge_change (blob_in m root))) roots r) c

pub purges_make : (m : Metadata) (roots : List Digest) → is_well_formed m ≡ true
    → Makes m (record { purged = roots; published = None }) (purge_changes m roots)
purges_make m roots formed =
    let p : Purges m roots (purge_changes m roots) = purges_go m roots formed in
    record {
      fit = p.fit;
      logged = p.logged ∙ sym (append-nil (purges (blob_map (records_of m)) roots));
      published = λ r c. absurd (purges_publish_nothing m roots r c);
      placed = p.placed;
      nodes = omega (arith, p.nodes);
    }

pub purges_made : (m : Metadata) (roots : List Digest) (o : Option Publication) (cs : List Change) → is_well_formed m ≡ true
    → o ≡ None → cs ≡ purge_changes m roots → Makes m (record { purged = roots; published = o }) cs
purges_made m roots o cs formed none is =
    subst (λ (x : Option Publication). Makes m (record { purged = roots; published = x }) cs) (sym none)
    (subst (λ (l : List Change). Makes m (record { purged = roots; published = None }) l) (sym is) (purges_make m roots formed))

-- ---- a publication behind them

inserted : (m : Metadata) (b : BlobRecord) → WellFormed m → FitsPublish m b
    → Inserted b (records_of m) (records_of (published m b))
inserted m b w fit = with_nodes b.nodes refl
  where
    with_nodes : (ns : List ℕ) → b.nodes ≡ ns → Inserted b (records_of m) (records_of (published m b))
    with_nodes [] is = absurd (no_nodes (length b.extents) (ap (length {A = ℕ}) (sym is) ∙ fit.node_count))
    with_nodes (k ∷ ks) is = publish_records m b fit w k ks is

same_record : (a b : BlobRecord) → Publish a ≡ Publish b → a ≡ b
same_record a b e = cc

module _ (m : Metadata) (roots : List Digest) (p : Publication) (ks : List ℕ) (formed : is_well_formed m ≡ true)
    (fit : FitsPublish (after_all m (purge_changes m roots)) (record_of p ks))
    (blocks_are : places (record_of p ks) ≡ p.blocks.items) where
  abbrev cs : List Change
  cs = purge_changes m roots

  abbrev late : Metadata
  late = after_all m (purge_changes m roots)

  abbrev b : BlobRecord
  b = record_of p ks

  abbrev one : List Change
  one = Publish (record_of p ks) ∷ []

  publishes_it : (r : BlobRecord) → Contains (purge_changes m roots ++ Publish (record_of p ks) ∷ []) (Publish r) → IsRecordOf r p
  publishes_it r c = elim (one_or_other cs [] (Publish b) (Publish r) c) [
    | inl is ↦
        subst (λ (x : BlobRecord). IsRecordOf x p) (sym (same_record r b is))
        (record { root = refl; blob = refl; blocks = blocks_are })
    | inr before ↦
        let of_purges = subst (λ (l : List Change). Contains l (Publish r)) (append-nil cs) before in
        absurd (purges_publish_nothing m roots r of_purges)
  ]

  pub publish_makes : Makes m (record { purged = roots; published = Some p })
      (purge_changes m roots ++ Publish (record_of p ks) ∷ [])
  publish_makes =
      let first : Purges m roots cs = purges_go m roots formed in
      let i : Inserted b (records_of late) (records_of (published late b)) =
      inserted late b (well_formed_parts late first.formed) fit in
      let joined : after_all m (cs ++ one) ≡ published late b = after_append m cs one in
      record {
        fit = fit_append m cs one first.fit (fit, tt);
        logged = log_append m cs one ∙ ap (λ (l : List MapChange). l ++ log.Publish p.root p.blob ∷ []) first.logged;
        published = publishes_it;
        placed =
            ap (λ (x : Metadata). placed_of (records_of x)) joined
            ∙ placed_inserted b (records_of late) (records_of (published late b)) i fit.new_root
            ∙ (λ t. insert_entry digest_cmp (first.placed t) p.root (blocks_are t));
        nodes =
            let a : (after_all m (cs ++ one)).super.used_nodes ≡ late.super.used_nodes + length ks =
            ap (λ (x : Metadata). x.super.used_nodes) joined in
            omega (arith, a, first.nodes, fit.node_count);
      }

-- ---- what a store knows of a publication

pub can_take : (s : Standing) (e : Entry) → CanWrite s.meta.geometry (placed_at s.meta.geometry s.meta.blocks) e
    → IfSome e.published (HasNodes (stored_of s))
    → IfSome e.published (λ p. (b : ℕ) → Contains p.blocks.items b → ¬ IsHeld s b)
    → IfSome e.published (CanTake s.meta)
can_take s e can room free = each e.published can room free
  where
    each : (o : Option Publication) → IfSome o (CanPublish s.meta.geometry (placed_at s.meta.geometry s.meta.blocks))
        → IfSome o (HasNodes (stored_of s)) → IfSome o (λ p. (b : ℕ) → Contains p.blocks.items b → ¬ IsHeld s b)
        → IfSome o (CanTake s.meta)
    each None can room free = tt
    each (Some p) can room free = record { can = can; free = λ b c placed. free b c (inl placed); room = room }

-- a bit for each data block
pub bits_enough : (g : Geometry) → g.blocks ≤ 65536 * bitmap_blocks g
bits_enough g = omega arith
