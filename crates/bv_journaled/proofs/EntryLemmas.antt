-- The map that an entry makes is kept where what it publishes is.
use Rattle.std.proofs.Common.{◌≡◌, ◌⊎◌, ℕ, ◌+◌, ◌-◌, ◌/◌, leb, List, [], ◌∷◌, ◌++◌, length, Bool, true, false, cond, refl, ap, sym, ◌∙◌, subst, inl, inr, arith}
use Rattle.std.proofs.lemmas.Bool.{cases_lt}
use Rattle.std.specs.Prelude.{Contains}
use Rattle.spec_tree.specs.Tree.{root_of}
use Rattle.spec_disk.specs.Disk.{Blocks}
use Rattle.spec_disk.specs.Images.{IsSettled}
use Rattle.spec_disk.proofs.ImageLemmas.{image-settled, image-now, Contains-head, Contains-cons, Contains-cons_cases}
use Rattle.spec_record.specs.declared.geometry.Geometry.{Geometry}
use Rattle.spec_record.specs.declared.extent.Extent.{Extent}
use Rattle.spec_record.specs.Geometry.{block_at}
use Rattle.spec_record.specs.Node.{nodes_for}
use Rattle.spec_window.proofs.WholeLemmas.{whole_root}
use Rattle.spec_image.specs.Blobs.{value_of, blob_map}
use Rattle.spec_image.specs.Chain.{BlobRecord}
use Rattle.spec_image.specs.Metadata.{Metadata}
use Rattle.spec_image.specs.Stored.{stored, stored_data, bytes_in, tree_block, AllVerify}
use Rattle.spec_image.specs.WellFormed.{records_of, is_well_formed}
use Rattle.spec_image.specs.WellFormedParts.{WellFormed}
use Rattle.spec_image.proofs.WellFormedLemmas.{well_formed_parts}
use Rattle.spec_core.specs.Log.{changed}
use Rattle.spec_meta.specs.Blocks.{metadata_at}
use Rattle.spec_meta.specs.Change.{Change, Publish, Purge, published, purged, after_change, after_all, log_of_all}
use Rattle.spec_meta.specs.Fits.{FitsPublish, Fits, AllFit}
use Rattle.spec_meta.proofs.ChangeLemmas.{changes_keep, changes_logged}
use Rattle.spec_meta.proofs.Counting.{Inserted}
use Rattle.spec_meta.proofs.PublishLemmas.{publish_records}
use Rattle.spec_meta.proofs.PurgeLemmas.{read_at, purge_records}
use Rattle.spec_rest.specs.Rest.{Map}
use Rattle.bv_device.specs.Told.{Disk, now_of}
use Rattle.bv_store.specs.Stored.{HasBlob}
use Rattle.bv_journaled.specs.Kept.{IsKept, KeepsMap}

-- ---- the blobs after changes

pub no_nodes : (e : ℕ) → 0 ≡ nodes_for e → ⊥
no_nodes e is = elim (cases_lt 1 e) [
  | inl some ↦ let t : leb e 1 ≡ false = grind (arith, some) in let z : 0 ≡ 1 + (e - 1 + 5) / 6 = is ∙ ap (λ (x : Bool). cond x 1 (1 + (e - 1 + 5) / 6)) t in omega (arith, z)
  | inr few ↦ let t : leb e 1 ≡ true = grind (arith, few) in let z : 0 ≡ 1 = is ∙ ap (λ (x : Bool). cond x 1 (1 + (e - 1 + 5) / 6)) t in omega (arith, z)
]

pub more_in_front : {A : Type 0} (front back : List A) (b r : A) → Contains (front ++ back) r → Contains (front ++ b ∷ back) r
more_in_front [] back b r c = Contains-cons b back r c
more_in_front {A} (x ∷ xs) back b r c = elim (Contains-cons_cases x (xs ++ back) r c) [
  | inl is ↦ subst (λ (y : A). Contains (x ∷ (xs ++ b ∷ back)) y) is (Contains-head x (xs ++ b ∷ back))
  | inr later ↦ Contains-cons x (xs ++ b ∷ back) r (more_in_front xs back b r later)
]

pub one_or_other : {A : Type 0} (front back : List A) (b r : A) → Contains (front ++ b ∷ back) r → (r ≡ b) ⊎ Contains (front ++ back) r
one_or_other [] back b r c = elim (Contains-cons_cases b back r c) [ inl is ↦ inl (sym is) | inr later ↦ inr later ]
one_or_other {A} (x ∷ xs) back b r c = elim (Contains-cons_cases x (xs ++ b ∷ back) r c) [
  | inl is ↦ inr (subst (λ (y : A). Contains (x ∷ (xs ++ back)) y) is (Contains-head x (xs ++ back)))
  | inr later ↦ elim (one_or_other xs back b r later) [ inl here ↦ inl here | inr other ↦ inr (Contains-cons x (xs ++ back) r other) ]
]

of_publish : (m : Metadata) (b r : BlobRecord) → WellFormed m → FitsPublish m b → Contains (records_of (published m b)) r → (r ≡ b) ⊎ Contains (records_of m) r
of_publish m b r w fit c = with_nodes b.nodes refl
  where
    at_nodes : (k : ℕ) (ks : List ℕ) → b.nodes ≡ k ∷ ks → (r ≡ b) ⊎ Contains (records_of m) r
    at_nodes k ks is =
        let i : Inserted b (records_of m) (records_of (published m b)) = publish_records m b fit w k ks is in
        elim (one_or_other i.front i.back b r (subst (λ (l : List BlobRecord). Contains l r) i.after c)) [
          | inl here ↦ inl here
          | inr other ↦ inr (subst (λ (l : List BlobRecord). Contains l r) (sym i.before) other)
        ]

    with_nodes : (ns : List ℕ) → b.nodes ≡ ns → (r ≡ b) ⊎ Contains (records_of m) r
    with_nodes [] is = absurd (no_nodes (length b.extents) (ap (length {A = ℕ}) (sym is) ∙ fit.node_count))
    with_nodes (k ∷ ks) is = at_nodes k ks is

of_purge : (m : Metadata) (b r : BlobRecord) → WellFormed m → Contains (records_of m) b → Contains (records_of (purged m b.nodes b.extents)) r → Contains (records_of m) r
of_purge m b r w has c =
    let p = read_at m.nodes m.super.geometry.blocks m.nodes.count b has in
    let i : Inserted b (records_of (purged m b.nodes b.extents)) (records_of m) = purge_records m b w p.0 p.1 p.2 in
    subst (λ (l : List BlobRecord). Contains l r) (sym i.after) (more_in_front i.front i.back b r (subst (λ (l : List BlobRecord). Contains l r) i.before c))

-- a blob after a change that fits was there, or is what it publishes
pub of_change : (m : Metadata) (c : Change) (r : BlobRecord) → WellFormed m → Fits m c → Contains (records_of (after_change m c)) r → (c ≡ Publish r) ⊎ Contains (records_of m) r
of_change m (Publish b) r w fit has = elim (of_publish m b r w fit has) [ inl is ↦ inl (ap (λ (x : BlobRecord). Publish x) (sym is)) | inr old ↦ inr old ]
of_change m (Purge ks es) r w fit has =
    let nodes = subst (λ (x : List ℕ). Contains (records_of (purged m x es)) r) fit.nodes has in
    inr (of_purge m fit.blob r w fit.present (subst (λ (x : List Extent). Contains (records_of (purged m (fit.blob).nodes x)) r) fit.extents nodes))

pub of_changes : (m : Metadata) (cs : List Change) (r : BlobRecord) → is_well_formed m ≡ true → AllFit m cs → Contains (records_of (after_all m cs)) r → Contains cs (Publish r) ⊎ Contains (records_of m) r
of_changes m [] r formed fit has = inr has
of_changes m (c ∷ cs) r formed fit has =
    let next : is_well_formed (after_change m c) ≡ true = changes_keep m (c ∷ []) formed (fit.0, tt) in
    elim (of_changes (after_change m c) cs r next fit.1 has) [
      | inl later ↦ inl (Contains-cons c cs (Publish r) later)
      | inr there ↦ elim (of_change m c r (well_formed_parts m formed) fit.0 there) [
        | inl here ↦ inl (subst (λ (x : Change). Contains (c ∷ cs) x) here (Contains-head c cs))
        | inr old ↦ inr old
      ]
    ]

-- metadata blocks that say what changes make have the changed map, kept where each publication is
pub changed_map : (g : Geometry) (d : Disk) (meta new : Blocks) (held : Map) (cs : List Change) → KeepsMap g d meta held → AllFit (metadata_at g meta) cs → metadata_at g new ≡ after_all (metadata_at g meta) cs
    → ((r : BlobRecord) → Contains cs (Publish r) → IsKept g d r) → KeepsMap g d new (changed held (log_of_all (metadata_at g meta) cs))
changed_map g d meta new held cs kept fit says publications = record {
  formed = ap is_well_formed says ∙ changes_keep (metadata_at g meta) cs kept.formed fit;
  map = ap (λ (m : Map). changed m (log_of_all (metadata_at g meta) cs)) kept.map ∙ sym (changes_logged (metadata_at g meta) cs kept.formed fit) ∙ ap (λ (m : Metadata). blob_map (records_of m)) (sym says);
  blobs = λ r has.
      elim (of_changes (metadata_at g meta) cs r kept.formed fit (subst (λ (m : Metadata). Contains (records_of m) r) says has)) [
        | inl here ↦ publications r here
        | inr old ↦ kept.blobs r old
      ];
}

-- ---- a blob that was written

-- blocks that have a blob have its bytes, in an image where they are those of a record of it
pub blob_there : (g : Geometry) (image : Blocks) (r : BlobRecord) → HasBlob r.root (value_of r) (stored g image r) → AllVerify g image r × (root_of (bytes_in g image r) ≡ r.root)
blob_there g image r has =
    let all : AllVerify g image r = has.sound in
    (all, whole_root r.root r.size (stored_data r (stored g image r)) (tree_block r (stored g image r)) all)

-- on a settled disk a blob is kept that is there
pub written_kept : (g : Geometry) (d : Disk) (r : BlobRecord) → IsSettled d.trace → HasBlob r.root (value_of r) (stored g (now_of d) r) → IsKept g d r
written_kept g d r settled has = record {
  quiet = λ b is. settled (block_at g b);
  whole = ap (λ (image : Blocks). root_of (bytes_in g image r)) (sym (image-settled d.base d.trace (now_of d) settled (image-now d.base d.trace))) ∙ (blob_there g (now_of d) r has).1;
}
