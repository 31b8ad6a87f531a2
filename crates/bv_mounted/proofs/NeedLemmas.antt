-- The blobs of well-formed metadata lie at as many blocks as they need, each root once.
use Rattle.std.proofs.Common.{◌≡◌, ◌≤◌, ℕ, List, [], ◌∷◌, length, eqb, Option, Some, None, Ok, refl, ap, sym, ◌∙◌, arith, length-append}
use Rattle.std.proofs.lemmas.List.FromFn.{length-range_with_len}
use Rattle.std.proofs.lemmas.List.Sums.{sum_by-cons}
use Rattle.std.specs.Prelude.{Contains, option_map, sum_by}
use Rattle.std.specs.List.{range_with_len}
use Rattle.std.specs.Map.{values_of}
use Rattle.spec_tree.specs.declared.Digest.{Digest}
use Rattle.spec_tree.specs.Order.{same_digest}
use Rattle.spec_tree.specs.Tree.{need_of}
use Rattle.spec_disk.proofs.ImageLemmas.{Contains-head, Contains-cons}
use Rattle.spec_record.specs.declared.extent.Extent.{Extent}
use Rattle.spec_record.specs.declared.inode.Inode.{Inode}
use Rattle.spec_record.specs.declared.node_fault.NodeFault.TheVariants as faults
use Rattle.spec_record.proofs.TestLemmas.{equal}
use Rattle.spec_image.specs.Blobs.{value_of, blob_map}
use Rattle.spec_image.specs.Chain.{BlobRecord, wants, lengths, check_counts}
use Rattle.spec_image.specs.Metadata.{Metadata}
use Rattle.spec_image.specs.Stored.{blocks_of}
use Rattle.spec_image.specs.Volume.{blob_in}
use Rattle.spec_image.specs.WellFormed.{records_of, blobs_named}
use Rattle.spec_image.specs.WellFormedParts.{WellFormed}
use Rattle.spec_image.proofs.ChainLemmas.{bind_ok}
use Rattle.spec_image.proofs.CountLemmas.{count}
use Rattle.spec_image.proofs.MapLemmas.{map_has}
use Rattle.spec_core.specs.Room.{blob_need}
use Rattle.spec_core.specs.State.{find}
use Rattle.spec_core.proofs.Holding.{same_self}
use Rattle.spec_laws.proofs.RecordLemmas.{known_blob}
use Rattle.spec_meta.proofs.Counting.{lengths_more}
use Rattle.spec_meta.proofs.Frame.{wants_ok, chain_read}
use Rattle.spec_meta.proofs.MapLemmas.{none_named}
use Rattle.spec_meta.proofs.PurgeLemmas.{read_at}
use Rattle.bv_ledger.proofs.Sums.{sum_more}
use Rattle.bv_model.specs.Sole.{Sole}
use Rattle.bv_model.proofs.Adds.{sole-insert}
use Rattle.bv_journaled.specs.Standing.{placed_of}
use Rattle.bv_journaled.proofs.PlacedLemmas.{places, placed_has}
use Rattle.bv_volume.specs.Spaced.{LiesAt, LieAll}
use Rattle.bv_mounted.specs.Mounts.{blocks_of_all}

-- ---- one blob

length_blocks : (es : List Extent) → length (blocks_of es) ≡ lengths es
length_blocks [] = refl
length_blocks (e ∷ es) = omega (arith, length-append (range_with_len e.start e.len) (blocks_of es), length-range_with_len e.start e.len, length_blocks es, lengths_more e es)

counts_need : (i : Inode) → check_counts i ≡ Ok tt → i.blocks ≡ need_of i.version i.size
unfolding check_counts
counts_need i e =
    let need : ℕ = need_of i.version i.size in
    let first = bind_ok (wants (eqb i.blocks need) (faults.Count i.blocks need)) _ tt e in
    equal i.blocks need (wants_ok (eqb i.blocks need) (faults.Count i.blocks need) first.0 first.1)

-- a blob lies at as many blocks as it needs
pub places_need : (m : Metadata) (b : BlobRecord) → Contains (records_of m) b → length (places b) ≡ blob_need (value_of b)
places_need m b c =
    let p = read_at m.nodes m.super.geometry.blocks m.nodes.count b c in
    let s = chain_read m.nodes m.super.geometry.blocks p.0 b p.2 in
    let sum : lengths b.extents ≡ s.at.blocks = ap (λ (x : BlobRecord). lengths x.extents) s.is ∙ equal _ s.at.blocks s.sum in
    let need : blob_need (value_of b) ≡ need_of s.at.version s.at.size = ap (λ (x : BlobRecord). blob_need (value_of x)) s.is in
    length_blocks b.extents ∙ sum ∙ counts_need s.at s.counts ∙ sym need

-- ---- all blobs

-- where no root stands twice, the first root isn't among the others
pub first_alone : (r : BlobRecord) (rs : List BlobRecord) → ((root : Digest) → blobs_named (r ∷ rs) root ≤ 1) → blobs_named rs r.root ≡ 0
first_alone r rs apart =
    let sum = sum_by-cons (λ (x : BlobRecord). count (same_digest r.root x.root)) r rs in
    let here : count (same_digest r.root r.root) ≡ 1 = ap count (same_self r.root) in
    omega (arith, sum, here, apart r.root)

pub later_apart : (r : BlobRecord) (rs : List BlobRecord) → ((root : Digest) → blobs_named (r ∷ rs) root ≤ 1) → (root : Digest) → blobs_named rs root ≤ 1
later_apart r rs apart root = omega (arith, sum_by-cons (λ (x : BlobRecord). count (same_digest root x.root)) r rs, apart root)

pub unplaced : (r : BlobRecord) (rs : List BlobRecord) → blobs_named rs r.root ≡ 0 → find (placed_of rs) r.root ≡ None
unplaced r rs none = placed_has rs r.root ∙ ap (option_map places) (none_named rs r.root none)

unmapped : (r : BlobRecord) (rs : List BlobRecord) → blobs_named rs r.root ≡ 0 → find (blob_map rs) r.root ≡ None
unmapped r rs none = map_has rs r.root ∙ ap (option_map value_of) (none_named rs r.root none)

-- each root is placed once
pub placed_sole : (rs : List BlobRecord) → ((root : Digest) → blobs_named rs root ≤ 1) → Sole (placed_of rs)
placed_sole [] apart root = omega arith
placed_sole (r ∷ rs) apart root = sole-insert (placed_of rs) r.root (places r) (unplaced r rs (first_alone r rs apart)) (placed_sole rs (later_apart r rs apart)) root

-- the needs of the map are the blocks of all
needs_are : (rs : List BlobRecord) → ((root : Digest) → blobs_named rs root ≤ 1) → ((r : BlobRecord) → Contains rs r → length (places r) ≡ blob_need (value_of r)) → sum_by blob_need (values_of (blob_map rs)) ≡ length (blocks_of_all rs)
needs_are [] apart need = refl
needs_are (r ∷ rs) apart need =
    omega (
      arith,
      sum_more blob_need (blob_map rs) r.root (value_of r) (unmapped r rs (first_alone r rs apart)),
      length-append (places r) (blocks_of_all rs),
      need r (Contains-head r rs),
      needs_are rs (later_apart r rs apart) (λ x c. need x (Contains-cons r rs x c)),
    )

pub needs_of_all : (m : Metadata) → WellFormed m → sum_by blob_need (values_of (blob_map (records_of m))) ≡ length (blocks_of_all (records_of m))
needs_of_all m w = needs_are (records_of m) w.roots (places_need m)

-- each blob of the map lies at its blocks, and no other root does
pub lie_all : (m : Metadata) → LieAll (blob_map (records_of m)) (placed_of (records_of m))
lie_all m root =
    rw (map_has (records_of m) root, placed_has (records_of m) root) (each (blob_in m root) refl)
  where
    each : (o : Option BlobRecord) → blob_in m root ≡ o → LiesAt (option_map value_of o) (option_map places o)
    each None e = refl
    each (Some b) e = places_need m b (known_blob m root b e).0
