-- The purges of the blobs of some roots: they fit, and change map and places as the log's purges do.
use Rattle.std.proofs.Common.{◌≡◌, ◌≤◌, ℕ, List, [], ◌∷◌, ◌++◌, true, Option, Some, None, refl, ap, sym, ◌∙◌, arith}
use Rattle.std.proofs.lemmas.List.{append-nil, append_assoc}
use Rattle.std.specs.Prelude.{option_map}
use Rattle.spec_tree.specs.declared.Digest.{Digest}
use Rattle.spec_tree.specs.declared.blob.Blob.{Blob}
use Rattle.spec_image.specs.Blobs.{value_of, blob_map}
use Rattle.spec_image.specs.Chain.{BlobRecord}
use Rattle.spec_image.specs.Metadata.{Metadata}
use Rattle.spec_image.specs.Volume.{blob_in}
use Rattle.spec_image.specs.WellFormed.{records_of, is_well_formed}
use Rattle.spec_image.specs.WellFormedParts.{WellFormed}
use Rattle.spec_image.proofs.MapLemmas.{map_has}
use Rattle.spec_image.proofs.WellFormedLemmas.{well_formed_parts}
use Rattle.spec_core.specs.declared.map_change.MapChange.{MapChange}
use Rattle.spec_core.specs.declared.map_change.MapChange.TheVariants as log
use Rattle.spec_core.specs.Log.{without, purge_of, purges}
use Rattle.spec_core.specs.State.{find}
use Rattle.spec_laws.proofs.RecordLemmas.{known_blob}
use Rattle.spec_meta.specs.Change.{Change, Purge, purged, after_change, after_all, log_of, log_of_all}
use Rattle.spec_meta.specs.Fits.{AllFit}
use Rattle.spec_meta.proofs.ChangeLemmas.{changes_keep, purge_logged}
use Rattle.spec_meta.proofs.Counting.{Inserted}
use Rattle.spec_meta.proofs.MapLemmas.{map_taken}
use Rattle.spec_meta.proofs.PurgeLemmas.{read_at, purge_records}
use Rattle.bv_store.specs.Stored.{placed_without}
use Rattle.bv_journaled.specs.Purging.{purge_change, purge_changes}
use Rattle.bv_journaled.specs.Standing.{placed_of}
use Rattle.bv_journaled.proofs.PlacedLemmas.{places, placed_has, placed_taken, without_absent}

-- ---- changes joined

pub after_append : (m : Metadata) (xs ys : List Change) → after_all m (xs ++ ys) ≡ after_all (after_all m xs) ys
after_append m [] ys = refl
after_append m (x ∷ xs) ys = after_append (after_change m x) xs ys

pub fit_append : (m : Metadata) (xs ys : List Change) → AllFit m xs → AllFit (after_all m xs) ys → AllFit m (xs ++ ys)
fit_append m [] ys first second = second
fit_append m (x ∷ xs) ys first second = (first.0, fit_append (after_change m x) xs ys first.1 second)

pub log_append : (m : Metadata) (xs ys : List Change) → log_of_all m (xs ++ ys) ≡ log_of_all m xs ++ log_of_all (after_all m xs) ys
log_append m [] ys = refl
log_append m (x ∷ xs) ys =
    ap (λ (l : List MapChange). log_of m x ++ l) (log_append (after_change m x) xs ys)
    ∙ sym (append_assoc (log_of m x) (log_of_all (after_change m x) xs) (log_of_all (after_all (after_change m x) xs) ys))

-- ---- purges

-- what the purges of some roots make
pub record Purges (m : Metadata) (roots : List Digest) (cs : List Change) : Type 0 where
  pub fit : AllFit m cs
  pub formed : is_well_formed (after_all m cs) ≡ true
  pub logged : log_of_all m cs ≡ purges (blob_map (records_of m)) roots
  pub placed : placed_of (records_of (after_all m cs)) ≡ placed_without (placed_of (records_of m)) roots
  pub nodes : (after_all m cs).super.used_nodes ≤ m.super.used_nodes

-- one of them
record One (m : Metadata) (root : Digest) (cs : List Change) : Type 0 where
  fit : AllFit m cs
  formed : is_well_formed (after_all m cs) ≡ true
  logged : log_of_all m cs ≡ purge_of (find (blob_map (records_of m)) root) root
  map : blob_map (records_of (after_all m cs)) ≡ without (blob_map (records_of m)) root
  placed : placed_of (records_of (after_all m cs)) ≡ without (placed_of (records_of m)) root
  nodes : (after_all m cs).super.used_nodes ≤ m.super.used_nodes

one_purge : (m : Metadata) (root : Digest) (o : Option BlobRecord) → is_well_formed m ≡ true → blob_in m root ≡ o → One m root (purge_change o)
one_purge m root None formed e =
    let none : find (blob_map (records_of m)) root ≡ None = map_has (records_of m) root ∙ ap (option_map value_of) e in
    let no_place : find (placed_of (records_of m)) root ≡ None = placed_has (records_of m) root ∙ ap (option_map places) e in
    record {
      fit = tt;
      formed = formed;
      logged = ap (λ (x : Option Blob). purge_of x root) (sym none);
      map = sym (without_absent root (blob_map (records_of m)) none);
      placed = sym (without_absent root (placed_of (records_of m)) no_place);
      nodes = omega arith;
    }
one_purge m root (Some b) formed e =
    let w : WellFormed m = well_formed_parts m formed in
    let known = known_blob m root b e in
    let has : find (blob_map (records_of m)) root ≡ Some (value_of b) = map_has (records_of m) root ∙ ap (option_map value_of) e in
    let less : Metadata = purged m b.nodes b.extents in
    let p = read_at m.nodes m.super.geometry.blocks m.nodes.count b known.0 in
    let i : Inserted b (records_of less) (records_of m) = purge_records m b w p.0 p.1 p.2 in
    let fit : AllFit m (Purge b.nodes b.extents ∷ []) = (record { blob = b; present = known.0; nodes = refl; extents = refl }, tt) in
    record {
      fit = fit;
      formed = changes_keep m (Purge b.nodes b.extents ∷ []) formed fit;
      logged = append-nil (log_of m (Purge b.nodes b.extents)) ∙ purge_logged m b known.0 ∙ ap (λ (r : Digest). log.Purge r (value_of b) ∷ []) known.1 ∙ ap (λ (x : Option Blob). purge_of x root) (sym has);
      map = map_taken b (records_of m) (records_of less) i (w.roots b.root) ∙ ap (without (blob_map (records_of m))) known.1;
      placed = placed_taken b (records_of m) (records_of less) i (w.roots b.root) ∙ ap (without (placed_of (records_of m))) known.1;
      nodes = omega arith;
    }

pub purges_go : (m : Metadata) (roots : List Digest) → is_well_formed m ≡ true → Purges m roots (purge_changes m roots)
purges_go m [] formed = record { fit = tt; formed = formed; logged = refl; placed = refl; nodes = omega arith }
purges_go m (root ∷ roots) formed =
    let first : List Change = purge_change (blob_in m root) in
    let one : One m root first = one_purge m root (blob_in m root) formed refl in
    let m1 : Metadata = after_all m first in
    let rest : Purges m1 roots (purge_changes m1 roots) = purges_go m1 roots one.formed in
    let joined : after_all m (first ++ purge_changes m1 roots) ≡ after_all m1 (purge_changes m1 roots) = after_append m first (purge_changes m1 roots) in
    record {
      fit = fit_append m first (purge_changes m1 roots) one.fit rest.fit;
      formed = ap is_well_formed joined ∙ rest.formed;
      logged = log_append m first (purge_changes m1 roots) ∙ (λ i. one.logged i ++ (rest.logged ∙ ap (λ (es : List (Digest × Blob)). purges es roots) one.map) i);
      placed = ap (λ (x : Metadata). placed_of (records_of x)) joined ∙ rest.placed ∙ ap (λ (es : List (Digest × List ℕ)). placed_without es roots) one.placed;
      nodes = let a : (after_all m (first ++ purge_changes m1 roots)).super.used_nodes ≡ (after_all m1 (purge_changes m1 roots)).super.used_nodes = ap (λ (x : Metadata). x.super.used_nodes) joined in omega (arith, a, rest.nodes, one.nodes);
    }

pub one_formed : (m : Metadata) (root : Digest) → is_well_formed m ≡ true → is_well_formed (after_all m (purge_change (blob_in m root))) ≡ true
one_formed m root formed = (one_purge m root (blob_in m root) formed refl).formed
