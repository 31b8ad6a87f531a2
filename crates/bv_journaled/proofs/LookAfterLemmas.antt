-- What is found after purges, and one purge more.
use Rattle.std.proofs.Common.{◌≡◌, ◌<◌, ℕ, ◌+◌, List, [], ◌∷◌, ◌++◌, length, take, get_or, Bool, true, false, cond, ◌||◌, Option, Some, None, refl, ap, sym, ◌∙◌, subst, inl, inr, arith}
use Rattle.std.proofs.lemmas.List.{append_assoc, append-nil, take_more}
use Rattle.std.proofs.lemmas.List.Folds.{list_any_more}
use Rattle.std.specs.Cmp.{eq_by_cmp_equiv}
use Rattle.std.specs.List.{list_any}
use Rattle.spec_tree.specs.declared.Digest.{Digest}
use Rattle.spec_tree.specs.Order.{same_digest}
use Rattle.spec_image.specs.Chain.{BlobRecord}
use Rattle.spec_image.specs.Metadata.{Metadata}
use Rattle.spec_image.specs.Volume.{blob_in}
use Rattle.spec_image.specs.WellFormed.{records_of, blobs_named, is_well_formed}
use Rattle.spec_image.specs.WellFormedParts.{WellFormed}
use Rattle.spec_image.proofs.SoundLemmas.{one_root}
use Rattle.spec_image.proofs.WellFormedLemmas.{well_formed_parts}
use Rattle.spec_core.proofs.Holding.{digest_total, same_self}
use Rattle.spec_laws.proofs.RecordLemmas.{known_blob}
use Rattle.spec_meta.specs.Change.{Change, purged, after_all}
use Rattle.spec_meta.proofs.Counting.{count, true_or_false, Inserted, sum_inserted}
use Rattle.spec_meta.proofs.MapLemmas.{found_inserted, none_named}
use Rattle.spec_meta.proofs.PurgeLemmas.{read_at, purge_records}
use Rattle.bv_journaled.specs.Purging.{purge_change, purge_changes}
use Rattle.bv_journaled.proofs.PurgingLemmas.{after_append, one_formed}

-- a root that was purged has no blob, and others have what they had
one_after : (m : Metadata) (q root : Digest) (o : Option BlobRecord) → is_well_formed m ≡ true → blob_in m q ≡ o
    → blob_in (after_all m (purge_change o)) root ≡ cond (same_digest root q) None (blob_in m root)
one_after m q root None formed e = elim (true_or_false (same_digest root q)) [
  | inl same ↦ ap (blob_in m) (one_root root q same) ∙ e ∙ sym (ap (λ (t : Bool). cond t None (blob_in m root)) same)
  | inr other ↦ sym (ap (λ (t : Bool). cond t None (blob_in m root)) other)
]
one_after m q root (Some b) formed e =
    let w : WellFormed m = well_formed_parts m formed in
    let known = known_blob m q b e in
    let less : Metadata = purged m b.nodes b.extents in
    let p = read_at m.nodes m.super.geometry.blocks m.nodes.count b known.0 in
    let i : Inserted b (records_of less) (records_of m) = purge_records m b w p.0 p.1 p.2 in
    let here : count (same_digest b.root b.root) ≡ 1 = ap count (same_self b.root) in
    let none : blobs_named (records_of less) b.root ≡ 0 = omega (arith, sum_inserted (λ x. count (same_digest b.root x.root)) b (records_of less) (records_of m) i, here, w.roots b.root) in
    let found : blob_in m root ≡ cond (same_digest root b.root) (Some b) (blob_in less root) = found_inserted b (records_of less) (records_of m) root i none in
    let by_q : blob_in m root ≡ cond (same_digest root q) (Some b) (blob_in less root) = subst (λ (r : Digest). blob_in m root ≡ cond (same_digest root r) (Some b) (blob_in less root)) known.1 found in
    elim (true_or_false (same_digest root q)) [
      | inl same ↦
          let is : root ≡ b.root = one_root root q same ∙ sym known.1 in
          none_named (records_of less) root (subst (λ (r : Digest). blobs_named (records_of less) r ≡ 0) (sym is) none) ∙ sym (ap (λ (t : Bool). cond t None (blob_in m root)) same)
      | inr other ↦ sym (by_q ∙ ap (λ (t : Bool). cond t (Some b) (blob_in less root)) other) ∙ sym (ap (λ (t : Bool). cond t None (blob_in m root)) other)
    ]

either_none : (s t : Bool) (o : Option BlobRecord) → cond t None (cond s None o) ≡ cond (s || t) None o
either_none true true o = refl
either_none true false o = refl
either_none false t o = refl

pub found_after : (m : Metadata) (roots : List Digest) (root : Digest) → is_well_formed m ≡ true → blob_in (after_all m (purge_changes m roots)) root ≡ cond (list_any (same_digest root) roots) None (blob_in m root)
found_after m [] root formed = refl
found_after m (q ∷ roots) root formed =
    let first : List Change = purge_change (blob_in m q) in
    let m1 : Metadata = after_all m first in
    ap (λ (x : Metadata). blob_in x root) (after_append m first (purge_changes m1 roots))
    ∙ found_after m1 roots root (one_formed m q formed)
    ∙ ap (cond (list_any (same_digest root) roots) None) (one_after m q root (blob_in m q) formed refl)
    ∙ either_none (same_digest root q) (list_any (same_digest root) roots) (blob_in m root)

-- one root more
pub one_more : (m : Metadata) (roots : List Digest) (root : Digest) → purge_changes m (roots ++ root ∷ []) ≡ purge_changes m roots ++ purge_change (blob_in (after_all m (purge_changes m roots)) root)
one_more m [] root = append-nil (purge_change (blob_in m root))
one_more m (q ∷ roots) root =
    let first : List Change = purge_change (blob_in m q) in
    let m1 : Metadata = after_all m first in
    ap (λ (l : List Change). first ++ l) (one_more m1 roots root)
    ∙ sym (append_assoc first (purge_changes m1 roots) (purge_change (blob_in (after_all m1 (purge_changes m1 roots)) root)))
    ∙ ap (λ (x : Metadata). (first ++ purge_changes m1 roots) ++ purge_change (blob_in x root)) (sym (after_append m first (purge_changes m1 roots)))

pub next_purge : (m : Metadata) (roots : List Digest) (root : Digest) → is_well_formed m ≡ true
    → purge_changes m (roots ++ root ∷ []) ≡ purge_changes m roots ++ purge_change (cond (list_any (same_digest root) roots) None (blob_in m root))
next_purge m roots root formed = one_more m roots root ∙ ap (λ (o : Option BlobRecord). purge_changes m roots ++ purge_change o) (found_after m roots root formed)

-- the purges of the roots up to one, with that of the one itself
pub purges_up_to : (m : Metadata) (roots : List Digest) (i : ℕ) (d : Digest) (before after : List Change) → is_well_formed m ≡ true → i < length roots → before ≡ purge_changes m (take i roots)
    → after ≡ before ++ purge_change (cond (list_any (same_digest (get_or roots i d)) (take i roots)) None (blob_in m (get_or roots i d)))
    → after ≡ purge_changes m (take (i + 1) roots)
purges_up_to m roots i d before after formed within was is =
    let root : Digest = get_or roots i d in
    let more : List Change = purge_change (cond (list_any (same_digest root) (take i roots)) None (blob_in m root)) in
    is ∙ ap (λ (l : List Change). l ++ more) was ∙ sym (next_purge m (take i roots) root formed) ∙ ap (purge_changes m) (sym (take_more roots i d within))

-- what a set of the roots so far says, the roots so far say
pub asked_of_set : (m : Metadata) (set done : List Digest) (root : Digest) (before after : List Change) → list_any (same_digest root) set ≡ list_any (same_digest root) done
    → after ≡ before ++ purge_change (cond (list_any (same_digest root) set) None (blob_in m root)) → after ≡ before ++ purge_change (cond (list_any (same_digest root) done) None (blob_in m root))
asked_of_set m set done root before after same is = is ∙ ap (λ (t : Bool). before ++ purge_change (cond t None (blob_in m root))) same

either_way : (s a : Bool) → cond s true a ≡ (a || s)
either_way true true = refl
either_way true false = refl
either_way false true = refl
either_way false false = refl

-- a root more was noted
pub noted_more : (roots : List Digest) (i : ℕ) (d : Digest) (set new : List Digest) (r : Digest) → i < length roots → list_any (same_digest r) set ≡ list_any (same_digest r) (take i roots)
    → list_any (same_digest r) new ≡ cond (same_digest (get_or roots i d) r) true (list_any (same_digest r) set) → list_any (same_digest r) new ≡ list_any (same_digest r) (take (i + 1) roots)
noted_more roots i d set new r within was noted =
    noted ∙ rw ((eq_by_cmp_equiv digest_total).symm (get_or roots i d) r, was) (either_way (same_digest r (get_or roots i d)) (list_any (same_digest r) (take i roots)))
    ∙ sym (list_any_more (same_digest r) roots i d within)
