-- The nodes of the blobs of some metadata are few: no more than if each block were an extent.
use Rattle.std.proofs.Common.{◌≡◌, ◌≤◌, ℕ, suc, ◌+◌, ◌-◌, ◌/◌, List, [], ◌∷◌, length, Bool, true, false, cond, leb, Option, Some, None, Ok, refl, ap, sym, ◌∙◌, subst, arith, length-append}
use Rattle.std.proofs.lemmas.Bool.Decides.{nat_tests}
use Rattle.std.proofs.lemmas.List.FromFn.{length-range_with_len}
use Rattle.std.proofs.lemmas.List.Sums.{sum_by-cons}
use Rattle.std.specs.Prelude.{Contains, option_map, sum_by}
use Rattle.std.specs.declared.cmp.Ordering.TheVariants.{Less, Equal, Greater}
use Rattle.std.specs.Ordering.{is_eq, match_ordering}
use Rattle.std.specs.BTreeMap.{insert_entry, is_at}
use Rattle.std.specs.List.{range_with_len}
use Rattle.std.specs.Map.{lookup, values_of}
use Rattle.spec_tree.specs.declared.Digest.{Digest}
use Rattle.spec_tree.specs.Order.{digest_cmp, same_digest}
use Rattle.spec_disk.proofs.ImageLemmas.{Contains-head, Contains-cons}
use Rattle.spec_record.specs.declared.extent.Extent.{Extent}
use Rattle.spec_record.specs.Node.{nodes_for}
use Rattle.spec_record.proofs.TestLemmas.{equal}
use Rattle.spec_image.specs.Chain.{Nodes, BlobRecord, lengths, chain}
use Rattle.spec_image.specs.Metadata.{Metadata}
use Rattle.spec_image.specs.Stored.{blocks_of}
use Rattle.spec_image.specs.WellFormed.{records_of, blobs_named, is_well_formed}
use Rattle.spec_image.specs.WellFormedParts.{WellFormed}
use Rattle.spec_image.proofs.WellFormedLemmas.{well_formed_parts}
use Rattle.spec_core.proofs.Holding.{same_self}
use Rattle.spec_meta.proofs.Counting.{count, lengths_more}
use Rattle.spec_meta.proofs.Frame.{chain_read}
use Rattle.spec_meta.proofs.MapLemmas.{none_named}
use Rattle.spec_meta.proofs.PurgeLemmas.{read_at}
use Rattle.bv_txn.proofs.ReadLemmas.{counts_passed, walk_long}
use Rattle.bv_journaled.specs.Standing.{placed_of}
use Rattle.bv_journaled.proofs.PlacedLemmas.{places, placed_has}

-- ---- one blob

pub length_blocks : (es : List Extent) → length (blocks_of es) ≡ lengths es
length_blocks [] = refl
length_blocks (e ∷ es) = omega (arith, length-append (range_with_len e.start e.len) (blocks_of es), length-range_with_len e.start e.len, length_blocks es, lengths_more e es)

nodes_rise : (a b : ℕ) → a ≤ b → nodes_for a ≤ nodes_for b
nodes_rise a b h = go (leb a 1) refl (leb b 1) refl
  where
    go : (x : Bool) → leb a 1 ≡ x → (y : Bool) → leb b 1 ≡ y → cond x 1 (1 + (a - 1 + 5) / 6) ≤ cond y 1 (1 + (b - 1 + 5) / 6)
    go true e true f = omega arith
    go true e false f = omega arith
    go false e true f = absurd (grind (arith, nat_tests, h, e, f))
    go false e false f = omega (arith, h)

-- the most nodes that so many blocks can take
abbrev most : List ℕ → ℕ
most blocks = nodes_for (length blocks)

chain_few : (ns : Nodes) (blocks k : ℕ) (b : BlobRecord) → chain ns blocks k ≡ Ok b → length b.nodes ≤ most (places b)
chain_few ns blocks k b e =
    let s = chain_read ns blocks k b e in
    let passed = counts_passed s.at s.counts in
    let nodes : length b.nodes ≡ suc (length s.rest.1) = ap (λ (x : BlobRecord). length x.nodes) s.is in
    let long = walk_long ns blocks s.at.version (nodes_for s.at.extents - 1) (s.at.extents - 1) k s.at.next s.rest s.goes_on in
    let sum : lengths b.extents ≡ s.at.blocks = ap (λ (x : BlobRecord). lengths x.extents) s.is ∙ equal _ s.at.blocks s.sum in
    let all : length (places b) ≡ s.at.blocks = length_blocks b.extents ∙ sum in
    let rise : nodes_for s.at.extents ≤ nodes_for s.at.blocks = nodes_rise s.at.extents s.at.blocks passed.extents in
    subst (λ (n : ℕ). length b.nodes ≤ nodes_for n) (sym all) (omega (arith, nodes, long, rise, some s.at.extents))
  where
    some : (n : ℕ) → 1 ≤ nodes_for n
    some n = grind arith

-- ---- all blobs

-- the most nodes of all of these
abbrev total : List (Digest × List ℕ) → ℕ
total es = sum_by most (values_of es)

-- a root that isn't there adds what it has
total_more : (es : List (Digest × List ℕ)) (k : Digest) (v : List ℕ) → lookup (is_at (digest_cmp k)) es ≡ None → total (insert_entry digest_cmp es k v) ≡ total es + most v
total_more [] k v none = omega (arith, sum_by-cons most v [])
total_more (e ∷ es) k v none =
    elim (digest_cmp k e.0) as (λ o. digest_cmp k e.0 ≡ o → total (match_ordering o ((k, v) ∷ e ∷ es) ((e.0, v) ∷ es) (e ∷ insert_entry digest_cmp es k v)) ≡ total (e ∷ es) + most v) [
      | Less ↦ λ is. omega (arith, sum_by-cons most v (values_of (e ∷ es)))
      | Equal ↦ λ is. absurd (found (is_eq (digest_cmp k e.0)) e.1 (lookup (is_at (digest_cmp k)) es) (ap is_eq is) none)
      | Greater ↦ λ is.
          let later = past (is_eq (digest_cmp k e.0)) e.1 (lookup (is_at (digest_cmp k)) es) (ap is_eq is) none in
          omega (arith, total_more es k v later, sum_by-cons most e.1 (values_of (insert_entry digest_cmp es k v)), sum_by-cons most e.1 (values_of es))
    ] refl
  where
    found : (b : Bool) (x : List ℕ) (o : Option (List ℕ)) → b ≡ true → cond b (Some x) o ≡ None → ⊥
    found true x o t e = cc
    found false x o t e = cc

    past : (b : Bool) (x : List ℕ) (o : Option (List ℕ)) → b ≡ false → cond b (Some x) o ≡ None → o ≡ None
    past true x o t e = absurd cc
    past false x o t e = e

-- where no root stands twice, and each has few nodes
few_of : (rs : List BlobRecord) → ((root : Digest) → blobs_named rs root ≤ 1) → ((r : BlobRecord) → Contains rs r → length r.nodes ≤ most (places r)) → sum_by (λ b. length b.nodes) rs ≤ total (placed_of rs)
few_of [] apart few = omega arith
few_of (r ∷ rs) apart few =
    let sum : (q : Digest) → blobs_named (r ∷ rs) q ≡ count (same_digest q r.root) + blobs_named rs q = λ q. sum_by-cons (λ (x : BlobRecord). count (same_digest q x.root)) r rs in
    let here : count (same_digest r.root r.root) ≡ 1 = ap count (same_self r.root) in
    let none : blobs_named rs r.root ≡ 0 = omega (arith, sum r.root, here, apart r.root) in
    let absent : lookup (is_at (digest_cmp r.root)) (placed_of rs) ≡ None = placed_has rs r.root ∙ ap (option_map places) (none_named rs r.root none) in
    let later = few_of rs (λ q. omega (arith, sum q, apart q)) (λ x c. few x (Contains-cons r rs x c)) in
    omega (arith, sum_by-cons (λ (b : BlobRecord). length b.nodes) r rs, few r (Contains-head r rs), later, total_more (placed_of rs) r.root (places r) absent)

-- the nodes in use are few
pub few_nodes : (m : Metadata) → is_well_formed m ≡ true → m.super.used_nodes ≤ sum_by (λ (blocks : List ℕ). nodes_for (length blocks)) (values_of (placed_of (records_of m)))
few_nodes m formed =
    let w : WellFormed m = well_formed_parts m formed in
    let few = few_of (records_of m) w.roots (λ r c. let p = read_at m.nodes m.super.geometry.blocks m.nodes.count r c in chain_few m.nodes m.super.geometry.blocks p.0 r p.2) in
    omega (arith, w.node_count, few)
