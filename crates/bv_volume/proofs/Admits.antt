-- An add is admitted: the blocks and nodes that it gets.
use Rattle.std.proofs.Common.{◌≡◌, ◌≤◌, inr, ℕ, zero, suc, ◌+◌, ◌-◌, ◌/◌, ◌++◌, ◌∷◌, [], Bool, true, false, cond, nat_le, sum, add-one, List, length, Option, Some, None, refl, ap, sym, ◌∙◌, subst, arith}
use Rattle.std.specs.BTreeMap.{insert_entry}
use Rattle.std.specs.Global.{Vec}
use Rattle.std.specs.List.{sum_by}
use Rattle.std.specs.List.Sorted.{IsStrictlySortedBy, IsStrictlyIncreasing}
use Rattle.std.specs.Map.{keys_of, values_of}
use Rattle.std.proofs.lemmas.Bool.Decides.{nat_tests}
use Rattle.std.proofs.lemmas.List.Sums.{sum_by-cons}
use Rattle.std.proofs.lemmas.Map.Entries.{sum_by-insert_entry}
use Rattle.spec_record.specs.Node.{nodes_for}
use Rattle.spec_record.specs.declared.extent.Extent.{Extent}
use Rattle.spec_tree.specs.Order.{digest_cmp, same_digest}
use Rattle.spec_tree.specs.Tree.{need_of}
use Rattle.spec_tree.specs.declared.Digest.{Digest}
use Rattle.spec_tree.specs.declared.blob.Blob.{Blob}
use Rattle.spec_core.proofs.EntryLemmas.{lookup-insert_entry}
use Rattle.spec_core.proofs.Holding.{digest_total, one_digest, same_self}
use Rattle.spec_core.specs.Log.{without}
use Rattle.spec_core.specs.Room.{blob_worst, worst_nodes}
use Rattle.spec_core.specs.State.{find}
use Rattle.spec_core.specs.declared.setting.Setting.{Setting}
use Rattle.spec_rest.specs.Rest.{Map}
use Rattle.bv_claims.specs.Blocks.{times, HasEachOnce, HaveSameBlocks, Rises}
use Rattle.bv_claims.specs.Tokens.{block_count}
use Rattle.bv_claims.proofs.Counts.{times-append}
use Rattle.bv_model.specs.Sole.{Sole}
use Rattle.bv_model.proofs.Adds.{sole-without, sorted_sole}
use Rattle.bv_node.specs.Runs.{extends, runs, runs_from}
use Rattle.bv_space.specs.Owned.{Owned, times_in}
use Rattle.bv_ledger.specs.Tables.{Tables}
use Rattle.bv_ledger.proofs.Sums.{sum_less, sum_more}
use Rattle.bv_store.specs.Stored.{Stored}
use Rattle.bv_volume.specs.Spaced.{nodes_at, HasSpace, SpaceAt, NodesAt, LiesAt, LieAll, Spaced}
use Rattle.bv_volume.proofs.Adds.{nodes_less, sum_entries}
use Rattle.bv_volume.proofs.Placed.{Places, lie_without}

-- ---- blocks that rise

pub rises_increase : (low : ℕ) (bs : List ℕ) (high : ℕ) → Rises low bs high → IsStrictlyIncreasing bs
rises_increase low [] high r k h = absurd (omega (arith, h))
rises_increase low (b ∷ []) high r k h = absurd (omega (arith, h))
rises_increase low (b ∷ c ∷ bs) high r zero h = omega (arith, r.2.0)
rises_increase low (b ∷ c ∷ bs) high r (suc k) h = rw (add-one (suc k)) (rw (add-one k) at (rises_increase (b + 1) (c ∷ bs) high r.2 k (omega (arith, h))))

few_from : (e : Extent) (ds : List ℕ) → length (runs_from e ds) ≤ length ds + 1
few_from e [] = omega arith
few_from e (d ∷ ds) = go (λ x. few_from x ds) (extends e d)
  where
    go : ((x : Extent) → length (runs_from x ds) ≤ length ds + 1) → (b : Bool) → length (cond b (runs_from (record { start = e.start; len = e.len + 1 }) ds) (e ∷ runs_from (record { start = d; len = 1 }) ds)) ≤ length (d ∷ ds) + 1
    go later true = omega (arith, later (record { start = e.start; len = e.len + 1 }))
    go later false = omega (arith, later (record { start = d; len = 1 }))

few_runs : (bs : List ℕ) → length (runs bs) ≤ length bs
few_runs [] = omega arith
few_runs (d ∷ ds) = omega (arith, few_from (record { start = d; len = 1 }) ds)

nodes_rise : (a b : ℕ) → a ≤ b → nodes_for a ≤ nodes_for b
nodes_rise a b h = go (nat_le a 1) refl (nat_le b 1) refl
  where
    go : (x : Bool) → nat_le a 1 ≡ x → (y : Bool) → nat_le b 1 ≡ y → cond x 1 (1 + (a - 1 + 5) / 6) ≤ cond y 1 (1 + (b - 1 + 5) / 6)
    go true e true f = omega arith
    go true e false f = omega arith
    go false e true f = absurd (grind (arith, nat_tests, h, e, f))
    go false e false f = omega (arith, h)

-- an add takes no more nodes than the most of its blob
pub nodes_within : (version size : ℕ) (bs : List ℕ) → length bs ≡ need_of version size → nodes_at bs ≤ worst_nodes version size
nodes_within version size bs need = nodes_rise (length (runs bs)) (need_of version size) (omega (arith, few_runs bs, need))

-- ---- sums over maps with the same roots

pub less_none : {X : Type 0} (es : List (Digest × X)) (r : Digest) → find es r ≡ None → without es r ≡ es
less_none [] r h = refl
less_none {X} (e ∷ es) r h = go (less_none es r) (same_digest r e.0) h
  where
    go : (find es r ≡ None → without es r ≡ es) → (b : Bool) → cond b (Some e.1) (find es r) ≡ None → cond b es (e ∷ without es r) ≡ e ∷ es
    go later true k = cc
    go later false k = ap (λ (xs : List (Digest × X)). e ∷ xs) (later k)

first_less : {X : Type 0} (e : Digest × X) (es : List (Digest × X)) → without (e ∷ es) e.0 ≡ es
first_less e es = rw (same_self e.0) refl

first_found : {X : Type 0} (e : Digest × X) (es : List (Digest × X)) → find (e ∷ es) e.0 ≡ Some e.1
first_found e es = rw (same_self e.0) refl

none_placed : (placed : Places) → LieAll [] placed → placed ≡ []
none_placed [] lie = refl
none_placed (p ∷ ps) lie = let none : Some p.1 ≡ None = sym (first_found p ps) ∙ lie p.0 in cc

lies_some : (b : Blob) (l : Option (List ℕ)) → LiesAt (Some b) l → (bs : List ℕ) × (l ≡ Some bs) × (length bs ≡ need_of b.version b.size)
lies_some b (Some bs) h = (bs, refl, h)
lies_some b None h = absurd h

pub placed_worst : (m : Map) (placed : Places) → Sole m → Sole placed → LieAll m placed → sum_by (λ (bs : List ℕ). nodes_for (length bs)) (values_of placed) ≡ sum_by blob_worst (values_of m)
placed_worst [] placed a b lie = ap (λ (p : Places). sum_by (λ (bs : List ℕ). nodes_for (length bs)) (values_of p)) (none_placed placed lie)
placed_worst (e ∷ m) placed a b lie =
    let f : List ℕ → ℕ = λ bs. nodes_for (length bs) in
    let at = lies_some e.1 (find placed e.0) (subst (λ (o : Option Blob). LiesAt o (find placed e.0)) (first_found e m) (lie e.0)) in
    let rest : LieAll m (without placed e.0) = subst (λ (x : Map). LieAll x (without placed e.0)) (first_less e m) (lie_without (e ∷ m) placed e.0 a b lie) in
    let sole : Sole m = subst (λ (x : Map). Sole x) (first_less e m) (sole-without (e ∷ m) e.0 a) in
    let later = placed_worst m (without placed e.0) sole (sole-without placed e.0 b) rest in
    omega (arith, later, sum_less f placed e.0 at.0 at.1, ap nodes_for at.2, sum_by-cons blob_worst e.1 (values_of m))

noted_add : (g : Setting) (a : Option ℕ) (v : Option (Vec ℕ)) (k : ℕ) → NodesAt g a v (Some k) → (n : ℕ) × (a ≡ Some n) × (k ≤ worst_nodes g.version n)
noted_add g (Some n) (Some v) k h = (n, refl, omega (arith, h.0, nodes_within g.version n v.items h.1))
noted_add g (Some n) None k h = absurd h
noted_add g None v k h = absurd h

pub aside_worst : (g : Setting) (adds : List (Digest × ℕ)) (spaces : List (Digest × Vec ℕ)) (aside : List (Digest × ℕ)) → Sole adds → Sole spaces → Sole aside → ((r : Digest) → NodesAt g (find adds r) (find spaces r) (find aside r)) → sum (values_of aside) ≤ sum_by (worst_nodes g.version) (values_of adds)
aside_worst g adds spaces [] a b c at = omega arith
aside_worst g adds spaces (e ∷ es) a b c at =
    let one = noted_add g (find adds e.0) (find spaces e.0) e.1 (subst (λ (k : Option ℕ). NodesAt g (find adds e.0) (find spaces e.0) k) (first_found e es) (at e.0)) in
    let rest : (x : Digest) → NodesAt g (find (without adds e.0) x) (find (without spaces e.0) x) (find es x) = λ x. subst (λ (l : List (Digest × ℕ)). NodesAt g (find (without adds e.0) x) (find (without spaces e.0) x) (find l x)) (first_less e es) (nodes_less g e.0 x adds spaces (e ∷ es) a b c (at x)) in
    let sole : Sole es = subst (λ (l : List (Digest × ℕ)). Sole l) (first_less e es) (sole-without (e ∷ es) e.0 c) in
    let later = aside_worst g (without adds e.0) (without spaces e.0) es (sole-without adds e.0 a) (sole-without spaces e.0 b) sole rest in
    omega (arith, later, one.2, sum_less (worst_nodes g.version) adds e.0 one.0 one.1, sum_entries (e ∷ es), sum_entries es, sum_by-cons (λ (k : ℕ). k) e.1 (values_of es))

-- ---- what is free for an add is no less than the core's table says

pub enough_free : (t : Tables) (o : Owned) (s : Stored) (Held : ℕ → Type 0) (r : Digest) → Spaced t o s Held → t.stopped ≡ None → Sole t.map → Sole t.adds → find o.nodes r ≡ None → s.used_nodes ≤ sum_by (λ (bs : List ℕ). nodes_for (length bs)) (values_of s.placed)
    → t.setting.nodes - (sum_by blob_worst (values_of t.map) + sum_by (worst_nodes t.setting.version) (values_of (without t.adds r))) ≤ s.geometry.nodes - s.used_nodes - sum (values_of o.nodes)
enough_free t o s Held r spaced going map adds none few =
    let e = spaced.exactly going in
    let worst = placed_worst t.map s.placed map e.sole e.lie in
    let others = aside_worst t.setting (without t.adds r) (without o.adds r) (without o.nodes r) (sole-without t.adds r adds) (sole-without o.adds r spaced.sole) (sole-without o.nodes r spaced.nodes.sole)
    (λ x. nodes_less t.setting r x t.adds o.adds o.nodes adds spaced.sole spaced.nodes.sole (spaced.nodes.at x)) in
    let same = ap (λ (l : List (Digest × ℕ)). sum (values_of l)) (less_none o.nodes r none) in
    omega (arith, worst, others, same, few, spaced.nodes.count)

-- ---- the add has its blocks

-- blocks that were gathered are the add's, and so many nodes are set aside for it
pub record Admits (o o' : Owned) (r : Digest) (k : ℕ) : Type 0 where
  pub blocks : Vec ℕ
  pub owned : HaveSameBlocks o'.owned (o.owned ++ blocks.items)
  pub rising : Rises 1 blocks.items (block_count o.claims)
  pub room : o'.room ≡ o.room
  pub adds : o'.adds ≡ insert_entry digest_cmp o.adds r blocks
  pub noted : o'.nodes ≡ insert_entry digest_cmp (insert_entry digest_cmp o.nodes r 0) r k
  pub nodes : k ≡ nodes_at blocks.items
  pub claims : o'.claims ≡ o.claims
  pub gone : o'.gone ≡ o.gone
  pub once : HasEachOnce o'.owned
  pub sorted : IsStrictlySortedBy digest_cmp (keys_of o.adds) × IsStrictlySortedBy digest_cmp (keys_of o'.adds)
  pub sorted_nodes : IsStrictlySortedBy digest_cmp (keys_of (insert_entry digest_cmp o.nodes r 0)) × IsStrictlySortedBy digest_cmp (keys_of o'.nodes)

pub spaced_admits : (t : Tables) (o o' : Owned) (s : Stored) (Held : ℕ → Type 0) (r : Digest) (n k : ℕ) (w : Vec ℕ) → Spaced t o s Held → (m : Admits o o' r k) → find t.adds r ≡ Some n → find o.adds r ≡ Some w → w.items ≡ [] → find o.nodes r ≡ None → length m.blocks.items ≡ need_of t.setting.version n → s.used_nodes + sum (values_of o.nodes) + k ≤ t.setting.nodes → Spaced t o' s Held
spaced_admits t o o' s Held r n k w spaced m under had empty unset need enough =
    let v : Vec ℕ = m.blocks in
    let f : ℕ → Vec ℕ → ℕ = λ x u. times x u.items in
    let its : HasSpace t.setting n w.items = rw (under, had) at (spaced.adds r) in
    let more : (x : ℕ) → times_in x o'.adds ≡ times_in x o.adds + times x v.items = λ x. rw (m.adds) (omega (arith, rw had at (sum_by-insert_entry (λ (u : Vec ℕ). times x u.items) digest_total o.adds r v m.sorted.0), ap (times x) empty)) in
    let same : (x : ℕ) → times x o'.owned ≡ times x o.owned + times x v.items = λ x. m.owned x ∙ times-append x o.owned v.items in
    let has : HasSpace t.setting n v.items = record { need = inr need; rising = subst (λ (c : ℕ). Rises 1 v.items c) spaced.table m.rising; few = its.few } in
    let noted : find (insert_entry digest_cmp o.nodes r 0) r ≡ Some 0 = lookup-insert_entry digest_total o.nodes r 0 r ∙ itself 0 (find o.nodes r) in
    let sums : sum (values_of o'.nodes) ≡ sum (values_of o.nodes) + k = rw (m.noted)
    (omega (arith, sum_entries o.nodes, sum_more (λ (x : ℕ). x) o.nodes r 0 unset, rw noted at (sum_by-insert_entry (λ (x : ℕ). x) digest_total (insert_entry digest_cmp o.nodes r 0) r k m.sorted_nodes.0), sum_entries (insert_entry digest_cmp (insert_entry digest_cmp o.nodes r 0) r k))) in
    record {
      table = rw (m.claims) spaced.table;
      blocks = spaced.blocks;
      geometry = spaced.geometry;
      once = m.once;
      within = λ x. rw (m.gone) (omega (arith, spaced.within x, more x, same x));
      adds = λ x. rw (m.adds, lookup-insert_entry digest_total o.adds r v x) (at_space x (same_digest x r) refl);
      sole = sorted_sole o'.adds m.sorted.1;
      lie = spaced.lie;
      nodes = record {
        count = spaced.nodes.count;
        room = omega (arith, enough, sums);
        at = λ x. rw (m.adds, m.noted, lookup-insert_entry digest_total o.adds r v x, lookup-insert_entry digest_total (insert_entry digest_cmp o.nodes r 0) r k x, lookup-insert_entry digest_total o.nodes r 0 x) (at_nodes x (same_digest x r) refl);
        sole = sorted_sole o'.nodes m.sorted_nodes.1;
      };
      exactly = λ none.
          let e = spaced.exactly none in
          record {
            owned = λ x. rw (m.gone) (omega (arith, e.owned x, more x, same x));
            room = rw (m.room) e.room;
            gone = rw (m.gone) e.gone;
            held = λ x h. rw (m.gone) (e.held x h);
            lie = e.lie;
            sole = e.sole;
          };
    }
  where
    itself : {X : Type 0} (x : X) (other : Option X) → cond (same_digest r r) (Some x) other ≡ Some x
    itself x other = rw (same_self r) refl

    at_space : (x : Digest) (b : Bool) → same_digest x r ≡ b → SpaceAt t.setting (find t.adds x) (cond b (Some m.blocks) (find o.adds x))
    at_space x true e = rw (one_digest x r e, under) (record { need = inr need; rising = subst (λ (c : ℕ). Rises 1 m.blocks.items c) spaced.table m.rising; few = (rw (under, had) at (spaced.adds r)).few })
    at_space x false e = spaced.adds x

    at_nodes : (x : Digest) (b : Bool) → same_digest x r ≡ b → NodesAt t.setting (find t.adds x) (cond b (Some m.blocks) (find o.adds x)) (cond b (Some k) (cond b (Some 0) (find o.nodes x)))
    at_nodes x true e = rw (one_digest x r e, under) (m.nodes, need)
    at_nodes x false e = spaced.nodes.at x
