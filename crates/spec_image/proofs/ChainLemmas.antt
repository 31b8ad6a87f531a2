-- A chain that reads: its extents are in their ranges, and its nodes are an inode and containers.
use Rattle.std.proofs.Common.{◌≡◌, ℕ, zero, suc, ◌+◌, ◌-◌, ◌<◌, min, List, [], ◌∷◌, ◌++◌, take, Bool, true, false, cond, ltb, eqb, Result, Ok, Err, refl, ap, ◌∙◌, subst}
use Rattle.spec_record.specs.declared.extent.Extent.{Extent}
use Rattle.spec_record.specs.declared.inode.Inode.{Inode}
use Rattle.spec_record.specs.declared.container.Container.{Container}
use Rattle.spec_record.specs.declared.node.Node.{Node}
use Rattle.spec_record.specs.declared.node.Node.TheVariants as nodes
use Rattle.spec_record.specs.declared.node_fault.NodeFault.{NodeFault}
use Rattle.spec_record.proofs.TestLemmas.{below_of}
use Rattle.spec_record.specs.declared.node_fault.NodeFault.TheVariants as faults
use Rattle.spec_record.specs.Node.{no_node, nodes_for}
use Rattle.spec_record.specs.Extent.{is_extent}
use Rattle.spec_image.specs.WellFormed.{is_inode, is_container}
use Rattle.spec_image.specs.Chain.{Nodes, BlobRecord, ◌>>=◌, wants, lengths, check_extents, as_inode, as_next, follow, walk, check_counts, first_extent, chain}

pub bind_ok : {A B : Type 0} (r : Result A NodeFault) (f : A → Result B NodeFault) (y : B) → (r >>= f) ≡ Ok y → (x : A) × (r ≡ Ok x) × (f x ≡ Ok y)
bind_ok (Ok x) f y e = (x, refl, e)
bind_ok (Err d) f y e = absurd cc

abbrev pub done : {A : Type 0} → A → Result A NodeFault
done x = Ok x

pub ok_is : {A : Type 0} (x y : A) → done x ≡ done y → x ≡ y
ok_is x y e = cc

chosen_ok : {A : Type 0} (b : Bool) (r : Result A NodeFault) (f : NodeFault) (y : A) → cond b r (Err f) ≡ Ok y → (b ≡ true) × (r ≡ Ok y)
chosen_ok true r f y e = (refl, e)
chosen_ok false r f y e = absurd cc

-- extents in their ranges
abbrev pub AllExtents : ℕ → List Extent → Type 0
AllExtents blocks [] = Unit {0}
AllExtents blocks (e ∷ es) = (is_extent blocks e ≡ true) × AllExtents blocks es

pub checked : (blocks k i : ℕ) (es : List Extent) (u : Unit) → check_extents blocks k i es ≡ Ok u → AllExtents blocks es
checked blocks k i [] u e = tt
checked blocks k i (x ∷ es) u e =
    let c = chosen_ok (is_extent blocks x) (check_extents blocks k (i + 1) es) (faults.Extent k i) u e in
    (c.0, checked blocks k (i + 1) es u c.1)

pub both : (blocks : ℕ) (xs ys : List Extent) → AllExtents blocks xs → AllExtents blocks ys → AllExtents blocks (xs ++ ys)
both blocks [] ys a b = b
both blocks (x ∷ xs) ys a b = (a.0, both blocks xs ys a.1 b)

-- a pair that a walk gives
abbrev pub joined : Container → ℕ → ℕ → List Extent × List ℕ → List Extent × List ℕ
joined c extents link rest = (take (min 6 extents) c.extents ++ rest.0, link ∷ rest.1)

pub walk_extents : (ns : Nodes) (blocks version more extents previous link : ℕ) (r : List Extent × List ℕ) → walk ns blocks version more extents previous link ≡ Ok r → AllExtents blocks r.0
unfolding walk
walk_extents ns blocks version zero extents previous link r e =
    let c = chosen_ok (eqb link no_node) (Ok ([], [])) (faults.BadLink previous) r e in
    let is : [] ≡ r.0 = ap (λ (x : List Extent × List ℕ). x.0) (ok_is ([], []) r c.1) in
    subst (AllExtents blocks) is tt
walk_extents ns blocks version (suc more) extents previous link r e =
    let c = bind_ok (follow ns version previous link) _ r e in
    let full = bind_ok (wants (eqb (c.0).count (min 6 extents)) (faults.Count (c.0).count (min 6 extents))) _ r c.2 in
    let good = bind_ok (check_extents blocks link 0 (take (min 6 extents) (c.0).extents)) _ r full.2 in
    let rest = bind_ok (walk ns blocks version more (extents - 6) link (c.0).next) _ r good.2 in
    let is : take (min 6 extents) (c.0).extents ++ (rest.0).0 ≡ r.0 = ap (λ (x : List Extent × List ℕ). x.0) (ok_is (joined c.0 extents link rest.0) r rest.2) in
    subst (AllExtents blocks) is
    (both blocks (take (min 6 extents) (c.0).extents) (rest.0).0 (checked blocks link 0 (take (min 6 extents) (c.0).extents) good.0 good.1)
    (walk_extents ns blocks version more (extents - 6) link (c.0).next rest.0 rest.1))

pub chain_extents : (ns : Nodes) (blocks k : ℕ) (b : BlobRecord) → chain ns blocks k ≡ Ok b → AllExtents blocks b.extents
unfolding chain
chain_extents ns blocks k b e =
    let node = bind_ok (ns.read k) _ b e in
    let inode = bind_ok (as_inode node.0) _ b node.2 in
    let i : Inode = inode.0 in
    let counts = bind_ok (check_counts i) _ b inode.2 in
    let good = bind_ok (check_extents blocks k 0 (first_extent i)) _ b counts.2 in
    let rest = bind_ok (walk ns blocks i.version (nodes_for i.extents - 1) (i.extents - 1) k i.next) _ b good.2 in
    let extents : List Extent = first_extent i ++ (rest.0).0 in
    let sum = bind_ok (wants (eqb (lengths extents) i.blocks) (faults.Count i.blocks (lengths extents))) _ b rest.2 in
    let is : extents ≡ b.extents = ap (λ (x : BlobRecord). x.extents) (ok_is _ b sum.2) in
    subst (AllExtents blocks) is
    (both blocks (first_extent i) (rest.0).0 (checked blocks k 0 (first_extent i) good.0 good.1)
    (walk_extents ns blocks i.version (nodes_for i.extents - 1) (i.extents - 1) k i.next rest.0 rest.1))

-- ---- the nodes of a chain

as_next_container : (version previous : ℕ) (r : Result Node NodeFault) (c : Container) → as_next version previous r ≡ Ok c → is_container r ≡ true
as_next_container version previous (Err f) c e = absurd cc
as_next_container version previous (Ok nodes.Free) c e = absurd cc
as_next_container version previous (Ok (nodes.Inode i)) c e = absurd cc
as_next_container version previous (Ok (nodes.Container d)) c e = refl

abbrev as_read : Node → Result Node NodeFault
as_read n = Ok n

as_inode_inode : (n : Node) (i : Inode) → as_inode n ≡ Ok i → is_inode (as_read n) ≡ true
as_inode_inode nodes.Free i e = absurd cc
as_inode_inode (nodes.Inode j) i e = refl
as_inode_inode (nodes.Container c) i e = absurd cc

-- a node that a link leads to
pub record IsVisited (ns : Nodes) (k : ℕ) : Type 0 where
  pub below : k < ns.count
  pub container : is_container (ns.read k) ≡ true

abbrev pub AllVisited : Nodes → List ℕ → Type 0
AllVisited ns [] = Unit {0}
AllVisited ns (k ∷ ks) = IsVisited ns k × AllVisited ns ks

followed : (ns : Nodes) (version previous link : ℕ) (c : Container) → follow ns version previous link ≡ Ok c → IsVisited ns link
followed ns version previous link c e =
    let t = chosen_ok (ltb link ns.count) (as_next version previous (ns.read link)) (faults.BadLink previous) c e in
    record { below = below_of link ns.count t.0; container = as_next_container version previous (ns.read link) c t.1 }

walk_nodes : (ns : Nodes) (blocks version more extents previous link : ℕ) (r : List Extent × List ℕ) → walk ns blocks version more extents previous link ≡ Ok r → AllVisited ns r.1
unfolding walk
walk_nodes ns blocks version zero extents previous link r e =
    let c = chosen_ok (eqb link no_node) (Ok ([], [])) (faults.BadLink previous) r e in
    let is : [] ≡ r.1 = ap (λ (x : List Extent × List ℕ). x.1) (ok_is ([], []) r c.1) in
    subst (AllVisited ns) is tt
walk_nodes ns blocks version (suc more) extents previous link r e =
    let c = bind_ok (follow ns version previous link) _ r e in
    let full = bind_ok (wants (eqb (c.0).count (min 6 extents)) (faults.Count (c.0).count (min 6 extents))) _ r c.2 in
    let good = bind_ok (check_extents blocks link 0 (take (min 6 extents) (c.0).extents)) _ r full.2 in
    let rest = bind_ok (walk ns blocks version more (extents - 6) link (c.0).next) _ r good.2 in
    let is : link ∷ (rest.0).1 ≡ r.1 = ap (λ (x : List Extent × List ℕ). x.1) (ok_is (joined c.0 extents link rest.0) r rest.2) in
    subst (AllVisited ns) is (followed ns version previous link c.0 c.1, walk_nodes ns blocks version more (extents - 6) link (c.0).next rest.0 rest.1)

-- a chain begins at its inode and goes on with containers; its lengths are its blocks
pub record IsChain (ns : Nodes) (k : ℕ) (b : BlobRecord) : Type 0 where
  pub inode : is_inode (ns.read k) ≡ true
  pub rest : List ℕ
  pub nodes : k ∷ rest ≡ b.nodes
  pub visited : AllVisited ns rest

pub chain_nodes : (ns : Nodes) (blocks k : ℕ) (b : BlobRecord) → chain ns blocks k ≡ Ok b → IsChain ns k b
unfolding chain
chain_nodes ns blocks k b e =
    let node = bind_ok (ns.read k) _ b e in
    let inode = bind_ok (as_inode node.0) _ b node.2 in
    let i : Inode = inode.0 in
    let counts = bind_ok (check_counts i) _ b inode.2 in
    let good = bind_ok (check_extents blocks k 0 (first_extent i)) _ b counts.2 in
    let rest = bind_ok (walk ns blocks i.version (nodes_for i.extents - 1) (i.extents - 1) k i.next) _ b good.2 in
    let extents : List Extent = first_extent i ++ (rest.0).0 in
    let sum = bind_ok (wants (eqb (lengths extents) i.blocks) (faults.Count i.blocks (lengths extents))) _ b rest.2 in
    record {
      inode = ap is_inode node.1 ∙ as_inode_inode node.0 i inode.1;
      rest = (rest.0).1;
      nodes = ap (λ (x : BlobRecord). x.nodes) (ok_is _ b sum.2);
      visited = walk_nodes ns blocks i.version (nodes_for i.extents - 1) (i.extents - 1) k i.next rest.0 rest.1;
    }
