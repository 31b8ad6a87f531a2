-- The blobs of well-formed metadata fit: no data block but block 0 is missing in the sum of their needs.
use Rattle.std.proofs.Common.{◌≡◌, ℕ, zero, suc, ◌+◌, ◌-◌, ◌≤◌, min, List, [], ◌∷◌, ◌++◌, Bool, true, false, leb, ltb, eqb, ◌&&◌, Option, Some, None, Result, Ok, Err, refl, ap, sym, ◌∙◌, subst, inl, inr, arith}
use Rattle.std.proofs.lemmas.Bool.{cases_lt}
use Rattle.std.proofs.lemmas.List.Sums.{sum_by-cons, sum_by-append}
use Rattle.std.proofs.lemmas.Map.Entries.{sum_by-insert_entry}
use Rattle.std.specs.Prelude.{IsSomeAnd, sum_by, count_by, option_map}
use Rattle.std.specs.Map.{values_of}
use Rattle.spec_tree.specs.declared.Digest.{Digest}
use Rattle.spec_tree.specs.declared.blob.Blob.{Blob}
use Rattle.spec_tree.specs.Tree.{need_of}
use Rattle.spec_record.specs.declared.extent.Extent.{Extent}
use Rattle.spec_record.specs.declared.inode.Inode.{Inode}
use Rattle.spec_record.specs.declared.node_fault.NodeFault.{NodeFault}
use Rattle.spec_record.specs.declared.node_fault.NodeFault.TheVariants as faults
use Rattle.spec_record.specs.Node.{nodes_for}
use Rattle.spec_record.specs.Tests.{is_between}
use Rattle.spec_record.proofs.TestLemmas.{both_true, at_most, equal}
use Rattle.spec_image.specs.Chain.{Nodes, BlobRecord, wants, lengths, check_extents, as_inode, walk, check_counts, first_extent, chain}
use Rattle.spec_image.specs.Metadata.{Metadata}
use Rattle.spec_image.specs.WellFormed.{read_of, records_below, records_of, covers, extents_with}
use Rattle.spec_image.specs.WellFormedParts.{WellFormed}
use Rattle.spec_image.specs.Blobs.{value_of, blob_map}
use Rattle.spec_image.specs.Volume.{metadata_of, blobs}
use Rattle.spec_image.proofs.ChainLemmas.{bind_ok, ok_is, AllExtents}
use Rattle.spec_image.proofs.CountLemmas.{count, sum_below, sum_add, sum_zero}
use Rattle.spec_image.proofs.MapLemmas.{digest_total, map_sorted}
use Rattle.spec_image.proofs.WellFormedLemmas.{AllRecords, records_extents}
use Rattle.spec_core.specs.History.{History, setting_of, opening_map, first_state}
use Rattle.spec_core.specs.Room.{blob_need, taken}
use Rattle.spec_laws.proofs.MetadataLemmas.{found}

-- ---- the blocks of an extent, of a blob and of all blobs

within : Bool → Bool → ℕ
within a b = count (a && b)

-- how many numbers below n are from s on and below s + l
covered : (n s l : ℕ) → sum_below n (λ d. count (leb s d && ltb d (s + l))) ≡ min n (s + l) - min n s
unfolding sum_below
covered zero s l = omega arith
covered (suc n) s l =
    let before = covered n s l in
    elim (cases_lt n s) [
      | inl early ↦
          let no : leb s n ≡ false = grind (arith, early) in
          let here : count (leb s n && ltb n (s + l)) ≡ 0 = ap (λ (a : Bool). count (a && ltb n (s + l))) no in
          omega (arith, before, here, early)
      | inr from ↦
          let yes : leb s n ≡ true = grind (arith, from) in
          let same : count (leb s n && ltb n (s + l)) ≡ count (ltb n (s + l)) = ap (λ (a : Bool). count (a && ltb n (s + l))) yes in
          elim (cases_lt n (s + l)) [
            | inl inside ↦
                let is : ltb n (s + l) ≡ true = grind (arith, inside) in
                omega (arith, before, same, ap count is, from, inside)
            | inr past ↦
                let is : ltb n (s + l) ≡ false = grind (arith, past) in
                omega (arith, before, same, ap count is, from, past)
          ]
    ]

extent_ends : (blocks : ℕ) (e : Extent) → (leb 1 e.start && is_between 1 e.len 65535 && leb (e.start + e.len) blocks) ≡ true → (1 ≤ e.start) × (e.start + e.len ≤ blocks)
extent_ends blocks e good =
    let parts = both_true (leb 1 e.start && is_between 1 e.len 65535) (leb (e.start + e.len) blocks) good in
    (at_most 1 e.start (both_true (leb 1 e.start) (is_between 1 e.len 65535) parts.0).0, at_most (e.start + e.len) blocks parts.1)

of_extent : (blocks : ℕ) (e : Extent) → e.start + e.len ≤ blocks → sum_below blocks (λ d. count (covers d e)) ≡ e.len
of_extent blocks e ends = omega (arith, covered blocks e.start e.len, ends)

of_extents : (blocks : ℕ) (es : List Extent) → AllExtents blocks es → sum_below blocks (λ d. count_by (covers d) es) ≡ lengths es
of_extents blocks [] good = sum_zero blocks
of_extents blocks (e ∷ es) good =
    omega (
      arith,
      sum_add blocks (λ d. count (covers d e)) (λ d. count_by (covers d) es) (λ d. count_by (covers d) (e ∷ es)) (λ d lt. sum_by-cons (λ x. count (covers d x)) e es),
      of_extent blocks e (extent_ends blocks e good.0).1,
      of_extents blocks es good.1,
      sum_by-cons (λ x. x.len) e es,
    )

of_records : (blocks : ℕ) (bs : List BlobRecord) → AllRecords blocks bs → sum_below blocks (extents_with bs) ≡ sum_by (λ b. lengths b.extents) bs
unfolding AllRecords
of_records blocks [] good = sum_zero blocks
of_records blocks (b ∷ bs) good =
    omega (
      arith,
      sum_add blocks (λ d. count_by (covers d) b.extents) (extents_with bs) (extents_with (b ∷ bs)) (λ d lt. sum_by-cons (λ x. count_by (covers d) x.extents) b bs),
      of_extents blocks b.extents good.0,
      of_records blocks bs good.1,
      sum_by-cons (λ x. lengths x.extents) b bs,
    )

-- ---- block 0 is in no extent, and each other block in at most one

none_at_first : (blocks : ℕ) (es : List Extent) → AllExtents blocks es → count_by (covers 0) es ≡ 0
none_at_first blocks [] good = refl
none_at_first blocks (e ∷ es) good =
    let begins = (extent_ends blocks e good.0).0 in
    let no : leb e.start 0 ≡ false = grind (arith, begins) in
    let here : count (covers 0 e) ≡ 0 = ap (λ (a : Bool). count (a && ltb 0 (e.start + e.len))) no in
    omega (arith, sum_by-cons (λ x. count (covers 0 x)) e es, here, none_at_first blocks es good.1)

none_at_block_0 : (blocks : ℕ) (bs : List BlobRecord) → AllRecords blocks bs → extents_with bs 0 ≡ 0
unfolding AllRecords
none_at_block_0 blocks [] good = refl
none_at_block_0 blocks (b ∷ bs) good =
    omega (arith, sum_by-cons (λ x. count_by (covers 0) x.extents) b bs, none_at_first blocks b.extents good.0, none_at_block_0 blocks bs good.1)

at_most_each : (n : ℕ) (f : ℕ → ℕ) → f 0 ≡ 0 → ((d : ℕ) → f d ≤ 1) → sum_below n f ≤ n - 1
unfolding sum_below
at_most_each zero f first each = omega arith
at_most_each (suc zero) f first each = omega (arith, first)
at_most_each (suc (suc n)) f first each = omega (arith, at_most_each (suc n) f first each, each (suc n))

-- ---- a chain's blocks are what its blob needs

wants_true : (b : Bool) (f : NodeFault) (u : Unit) → wants b f ≡ Ok u → b ≡ true
wants_true true f u e = refl
wants_true false f u e = absurd cc

counts_need : (i : Inode) (u : Unit) → check_counts i ≡ Ok u → i.blocks ≡ need_of i.version i.size
unfolding check_counts
counts_need i u e =
    let need : ℕ = need_of i.version i.size in
    let first = bind_ok (wants (eqb i.blocks need) (faults.Count i.blocks need)) _ u e in
    equal i.blocks need (wants_true (eqb i.blocks need) (faults.Count i.blocks need) first.0 first.1)

abbrev need : BlobRecord → ℕ
need b = need_of b.version b.size

chain_need : (ns : Nodes) (blocks k : ℕ) (b : BlobRecord) → chain ns blocks k ≡ Ok b → lengths b.extents ≡ need b
unfolding chain
chain_need ns blocks k b e =
    let node = bind_ok (ns.read k) _ b e in
    let inode = bind_ok (as_inode node.0) _ b node.2 in
    let i : Inode = inode.0 in
    let counts = bind_ok (check_counts i) _ b inode.2 in
    let good = bind_ok (check_extents blocks k 0 (first_extent i)) _ b counts.2 in
    let rest = bind_ok (walk ns blocks i.version (nodes_for i.extents - 1) (i.extents - 1) k i.next) _ b good.2 in
    let extents : List Extent = first_extent i ++ (rest.0).0 in
    let sum = bind_ok (wants (eqb (lengths extents) i.blocks) (faults.Count i.blocks (lengths extents))) _ b rest.2 in
    let total : lengths extents ≡ i.blocks = equal (lengths extents) i.blocks (wants_true (eqb (lengths extents) i.blocks) (faults.Count i.blocks (lengths extents)) sum.0 sum.1) in
    let made = ok_is _ b sum.2 in
    ap (λ (x : BlobRecord). lengths x.extents) (sym made) ∙ total ∙ counts_need i counts.0 counts.1 ∙ ap need made

read_need : (ns : Nodes) (blocks k : ℕ) (r : Result BlobRecord NodeFault) → chain ns blocks k ≡ r → sum_by (λ b. lengths b.extents) (read_of r) ≡ sum_by need (read_of r)
read_need ns blocks k (Ok b) e = omega (arith, sum_by-cons (λ x. lengths x.extents) b [], sum_by-cons need b [], chain_need ns blocks k b e)
read_need ns blocks k (Err f) e = refl

records_need : (ns : Nodes) (blocks n : ℕ) → sum_by (λ b. lengths b.extents) (records_below ns blocks n) ≡ sum_by need (records_below ns blocks n)
unfolding records_below
records_need ns blocks zero = refl
records_need ns blocks (suc n) =
    let before = records_below ns blocks n in
    let here = read_of (chain ns blocks n) in
    omega (arith, sum_by-append (λ b. lengths b.extents) before here, sum_by-append need before here, records_need ns blocks n, read_need ns blocks n (chain ns blocks n) refl)

pub records_fit : (m : Metadata) → WellFormed m → sum_by (λ b. need_of b.version b.size) (records_of m) ≤ m.super.geometry.blocks - 1
records_fit m w =
    let blocks = m.super.geometry.blocks in
    let good = records_extents m.nodes blocks m.nodes.count in
    omega (
      arith,
      at_most_each blocks (extents_with (records_of m)) (none_at_block_0 blocks (records_of m) good) w.blocks,
      of_records blocks (records_of m) good,
      records_need m.nodes blocks m.nodes.count,
    )

-- ---- the map

value_need : (b : BlobRecord) → blob_need (value_of b) ≡ need b
value_need b = refl

map_need : (bs : List BlobRecord) → sum_by blob_need (values_of (blob_map bs)) ≤ sum_by need bs
map_need [] = omega arith
map_need (b ∷ bs) =
    let put = sum_by-insert_entry blob_need digest_total (blob_map bs) b.root (value_of b) (map_sorted bs) in
    omega (arith, put, map_need bs, sum_by-cons need b bs, value_need b)

pub map_fits : (m : Metadata) → WellFormed m → sum_by blob_need (values_of (blob_map (records_of m))) ≤ m.super.geometry.blocks - 1
map_fits m w = omega (arith, map_need (records_of m), records_fit m w)

-- ---- an image

of_found : (image : List (List ℕ)) (o : Option Metadata) (held : List (Digest × Blob)) → metadata_of image ≡ o → option_map (λ m. blob_map (records_of m)) o ≡ Some held
    → IsSomeAnd o (λ m. sum_by blob_need (values_of held) ≤ m.super.geometry.blocks - 1)
of_found image None held is e = absurd cc
of_found image (Some m) held is e =
    let same : blob_map (records_of m) ≡ held = one_of (blob_map (records_of m)) held e in
    subst (λ (x : List (Digest × Blob)). sum_by blob_need (values_of x) ≤ m.super.geometry.blocks - 1) same (map_fits m (found image m is).formed)
  where
    one_of : (x y : List (Digest × Blob)) → Some x ≡ Some y → x ≡ y
    one_of x y e = cc

pub image_fits : (image : List (List ℕ)) (held : List (Digest × Blob)) → blobs image ≡ Some held → IsSomeAnd (metadata_of image) (λ m. sum_by blob_need (values_of held) ≤ m.super.geometry.blocks - 1)
image_fits image held e = of_found image (metadata_of image) held refl e

both_known : (o : Option Metadata) (n blocks : ℕ) → IsSomeAnd o (λ m. n ≤ m.super.geometry.blocks - 1) → IsSomeAnd o (λ m. m.super.geometry.blocks ≡ blocks) → n ≤ blocks - 1
both_known None n blocks fits is = absurd fits
both_known (Some m) n blocks fits is = omega (arith, fits, is)

pub mount_fits : (image : List (List ℕ)) (h : History) (next : ℕ) → blobs image ≡ Some (opening_map h) → IsSomeAnd (metadata_of image) (λ m. m.super.geometry.blocks ≡ h.blocks)
    → taken (setting_of h) (first_state (opening_map h) next) ≤ h.blocks - 1
mount_fits image h next e is =
    let fits = both_known (metadata_of image) (sum_by blob_need (values_of (opening_map h))) h.blocks (image_fits image (opening_map h) e) is in
    omega (arith, fits)
