-- The map of blobs: its entries stand in order, and it has at a root what the blob with that root says.
use Rattle.std.proofs.Common.{◌≡◌, Bool, true, false, cond, Option, Some, List, [], ◌∷◌, refl, ap, sym, ◌∙◌}
use Rattle.std.specs.Prelude.{find, option_map}
use Rattle.std.specs.declared.cmp.Ordering.TheVariants.{Less, Equal, Greater}
use Rattle.std.specs.Ordering.{is_eq, match_ordering, ordering_reverse}
use Rattle.std.specs.Cmp.{IsTotalOrder}
use Rattle.std.specs.Cmp.Lexicographic.{nat_list_cmp_total}
use Rattle.std.specs.List.{AllByRecursion}
use Rattle.std.specs.List.Sorted.{IsStrictlySortedBy}
use Rattle.std.specs.BTreeMap.{insert_entry, is_at}
use Rattle.std.specs.Map.{lookup, keys_of}
use Rattle.std.specs.FinMap.Entries.{find as find_entry, put, find-put, by_order}
use Rattle.spec_tree.specs.declared.Digest.{Digest}
use Rattle.spec_tree.specs.declared.blob.Blob.{Blob}
use Rattle.spec_tree.specs.Order.{digest_cmp, same_digest}
use Rattle.spec_image.specs.Chain.{BlobRecord}
use Rattle.spec_image.specs.Blobs.{value_of, blob_map}

pub digest_total : IsTotalOrder digest_cmp
digest_total = record {
  antisymm = λ a b. nat_list_cmp_total.antisymm a.0 b.0;
  trans = λ a b c. nat_list_cmp_total.trans a.0 b.0 c.0;
  congr = λ a b c. nat_list_cmp_total.congr a.0 b.0 c.0;
}

abbrev Entries : Type 0
Entries = List (Digest × Blob)

-- this digest is below all keys
abbrev IsBelow : Digest → Entries → Type 0
IsBelow k es = AllByRecursion (λ y. digest_cmp k y ≡ Less) (keys_of es)

below_more : (a b : Digest) (es : Entries) → digest_cmp a b ≡ Less → IsBelow b es → IsBelow a es
below_more a b [] lt all = tt
below_more a b (e ∷ es) lt all = (digest_total.trans a b e.0 lt all.0, below_more a b es lt all.1)

below_insert : (a k : Digest) (v : Blob) (es : Entries) → digest_cmp a k ≡ Less → IsBelow a es → IsBelow a (insert_entry digest_cmp es k v)
below_insert a k v [] lt all = (lt, tt)
below_insert a k v (e ∷ es) lt all =
    elim (digest_cmp k e.0) as (λ o. IsBelow a (match_ordering o ((k, v) ∷ e ∷ es) ((e.0, v) ∷ es) (e ∷ insert_entry digest_cmp es k v))) [
      | Less ↦ (lt, all)
      | Equal ↦ all
      | Greater ↦ (all.0, below_insert a k v es lt all.1)
    ]

insert_sorted : (k : Digest) (v : Blob) (es : Entries) → IsStrictlySortedBy digest_cmp (keys_of es) → IsStrictlySortedBy digest_cmp (keys_of (insert_entry digest_cmp es k v))
unfolding IsStrictlySortedBy
insert_sorted k v [] s = (tt, tt)
insert_sorted k v (e ∷ es) s =
    elim (digest_cmp k e.0) as (λ o. digest_cmp k e.0 ≡ o → IsStrictlySortedBy digest_cmp (keys_of (match_ordering o ((k, v) ∷ e ∷ es) ((e.0, v) ∷ es) (e ∷ insert_entry digest_cmp es k v)))) [
      | Less ↦ λ is. ((is, below_more k e.0 es is s.0), s)
      | Equal ↦ λ is. s
      | Greater ↦ λ is. (below_insert e.0 k v es (digest_total.antisymm e.0 k ∙ ap ordering_reverse is) s.0, insert_sorted k v es s.1)
    ] refl

same_find : (q : Digest) (es : Entries) → lookup (is_at (digest_cmp q)) es ≡ find_entry digest_cmp q es
same_find q [] = refl
same_find q (e ∷ es) = ap (cond (is_eq (digest_cmp q e.0)) (Some e.1)) (same_find q es)

same_put : (k : Digest) (v : Blob) (es : Entries) → insert_entry digest_cmp es k v ≡ put digest_cmp k v es
same_put k v [] = refl
same_put k v (e ∷ es) =
    elim (digest_cmp k e.0) as (λ o. match_ordering o ((k, v) ∷ e ∷ es) ((e.0, v) ∷ es) (e ∷ insert_entry digest_cmp es k v) ≡ by_order o ((k, v) ∷ e ∷ es) ((e.0, v) ∷ es) (e ∷ put digest_cmp k v es)) [
      | Less ↦ refl
      | Equal ↦ refl
      | Greater ↦ ap (λ x. e ∷ x) (same_put k v es)
    ]

lookup_insert : (es : Entries) (k : Digest) (v : Blob) (q : Digest) → lookup (is_at (digest_cmp q)) (insert_entry digest_cmp es k v) ≡ cond (same_digest q k) (Some v) (lookup (is_at (digest_cmp q)) es)
lookup_insert es k v q =
    same_find q (insert_entry digest_cmp es k v) ∙ ap (find_entry digest_cmp q) (same_put k v es) ∙ find-put digest_cmp digest_total q k v es ∙ ap (cond (same_digest q k) (Some v)) (sym (same_find q es))

pub map_sorted : (bs : List BlobRecord) → IsStrictlySortedBy digest_cmp (keys_of (blob_map bs))
unfolding IsStrictlySortedBy
map_sorted [] = tt
map_sorted (b ∷ bs) = insert_sorted b.root (value_of b) (blob_map bs) (map_sorted bs)

mapped : (t : Bool) (b : BlobRecord) (o : Option BlobRecord) → cond t (Some (value_of b)) (option_map value_of o) ≡ option_map value_of (cond t (Some b) o)
mapped true b o = refl
mapped false b o = refl

pub map_has : (bs : List BlobRecord) (root : Digest) → lookup (is_at (digest_cmp root)) (blob_map bs) ≡ option_map value_of (find (λ b. same_digest root b.root) bs)
map_has [] root = refl
map_has (b ∷ bs) root =
    lookup_insert (blob_map bs) b.root (value_of b) root ∙ ap (cond (same_digest root b.root) (Some (value_of b))) (map_has bs root)
    ∙ mapped (same_digest root b.root) b (find (λ x. same_digest root x.root) bs)
