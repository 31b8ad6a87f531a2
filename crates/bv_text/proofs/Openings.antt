-- The opening of a history, root by root.
use Rattle.std.proofs.Common.{◌≡◌, ℕ, zero, suc, inl, inr, ◌+◌, ◌-◌, ◌<◌, ◌≤◌, true, List, [], ◌∷◌, ◌++◌, length, map, take, drop, get_or, refl, ap, sym, ◌∙◌, arith, is_lt}
use Rattle.std.specs.BTreeMap.{insert_entry}
use Rattle.std.specs.List.{AllByRecursion}
use Rattle.std.specs.List.Sorted.{IsStrictlySortedBy}
use Rattle.std.specs.Map.{keys_of}
use Rattle.std.specs.Ordering.{match_ordering, ordering_reverse}
use Rattle.std.specs.declared.cmp.Ordering.{Ordering}
use Rattle.std.specs.declared.cmp.Ordering.TheVariants.{Less, Equal, Greater}
use Rattle.std.proofs.lemmas.List.{take-append-drop, drop_more, length-map}
use Rattle.std.proofs.lemmas.Bool.{cases_lt}
use Rattle.std.proofs.lemmas.Grind.{take_at_read}
use Rattle.std.proofs.lemmas.Map.Keys.{sorted_head, sorted_tail, Less-from_sorted, sorted_from_all_adjacent}
use Rattle.spec_core.proofs.Holding.{digest_total}
use Rattle.spec_tree.specs.Order.{digest_cmp}
use Rattle.spec_tree.specs.declared.Digest.{Digest}
use Rattle.spec_tree.specs.declared.blob.Blob.{Blob}

-- an opening as a map
abbrev mapped : List (Digest × ℕ × ℕ) → List (Digest × Blob)
mapped xs = map (λ e. (e.0, record { size = e.1; version = e.2 })) xs

root_at : (xs : List (Digest × ℕ × ℕ)) (i : ℕ) (d : Digest) (e : Digest × ℕ × ℕ) → i < length xs → get_or (keys_of (mapped xs)) i d ≡ (get_or xs i e).0
root_at [] i d e h = absurd (omega (arith, h))
root_at (x ∷ xs) zero d e h = refl
root_at (x ∷ xs) (suc i) d e h = root_at xs i d e (omega (arith, h))

mapped_at : (xs : List (Digest × ℕ × ℕ)) (i : ℕ) (e : Digest × ℕ × ℕ) (d : Digest × Blob) → i < length xs → get_or (mapped xs) i d ≡ ((get_or xs i e).0, record { size = (get_or xs i e).1; version = (get_or xs i e).2 })
mapped_at [] i e d h = absurd (omega (arith, h))
mapped_at (x ∷ xs) zero e d h = refl
mapped_at (x ∷ xs) (suc i) e d h = mapped_at xs i e d (omega (arith, h))

-- the middle of entries that are in order comes after those before it
middle_holds : {X : Type 0} (P : Digest → Type 0) (es : List (Digest × X)) (k : Digest) (v : X) (rest : List (Digest × X)) → AllByRecursion P (keys_of (es ++ (k, v) ∷ rest)) → P k
middle_holds P [] k v rest a = a.0
middle_holds P (e ∷ es) k v rest a = middle_holds P es k v rest a.1

pub insert_middle : {X : Type 0} (es : List (Digest × X)) (k : Digest) (v : X) (rest : List (Digest × X)) → IsStrictlySortedBy digest_cmp (keys_of (es ++ (k, v) ∷ rest)) → insert_entry digest_cmp es k v ≡ es ++ (k, v) ∷ []
insert_middle [] k v rest sorted = refl
insert_middle (e ∷ es) k v rest sorted =
    let less = middle_holds (λ y. digest_cmp e.0 y ≡ Less) es k v rest (sorted_head digest_cmp e.0 (keys_of (es ++ (k, v) ∷ rest)) sorted) in
    let greater : digest_cmp k e.0 ≡ Greater = digest_total.antisymm k e.0 ∙ ap ordering_reverse less in
    ap (λ o. match_ordering o ((k, v) ∷ e ∷ es) ((e.0, v) ∷ es) (e ∷ insert_entry digest_cmp es k v)) greater
    ∙ ap (λ ys. e ∷ ys) (insert_middle es k v rest (sorted_tail digest_cmp e.0 (keys_of (es ++ (k, v) ∷ rest)) sorted))

-- an opening as a map, entry by entry
pub mapped_more : (xs : List (Digest × ℕ × ℕ)) (i : ℕ) (e : Digest × ℕ × ℕ) → i < length xs → IsStrictlySortedBy digest_cmp (keys_of (mapped xs))
    → insert_entry digest_cmp (take i (mapped xs)) (get_or xs i e).0 (record { size = (get_or xs i e).1; version = (get_or xs i e).2 }) ≡ take (i + 1) (mapped xs)
mapped_more xs i e short sorted =
    let all = mapped xs in
    let r = (get_or xs i e).0 in
    let b : Blob = record { size = (get_or xs i e).1; version = (get_or xs i e).2 } in
    let short' : i < length all = rw (length-map) short in
    let here : get_or all i (r, b) ≡ (r, b) = mapped_at xs i e (r, b) short in
    let parts : take i all ++ (r, b) ∷ drop (i + 1) all ≡ all =
    ap (λ (p : Digest × Blob). take i all ++ p ∷ drop (i + 1) all) (sym here) ∙ ap (λ (ys : List (Digest × Blob)). take i all ++ ys) (sym (drop_more all i (r, b) short')) ∙ take-append-drop i all in
    insert_middle (take i all) r b (drop (i + 1) all) (rw parts sorted)
    ∙ ap (λ (p : Digest × Blob). take i all ++ p ∷ []) (sym here) ∙ sym (take_at_read all i (r, b) short').1
