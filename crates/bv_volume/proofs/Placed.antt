-- Where blobs lie while an entry purges some of them.
use Rattle.std.proofs.Common.{◌≡◌, ◌≤◌, ℕ, ◌+◌, ◌++◌, ◌∷◌, [], Bool, true, false, cond, ◌||◌, ◌<◌, zero, suc, get_or, take, List, length, Option, Some, None, refl, ap, sym, ◌∙◌, subst, arith}
use Rattle.std.specs.BTreeMap.{is_at}
use Rattle.std.specs.Cmp.{eq_by_cmp_equiv}
use Rattle.std.specs.List.{sum_by, flat_map}
use Rattle.std.specs.Option.{option_map, unwrap_or}
use Rattle.std.proofs.lemmas.List.{append-nil, take_more}
use Rattle.std.proofs.lemmas.List.Concat.{flat_map-append}
use Rattle.std.proofs.lemmas.Map.Entries.{sum_by-remove_entry}
use Rattle.spec_tree.specs.declared.Digest.{Digest}
use Rattle.spec_tree.specs.declared.blob.Blob.{Blob}
use Rattle.spec_tree.specs.Order.{digest_cmp, same_digest}
use Rattle.spec_core.proofs.Counting.{count-cons}
use Rattle.spec_core.proofs.EntryLemmas.{lookup-remove_other}
use Rattle.spec_core.proofs.Holding.{digest_total, or_false}
use Rattle.spec_core.proofs.Once.{times as times_root}
use Rattle.spec_core.specs.Log.{without, changed, purges}
use Rattle.spec_core.specs.Room.{purge_need}
use Rattle.spec_core.specs.State.{find, among}
use Rattle.spec_rest.specs.Rest.{Map}
use Rattle.bv_claims.specs.Blocks.{times}
use Rattle.bv_claims.proofs.Counts.{times-append}
use Rattle.bv_model.specs.Sole.{Sole}
use Rattle.bv_model.proofs.Adds.{sole-without, find-without}
use Rattle.bv_model.proofs.Flush.{changed_by_one}
use Rattle.bv_ledger.proofs.Sums.{needs, needs_purged}
use Rattle.bv_store.specs.Stored.{placed_without}
use Rattle.bv_volume.specs.Spaced.{times_placed, LiesAt, LieAll}
use Rattle.bv_volume.specs.Placed.{found, blocks_at}

abbrev pub Places : Type 0
Places = List (Digest × List ℕ)

-- the blocks that purges take, in order
abbrev pub taken_from : Places → List Digest → List ℕ
taken_from placed [] = []
taken_from placed (r ∷ rs) = found (find placed r) ++ taken_from (without placed r) rs

-- ---- the map and the places go on together

pub lie_without : (m : Map) (placed : Places) (r : Digest) → Sole m → Sole placed → LieAll m placed → LieAll (without m r) (without placed r)
lie_without m placed r a b lie x = rw (find-without m r x a, find-without placed r x b) (go (same_digest x r))
  where
    go : (c : Bool) → LiesAt (cond c None (find m x)) (cond c None (find placed x))
    go true = refl
    go false = lie x

pub lie_purged : (m : Map) (placed : Places) (rs : List Digest) → Sole m → Sole placed → LieAll m placed → LieAll (changed m (purges m rs)) (placed_without placed rs)
lie_purged m placed [] a b lie = lie
lie_purged m placed (r ∷ rs) a b lie =
    rw (changed_by_one m r (find m r) (purges (without m r) rs) refl)
    (lie_purged (without m r) (without placed r) rs (sole-without m r a) (sole-without placed r b) (lie_without m placed r a b lie))

pub sole_placed : (placed : Places) (rs : List Digest) → Sole placed → Sole (placed_without placed rs)
sole_placed placed [] b = b
sole_placed placed (r ∷ rs) b = sole_placed (without placed r) rs (sole-without placed r b)

found_need : (o : Option Blob) (l : Option (List ℕ)) → LiesAt o l → length (found l) ≡ needs o
found_need (Some blob) (Some bs) h = h
found_need (Some blob) None h = absurd h
found_need None None h = refl
found_need None (Some bs) h = cc

-- as many blocks are taken as the purges free
pub taken_need : (m : Map) (placed : Places) (rs : List Digest) → Sole m → Sole placed → LieAll m placed → length (taken_from placed rs) ≡ sum_by purge_need (purges m rs)
taken_need m placed [] a b lie = refl
taken_need m placed (r ∷ rs) a b lie =
    let later = taken_need (without m r) (without placed r) rs (sole-without m r a) (sole-without placed r b) (lie_without m placed r a b lie) in
    omega (arith, later, found_need (find m r) (find placed r) (lie r), needs_purged (find m r) r (purges (without m r) rs), length_two (found (find placed r)) (taken_from (without placed r) rs))
  where
    length_two : (xs ys : List ℕ) → length (xs ++ ys) ≡ length xs + length ys
    length_two [] ys = omega arith
    length_two (x ∷ xs) ys = omega (arith, length_two xs ys)

-- ---- how often a block stands there

times_found : (b : ℕ) (o : Option (List ℕ)) → unwrap_or (option_map (times b) o) 0 ≡ times b (found o)
times_found b None = refl
times_found b (Some bs) = refl

pub times_one : (b : ℕ) (placed : Places) (r : Digest) → times_placed b (without placed r) + times b (found (find placed r)) ≡ times_placed b placed
times_one b placed r = rw (times_found b (find placed r)) at (sum_by-remove_entry (times b) (is_at (digest_cmp r)) placed)

pub times_purged : (b : ℕ) (placed : Places) (rs : List Digest) → times_placed b (placed_without placed rs) + times b (taken_from placed rs) ≡ times_placed b placed
times_purged b placed [] = omega arith
times_purged b placed (r ∷ rs) =
    omega (arith, times_purged b (without placed r) rs, times_one b placed r, times-append b (found (find placed r)) (taken_from (without placed r) rs))

-- ---- roots that are purged each once

other_digest : (x r : Digest) → same_digest r x ≡ false → same_digest x r ≡ false
other_digest x r e = (eq_by_cmp_equiv digest_total).symm x r ∙ e

pub find_other : (placed : Places) (rs : List Digest) (r : Digest) → among rs r ≡ false → find (placed_without placed rs) r ≡ find placed r
find_other placed [] r h = refl
find_other placed (x ∷ rs) r h =
    let apart = or_false (same_digest r x) (among rs r) h in
    find_other (without placed x) rs r apart.1 ∙ lookup-remove_other digest_total placed x r (other_digest x r apart.0)

-- the map at a root that isn't purged
pub purged_other : (m : Map) (rs : List Digest) (r : Digest) → among rs r ≡ false → find (changed m (purges m rs)) r ≡ find m r
purged_other m [] r h = refl
purged_other m (x ∷ rs) r h =
    let apart = or_false (same_digest r x) (among rs r) h in
    ap (λ (k : Map). find k r) (changed_by_one m x (find m x) (purges (without m x) rs) refl)
    ∙ purged_other (without m x) rs r apart.1 ∙ lookup-remove_other digest_total m x r (other_digest x r apart.0)

not_twice : (b : Bool) (n : ℕ) → cond b 1 0 + n ≡ 0 → (b ≡ false) × (n ≡ 0)
not_twice true n h = absurd (omega (arith, h))
not_twice false n h = (refl, omega (arith, h))

blocks_other : (placed : Places) (x : Digest) (rs : List Digest) → times_root x rs ≡ 0 → blocks_at (without placed x) rs ≡ blocks_at placed rs
blocks_other placed x [] h = refl
blocks_other placed x (r ∷ rs) h =
    let apart = not_twice (same_digest x r) (times_root x rs) (sym (count-cons (same_digest x) r rs) ∙ h) in
    rw (lookup-remove_other digest_total placed x r apart.0) (ap (λ (bs : List ℕ). found (find placed r) ++ bs) (blocks_other placed x rs apart.1))

no_more : (b : Bool) (n : ℕ) → b ≡ true → cond b 1 0 + n ≤ 1 → n ≡ 0
no_more true n e h = omega (arith, h)
no_more false n e h = cc

pub blocks_are_taken : (placed : Places) (rs : List Digest) → ((r : Digest) → times_root r rs ≤ 1) → blocks_at placed rs ≡ taken_from placed rs
blocks_are_taken placed [] once = refl
blocks_are_taken placed (x ∷ rs) once =
    let rest : (r : Digest) → times_root r rs ≤ 1 = λ r. omega (arith, once r, count-cons (same_digest r) x rs) in
    let none = no_more (same_digest x x) (times_root x rs) ((eq_by_cmp_equiv digest_total).refl x) (subst (λ (k : ℕ). k ≤ 1) (count-cons (same_digest x) x rs) (once x)) in
    ap (λ (bs : List ℕ). found (find placed x) ++ bs) (sym (blocks_other placed x rs none) ∙ blocks_are_taken (without placed x) rs rest)

-- ---- looked up one by one

same_or : (r x : Digest) (rs : List Digest) → among rs r ≡ true → among (x ∷ rs) r ≡ true
same_or r x rs h = go (same_digest r x)
  where
    go : (b : Bool) → (b || among rs r) ≡ true
    go true = refl
    go false = h

pub among_at : (rs : List Digest) (i : ℕ) (d : Digest) → i < length rs → among rs (get_or rs i d) ≡ true
among_at [] i d h = absurd (omega (arith, h))
among_at (r ∷ rs) zero d h = ap (λ (b : Bool). b || among rs r) ((eq_by_cmp_equiv digest_total).refl r)
among_at (r ∷ rs) (suc i) d h = same_or (get_or rs i d) r rs (among_at rs i d (omega (arith, h)))

pub more_blocks : (placed : Places) (rs : List Digest) (i : ℕ) (d : Digest) (blocks : List ℕ) → i < length rs → find placed (get_or rs i d) ≡ Some blocks → blocks_at placed (take (i + 1) rs) ≡ blocks_at placed (take i rs) ++ blocks
more_blocks placed rs i d blocks h is =
    let f : Digest → List ℕ = λ r. found (find placed r) in
    ap (λ (xs : List Digest). flat_map f xs) (take_more rs i d h) ∙ flat_map-append f (take i rs) (get_or rs i d ∷ [])
    ∙ ap (λ (bs : List ℕ). flat_map f (take i rs) ++ bs) (append-nil (found (find placed (get_or rs i d))) ∙ ap found is)
