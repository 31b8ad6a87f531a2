-- The numbers of the open blobs, as a blob's number changes, comes and goes.
use Rattle.std.proofs.Common.{◌≡◌, ◌≢◌, ℕ, ◌+◌, Bool, true, false, cond, Option, Some, None, List, refl, ap, sym, ◌∙◌, arith}
use Rattle.std.specs.Cmp.{eq_by_cmp_equiv}
use Rattle.slab.specs.Slab.{Slab, Updates, get}
use Rattle.spec_tree.specs.declared.Digest.{Digest}
use Rattle.spec_tree.specs.Order.{same_digest}
use Rattle.spec_core.specs.State.{find}
use Rattle.spec_core.proofs.Holding.{digest_total, one_digest, same_self}
use Rattle.bv_handles.specs.Counted.{slots_in, slots_at}
use Rattle.bv_handles.specs.declared.holders.Open.{Open}

abbrev pub Keys : Type 0
Keys = List (Digest × ℕ)

-- what `Stands` says, of keys and blobs
abbrev pub Stand : Keys → Slab Open → Type 0
Stand keys blobs = (r : Digest) (key : ℕ) → find keys r ≡ Some key → (n : ℕ) × (get blobs key ≡ Some (record { root = r; slots = n }))

root_in : Option Open → Digest → Digest
root_in None r = r
root_in (Some o) r = o.root

-- other keys have what they had
same_count : (old new : Slab Open) (o : Option ℕ) → ((j : ℕ) → o ≡ Some j → get new j ≡ get old j) → slots_at new o ≡ slots_at old o
same_count old new None same = refl
same_count old new (Some j) same = ap slots_in (same j refl)

-- a record at the key of a root
module _ (keys : Keys) (old new : Slab Open) (stand : Stand keys old) (x : Digest) (k : ℕ) (has : find keys x ≡ Some k) (slot : Option Open) (u : Updates old new k slot) where
  -- another root has another key
  apart : (r : Digest) (j : ℕ) → find keys r ≡ Some j → same_digest r x ≡ false → j ≢ k
  unfolding root_in
  apart r j at other same =
      let one : r ≡ x = ap (λ o. root_in o x) (sym (stand r j at).1 ∙ ap (get old) same ∙ (stand x k has).1) in
      let both : same_digest r x ≡ true = rw one (same_self x) in
      cc

  pub others_stay : (r : Digest) → same_digest r x ≡ false → slots_at new (find keys r) ≡ slots_at old (find keys r)
  others_stay r other = same_count old new (find keys r) (λ j at. u.others j (apart r j at other))

  others_stand : (r : Digest) (j : ℕ) → find keys r ≡ Some j → same_digest r x ≡ false → (n : ℕ) × (get new j ≡ Some (record { root = r; slots = n }))
  others_stand r j at other = ((stand r j at).0, u.others j (apart r j at other) ∙ (stand r j at).1)

  -- another number for the root
  module _ (m : ℕ) (is : slot ≡ Some (record { root = x; slots = m })) where
    pub set_stands : Stand keys new
    set_stands r j at = go (same_digest r x) refl
      where
        go : (b : Bool) → same_digest r x ≡ b → (n : ℕ) × (get new j ≡ Some (record { root = r; slots = n }))
        go false other = others_stand r j at other
        go true same =
            let one = one_digest r x same in
            let key : j ≡ k = let at_x = rw one at at in cc in
            (m, rw (one, key) (u.changed ∙ is))

    pub set_counts : (r : Digest) → slots_at new (find keys r) ≡ cond (same_digest r x) m (slots_at old (find keys r))
    set_counts r = go (same_digest r x) refl
      where
        go : (b : Bool) → same_digest r x ≡ b → slots_at new (find keys r) ≡ cond b m (slots_at old (find keys r))
        go false other = others_stay r other
        go true same = rw (one_digest r x same) (ap (slots_at new) has ∙ ap slots_in (u.changed ∙ is))

  -- the root is gone
  module _ (left : Keys) (gone : (q : Digest) → find left q ≡ cond (same_digest x q) None (find keys q)) where
    kept : (r : Digest) → same_digest r x ≡ false → find left r ≡ find keys r
    kept r other = gone r ∙ rw ((eq_by_cmp_equiv digest_total).symm x r ∙ other) refl

    none : find left x ≡ None
    none = gone x ∙ rw (same_self x) refl

    pub removed_stand : Stand left new
    removed_stand r j at = go (same_digest r x) refl
      where
        go : (b : Bool) → same_digest r x ≡ b → (n : ℕ) × (get new j ≡ Some (record { root = r; slots = n }))
        go false other = others_stand r j (sym (kept r other) ∙ at) other
        go true same = let at_x = rw (one_digest r x same) at at in let no = none in cc

    pub removed_counts : slots_at old (find keys x) ≡ 1 → (r : Digest) → slots_at new (find left r) + cond (same_digest r x) 1 0 ≡ slots_at old (find keys r)
    removed_counts last r = go (same_digest r x) refl
      where
        go : (b : Bool) → same_digest r x ≡ b → slots_at new (find left r) + cond b 1 0 ≡ slots_at old (find keys r)
        go false other = omega (arith, ap (slots_at new) (kept r other), others_stay r other)
        go true same = rw (one_digest r x same) (omega (arith, ap (slots_at new) none, last))

-- a record under a key that had none, for a root that had none
module _ (keys more : Keys) (old new : Slab Open) (stand : Stand keys old) (x : Digest) (k : ℕ) (absent : find keys x ≡ None) (vacant : get old k ≡ None) (u : Updates old new k (Some (record { root = x; slots = 1 }))) (with_x : (q : Digest) → find more q ≡ cond (same_digest x q) (Some k) (find keys q)) where
  fresh : (r : Digest) (j : ℕ) → find keys r ≡ Some j → j ≢ k
  fresh r j at same = let there = sym (stand r j at).1 ∙ ap (get old) same ∙ vacant in cc

  as_before : (r : Digest) → same_digest r x ≡ false → find more r ≡ find keys r
  as_before r other = with_x r ∙ rw ((eq_by_cmp_equiv digest_total).symm x r ∙ other) refl

  there_now : find more x ≡ Some k
  there_now = with_x x ∙ rw (same_self x) refl

  pub added_stand : Stand more new
  added_stand r j at = go (same_digest r x) refl
    where
      go : (b : Bool) → same_digest r x ≡ b → (n : ℕ) × (get new j ≡ Some (record { root = r; slots = n }))
      go false other =
          let was = sym (as_before r other) ∙ at in
          ((stand r j was).0, u.others j (fresh r j was) ∙ (stand r j was).1)
      go true same =
          let one = one_digest r x same in
          let key : j ≡ k = let at_x = rw one at at in let now = there_now in cc in
          (1, rw (one, key) u.changed)

  pub added_counts : (r : Digest) → slots_at new (find more r) ≡ slots_at old (find keys r) + cond (same_digest r x) 1 0
  added_counts r = go (same_digest r x) refl
    where
      go : (b : Bool) → same_digest r x ≡ b → slots_at new (find more r) ≡ slots_at old (find keys r) + cond b 1 0
      go false other = omega (arith, ap (slots_at new) (as_before r other), same_count old new (find keys r) (λ j at. u.others j (fresh r j at)))
      go true same =
          rw (one_digest r x same) (omega (arith, ap (slots_at new) there_now, ap slots_in u.changed, ap (slots_at old) absent))

-- a number one larger or smaller, at one root
module _ (old new : Digest → ℕ) (x : Digest) (m : ℕ) (set : (r : Digest) → new r ≡ cond (same_digest r x) m (old r)) where
  pub one_more : m ≡ old x + 1 → (r : Digest) → new r ≡ old r + cond (same_digest r x) 1 0
  one_more is r = go (same_digest r x) refl (set r)
    where
      go : (b : Bool) → same_digest r x ≡ b → new r ≡ cond b m (old r) → new r ≡ old r + cond b 1 0
      go false other e = omega (arith, e)
      go true same e = omega (arith, e, is, ap old (one_digest r x same))

  pub one_less : m + 1 ≡ old x → (r : Digest) → new r + cond (same_digest r x) 1 0 ≡ old r
  one_less is r = go (same_digest r x) refl (set r)
    where
      go : (b : Bool) → same_digest r x ≡ b → new r ≡ cond b m (old r) → new r + cond b 1 0 ≡ old r
      go false other e = omega (arith, e)
      go true same e = omega (arith, e, is, ap old (one_digest r x same))
