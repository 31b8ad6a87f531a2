-- What a hasher's levels hold, after a digest was put and a whole block kept.
use Rattle.std.proofs.Common.{inl, inr, ◌≡◌, ◌≢◌, ℕ, zero, suc, ◌+◌, ◌-◌, ◌*◌, ◌/◌, ◌%◌, ◌<◌, ◌≤◌, List, [], ◌∷◌, ◌++◌, length, get_or, set, map, refl, sym, ap, subst, ◌∙◌, length-append, arith, Option, Some, None, option_map, length-set}
use Rattle.std.proofs.lemmas.Bool.{cases_lt}
use Rattle.std.proofs.lemmas.List.{get_or_past, get_or-set_other, get_or-set_same}
use Rattle.std.proofs.Math.Seq.{map-set_same}
use Rattle.spec_tree.specs.declared.Digest.{Digest}
use Rattle.spec_tree.specs.Tree.{block_digest, digest_block}
use Rattle.bv_merkle.specs.declared.hasher.RootHasher.{RootHasher}
use Rattle.bv_merkle.specs.TreeShape.{row, put_block}
use Rattle.bv_merkle.specs.Levels.{whole_above, whole_blocks}
use Rattle.bv_merkle.specs.Hasher.{IsDigest, block_at, put_at, keep_at, KeepsOf, StandsAt, Stands, shape_of}
use Rattle.bv_merkle.proofs.LevelsLemmas.{digest_block-put, whole_above-same, whole_above-more, whole_blocks-same, whole_blocks-more, length-whole_blocks, AreDigests-append}

-- the element after a list's last
after-last : {X : Type 0} (xs : List X) (x d : X) → get_or (xs ++ x ∷ []) (length xs) d ≡ x
after-last [] x d = refl
after-last (y ∷ ys) x d = after-last ys x d

-- the elements before it
before-last : {X : Type 0} (xs ys : List X) (i : ℕ) (d : X) → i < length xs → get_or (xs ++ ys) i d ≡ get_or xs i d
before-last [] ys i d h = absurd (omega (arith, h))
before-last (x ∷ xs) ys zero d h = refl
before-last (x ∷ xs) ys (suc i) d h = before-last xs ys i d (omega (arith, h))

-- a block put into another level
pub keeps-other : (kept : Option (List (List (List ℕ)))) (level k index : ℕ) (block : List ℕ) (blocks : List (List ℕ)) → k ≢ level
    → KeepsOf kept k blocks → KeepsOf (option_map (λ levels. put_block levels level index block) kept) k blocks
keeps-other None level k index block blocks other keeps = tt
keeps-other (Some levels) level k index block blocks other keeps =
    let same : row (put_block levels level index block) k ≡ row levels k = get_or-set_other levels level k _ [] other in
    subst (λ (r : List (List ℕ)). (i : ℕ) → i < length blocks → i < length r → get_or r i [] ≡ get_or blocks i [])
    (sym same) keeps

-- a block put after the first blocks of a row
row-more : (r : List (List ℕ)) (index : ℕ) (block : List ℕ) (blocks : List (List ℕ)) → length blocks ≡ index
    → ((i : ℕ) → i < length blocks → i < length r → get_or r i [] ≡ get_or blocks i [])
    → (i : ℕ) → i < length (blocks ++ block ∷ []) → i < length (set r index block)
    → get_or (set r index block) i [] ≡ get_or (blocks ++ block ∷ []) i []
row-more r index block blocks n keeps i h w =
    let in_row : i < length r = subst (λ (k : ℕ). i < k) (length-set r index block) w in
    elim (cases_lt i index) [
      | inl before ↦
          get_or-set_other r index i block [] (λ e. omega (arith, e, before))
          ∙ keeps i (omega (arith, before, n)) in_row
          ∙ sym (before-last blocks (block ∷ []) i [] (omega (arith, before, n)))
      | inr from ↦
          let here : i ≡ index = omega (arith, from, h, n, length-append blocks (block ∷ [])) in
          ap (λ (k : ℕ). get_or (set r index block) k []) here
          ∙ get_or-set_same r index block [] (omega (arith, here, in_row))
          ∙ sym (after-last blocks block [])
          ∙ ap (λ (k : ℕ). get_or (blocks ++ block ∷ []) k []) (omega (arith, here, n))
    ]

-- the block after those that are kept of its level
pub keeps-more : (kept : Option (List (List (List ℕ)))) (level index : ℕ) (block : List ℕ) (blocks : List (List ℕ)) → length blocks ≡ index
    → KeepsOf kept level blocks → KeepsOf (option_map (λ levels. put_block levels level index block) kept) level (blocks ++ block ∷ [])
keeps-more None level index block blocks n keeps = tt
keeps-more (Some levels) level index block blocks n keeps = elim (cases_lt level (length levels)) [
  | inl within ↦
      let same : row (put_block levels level index block) level ≡ set (row levels level) index block =
      get_or-set_same levels level _ [] within in
      subst (λ (r : List (List ℕ)). (i : ℕ) → i < length (blocks ++ block ∷ []) → i < length r
      → get_or r i [] ≡ get_or (blocks ++ block ∷ []) i [])
      (sym same) (row-more (row levels level) index block blocks n keeps)
  | inr past ↦
      let none : row (put_block levels level index block) level ≡ [] =
      get_or_past _ level [] (omega (arith, past, length-set levels level (set (row levels level) index block))) in
      λ i h w. absurd (omega (arith, w, ap length none))
]

-- what changes at one level stays at the others
stands-put-other : (h : RootHasher) (level k place : ℕ) (d : Digest) (xs : List Digest) → k ≢ level
    → StandsAt h k xs → StandsAt (put_at h level place d) k xs
stands-put-other h level k place d xs other s = record {
  sized = s.sized;
  last = λ some. get_or-set_other h.blocks level k _ [] other ∙ s.last some;
  kept = s.kept;
}

pub stands-keep-other : (h : RootHasher) (level k index : ℕ) (xs : List Digest) → k ≢ level
    → StandsAt h k xs → StandsAt (keep_at h level index) k xs
stands-keep-other h level k index xs other s = record {
  sized = s.sized;
  last = s.last;
  kept = keeps-other h.kept level k index _ _ other s.kept;
}

-- what stays at each level from one on stays above it
pub stands-above : (old new : RootHasher) (from : ℕ) → ((k : ℕ) (xs : List Digest) → from ≤ k → StandsAt old k xs → StandsAt new k xs)
    → (more level : ℕ) (xs : List Digest) → from ≤ level → Stands old more level xs → Stands new more level xs
stands-above old new from stays zero level xs h s = tt
stands-above old new from stays (suc more) level xs h s =
    (stays level xs h s.0, stands-above old new from stays more (level + 1) _ (omega (arith, h)) s.1)

-- the block of a level after a digest was put
block_at-put : (h : RootHasher) (level : ℕ) (d : Digest) (xs : List Digest) → level < length h.blocks → IsDigest d
    → StandsAt h level xs
    → block_at (put_at h level (length xs % 256) d) level ≡ digest_block (xs ++ d ∷ []) (length xs / 256)
block_at-put h level d xs within one s =
    get_or-set_same h.blocks level _ [] within ∙ digest_block-put xs d (block_at h level) s.sized one s.last

-- the last block of one digest more
last-more : (xs : List Digest) (d : Digest)
    → digest_block (xs ++ d ∷ []) (length xs / 256) ≡ digest_block (xs ++ d ∷ []) ((length (xs ++ d ∷ []) - 1) / 256)
last-more xs d = ap (digest_block (xs ++ d ∷ [])) (omega (arith, length-append xs (d ∷ [])))

-- a digest more at a level, whose last block isn't whole
stands-put : (h : RootHasher) (more level : ℕ) (d : Digest) (xs : List Digest) → level < length h.blocks → IsDigest d
    → (length xs + 1) % 256 ≢ 0 → Stands h (suc more) level xs
    → Stands (put_at h level (length xs % 256) d) (suc more) level (xs ++ d ∷ [])
stands-put h more level d xs within one part s =
    let new : RootHasher = put_at h level (length xs % 256) d in
    let here : StandsAt new level (xs ++ d ∷ []) = record {
      sized = AreDigests-append xs (d ∷ []) s.0.sized (one, tt);
      last = λ some. block_at-put h level d xs within one s.0 ∙ last-more xs d;
      kept = subst (KeepsOf h.kept level) (sym (whole_blocks-same xs d part)) s.0.kept;
    } in
    let above : Stands new more (level + 1) (whole_above (level + 1) xs) =
    stands-above h new (level + 1)
    (λ k ys up at. stands-put-other h level k (length xs % 256) d ys (λ e. omega (arith, e, up)) at)
    more (level + 1) _ (omega arith) s.1 in
    (here, subst (λ (ys : List Digest). Stands new more (level + 1) ys) (sym (whole_above-same (level + 1) xs d part)) above)

-- a digest more that makes a block whole
stands-whole : (h : RootHasher) (more level : ℕ) (d : Digest) (xs : List Digest) → level < length h.blocks → IsDigest d
    → (length xs + 1) % 256 ≡ 0 → Stands h (suc more) level xs
    → StandsAt (keep_at (put_at h level (length xs % 256) d) level (length xs / 256)) level (xs ++ d ∷ [])
    × Stands (keep_at (put_at h level (length xs % 256) d) level (length xs / 256)) more (level + 1) (whole_above (level + 1) xs)
stands-whole h more level d xs within one whole s =
    let put : RootHasher = put_at h level (length xs % 256) d in
    let new : RootHasher = keep_at put level (length xs / 256) in
    let block = block_at-put h level d xs within one s.0 in
    let kept = keeps-more h.kept level (length xs / 256) (block_at put level) _ (length-whole_blocks xs) s.0.kept in
    let blocks : whole_blocks xs ++ block_at put level ∷ [] ≡ whole_blocks (xs ++ d ∷ []) =
    ap (λ (b : List ℕ). whole_blocks xs ++ b ∷ []) block ∙ sym (whole_blocks-more xs d whole) in
    let here : StandsAt new level (xs ++ d ∷ []) = record {
      sized = AreDigests-append xs (d ∷ []) s.0.sized (one, tt);
      last = λ some. block ∙ last-more xs d;
      kept = subst (KeepsOf new.kept level) blocks kept;
    } in (
      here,
      stands-above h new (level + 1)
          (λ k ys up at. stands-keep-other put level k (length xs / 256) ys (λ e. omega (arith, e, up))
          (stands-put-other h level k (length xs % 256) d ys (λ e. omega (arith, e, up)) at))
          more (level + 1) _ (omega arith) s.1,
    )

-- a digest put with its block's digest put above
stands-cascade : (put new : RootHasher) (more level : ℕ) (d above : Digest) (xs : List Digest)
    → (length xs + 1) % 256 ≡ 0
    → StandsAt put level (xs ++ d ∷ [])
    → above ≡ block_digest (level + 1) (8192 * (length xs / 256)) (block_at put level)
    → StandsAt new level (xs ++ d ∷ [])
    → Stands new more (level + 1) (whole_above (level + 1) xs ++ above ∷ [])
    → Stands new (suc more) level (xs ++ d ∷ [])
stands-cascade put new more level d above xs whole at e here s =
    let block : block_at put level ≡ digest_block (xs ++ d ∷ []) (length xs / 256) =
    at.last (omega (arith, length-append xs (d ∷ []))) ∙ sym (last-more xs d) in
    let one : above ≡ block_digest (level + 1) (8192 * (length xs / 256)) (digest_block (xs ++ d ∷ []) (length xs / 256)) =
    e ∙ ap (block_digest (level + 1) (8192 * (length xs / 256))) block in (
      here,
      subst (λ (ys : List Digest). Stands new more (level + 1) ys)
          (ap (λ (a : Digest). whole_above (level + 1) xs ++ a ∷ []) one ∙ sym (whole_above-more (level + 1) xs d whole)) s,
    )

-- so many levels are left from a level on
pub left : (h : RootHasher) (some more level : ℕ) (xs : List Digest) → some ≡ more → Stands h some level xs → Stands h more level xs
left h some more level xs e s = subst (λ (n : ℕ). Stands h n level xs) e s

-- ---- the steps of `place`, from what `put` and `keep` say

-- the block isn't whole
pub place-part : (old put : RootHasher) (level index : ℕ) (d : Digest) (xs : List Digest)
    → put ≡ put_at old level (index % 256) d → level < 7 → level < length old.blocks → IsDigest d
    → ((index + 1) % 256 ≡ 0 → ⊥) → length xs ≡ index
    → Stands old (7 - level) level xs → Stands put (7 - level) level (xs ++ d ∷ [])
place-part old put level index d xs p low within one part n s =
    let at : put ≡ put_at old level (length xs % 256) d = p ∙ ap (λ (k : ℕ). put_at old level (k % 256) d) (sym n) in
    let partly : (length xs + 1) % 256 ≡ 0 → ⊥ = λ e. part (ap (λ (k : ℕ). (k + 1) % 256) (sym n) ∙ e) in
    let count : 7 - level ≡ suc (6 - level) = omega (arith, low) in
    let new = stands-put old (6 - level) level d xs within one partly (left old _ _ level xs count s) in
    subst (λ (h : RootHasher). Stands h (7 - level) level (xs ++ d ∷ [])) (sym at) (left _ _ _ level _ (sym count) new)

-- the block is whole: this level has it, and the levels above are as before
pub place-whole : (old put kept : RootHasher) (level index : ℕ) (d : Digest) (xs : List Digest)
    → put ≡ put_at old level (index % 256) d → kept ≡ keep_at put level (index / 256)
    → level < 7 → level < length old.blocks → IsDigest d
    → (index + 1) % 256 ≡ 0 → length xs ≡ index → Stands old (7 - level) level xs
    → StandsAt kept level (xs ++ d ∷ []) × Stands kept (6 - level) (level + 1) (whole_above (level + 1) xs)
place-whole old put kept level index d xs p k low within one whole n s =
    let at : kept ≡ keep_at (put_at old level (length xs % 256) d) level (length xs / 256) =
    k ∙ ap (λ (h : RootHasher). keep_at h level (index / 256)) p
    ∙ ap (λ (i : ℕ). keep_at (put_at old level (i % 256) d) level (i / 256)) (sym n) in
    let wholly : (length xs + 1) % 256 ≡ 0 = ap (λ (i : ℕ). (i + 1) % 256) n ∙ whole in
    let count : 7 - level ≡ suc (6 - level) = omega (arith, low) in
    subst (λ (h : RootHasher). StandsAt h level (xs ++ d ∷ []) × Stands h (6 - level) (level + 1) (whole_above (level + 1) xs))
    (sym at) (stands-whole old (6 - level) level d xs within one wholly (left old _ _ level xs count s))

-- at the highest level nothing is put above
pub place-top : (kept : RootHasher) (level : ℕ) (xs : List Digest) → level < 7 → 7 ≤ level + 1
    → StandsAt kept level xs → Stands kept (7 - level) level xs
place-top kept level xs low high at = left kept 1 (7 - level) level xs (omega (arith, low, high)) (at, tt)

-- the levels below stay
pub place-below : (old put kept : RootHasher) (level index k : ℕ) (d : Digest) (xs : List Digest)
    → put ≡ put_at old level (index % 256) d → kept ≡ keep_at put level (index / 256) → k < level
    → StandsAt old k xs → StandsAt kept k xs
place-below old put kept level index k d xs p e low at =
    let other : k ≢ level = λ same. omega (arith, same, low) in
    let one : StandsAt put k xs =
    subst (λ (h : RootHasher). StandsAt h k xs) (sym p) (stands-put-other old level k (index % 256) d xs other at) in
    subst (λ (h : RootHasher). StandsAt h k xs) (sym e) (stands-keep-other put level k (index / 256) xs other one)

-- the digest of the block was put above
pub place-above : (kept new : RootHasher) (level index : ℕ) (d above : Digest) (xs : List Digest)
    → level < 7 → (index + 1) % 256 ≡ 0 → length xs ≡ index
    → StandsAt kept level (xs ++ d ∷ [])
    → above ≡ block_digest (level + 1) (8192 * (index / 256)) (block_at kept level)
    → StandsAt new level (xs ++ d ∷ [])
    → Stands new (7 - (level + 1)) (level + 1) (whole_above (level + 1) xs ++ above ∷ [])
    → Stands new (7 - level) level (xs ++ d ∷ [])
place-above kept new level index d above xs low whole n at e here s =
    let digest : above ≡ block_digest (level + 1) (8192 * (length xs / 256)) (block_at kept level) =
    e ∙ ap (λ (i : ℕ). block_digest (level + 1) (8192 * (i / 256)) (block_at kept level)) (sym n) in
    let wholly : (length xs + 1) % 256 ≡ 0 = ap (λ (i : ℕ). (i + 1) % 256) n ∙ whole in
    left new (suc (6 - level)) (7 - level) level _ (omega (arith, low))
    (stands-cascade kept new (6 - level) level d above xs wholly at digest here
    (left new _ _ (level + 1) _ (omega (arith, low)) s))

-- what stays of the blocks kept below
pub place-kept-below : (old put kept : RootHasher) (level index k : ℕ) (d : Digest) (blocks : List (List ℕ))
    → put ≡ put_at old level (index % 256) d → kept ≡ keep_at put level (index / 256) → k < level
    → KeepsOf old.kept k blocks → KeepsOf kept.kept k blocks
place-kept-below old put kept level index k d blocks p e low keeps =
    let other : k ≢ level = λ same. omega (arith, same, low) in
    let one : KeepsOf put.kept k blocks = subst (λ (h : RootHasher). KeepsOf h.kept k blocks) (sym p) keeps in
    subst (λ (h : RootHasher). KeepsOf h.kept k blocks) (sym e) (keeps-other put.kept level k (index / 256) _ blocks other one)

-- ---- nothing yet

-- no blocks are kept anywhere
keeps-none : (kept : Option (List (List (List ℕ)))) (level : ℕ) → KeepsOf kept level []
keeps-none None level = tt
keeps-none (Some levels) level = λ i none w. absurd (omega (arith, none))

-- no digests stand anywhere
pub stands-none : (h : RootHasher) (more level : ℕ) → Stands h more level []
unfolding whole_above whole_blocks
stands-none h zero level = tt
stands-none h (suc more) level = (
  record {
    sized = tt;
    last = λ none. absurd (omega (arith, none));
    kept = keeps-none h.kept level;
  },
  stands-none h more (level + 1),
)

-- the count of bytes doesn't matter
pub stands-taken : (h : RootHasher) (count more level : ℕ) (xs : List Digest)
    → Stands h more level xs → Stands (record { taken = count; blocks = h.blocks; kept = h.kept }) more level xs
stands-taken h count more level xs s =
    stands-above h (record { taken = count; blocks = h.blocks; kept = h.kept }) 0
    (λ k ys up at. record { sized = at.sized; last = at.last; kept = at.kept }) more level xs (omega arith) s

-- a block put into its place leaves the numbers of blocks
put_block-shape : (levels : List (List (List ℕ))) (level index : ℕ) (block : List ℕ)
    → map (λ blocks. length blocks) (put_block levels level index block) ≡ map (λ blocks. length blocks) levels
put_block-shape levels level index block =
    map-set_same (λ blocks. length blocks) levels level _ [] (length-set (row levels level) index block)

-- so does keeping one
pub keep-shape : (old put kept : RootHasher) (level index : ℕ) (place : ℕ) (d : Digest)
    → put ≡ put_at old level place d → kept ≡ keep_at put level index → shape_of kept ≡ shape_of old
keep-shape old put kept level index place d p e =
    ap shape_of e ∙ keep-one put.kept level index (block_at put level) ∙ ap shape_of p
  where
    keep-one : (levels : Option (List (List (List ℕ)))) (level index : ℕ) (block : List ℕ)
        → option_map (λ ls. map (λ blocks. length blocks) ls) (option_map (λ ls. put_block ls level index block) levels)
        ≡ option_map (λ ls. map (λ blocks. length blocks) ls) levels
    keep-one None level index block = refl
    keep-one (Some levels) level index block = ap Some (put_block-shape levels level index block)
