-- A level that is closed: its last block is whole, and its digest stands in the level above.
use Rattle.std.proofs.Common.{below_more, ◌≡◌, ◌≢◌, ℕ, suc, ◌+◌, ◌-◌, ◌*◌, ◌/◌, ◌%◌, ◌^◌, ◌<◌, ◌≤◌, List, [], ◌∷◌, ◌++◌, length, map, take, replicate, append-nil, refl, sym, ap, subst, ◌∙◌, add-one, arith}
use Rattle.std.specs.List.{range_with_len}
use Rattle.std.specs.Int.{div_ceil}
use Rattle.std.proofs.lemmas.List.{take_all}
use Rattle.std.proofs.Math.Seq.{take-append_seam}
use Rattle.spec_tree.specs.declared.Digest.{Digest}
use Rattle.spec_tree.specs.Tree.{block_digest, filled, data_blocks, piece, digest_block, level_0, level_above, level_of, levels_of, root_of, digests_at}
use Rattle.spec_tree.proofs.SizesLemmas.{digests_at-7-few, digests_at-zero, levels_of-is}
use Rattle.spec_tree.proofs.TreeLemmas.{length-block_digest, length-level_above, length-level_of, root_of-is, root_of-small}
use Rattle.bv_merkle.specs.declared.hasher.RootHasher.{RootHasher}
use Rattle.bv_merkle.specs.Levels.{all_blocks, data_digests, whole_above, whole_blocks}
use Rattle.bv_merkle.specs.Hasher.{Closes, Holds, block_at, keep_at, KeepsOf, StandsAt, Stands}
use Rattle.bv_merkle.proofs.LevelsLemmas.{map-range-suc, length-whole_above, length-whole_blocks}
use Rattle.bv_merkle.proofs.StandsLemmas.{left, keeps-more, keeps-other, stands-keep-other, stands-above}
use Rattle.bv_merkle.proofs.WindowLemmas.{length-data_digests}

-- how many blocks n digests take, with a part-filled one or none
ceil-part : (n : ℕ) → n % 256 ≢ 0 → div_ceil n 256 ≡ suc (n / 256)
ceil-part n h = omega (arith, h)

ceil-whole : (n : ℕ) → n % 256 ≡ 0 → div_ceil n 256 ≡ n / 256
ceil-whole n h = omega (arith, h)

last-part : (n : ℕ) → n % 256 ≢ 0 → (n - 1) / 256 ≡ n / 256
last-part n h = omega (arith, h)

-- the level above has the digests of the whole blocks, and of a part-filled one
above-part : (level : ℕ) (xs : List Digest) → length xs % 256 ≢ 0
    → level_above level xs ≡ whole_above level xs ++ block_digest level (8192 * (length xs / 256)) (digest_block xs (length xs / 256)) ∷ []
unfolding level_above whole_above
above-part level xs h =
    ap (λ (n : ℕ). map (λ (i : ℕ). block_digest level (8192 * i) (digest_block xs i)) (range_with_len 0 n)) (ceil-part (length xs) h)
    ∙ map-range-suc (λ (i : ℕ). block_digest level (8192 * i) (digest_block xs i)) (length xs / 256)

above-whole : (level : ℕ) (xs : List Digest) → length xs % 256 ≡ 0 → level_above level xs ≡ whole_above level xs
unfolding level_above whole_above
above-whole level xs h =
    ap (λ (n : ℕ). map (λ (i : ℕ). block_digest level (8192 * i) (digest_block xs i)) (range_with_len 0 n)) (ceil-whole (length xs) h)

-- so do the blocks
blocks-part : (xs : List Digest) → length xs % 256 ≢ 0 → all_blocks xs ≡ whole_blocks xs ++ digest_block xs (length xs / 256) ∷ []
unfolding all_blocks whole_blocks
blocks-part xs h =
    ap (λ (n : ℕ). map (digest_block xs) (range_with_len 0 n)) (ceil-part (length xs) h)
    ∙ map-range-suc (digest_block xs) (length xs / 256)

blocks-whole : (xs : List Digest) → length xs % 256 ≡ 0 → all_blocks xs ≡ whole_blocks xs
unfolding all_blocks whole_blocks
blocks-whole xs h = ap (λ (n : ℕ). map (digest_block xs) (range_with_len 0 n)) (ceil-whole (length xs) h)

-- the digest of the last block
last-is : (h : RootHasher) (level : ℕ) (xs : List Digest) (above : Digest) → 0 < length xs → StandsAt h level xs
    → above ≡ block_digest (level + 1) (8192 * ((length xs - 1) / 256)) (block_at h level)
    → above ≡ block_digest (level + 1) (8192 * ((length xs - 1) / 256)) (digest_block xs ((length xs - 1) / 256))
last-is h level xs above some at e =
    e ∙ ap (block_digest (level + 1) (8192 * ((length xs - 1) / 256))) (at.last some)

-- nothing is left to do where the last block was whole already
pub closes-whole : (h : RootHasher) (level count : ℕ) (xs : List Digest) (above : Digest) → level < 7
    → 0 < count → length xs ≡ count → count % 256 ≡ 0 → Stands h (7 - level) level xs
    → above ≡ block_digest (level + 1) (8192 * ((count - 1) / 256)) (block_at h level)
    → Closes h level xs above
closes-whole h level count xs above low some n whole s e =
    let s' : Stands h (suc (6 - level)) level xs = left h (7 - level) (suc (6 - level)) level xs (omega (arith, low)) s in
    let w : length xs % 256 ≡ 0 = omega (arith, n, whole) in
    record {
      above = subst (λ (ys : List Digest). Stands h (6 - level) (level + 1) ys) (sym (above-whole (level + 1) xs w)) s'.1;
      last_is = last-is h level xs above (omega (arith, n, some)) s'.0
          (subst (λ (k : ℕ). above ≡ block_digest (level + 1) (8192 * ((k - 1) / 256)) (block_at h level)) (sym n) e);
      kept = subst (KeepsOf h.kept level) (sym (blocks-whole xs w)) s'.0.kept;
    }

-- the part-filled block is kept now
pub kept-part : (old kept : RootHasher) (level count : ℕ) (xs : List Digest) → level < 7
    → 0 < count → length xs ≡ count → (count % 256 ≡ 0 → ⊥) → kept ≡ keep_at old level ((count - 1) / 256)
    → Stands old (7 - level) level xs
    → KeepsOf kept.kept level (all_blocks xs) × Stands kept (6 - level) (level + 1) (whole_above (level + 1) xs)
kept-part old kept level count xs low some n part e s =
    let s' : Stands old (suc (6 - level)) level xs = left old (7 - level) (suc (6 - level)) level xs (omega (arith, low)) s in
    let p : length xs % 256 ≢ 0 = λ w. part (ap (λ (k : ℕ). k % 256) (sym n) ∙ w) in
    let at : (count - 1) / 256 ≡ length xs / 256 = ap (λ (k : ℕ). (k - 1) / 256) (sym n) ∙ last-part (length xs) p in
    let block : block_at old level ≡ digest_block xs (length xs / 256) =
    s'.0.last (omega (arith, n, some)) ∙ ap (digest_block xs) (last-part (length xs) p) in
    let new : RootHasher = keep_at old level (length xs / 256) in
    let more = keeps-more old.kept level (length xs / 256) (block_at old level) _ (length-whole_blocks xs) s'.0.kept in
    let blocks : whole_blocks xs ++ block_at old level ∷ [] ≡ all_blocks xs =
    ap (λ (b : List ℕ). whole_blocks xs ++ b ∷ []) block ∙ sym (blocks-part xs p) in
    let is_new : kept ≡ new = e ∙ ap (keep_at old level) at in
    subst (λ (h : RootHasher). KeepsOf h.kept level (all_blocks xs) × Stands h (6 - level) (level + 1) (whole_above (level + 1) xs))
    (sym is_new) (
      subst (KeepsOf new.kept level) blocks more,
      stands-above old new (level + 1)
          (λ k ys up st. stands-keep-other old level k (length xs / 256) ys (λ same. omega (arith, same, up)) st)
          (6 - level) (level + 1) _ (omega arith) s'.1,
    )

-- the levels below keep what they kept
pub kept-below : (old kept : RootHasher) (level index k : ℕ) (blocks : List (List ℕ)) → kept ≡ keep_at old level index → k < level
    → KeepsOf old.kept k blocks → KeepsOf kept.kept k blocks
kept-below old kept level index k blocks e low keeps =
    subst (λ (h : RootHasher). KeepsOf h.kept k blocks) (sym e)
    (keeps-other old.kept level k index _ blocks (λ same. omega (arith, same, low)) keeps)

-- and its digest stands above
pub closes-part : (old new : RootHasher) (level count : ℕ) (xs : List Digest) (above : Digest) → level < 7
    → 0 < count → length xs ≡ count → (count % 256 ≡ 0 → ⊥) → Stands old (7 - level) level xs
    → above ≡ block_digest (level + 1) (8192 * ((count - 1) / 256)) (block_at old level)
    → KeepsOf new.kept level (all_blocks xs)
    → Stands new (6 - level) (level + 1) (whole_above (level + 1) xs ++ above ∷ [])
    → Closes new level xs above
closes-part old new level count xs above low some n part s e kept st =
    let s' : Stands old (suc (6 - level)) level xs = left old (7 - level) (suc (6 - level)) level xs (omega (arith, low)) s in
    let p : length xs % 256 ≢ 0 = λ w. part (ap (λ (k : ℕ). k % 256) (sym n) ∙ w) in
    let one = last-is old level xs above (omega (arith, n, some)) s'.0
    (subst (λ (k : ℕ). above ≡ block_digest (level + 1) (8192 * ((k - 1) / 256)) (block_at old level)) (sym n) e) in
    let same : above ≡ block_digest (level + 1) (8192 * (length xs / 256)) (digest_block xs (length xs / 256)) =
    one ∙ ap (λ (k : ℕ). block_digest (level + 1) (8192 * k) (digest_block xs k)) (last-part (length xs) p) in
    record {
      above = subst (λ (ys : List Digest). Stands new (6 - level) (level + 1) ys)
          (ap (λ (a : Digest). whole_above (level + 1) xs ++ a ∷ []) same ∙ sym (above-part (level + 1) xs p)) st;
      last_is = one;
      kept = kept;
    }

-- where that digest stands
pub above-index : (level count : ℕ) (xs : List Digest) → length xs ≡ count → (count % 256 ≡ 0 → ⊥)
    → length (whole_above level xs) ≡ (count - 1) / 256
above-index level count xs n part =
    length-whole_above level xs ∙ ap (λ (k : ℕ). k / 256) n ∙ sym (last-part count part)

-- ---- the levels, one after another

-- level by level up to this one, the bytes' digests stand and their blocks are kept
pub record Climbed (m : List ℕ) (hasher : RootHasher) (level count : ℕ) : Type 0 where
  pub stands : Stands hasher (7 - level) level (level_of m level)
  pub count_is : length (level_of m level) ≡ count
  pub many : (k : ℕ) → k < level + 1 → 1 < length (level_of m k)
  pub kept : (k : ℕ) → k < level → KeepsOf hasher.kept k (all_blocks (level_of m k))

-- level 0 of more than one block
pub climbed-zero : (h : RootHasher) (m : List ℕ) (count : ℕ) → Holds h m → count ≡ div_ceil h.taken 8192 → 1 < count
    → Climbed m h 0 count
unfolding Holds level_of level_0 data_digests
climbed-zero h m count held e many =
    let blocks : data_blocks (length m) ≡ count = omega (arith, held.0, e) in
    let same : level_of m 0 ≡ data_digests m =
    ap (λ (n : ℕ). map (λ (i : ℕ). block_digest 0 (8192 * i) (piece m i)) (range_with_len 0 n)) (omega (arith, blocks, many)) in
    let long : length (level_of m 0) ≡ count = ap length same ∙ length-data_digests m ∙ blocks in
    record {
      stands = subst (λ (xs : List Digest). Stands h 7 0 xs) (sym same) held.1;
      count_is = long;
      many = λ k low.
          let zero_is : 0 ≡ k = omega (arith, low) in
          let more : 1 < length (level_of m 0) = omega (arith, long, many) in
          subst (λ (j : ℕ). 1 < length (level_of m j)) zero_is more;
      kept = λ k none. absurd (omega (arith, none));
    }

-- the next level
next-level : (m : List ℕ) (level : ℕ) → level_of m (level + 1) ≡ level_above (level + 1) (level_of m level)
unfolding level_of
next-level m level = rw add-one refl

pub climbed-more : (m : List ℕ) (old new : RootHasher) (level count next : ℕ) (above : Digest) → level < 7
    → Climbed m old level count → 256 < count → next ≡ div_ceil count 256
    → Closes new level (level_of m level) above
    → ((k : ℕ) (blocks : List (List ℕ)) → k < level → KeepsOf old.kept k blocks → KeepsOf new.kept k blocks)
    → Climbed m new (level + 1) next
climbed-more m old new level count next above low c many e closes below =
    let up = next-level m level in
    let long : length (level_of m (level + 1)) ≡ next =
    ap length up ∙ length-level_above (level + 1) (level_of m level) ∙ omega (arith, c.count_is, e) in
    record {
      stands = left new (6 - level) (7 - (level + 1)) (level + 1) _ (omega (arith, low))
          (subst (λ (xs : List Digest). Stands new (6 - level) (level + 1) xs) (sym up) closes.above);
      count_is = long;
      many = below_more (λ (k : ℕ). 1 < length (level_of m k)) (level + 1) c.many (omega (arith, long, e, many));
      kept = below_more (λ (k : ℕ). KeepsOf new.kept k (all_blocks (level_of m k))) level
          (λ k under. below k _ under (c.kept k under)) closes.kept;
    }

-- the highest level has one digest
climbed-top : (m : List ℕ) (old new : RootHasher) (level count : ℕ) (above : Digest)
    → Climbed m old level count → count ≤ 256 → Closes new level (level_of m level) above → level_of m (level + 1) ≡ above ∷ []
unfolding level_above
climbed-top m old new level count above c few closes =
    let xs : List Digest = level_of m level in
    let long : 1 < length xs = c.many level (omega arith) in
    let one : div_ceil (length xs) 256 ≡ 1 = omega (arith, long, c.count_is, few) in
    let first : (length xs - 1) / 256 ≡ 0 = omega (arith, c.count_is, few) in
    let made : ℕ → Digest = λ i. block_digest (level + 1) (8192 * i) (digest_block xs i) in
    next-level m level
    ∙ ap (λ (n : ℕ). map made (range_with_len 0 n)) one
    ∙ ap (λ (d : Digest). d ∷ []) (sym (closes.last_is ∙ ap made first))

-- it is the root
pub climbed-root : (m : List ℕ) (old new : RootHasher) (level count : ℕ) (above : Digest)
    → Climbed m old level count → count ≤ 256 → Closes new level (level_of m level) above → root_of m ≡ above
climbed-root m old new level count above c few closes =
    root_of-is m (level + 1) above (climbed-top m old new level count above c few closes) c.many

pub climbed-levels : (m : List ℕ) (old new : RootHasher) (level count : ℕ) (above : Digest)
    → Climbed m old level count → count ≤ 256 → Closes new level (level_of m level) above
    → ((k : ℕ) (blocks : List (List ℕ)) → k < level → KeepsOf old.kept k blocks → KeepsOf new.kept k blocks)
    → (k : ℕ) → k < levels_of (length m) → KeepsOf new.kept k (all_blocks (level_of m k))
climbed-levels m old new level count above c few closes below k low =
    let top : digests_at (length m) (level + 1) ≡ 1 =
    sym (length-level_of m (level + 1)) ∙ ap length (climbed-top m old new level count above c few closes) in
    let count_of : levels_of (length m) ≡ level + 1 =
    levels_of-is (length m) (level + 1) top
    (λ j under. subst (λ (n : ℕ). 1 < n) (length-level_of m j) (c.many j under)) in
    below_more (λ (j : ℕ). KeepsOf new.kept j (all_blocks (level_of m j))) level
    (λ j under. below j _ under (c.kept j under)) closes.kept k (omega (arith, low, count_of))

-- no size has more digests than one at level 7
pub climbed-end : (m : List ℕ) (old h : RootHasher) (level count : ℕ) → Holds old m → old.taken < 2 ^ 64 → level ≡ 7
    → Climbed m h level count → ⊥
unfolding Holds
climbed-end m old h level count held few e c =
    let many : 1 < length (level_of m level) = c.many level (omega arith) in
    let at : length (level_of m level) ≡ digests_at (length m) 7 = length-level_of m level ∙ ap (digests_at (length m)) e in
    absurd (omega (arith, many, at, digests_at-7-few (length m) (omega (arith, few, held.0))))

-- ---- at most one block

pub root-empty : (h : RootHasher) (m : List ℕ) (d : Digest) → Holds h m → h.taken ≡ 0 → d ≡ block_digest 0 0 [] → d ≡ root_of m
unfolding Holds
root-empty h [] d held none e = e ∙ sym (root_of-small [] (omega arith))
root-empty h (b ∷ bs) d held none e = absurd (omega (arith, held.0, none))

-- the first digest of a block
front-digest : (bytes : List ℕ) → length bytes ≡ 32 → take 32 (filled (bytes ++ [])) ≡ bytes
front-digest bytes long =
    ap (λ (bs : List ℕ). take 32 (filled bs)) (append-nil bytes)
    ∙ ap (λ (n : ℕ). take n (filled bytes)) (sym long)
    ∙ take-append_seam bytes (replicate (8192 - length bytes) 0)

pub root-one : (h : RootHasher) (m : List ℕ) (d : Digest) → Holds h m → div_ceil h.taken 8192 ≡ 1 → d.0 ≡ take 32 (block_at h 0)
    → d ≡ root_of m
unfolding Holds data_digests
root-one h m d held one e =
    let few : length m ≤ 8192 = omega (arith, held.0, one) in
    let blocks : data_blocks (length m) ≡ 1 = ap (λ (n : ℕ). div_ceil n 8192) (sym held.0) ∙ one in
    let digest : Digest = block_digest 0 0 m in
    let same : data_digests m ≡ digest ∷ [] =
    ap (λ (n : ℕ). map (λ (i : ℕ). block_digest 0 (8192 * i) (piece m i)) (range_with_len 0 n)) blocks
    ∙ ap (λ (bs : List ℕ). block_digest 0 0 bs ∷ []) (take_all 8192 m few) in
    let at : StandsAt h 0 (digest ∷ []) = subst (StandsAt h 0) same held.1.0 in
    let block : block_at h 0 ≡ filled (digest.0 ++ []) = at.last (omega arith) in
    let bytes : d.0 ≡ digest.0 = e ∙ ap (take 32) block ∙ front-digest digest.0 (length-block_digest 0 0 m) in
    ap (λ (bs : List ℕ). let r : Digest = record { 0 = bs } in r) bytes ∙ sym (root_of-small m few)

pub levels-none : (h : RootHasher) (m : List ℕ) (k : ℕ) → Holds h m → h.taken ≤ 8192 → k < levels_of (length m) → ⊥
unfolding Holds
levels-none h m k held few low =
    let one : digests_at (length m) 0 ≡ 1 = omega (arith, held.0, few, digests_at-zero (length m)) in
    omega (arith, low, levels_of-is (length m) 0 one (λ j none. absurd (omega (arith, none))))
