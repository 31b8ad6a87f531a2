-- A builder's bytes, from push to push, and its levels at the end.
use Rattle.std.proofs.Common.{◌≡◌, ℕ, suc, ◌+◌, ◌-◌, ◌<◌, ◌≤◌, List, [], ◌∷◌, ◌++◌, length, get_or, map, take, drop, refl, sym, ap, subst, ◌∙◌, append_assoc, add_comm, append-nil, length-append, length-drop, length-take, arith, Option, Some, None, option_map}
use Rattle.std.specs.Int.{div_ceil}
use Rattle.std.proofs.lemmas.List.{take-append-drop, take_all, get_or-map}
use Rattle.std.proofs.lemmas.List.FromFn.{fill_by_all, length-map-range_with_len, get_or-map-range_with_len}
use borrow.Rule.Slice.PartMut.{post_of}
use Rattle.std.proofs.Math.ListN.{drop_of_length-le}
use Rattle.std.proofs.lemmas.Option.{none-some, same_Some}
use Rattle.std.proofs.Math.Seq.{take-add, take-append_seam}
use Rattle.spec_tree.specs.declared.Digest.{Digest}
use Rattle.spec_tree.specs.Tree.{digests_at, level_of, levels_of}
use Rattle.spec_tree.proofs.SizesLemmas.{digests_at-more}
use Rattle.spec_tree.proofs.TreeLemmas.{length-level_of}
use Rattle.bv_merkle.specs.Built.{tree_levels}
use Rattle.bv_merkle.specs.Hasher.{KeepsOf}
use Rattle.bv_merkle.specs.TreeShape.{BeginsWith, row, tree_shape}
use Rattle.bv_merkle.specs.Levels.{all_blocks}

-- the bytes so far, and those that were added next
pub push-more : (m bytes : List ℕ) (at n : ℕ) → at ≤ length bytes → n ≤ length (take (length bytes - at) (drop at bytes))
    → (m ++ take at bytes) ++ take n (take (length bytes - at) (drop at bytes)) ≡ m ++ take (at + n) bytes
push-more m bytes at n within few =
    let all : length bytes - at ≡ length (drop at bytes) = sym (length-drop at bytes) in
    let rest : take (length bytes - at) (drop at bytes) ≡ drop at bytes =
    take_all (length bytes - at) (drop at bytes) (omega (arith, all)) in
    append_assoc m (take at bytes) _
    ∙ ap (λ (bs : List ℕ). m ++ (take at bytes ++ take n bs)) rest
    ∙ ap (λ (bs : List ℕ). m ++ bs) (sym (take-add at n bytes))

-- lists of one length with the same elements are the same
lists-same : {X : Type 0} (xs ys : List X) (d : X) → length xs ≡ length ys
    → ((i : ℕ) → i < length ys → get_or xs i d ≡ get_or ys i d) → xs ≡ ys
lists-same [] [] d n same = refl
lists-same [] (y ∷ ys) d n same = absurd (omega (arith, n))
lists-same (x ∷ xs) [] d n same = absurd (omega (arith, n))
lists-same (x ∷ xs) (y ∷ ys) d n same =
    ap (λ z. z ∷ xs) (same 0 (omega arith))
    ∙ ap (λ zs. y ∷ zs) (lists-same xs ys d (omega (arith, n)) (λ i h. same (suc i) (omega (arith, h))))

-- how many blocks a level of these bytes has
length-all_blocks : (digests : List Digest) → length (all_blocks digests) ≡ div_ceil (length digests) 256
unfolding all_blocks
length-all_blocks digests = length-map-range_with_len _ 0 _

length-level_blocks : (m : List ℕ) (k : ℕ) → length (all_blocks (level_of m k)) ≡ digests_at (length m) (k + 1)
length-level_blocks m k =
    length-all_blocks (level_of m k) ∙ ap (λ (n : ℕ). div_ceil n 256) (length-level_of m k) ∙ sym (digests_at-more (length m) k)

-- a level of the shape of a tree that begins with all its blocks has no more
row-whole : (levels : List (List (List ℕ))) (m : List ℕ) (k : ℕ) → map (λ blocks. length blocks) levels ≡ tree_shape (length m)
    → length levels ≡ levels_of (length m) → k < levels_of (length m) → BeginsWith levels k (all_blocks (level_of m k))
    → row levels k ≡ all_blocks (level_of m k)
row-whole levels m k shape n low begins =
    let blocks = all_blocks (level_of m k) in
    let count : length (row levels k) ≡ length blocks =
    sym (get_or-map (λ (bs : List (List ℕ)). length bs) levels k [] 0 (omega (arith, low, n)))
    ∙ ap (λ (ns : List ℕ). get_or ns k 0) shape
    ∙ get_or-map-range_with_len (digests_at (length m)) 1 (levels_of (length m)) k (k + 1) 0 low (add_comm 1 k)
    ∙ sym (length-level_blocks m k) in
    lists-same (row levels k) blocks [] count (λ i h. begins i h (omega (arith, h, count)))

-- the levels that were kept are those of the tree
levels-whole : (levels : List (List (List ℕ))) (m : List ℕ) → map (λ blocks. length blocks) levels ≡ tree_shape (length m)
    → ((k : ℕ) → k < levels_of (length m) → BeginsWith levels k (all_blocks (level_of m k)))
    → levels ≡ tree_levels m
levels-whole levels m shape begins =
    let n : length levels ≡ levels_of (length m) =
    sym (length-map-of levels) ∙ ap length shape ∙ length-map-range_with_len (digests_at (length m)) 1 (levels_of (length m)) in
    fill_by_all (λ (k : ℕ). all_blocks (level_of m k)) levels (levels_of (length m)) [] n
    (λ k low. row-whole levels m k shape n low (begins k low))
  where
    length-map-of : (ls : List (List (List ℕ))) → length (map (λ blocks. length blocks) ls) ≡ length ls
    length-map-of [] = refl
    length-map-of (l ∷ ls) = ap suc (length-map-of ls)

pub kept-whole : (kept : Option (List (List (List ℕ)))) (levels : List (List (List ℕ))) (m : List ℕ) → kept ≡ Some levels
    → option_map (λ ls. map (λ blocks. length blocks) ls) kept ≡ Some (tree_shape (length m))
    → ((k : ℕ) → k < levels_of (length m) → KeepsOf kept k (all_blocks (level_of m k)))
    → levels ≡ tree_levels m
kept-whole kept levels m e shape keeps =
    let at : Some (map (λ (blocks : List (List ℕ)). length blocks) levels) ≡ Some (tree_shape (length m)) =
    ap (option_map (λ (ls : List (List (List ℕ))). map (λ (blocks : List (List ℕ)). length blocks) ls)) (sym e) ∙ shape in
    levels-whole levels m (same_Some _ _ at)
    (λ k low. subst (λ (o : Option (List (List (List ℕ)))). KeepsOf o k (all_blocks (level_of m k))) e (keeps k low))

-- the windows that the hasher has taken and what is pending are all bytes
pub all-bytes : (m pending : List ℕ) (n held : ℕ) → drop n m ≡ take held pending → take n m ++ take held pending ≡ m
all-bytes m pending n held rest = ap (λ (bs : List ℕ). take n m ++ bs) (sym rest) ∙ take-append-drop n m

-- a hasher that keeps levels doesn't keep none
pub kept-some : (kept : Option (List (List (List ℕ)))) (shape : List ℕ) → None ≡ kept
    → option_map (λ ls. map (λ blocks. length blocks) ls) kept ≡ Some shape → ⊥
kept-some kept shape e s =
    none-some shape (ap (option_map (λ (ls : List (List (List ℕ))). map (λ (blocks : List (List ℕ)). length blocks) ls)) e ∙ s)

-- a window that is filled up to its end
pub window-full : (old chunk whole bytes items : List ℕ) (held count len : ℕ) → old ≡ items → length items ≡ 65536
    → held + count ≡ 65536 → chunk ≡ take count bytes → len ≡ 65536 → count ≤ length bytes
    → whole ≡ take len (take held old ++ (chunk ++ post_of held (held + count - held) old)
    ++ drop (length (take held old ++ (chunk ++ post_of held (held + count - held) old))) items)
    → whole ≡ take held items ++ take count bytes
window-full old chunk whole bytes items held count len o room full c l few w =
    let k : ℕ = held + count - held in
    let f : List ℕ → List ℕ → ℕ → List ℕ → List ℕ =
    λ front next n last. take n (take held front ++ (next ++ last) ++ drop (length (take held front ++ (next ++ last))) items) in
    let past : post_of held k items ≡ [] =
    drop_of_length-le (drop held items) (omega (arith, room, full, length-drop held items)) in
    let window : List ℕ = take held items ++ take count bytes in
    let long : 65536 ≡ length window =
    omega (arith, room, full, few, length-append (take held items) (take count bytes), length-take held items, length-take count bytes) in
    w ∙ ap (λ (bs : List ℕ). f bs chunk len (post_of held k bs)) o
    ∙ ap (λ (bs : List ℕ). f items bs len (post_of held k items)) c
    ∙ ap (λ (n : ℕ). f items (take count bytes) n (post_of held k items)) l
    ∙ ap (f items (take count bytes) 65536) past
    ∙ ap (λ (bs : List ℕ). take 65536 (take held items ++ bs ++ drop (length (take held items ++ bs)) items)) (append-nil (take count bytes))
    ∙ ap (λ (n : ℕ). take n (window ++ drop (length window) items)) long
    ∙ take-append_seam window (drop (length window) items)

-- the bytes of whole windows are all bytes
pub take-count : (m : List ℕ) (n : ℕ) → n ≡ length m → take n m ≡ m
take-count m n e = take_all n m (omega (arith, e))

pub drop-count : (m : List ℕ) (n : ℕ) → n ≡ length m → drop n m ≡ []
drop-count m n e = drop_of_length-le m (omega (arith, e))
