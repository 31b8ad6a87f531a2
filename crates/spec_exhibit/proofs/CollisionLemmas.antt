-- From one root down to the bytes: equal, or two messages of one block with one SHA-256.
use Rattle.std.proofs.Common.{◌≡◌, ◌≢◌, ◌⊎◌, ◌<◌, ◌≤◌, ℕ, zero, suc, ◌+◌, ◌*◌, List, [], ◌∷◌, ◌++◌, length, take, drop, refl, sym, ap, subst, ◌∙◌, inl, inr, arith, get_or}
use Rattle.std.specs.Prelude.{max}
use Rattle.std.specs.Bool.{Decides}
use Rattle.std.specs.List.{All}
use Rattle.std.specs.Int.{div_ceil}
use Rattle.std.specs.Str.{bytes_eq}
use Rattle.std.proofs.Math.Nat.{mul-zero}
use Rattle.std.proofs.Math.Seq.{take-add, take-append_seam, drop-append_seam}
use Rattle.std.proofs.lemmas.Bool.{cases_lt, cases_Bool}
use Rattle.std.proofs.lemmas.Bool.Decides.{not_from_Decides}
use Rattle.std.proofs.lemmas.Grind.{div_ceil_times}
use Rattle.std.proofs.lemmas.List.{take_all}
use Rattle.std.proofs.lemmas.List.Elements.{All-head, All-tail}
use Rattle.std.proofs.lemmas.Slice.Eq.{bytes_eq-Decides}
use Rattle.sha2.specs.Sha256.{sha256}
use Rattle.spec_tree.specs.declared.Digest.{Digest}
use Rattle.spec_tree.specs.Tree.{level_of, levels_of, root_of, digests_at}
use Rattle.spec_tree.proofs.TreeLemmas.{length-level_of, level_of-top}
use Rattle.spec_exhibit.specs.Exhibit.{AreBytes, HasBlock, IsCollision, IsCollisionOf, TreesCollide, data_at, message_at}
use Rattle.spec_exhibit.proofs.BytesLemmas.{IsDigest, block_message-are, data_at-are, level_of-are, group-are}
use Rattle.spec_exhibit.proofs.MessageLemmas.{digest_of, get_or-level_of, filled-same, block_message-same, joined, group, piece-long, level_of-long, group-long, data_at-long}

-- ---- one block

messages-same : (x y : List ℕ) → AreBytes x → AreBytes y → sha256 x ≡ sha256 y
    → (x ≡ y) ⊎ IsCollision x y
messages-same x y bytes_x bytes_y same =
    let decided : Decides (bytes_eq x y) (x ≡ y) = bytes_eq-Decides x y in
    elim (cases_Bool (bytes_eq x y)) [
      | inl is ↦ inl (decided.0 is)
      | inr isnt ↦ inr (record {
        first_bytes = bytes_x;
        second_bytes = bytes_y;
        unlike = not_from_Decides (bytes_eq x y) decided isnt;
        same = same;
      })
    ]

-- two blobs of one length
record AreTwo (a b : List ℕ) : Type 0 where
  bytes_a : AreBytes a
  bytes_b : AreBytes b
  long : length a ≡ length b

block-same : (a b : List ℕ) (level i : ℕ) → AreTwo a b → HasBlock (length a) level i
    → level_of a level ≡ level_of b level
    → (data_at a level i ≡ data_at b level i) ⊎ IsCollisionOf a b level i
block-same a b level i two has same =
    let too : HasBlock (length b) level i =
    subst (λ (n : ℕ). HasBlock n level i) two.long has in
    let digests : sha256 (message_at a level i) ≡ sha256 (message_at b level i) =
    ap (λ (d : Digest). d.0)
    (sym (get_or-level_of a level i (digest_of []) has.index_within)
    ∙ ap (λ (ds : List Digest). get_or ds i (digest_of [])) same
    ∙ get_or-level_of b level i (digest_of []) too.index_within) in
    elim (messages-same (message_at a level i) (message_at b level i)
    (block_message-are level (8192 * i) _ (data_at-are a level i two.bytes_a))
    (block_message-are level (8192 * i) _ (data_at-are b level i two.bytes_b)) digests) [
      | inl e ↦ inl (block_message-same level (8192 * i) _ _ (data_at-long a b level i two.long) e)
      | inr c ↦ inr (record { first_block = has; second_block = too; messages = c })
    ]

-- ---- the blocks of a level

-- each of n facts holds, or there is an exception
pub each : (P : ℕ → Type 0) (C : Type 0) (n : ℕ) → ((i : ℕ) → i < n → P i ⊎ C)
    → ((i : ℕ) → i < n → P i) ⊎ C
each P C zero one = inl (λ i lt. absurd (omega (arith, lt)))
each P C (suc n) one =
    elim (each P C n (λ i lt. one i (omega (arith, lt)))) [
      | inr c ↦ inr c
      | inl below ↦ elim (one n (omega arith)) [
        | inr c ↦ inr c
        | inl last ↦ inl (λ i lt. elim (cases_lt i n) [
          | inl less ↦ below i less
          | inr more ↦ (let is : i ≡ n = omega (arith, lt, more) in subst P (sym is) last)
        ])
      ]
    ]

-- the data of all blocks of a level
blocks-same : (a b : List ℕ) (level : ℕ) → AreTwo a b → level ≤ levels_of (length a)
    → level_of a level ≡ level_of b level
    → ((i : ℕ) → i < digests_at (length a) level → data_at a level i ≡ data_at b level i)
    ⊎ TreesCollide a b
blocks-same a b level two within same =
    let n : ℕ = digests_at (length a) level in
    let has : (i : ℕ) → i < n → HasBlock (length a) level i =
    λ i lt. record { level_within = within; index_within = lt } in
    each (λ i. data_at a level i ≡ data_at b level i) (TreesCollide a b) n
    (λ i lt. elim (block-same a b level i two (has i lt) same) [
      | inl e ↦ inl e
      | inr c ↦ inr (level, (i, c))
    ])

-- two lists with the same pieces of m elements begin alike
begin-same : {A : Type 0} (m n : ℕ) (xs ys : List A)
    → ((i : ℕ) → i < n → take m (drop (m * i) xs) ≡ take m (drop (m * i) ys))
    → take (m * n) xs ≡ take (m * n) ys
begin-same {A} m zero xs ys same = rw mul-zero refl
begin-same {A} m (suc n) xs ys same =
    let more : m * suc n ≡ m * n + m = omega arith in
    let before = begin-same m n xs ys (λ i lt. same i (omega (arith, lt))) in
    rw more
    (take-add (m * n) m xs
    ∙ ap (λ (l : List A). l ++ take m (drop (m * n) xs)) before
    ∙ ap (λ (l : List A). take (m * n) ys ++ l) (same n (omega arith))
    ∙ sym (take-add (m * n) m ys))

pub pieces-same : {A : Type 0} (m n : ℕ) (xs ys : List A) → length xs ≡ length ys → length xs ≤ m * n
    → ((i : ℕ) → i < n → take m (drop (m * i) xs) ≡ take m (drop (m * i) ys)) → xs ≡ ys
pieces-same m n xs ys long within same =
    sym (take_all (m * n) xs within)
    ∙ begin-same m n xs ys same
    ∙ take_all (m * n) ys (omega (arith, long, within))

-- ---- level 0

blob-same : (a b : List ℕ) → length a ≡ length b
    → ((i : ℕ) → i < digests_at (length a) 0 → data_at a 0 i ≡ data_at b 0 i) → a ≡ b
unfolding digests_at
blob-same a b long same =
    let enough = (div_ceil_times (length a) 8192 (omega arith)).0 in
    pieces-same 8192 (max 1 (div_ceil (length a) 8192)) a b long (omega (arith, enough)) same

-- ---- a level above

joined-same : (xs ys : List Digest) → All IsDigest xs → All IsDigest ys → length xs ≡ length ys
    → joined xs ≡ joined ys → xs ≡ ys
joined-same [] [] all_x all_y long same = refl
joined-same [] (y ∷ ys) all_x all_y long same = absurd (omega (arith, long))
joined-same (x ∷ xs) [] all_x all_y long same = absurd (omega (arith, long))
joined-same (x ∷ xs) (y ∷ ys) all_x all_y long same =
    let width : length x.0 ≡ length y.0 =
    (All-head IsDigest x xs all_x).length_is ∙ sym (All-head IsDigest y ys all_y).length_is in
    let first : x.0 ≡ y.0 = sym (take-append_seam x.0 (joined xs))
    ∙ ap (λ (l : List ℕ). take (length x.0) l) same
    ∙ ap (λ (n : ℕ). take n (y.0 ++ joined ys)) width
    ∙ take-append_seam y.0 (joined ys) in
    let rest : joined xs ≡ joined ys = sym (drop-append_seam x.0 (joined xs))
    ∙ ap (λ (l : List ℕ). drop (length x.0) l) same
    ∙ ap (λ (n : ℕ). drop n (y.0 ++ joined ys)) width
    ∙ drop-append_seam y.0 (joined ys) in
    let tail : xs ≡ ys =
    joined-same xs ys (All-tail IsDigest x xs all_x) (All-tail IsDigest y ys all_y)
    (omega (arith, long)) rest in
    ap (λ (bytes : List ℕ). digest_of bytes ∷ xs) first ∙ ap (λ (ds : List Digest). y ∷ ds) tail

group-same : (a b : List ℕ) (level i : ℕ) → length a ≡ length b
    → data_at a (suc level) i ≡ data_at b (suc level) i
    → group (level_of a level) i ≡ group (level_of b level) i
group-same a b level i long same =
    joined-same _ _ (group-are _ i (level_of-are a level)) (group-are _ i (level_of-are b level))
    (piece-long 256 i _ _ (level_of-long a b level long))
    (filled-same _ _ (group-long a b level i long) same)

level-same : (a b : List ℕ) (level : ℕ) → length a ≡ length b
    → ((i : ℕ) → i < digests_at (length a) (suc level)
    → data_at a (suc level) i ≡ data_at b (suc level) i)
    → level_of a level ≡ level_of b level
unfolding digests_at
level-same a b level long same =
    let enough = (div_ceil_times (digests_at (length a) level) 256 (omega arith)).0 in
    pieces-same 256 (div_ceil (digests_at (length a) level) 256) _ _ (level_of-long a b level long)
    (omega (arith, enough, length-level_of a level))
    (λ i lt. group-same a b level i long (same i lt))

-- ---- the root

levels-same : (a b : List ℕ) (level : ℕ) → AreTwo a b → level ≤ levels_of (length a)
    → level_of a level ≡ level_of b level → (a ≡ b) ⊎ TreesCollide a b
levels-same a b zero two within same =
    elim (blocks-same a b 0 two within same) [
      | inl e ↦ inl (blob-same a b two.long e)
      | inr c ↦ inr c
    ]
levels-same a b (suc level) two within same =
    elim (blocks-same a b (suc level) two within same) [
      | inl e ↦ levels-same a b level two (omega (arith, within)) (level-same a b level two.long e)
      | inr c ↦ inr c
    ]

pub root-same : (a b : List ℕ) → AreBytes a → AreBytes b → length a ≡ length b
    → root_of a ≡ root_of b → (a ≡ b) ⊎ TreesCollide a b
root-same a b bytes_a bytes_b long same =
    let top : ℕ = levels_of (length a) in
    let two : AreTwo a b = record { bytes_a = bytes_a; bytes_b = bytes_b; long = long } in
    let tops : level_of a top ≡ level_of b top = level_of-top a
    ∙ ap (λ (d : Digest). d ∷ []) same
    ∙ sym (level_of-top b)
    ∙ ap (λ (n : ℕ). level_of b (levels_of n)) (sym long) in
    levels-same a b top two (omega arith) tops

-- unlike blobs that collide nowhere
pub root-unlike : (a b : List ℕ) → AreBytes a → AreBytes b → length a ≡ length b → a ≢ b
    → ¬ TreesCollide a b → root_of a ≢ root_of b
root-unlike a b bytes_a bytes_b long unlike nowhere same =
    elim (root-same a b bytes_a bytes_b long same) [
      | inl e ↦ unlike e
      | inr c ↦ nowhere c
    ]
