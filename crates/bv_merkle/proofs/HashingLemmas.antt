-- The message of a block's digest, as the four updates of a hasher make it.
use Rattle.std.proofs.Common.{inl, inr, ◌+◌, ◌*◌, ◌≤◌, drop, take, set, get_or, Some, length-drop, length-take, ◌≡◌, ℕ, zero, suc, ◌-◌, ◌<◌, List, [], ◌∷◌, ◌++◌, length, replicate, append_assoc, sym, ap, ◌∙◌, arith}
use Rattle.std.specs.Prelude.{bit_or}
use Rattle.std.specs.Int.{w32, w64, to_le_bytes}
use Rattle.sha2.specs.Sha256.{sha256}
use Rattle.spec_tree.specs.declared.Digest.{Digest}
use Rattle.std.specs.List.{slice_get}
use Rattle.std.proofs.lemmas.Bool.{cases_lt}
use Rattle.std.proofs.lemmas.List.{take_all, get_or-set_other, get_or-set_same, length-set}
use Rattle.std.proofs.lemmas.Option.{slice_get-get_or, get_or_from_slice_get}
use Rattle.spec_tree.specs.Tree.{piece, block_digest, block_message}
use Rattle.spec_tree.proofs.TreeLemmas.{block_message-some}

-- the digest of a block with data, from its place and its padding
pub block_digest-some : (level offset : ℕ) (bytes place count digest : List ℕ) (p : ℕ × ℕ)
    → place ≡ to_le_bytes w64 p.0 → count ≡ to_le_bytes w32 (length bytes)
    → p ≡ (bit_or offset level, 8192 - length bytes) → 0 < length bytes
    → digest ≡ sha256 (((place ++ count) ++ bytes) ++ replicate p.1 0)
    → ◌≡◌ {A = Digest} record { 0 = digest } (block_digest level offset bytes)
unfolding block_digest
block_digest-some level offset bytes place count digest p at long is h d =
    let m : ((place ++ count) ++ bytes) ++ replicate p.1 0 ≡ block_message level offset bytes =
    append_assoc (place ++ count) bytes (replicate p.1 0)
    ∙ (λ t. (at t ++ long t) ++ (bytes ++ replicate p.1 0))
    ∙ (λ t. (to_le_bytes w64 (is t).0 ++ to_le_bytes w32 (length bytes)) ++ (bytes ++ replicate (is t).1 0))
    ∙ sym (block_message-some level offset bytes h) in
    ap (λ (bs : List ℕ). let r : Digest = record { 0 = bs } in r) (d ∙ ap sha256 m)

-- the digest of a block without data, which has place 0 and no padding
pub block_digest-none : (level offset : ℕ) (bytes place count digest : List ℕ) (p : ℕ × ℕ)
    → place ≡ to_le_bytes w64 p.0 → count ≡ to_le_bytes w32 (length bytes)
    → p ≡ (0, 0) → length bytes ≡ 0 → (0 < level → length bytes ≡ 8192)
    → digest ≡ sha256 (((place ++ count) ++ bytes) ++ replicate p.1 0)
    → ◌≡◌ {A = Digest} record { 0 = digest } (block_digest level offset bytes)
unfolding block_digest
block_digest-none zero offset [] place count digest p at long is h l d =
    let m : ((place ++ count) ++ []) ++ replicate p.1 0 ≡ replicate 12 0 =
    (λ t. ((at t ++ long t) ++ []) ++ replicate p.1 0)
    ∙ (λ t. ((to_le_bytes w64 (is t).0 ++ to_le_bytes w32 0) ++ []) ++ replicate (is t).1 0) in
    ap (λ (bs : List ℕ). let r : Digest = record { 0 = bs } in r) (d ∙ ap sha256 m)
block_digest-none zero offset (b ∷ bs) place count digest p at long is h l d = absurd (omega (arith, h))
block_digest-none (suc level) offset bytes place count digest p at long is h l d = absurd (omega (arith, h, l (omega arith)))

-- a piece that is all that is left
pub piece-rest : (bytes : List ℕ) (i : ℕ)
    → length (take (length bytes - i * 8192) (drop (i * 8192) bytes)) < 8192
    → take (length bytes - i * 8192) (drop (i * 8192) bytes) ≡ piece bytes i
piece-rest bytes i h =
    let rest = drop (i * 8192) bytes in
    let long : length rest ≤ length bytes - i * 8192 = omega (arith, length-drop (i * 8192) bytes) in
    let all : take (length bytes - i * 8192) rest ≡ rest = take_all (length bytes - i * 8192) rest long in
    let few : length rest ≤ 8192 = omega (arith, h, ap length all) in
    all ∙ sym (take_all 8192 rest few) ∙ ap (λ (n : ℕ). take 8192 (drop n bytes)) (omega arith)

-- a piece fits a block
pub piece-few : (bytes part : List ℕ) (i : ℕ) → part ≡ piece bytes i → length part ≤ 8192
piece-few bytes part i e = omega (arith, ap length e, length-take 8192 (drop (8192 * i) bytes))

-- an element more of a list that is made by a function
pub made-more : {X : Type 0} (f : ℕ → X) (xs : List X) (n : ℕ) (x : X) → n < length xs
    → ((i : ℕ) → i < n → slice_get xs i ≡ Some (f i)) → x ≡ f n
    → (i : ℕ) → i < n + 1 → slice_get (set xs n x) i ≡ Some (f i)
made-more f xs n x within before e i h =
    let in_set : i < length (set xs n x) = omega (arith, h, within, length-set xs n x) in
    slice_get-get_or (set xs n x) i x in_set
    ∙ ap Some (elim (cases_lt i n) [
      | inl low ↦ get_or-set_other xs n i x x (λ same. omega (arith, same, low))
          ∙ get_or_from_slice_get xs i (f i) x (before i low)
      | inr high ↦
          let here : i ≡ n = omega (arith, high, h) in
          ap (λ (k : ℕ). get_or (set xs n x) k x) here ∙ get_or-set_same xs n x x within ∙ e ∙ ap f (sym here)
    ])
