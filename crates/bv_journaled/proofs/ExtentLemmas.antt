-- The extents of blocks that rise: they lie on the volume, and have each block once.
use Rattle.std.proofs.Common.{◌≡◌, ◌<◌, ◌≤◌, ℕ, zero, suc, ◌+◌, List, [], ◌∷◌, ◌++◌, length, true, leb, ltb, refl, ap, sym, ◌∙◌, subst, inl, inr, arith, add-one}
use Rattle.std.proofs.lemmas.Bool.{cases_lt}
use Rattle.std.proofs.lemmas.List.Elements.{All-nil, All-cons, All-head, All-tail}
use Rattle.std.specs.Prelude.{All, Contains}
use Rattle.std.specs.List.{range_with_len}
use Rattle.std.specs.List.Sorted.{IsStrictlyIncreasing}
use Rattle.spec_disk.proofs.ImageLemmas.{Contains-head, Contains-cons}
use Rattle.spec_record.specs.declared.extent.Extent.{Extent}
use Rattle.spec_record.specs.Extent.{IsExtent}
use Rattle.spec_record.specs.Tests.{IsBetween}
use Rattle.spec_record.proofs.TestLemmas.{both_true, at_most}
use Rattle.spec_image.specs.Chain.{lengths}
use Rattle.spec_image.specs.Stored.{blocks_of}
use Rattle.spec_image.specs.WellFormed.{covers}
use Rattle.spec_meta.specs.Change.{uses}
use Rattle.spec_meta.proofs.Counting.{count, true_or_false, uses_more}
use Rattle.bv_claims.specs.Blocks.{Rises}
use Rattle.bv_node.specs.Runs.{runs}
use Rattle.bv_node.proofs.RunLemmas.{runs_fewest}
use Rattle.bv_journaled.proofs.NodeLemmas.{length_blocks}
use Rattle.bv_journaled.proofs.PlacedLemmas.{in_first, in_second}

-- ---- blocks and extents that rise

-- the extents follow one another, from `low` on and up to `high`, and none is empty
abbrev Follow : ℕ → List Extent → ℕ → Type 0
Follow low [] high = Unit {0}
Follow low (e ∷ es) high = (low ≤ e.start) × (1 ≤ e.len) × (e.start + e.len ≤ high) × Follow (e.start + e.len) es high

-- a range at the front of blocks that rise
rises_range : (n s low high : ℕ) (rest : List ℕ) → Rises low (range_with_len s (suc n) ++ rest) high → (low ≤ s) × (s + suc n ≤ high) × Rises (s + suc n) rest high
rises_range zero s low high rest (from, below, later) =
    let end : s + 1 ≡ s + suc zero = omega arith in
    (from, omega (arith, below), subst (λ (x : ℕ). Rises x rest high) end later)
rises_range (suc n) s low high rest (from, below, later) =
    let next = rises_range n (s + 1) (s + 1) high rest later in
    let end : s + 1 + suc n ≡ s + suc (suc n) = omega arith in
    (from, omega (arith, next.1), subst (λ (x : ℕ). Rises x rest high) end next.2)

follows : (es : List Extent) (low high : ℕ) → All (λ e. IsBetween 1 e.len 65535) es → Rises low (blocks_of es) high → Follow low es high
follows [] low high lens rises = tt
follows (e ∷ es) low high lens rises =
    by_len e.len (All-head (λ x. IsBetween 1 x.len 65535) e es lens).from_low rises
    (λ (from : ℕ) r. follows es from high (All-tail (λ x. IsBetween 1 x.len 65535) e es lens) r)
  where
    by_len : (n : ℕ) → 1 ≤ n → Rises low (range_with_len e.start n ++ blocks_of es) high → ((from : ℕ) → Rises from (blocks_of es) high → Follow from es high)
        → (low ≤ e.start) × (1 ≤ n) × (e.start + n ≤ high) × Follow (e.start + n) es high
    by_len zero some r later = absurd (omega (arith, some))
    by_len (suc n) some r later =
        let parts = rises_range n e.start low high (blocks_of es) r in
        (parts.0, some, parts.1, later (e.start + suc n) parts.2)

-- ---- what an extent covers

covers_from : (d : ℕ) (e : Extent) → covers d e ≡ true → (e.start ≤ d) × (d + 1 ≤ e.start + e.len)
covers_from d e is =
    let parts = both_true (leb e.start d) (ltb d (e.start + e.len)) is in
    let less : ltb d (e.start + e.len) ≡ true = parts.1 in
    (at_most e.start d parts.0, grind (arith, less))

-- a block before all of the extents is in none of them
none_before : (es : List Extent) (low high d : ℕ) → Follow low es high → d < low → uses d es ≡ 0
none_before [] low high d follow less = refl
none_before (e ∷ es) low high d follow less =
    let rest : uses d es ≡ 0 = none_before es (e.start + e.len) high d follow.3 (omega (arith, follow.0, less)) in
    elim (true_or_false (covers d e)) [
      | inl is ↦ let range = covers_from d e is in absurd (omega (arith, range.0, follow.0, less))
      | inr not ↦ let here : count (covers d e) ≡ 0 = ap count not in omega (arith, uses_more d e es, here, rest)
    ]

once_of : (es : List Extent) (low high d : ℕ) → Follow low es high → uses d es ≤ 1
once_of [] low high d follow = omega arith
once_of (e ∷ es) low high d follow =
    elim (true_or_false (covers d e)) [
      | inl is ↦
          let range = covers_from d e is in
          let here : count (covers d e) ≡ 1 = ap count is in
          let rest : uses d es ≡ 0 = none_before es (e.start + e.len) high d follow.3 (omega (arith, range.1)) in
          omega (arith, uses_more d e es, here, rest)
      | inr not ↦
          let here : count (covers d e) ≡ 0 = ap count not in
          omega (arith, uses_more d e es, here, once_of es (e.start + e.len) high d follow.3)
    ]

lie_of : (es : List Extent) (low high : ℕ) → 1 ≤ low → All (λ e. IsBetween 1 e.len 65535) es → Follow low es high → All (IsExtent high) es
lie_of [] low high some lens follow = All-nil (IsExtent high)
lie_of (e ∷ es) low high some lens follow =
    All-cons (IsExtent high) e es
    (record { start = omega (arith, some, follow.0); len = All-head (λ x. IsBetween 1 x.len 65535) e es lens; end = follow.2 })
    (lie_of es (e.start + e.len) high (omega (arith, follow.0, some)) (All-tail (λ x. IsBetween 1 x.len 65535) e es lens) follow.3)

-- ---- the blocks of extents, and where they are used

in_range : (n s d : ℕ) → s ≤ d → d + 1 ≤ s + n → Contains (range_with_len s n) d
in_range zero s d from below = absurd (omega (arith, from, below))
in_range (suc n) s d from below =
    elim (cases_lt s d) [
      | inl later ↦ Contains-cons s (range_with_len (s + 1) n) d (in_range n (s + 1) d (omega (arith, later)) (omega (arith, below)))
      | inr up ↦ let is : s ≡ d = omega (arith, from, up) in subst (λ (x : ℕ). Contains (range_with_len s (suc n)) x) is (Contains-head s (range_with_len (s + 1) n))
    ]

-- a block that is in an extent is one of the extents' blocks
pub used_within : (es : List Extent) (d : ℕ) → 1 ≤ uses d es → Contains (blocks_of es) d
used_within [] d some = absurd (omega (arith, some))
used_within (e ∷ es) d some =
    elim (true_or_false (covers d e)) [
      | inl is ↦
          let range = covers_from d e is in
          in_first (range_with_len e.start e.len) (blocks_of es) d (in_range e.len e.start d range.0 range.1)
      | inr not ↦
          let here : count (covers d e) ≡ 0 = ap count not in
          in_second (range_with_len e.start e.len) (blocks_of es) d (used_within es d (omega (arith, uses_more d e es, here, some)))
    ]

-- ---- the extents of blocks

pub runs_blocks : (bs : List ℕ) (low blocks : ℕ) → Rises low bs blocks → blocks_of (runs bs) ≡ bs
runs_blocks bs low blocks rises = (runs_fewest bs).runs.blocks

pub runs_length : (bs : List ℕ) (low blocks : ℕ) → Rises low bs blocks → lengths (runs bs) ≡ length bs
runs_length bs low blocks rises = sym (length_blocks (runs bs)) ∙ ap length (runs_blocks bs low blocks rises)

runs_follow : (bs : List ℕ) (low blocks : ℕ) → Rises low bs blocks → Follow low (runs bs) blocks
runs_follow bs low blocks rises =
    follows (runs bs) low blocks (runs_fewest bs).runs.lens (subst (λ (l : List ℕ). Rises low l blocks) (sym (runs_blocks bs low blocks rises)) rises)

-- each lies on the volume
pub runs_lie : (bs : List ℕ) (blocks : ℕ) → Rises 1 bs blocks → All (IsExtent blocks) (runs bs)
runs_lie bs blocks rises = lie_of (runs bs) 1 blocks (omega arith) (runs_fewest bs).runs.lens (runs_follow bs 1 blocks rises)

-- no block is in two of them
pub runs_once : (bs : List ℕ) (low blocks d : ℕ) → Rises low bs blocks → uses d (runs bs) ≤ 1
runs_once bs low blocks d rises = once_of (runs bs) low blocks d (runs_follow bs low blocks rises)

-- each block that is in one of them is one of the given
pub runs_within : (bs : List ℕ) (low blocks d : ℕ) → Rises low bs blocks → 1 ≤ uses d (runs bs) → Contains bs d
runs_within bs low blocks d rises some = subst (λ (l : List ℕ). Contains l d) (runs_blocks bs low blocks rises) (used_within (runs bs) d some)

-- blocks that rise increase
pub rises_increasing : (bs : List ℕ) (low blocks : ℕ) → Rises low bs blocks → IsStrictlyIncreasing bs
rises_increasing [] low blocks r k h = absurd (omega (arith, h))
rises_increasing (b ∷ []) low blocks r k h = absurd (omega (arith, h))
rises_increasing (b ∷ c ∷ bs) low blocks r zero h = omega (arith, r.2.0)
rises_increasing (b ∷ c ∷ bs) low blocks r (suc k) h =
    rw (add-one (suc k)) (rw (add-one k) at (rises_increasing (c ∷ bs) (b + 1) blocks r.2 k (omega (arith, h))))
