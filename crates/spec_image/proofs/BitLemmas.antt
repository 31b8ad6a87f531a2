-- The bits that well-formed metadata sets are as many as the superblock counts.
use Rattle.std.proofs.Common.{◌≡◌, ℕ, zero, suc, ◌+◌, ◌<◌, ◌≤◌, List, [], ◌∷◌, Bool, true, false, cond, leb, ltb, eqb, ◌&&◌, ◌||◌, refl, ap, sym, ◌∙◌, inl, inr, arith}
use Rattle.std.proofs.lemmas.Bool.{cases_lt}
use Rattle.std.proofs.lemmas.List.Sums.{sum_by-cons}
use Rattle.std.specs.Prelude.{count_by}
use Rattle.spec_record.specs.declared.extent.Extent.{Extent}
use Rattle.spec_record.specs.Extent.{is_extent}
use Rattle.spec_record.specs.Tests.{is_between}
use Rattle.spec_record.proofs.TestLemmas.{both_true, at_most}
use Rattle.spec_image.specs.Chain.{BlobRecord}
use Rattle.spec_image.specs.Metadata.{Metadata}
use Rattle.spec_image.specs.WellFormed.{records_of, count_below, covers, extents_with, bit_wanted}
use Rattle.spec_image.specs.WellFormedParts.{WellFormed}
use Rattle.spec_image.proofs.ChainLemmas.{AllExtents}
use Rattle.spec_image.proofs.WellFormedLemmas.{AllRecords, records_extents, past_records}

abbrev count : Bool → ℕ
count b = cond b 1 0

from_one : (blocks : ℕ) (e : Extent) → is_extent blocks e ≡ true → 1 ≤ e.start
from_one blocks e good =
    let parts = both_true (leb 1 e.start && is_between 1 e.len 65535) (leb (e.start + e.len) blocks) good in
    at_most 1 e.start (both_true (leb 1 e.start) (is_between 1 e.len 65535) parts.0).0

-- data block 0 is in no extent
first_extents : (blocks : ℕ) (es : List Extent) → AllExtents blocks es → count_by (covers 0) es ≡ 0
first_extents blocks [] all = refl
first_extents blocks (e ∷ es) all =
    let t : covers 0 e ≡ false = not_first e.start (ltb 0 (e.start + e.len)) (from_one blocks e all.0) in
    let c : count (covers 0 e) ≡ 0 = ap count t in
    omega (arith, sum_by-cons (λ x. count (covers 0 x)) e es, c, first_extents blocks es all.1)
  where
    not_first : (start : ℕ) (b : Bool) → 1 ≤ start → (leb start 0 && b) ≡ false
    not_first start b le = let t : leb start 0 ≡ false = grind (arith, le) in ap (λ (x : Bool). x && b) t

first_records : (blocks : ℕ) (bs : List BlobRecord) → AllRecords blocks bs → extents_with bs 0 ≡ 0
unfolding AllRecords
first_records blocks [] all = refl
first_records blocks (b ∷ bs) all =
    omega (arith, sum_by-cons (λ x. count_by (covers 0) x.extents) b bs, first_extents blocks b.extents all.0, first_records blocks bs all.1)

-- block 0, and each block that is used
marked : (u : ℕ → ℕ) (n : ℕ) → 0 < n → u 0 ≡ 0 → count_below n (λ d. eqb d 0 || leb 1 (u d)) ≡ 1 + count_below n (λ d. leb 1 (u d))
unfolding count_below
marked u zero some first = absurd (omega (arith, some))
marked u (suc zero) some first = rw first refl
marked u (suc (suc n)) some first =
    let later : eqb (suc n) 0 ≡ false = grind arith in
    let here : count (eqb (suc n) 0 || leb 1 (u (suc n))) ≡ count (leb 1 (u (suc n))) = ap (λ (b : Bool). count (b || leb 1 (u (suc n)))) later in
    omega (arith, marked u (suc n) (omega arith) first, here)

-- where no number from n on passes, those below n are all that pass
past_count : (n : ℕ) (test : ℕ → Bool) (m : ℕ) → n ≤ m → ((k : ℕ) → n ≤ k → test k ≡ false) → count_below m test ≡ count_below n test
unfolding count_below
past_count n test zero le none = let is : n ≡ 0 = omega (arith, le) in sym (ap (λ (k : ℕ). count_below k test) is)
past_count n test (suc m) le none =
    elim (cases_lt m n) [
      | inl last ↦ let is : suc m ≡ n = omega (arith, last, le) in ap (λ (k : ℕ). count_below k test) is
      | inr past ↦ let here : count (test m) ≡ 0 = ap count (none m past) in omega (arith, past_count n test m past none, here)
    ]

-- tests that agree on the numbers below n count the same
pub count_same : (n : ℕ) (a b : ℕ → Bool) → ((k : ℕ) → k < n → a k ≡ b k) → count_below n a ≡ count_below n b
unfolding count_below
count_same zero a b e = refl
count_same (suc n) a b e = let here : count (a n) ≡ count (b n) = ap count (e n (omega arith)) in omega (arith, count_same n a b (λ k lt. e k (omega arith)), here)

pub block_count : (m : Metadata) → WellFormed m → 0 < m.bit_count → m.super.geometry.blocks ≤ m.bit_count → m.super.used_blocks ≡ count_below m.bit_count m.bit
block_count m w some le =
    let bs : List BlobRecord = records_of m in
    let blocks : ℕ = m.super.geometry.blocks in
    let all = records_extents m.nodes blocks m.nodes.count in
    let bits = count_same m.bit_count m.bit (bit_wanted m) w.bits in
    let marks = marked (extents_with bs) m.bit_count some (first_records blocks bs all) in
    let within = past_count blocks (λ d. leb 1 (extents_with bs d)) m.bit_count le (λ d past. ap (leb 1) (past_records blocks d bs all past)) in
    w.block_count ∙ ap (λ (n : ℕ). 1 + n) (sym within) ∙ sym marks ∙ sym bits
