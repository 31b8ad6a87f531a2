-- In how many extents a data block is, by where they start and end.
use Rattle.std.proofs.Common.{◌≡◌, ◌≢◌, ◌<◌, ◌≤◌, ℕ, ◌+◌, List, [], ◌∷◌, length, get_or, Bool, true, false, leb, ltb, eqb, ◌&&◌, refl, ap, sym, ◌∙◌, subst, inl, inr, arith}
use Rattle.std.proofs.Math.ListN.{set, length-set}
use Rattle.std.proofs.lemmas.Bool.{cases_eq, cases_lt}
use Rattle.std.proofs.lemmas.List.Sums.{sum_by-cons}
use Rattle.std.proofs.lemmas.List.{get_or-set_same, get_or-set_other}
use Rattle.std.proofs.lemmas.List.Elements.{All-head, All-tail}
use Rattle.std.specs.Prelude.{All, sum_by, count_by}
use Rattle.spec_record.specs.declared.extent.Extent.{Extent}
use Rattle.spec_record.specs.Extent.{IsExtent}
use Rattle.spec_image.specs.Chain.{BlobRecord}
use Rattle.spec_image.specs.WellFormed.{covers, extents_with}
use Rattle.spec_meta.proofs.Counting.{count}
use Rattle.bv_txn.specs.Surveys.{extents_that, starts_at, ends_at, reaches}

-- ---- one extent, from s up to t

record Turn (s t d : ℕ) : Type 0 where
  pub even : count (leb s d && ltb d t) + count (eqb t d) ≡ count (ltb s d && leb d t) + count (eqb s d)
  pub few : count (leb s d && ltb d t) + count (eqb t d) ≤ 1

turn : (s t d : ℕ) → s < t → Turn s t d
turn s t d lt =
    elim (cases_lt d s) [
      | inl below ↦
          let a : leb s d ≡ false = grind (arith, below) in
          let b : ltb s d ≡ false = grind (arith, below) in
          let e : eqb s d ≡ false = grind (arith, below) in
          let f : eqb t d ≡ false = grind (arith, below, lt) in
          record { even = rw (a, b, e, f) refl; few = rw (a, f) (omega arith) }
      | inr from ↦
          let a : leb s d ≡ true = grind (arith, from) in
          elim (cases_eq s d) [
            | inl is ↦
                let b : ltb s d ≡ false = grind (arith, is) in
                let e : eqb s d ≡ true = grind (arith, is) in
                let f : eqb t d ≡ false = grind (arith, is, lt) in
                let g : ltb d t ≡ true = grind (arith, is, lt) in
                record { even = rw (a, b, e, f, g) refl; few = rw (a, f, g) (omega arith) }
            | inr ne ↦
                let b : ltb s d ≡ true = grind (arith, from, ne) in
                let e : eqb s d ≡ false = grind (arith, ne) in
                elim (cases_lt d t) [
                  | inl inside ↦
                      let f : eqb t d ≡ false = grind (arith, inside) in
                      let g : ltb d t ≡ true = grind (arith, inside) in
                      let h : leb d t ≡ true = grind (arith, inside) in
                      record { even = rw (a, b, e, f, g, h) refl; few = rw (a, f, g) (omega arith) }
                  | inr past ↦
                      let g : ltb d t ≡ false = grind (arith, past) in
                      elim (cases_eq t d) [
                        | inl end ↦
                            let f : eqb t d ≡ true = grind (arith, end) in
                            let h : leb d t ≡ true = grind (arith, end) in
                            record { even = rw (a, b, e, f, g, h) refl; few = rw (a, f, g) (omega arith) }
                        | inr other ↦
                            let f : eqb t d ≡ false = grind (arith, other) in
                            let h : leb d t ≡ false = grind (arith, past, other) in
                            record { even = rw (a, b, e, f, g, h) refl; few = rw (a, f, g) (omega arith) }
                      ]
                ]
          ]
    ]

-- ---- extents and blobs

-- the same sums, over extents or blobs
pub record Turns (covered ends reached starts most : ℕ) : Type 0 where
  pub even : covered + ends ≡ reached + starts
  pub few : covered + ends ≤ most

count_more : (test : Extent → Bool) (e : Extent) (es : List Extent) → count_by test (e ∷ es) ≡ count (test e) + count_by test es
count_more test e es = sum_by-cons (λ x. count (test x)) e es

turns_extents : (n d : ℕ) (es : List Extent) → All (IsExtent n) es → Turns (count_by (covers d) es) (count_by (ends_at d) es) (count_by (reaches d) es) (count_by (starts_at d) es) (length es)
turns_extents n d [] all = record { even = refl; few = omega arith }
turns_extents n d (e ∷ es) all =
    let head = All-head (IsExtent n) e es all in
    let one = turn e.start (e.start + e.len) d (omega (arith, (head.len).from_low)) in
    let rest = turns_extents n d es (All-tail (IsExtent n) e es all) in
    let a = count_more (covers d) e es in
    let b = count_more (ends_at d) e es in
    let c = count_more (reaches d) e es in
    let f = count_more (starts_at d) e es in
    record { even = omega (arith, a, b, c, f, one.even, rest.even); few = omega (arith, a, b, one.few, rest.few) }

abbrev Stored : ℕ → BlobRecord → Type 0
Stored n b = All (IsExtent n) b.extents

that_more : (test : Extent → Bool) (b : BlobRecord) (bs : List BlobRecord) → extents_that test (b ∷ bs) ≡ count_by test b.extents + extents_that test bs
that_more test b bs = sum_by-cons (λ x. count_by test x.extents) b bs

pub turns : (n d : ℕ) (bs : List BlobRecord) → All (Stored n) bs → Turns (extents_with bs d) (extents_that (ends_at d) bs) (extents_that (reaches d) bs) (extents_that (starts_at d) bs) (sum_by (λ b. length b.extents) bs)
turns n d [] all = record { even = refl; few = omega arith }
turns n d (b ∷ bs) all =
    let one = turns_extents n d b.extents (All-head (Stored n) b bs all) in
    let rest = turns n d bs (All-tail (Stored n) b bs all) in
    let a = that_more (covers d) b bs in
    let c = that_more (ends_at d) b bs in
    let f = that_more (reaches d) b bs in
    let g = that_more (starts_at d) b bs in
    record { even = omega (arith, a, c, f, g, one.even, rest.even); few = omega (arith, a, c, one.few, rest.few, sum_by-cons (λ x. length x.extents) b bs) }

-- what reaches the next block covers this one
pub reaches_next : (d : ℕ) (bs : List BlobRecord) → extents_that (reaches (d + 1)) bs ≡ extents_with bs d
reaches_next d bs =
    let same : (e : Extent) → reaches (d + 1) e ≡ covers d e = λ e. both e.start (e.start + e.len) in
    ap (λ (test : Extent → Bool). extents_that test bs) (λ i e. same e i)
  where
    both : (s t : ℕ) → (ltb s (d + 1) && leb (d + 1) t) ≡ (leb s d && ltb d t)
    both s t =
        let a : ltb s (d + 1) ≡ leb s d = grind arith in
        let b : leb (d + 1) t ≡ ltb d t = grind arith in
        rw (a, b) refl

none_that : (es : List Extent) → count_by (reaches 0) es ≡ 0
none_that [] = refl
none_that (e ∷ es) =
    let a : ltb e.start 0 ≡ false = grind arith in
    let b : count (reaches 0 e) ≡ 0 = rw a refl in
    omega (arith, count_more (reaches 0) e es, b, none_that es)

-- no extent reaches block 0
pub reaches_none : (bs : List BlobRecord) → extents_that (reaches 0) bs ≡ 0
reaches_none [] = refl
reaches_none (b ∷ bs) = omega (arith, that_more (reaches 0) b bs, none_that b.extents, reaches_none bs)

-- ---- one depth more

-- the depths before a block, and the starts from it on
pub record Summed (bs : List BlobRecord) (xs : List ℕ) (n : ℕ) : Type 0 where
  pub before : (d : ℕ) → d < n → get_or xs d 0 ≡ extents_with bs d
  pub behind : (d : ℕ) → n ≤ d → d < length xs → get_or xs d 0 ≡ extents_that (starts_at d) bs

-- one depth more is written
pub next_depths : (bs : List BlobRecord) (xs : List ℕ) (n depth : ℕ) → n < length xs → depth ≡ extents_with bs n → ((d : ℕ) → d < n → get_or xs d 0 ≡ extents_with bs d)
    → ((d : ℕ) → n ≤ d → d < length xs → get_or xs d 0 ≡ extents_that (starts_at d) bs) → Summed bs (set xs n depth) (n + 1)
next_depths bs xs n depth lt is before behind = record {
  before = λ d below. elim (cases_eq n d) [
    | inl here ↦ subst (λ (k : ℕ). get_or (set xs n depth) k 0 ≡ extents_with bs k) here (let same : get_or (set xs n depth) n 0 ≡ depth = rw get_or-set_same refl in same ∙ is)
    | inr ne ↦ let other : d ≢ n = λ e. ne (sym e) in let kept : get_or (set xs n depth) d 0 ≡ get_or xs d 0 = rw get_or-set_other refl in kept ∙ before d (omega (arith, below, ne))
  ];
  behind = λ d from long.
      let other : d ≢ n = omega (arith, from) in
      let kept : get_or (set xs n depth) d 0 ≡ get_or xs d 0 = rw get_or-set_other refl in
      let within : d < length xs = omega (arith, long, length-set xs n depth) in
      kept ∙ behind d (omega (arith, from)) within;
}
