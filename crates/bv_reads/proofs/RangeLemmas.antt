-- A range of a reader's pages, piece by piece.
use Rattle.std.proofs.Common.{◌≡◌, ◌⊎◌, inl, inr, ℕ, ◌+◌, ◌-◌, ◌*◌, ◌/◌, ◌%◌, ◌<◌, ◌≤◌, List, ◌++◌, length, take, drop, Option, Some, None, refl, sym, ap, subst, ◌∙◌, arith, length-drop, length-take}
use Rattle.std.specs.Prelude.{IsSome, min}
use Rattle.std.proofs.lemmas.Bool.{cases_lt}
use Rattle.std.proofs.lemmas.List.{drop-append-le, drop-drop, drop-take, take-append-le, take-take}
use Rattle.std.proofs.Math.Seq.{take-add}
use Rattle.spec_tree.specs.Tree.{root_of}
use Rattle.spec_exhibit.specs.Exhibit.{AreBytes}
use Rattle.spec_window.specs.Honest.{window_of}
use Rattle.spec_window.specs.Page.{Page, honest_page}
use Rattle.spec_window.specs.Exhibits.{Exhibits}
use Rattle.spec_window.proofs.NameLemmas.{window_of_name}
use Rattle.bv_pager.specs.Reading.{Reading, IsReading, known_at}
use Rattle.bv_pager.specs.Range.{IsInRange, KnowsRange, bytes_at, bytes_of, range_of}
use Rattle.bv_reads.specs.Ranges.{ShowsIn}

-- ---- parts of lists

-- what begins in the first part, and ends there, doesn't ask the second
in_first : (m n : ℕ) (a b c : List ℕ) → m + n ≤ length a → take n (drop m (a ++ b)) ≡ take n (drop m (a ++ c))
in_first m n a b c fits =
    let one : (x : List ℕ) → take n (drop m (a ++ x)) ≡ take n (drop m a) = λ x.
    ap (take n) (drop-append-le m a x (omega (arith, fits))) ∙ take-append-le n (drop m a) x (omega (arith, fits, length-drop m a)) in
    one b ∙ sym (one c)

-- two windows of a blob side by side
two_windows : (v : List ℕ) (w : ℕ) → window_of v w ++ window_of v (w + 1) ≡ take 131072 (drop (65536 * w) v)
two_windows v w =
    let s : ℕ = 65536 * w in
    ap (λ (x : List ℕ). window_of v w ++ take 65536 x) (ap (λ (n : ℕ). drop n v) (omega arith) ∙ sym (drop-drop 65536 s v))
    ∙ sym (take-add 65536 65536 (drop s v))

-- a range of these
range_in_two : (v : List ℕ) (from n : ℕ) → from % 65536 + n ≤ 131072
    → take n (drop (from % 65536) (window_of v (from / 65536) ++ window_of v (from / 65536 + 1))) ≡ take n (drop from v)
range_in_two v from n fits =
    let m : ℕ = from % 65536 in
    let s : ℕ = 65536 * (from / 65536) in
    let x : List ℕ = drop s v in
    let rest : ℕ = 131072 - m in
    let sum : 131072 ≡ m + rest = omega arith in
    let place : s + m ≡ from = omega arith in
    ap (λ (y : List ℕ). take n (drop m y)) (two_windows v (from / 65536) ∙ ap (λ (k : ℕ). take k x) sum)
    ∙ ap (take n) (drop-take m rest x)
    ∙ take-take n rest (drop m x) (omega (arith, fits))
    ∙ ap (take n) (drop-drop m s v ∙ ap (λ (k : ℕ). drop k v) place)

-- ---- the pages

some_is : (o : Option Page) → IsSome o → (p : Page) × (o ≡ Some p)
some_is (Some p) there = (p, refl)
some_is None there = absurd cc

module _ (r : Reading) (v : List ℕ) (from to : ℕ) (reading : IsReading r) (bytes : AreBytes v) (long : length v ≡ r.size) (name : root_of v ≡ r.root)
    (knows : KnowsRange r from to) where
  -- the bytes of a window of the range
  window_is : (w : ℕ) → IsInRange from to w → (bytes_at r w ≡ window_of v w) ⊎ ShowsIn r v from to
  window_is w there =
      let known = some_is (known_at r w) (knows w there) in
      let p : Page = known.0 in
      let of = reading.pages w p known.1 in
      elim (window_of_name p v of.served.verified of.served.bytes of.served.fits bytes (long ∙ sym of.of_size) (name ∙ sym of.name)) [
        | inl same ↦ inl (ap bytes_of known.1 ∙ same ∙ ap (window_of v) of.place)
        | inr shown ↦ inr (record {
          window = w;
          there = there;
          page = p;
          known = known.1;
          shows = subst (λ (n : ℕ). Exhibits p (honest_page v n)) of.place shown;
        })
      ]

  module _ (order : from ≤ to) (few : to ≤ from + 65536) (within : to ≤ r.size) where
    abbrev Answer : Type 0
    Answer = (range_of r from to ≡ take (to - from) (drop from v)) ⊎ ShowsIn r v from to

    -- nothing is read
    empty : to ≤ from → range_of r from to ≡ take (to - from) (drop from v)
    empty none =
        let zero_is : to - from ≡ 0 = omega (arith, none) in
        ap (λ (k : ℕ). take k (drop (from % 65536) (bytes_at r (from / 65536) ++ bytes_at r (from / 65536 + 1)))) zero_is
        ∙ sym (ap (λ (k : ℕ). take k (drop from v)) zero_is)

    -- it is of one window
    one : from < to → to ≤ 65536 * (from / 65536 + 1) → bytes_at r (from / 65536) ≡ window_of v (from / 65536)
        → range_of r from to ≡ take (to - from) (drop from v)
    one some end a =
        let count : length (window_of v (from / 65536)) ≡ min 65536 (length (drop (65536 * (from / 65536)) v)) = length-take 65536 (drop (65536 * (from / 65536)) v) in
        let rest : length (drop (65536 * (from / 65536)) v) ≡ length v - 65536 * (from / 65536) = length-drop (65536 * (from / 65536)) v in
        let fits : from % 65536 + (to - from) ≤ length (window_of v (from / 65536)) = omega (arith, count, rest, long, within, end, some) in
        ap (λ (x : List ℕ). take (to - from) (drop (from % 65536) (x ++ bytes_at r (from / 65536 + 1)))) a
        ∙ in_first (from % 65536) (to - from) (window_of v (from / 65536)) (bytes_at r (from / 65536 + 1)) (window_of v (from / 65536 + 1)) fits
        ∙ range_in_two v from (to - from) (omega (arith, few))

    -- it is of two
    two : bytes_at r (from / 65536) ≡ window_of v (from / 65536) → bytes_at r (from / 65536 + 1) ≡ window_of v (from / 65536 + 1)
        → range_of r from to ≡ take (to - from) (drop from v)
    two a b = (λ t. take (to - from) (drop (from % 65536) (a t ++ b t))) ∙ range_in_two v from (to - from) (omega (arith, few))

    within_next : from < to → bytes_at r (from / 65536) ≡ window_of v (from / 65536) → Answer
    within_next some a = elim (cases_lt (65536 * (from / 65536 + 1)) to) [
      | inl more ↦ elim (window_is (from / 65536 + 1) (record { begins = more; ends = omega (arith, few); some = some })) [
        | inl b ↦ inl (two a b)
        | inr shown ↦ inr shown
      ]
      | inr end ↦ inl (one some end a)
    ]

    pub range_is : Answer
    range_is = elim (cases_lt from to) [
      | inl some ↦ elim (window_is (from / 65536) (record { begins = omega (arith, some); ends = omega arith; some = some })) [
        | inl a ↦ within_next some a
        | inr shown ↦ inr shown
      ]
      | inr none ↦ inl (empty none)
    ]
