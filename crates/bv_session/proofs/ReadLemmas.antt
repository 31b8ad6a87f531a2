-- The bytes of a read, out of the windows that its reader knows.
use Rattle.std.proofs.Common.{◌≡◌, ℕ, ◌+◌, ◌-◌, ◌*◌, ◌/◌, ◌%◌, ◌<◌, ◌≤◌, ◌==◌, List, [], ◌++◌, length, take, drop, refl, sym, ap, ◌∙◌, subst, inl, inr, length-drop, arith, ne_eqb}
use Rattle.std.specs.Prelude.{false, min, Option, None, IsSome, ◌⊎◌}
use Rattle.std.specs.List.{range_with_len, flat_map}
use Rattle.std.proofs.lemmas.Bool.{cases_lt}
use Rattle.std.proofs.lemmas.List.{append-nil, drop-append-le, take-append-le}
use Rattle.spec_session.specs.Lines.{read_windows, windows_between}
use Rattle.spec_served.specs.Answers.{Known, cut_of, read_of}
use Rattle.spec_window.specs.Window.{window_bytes}
use Rattle.spec_window.specs.Page.{Page}
use Rattle.bv_pager.specs.Range.{IsFirstOfRange, bytes_at, range_of}
use Rattle.bv_pager.specs.Reading.{IsReading, Reading, known_at}
use Rattle.bv_session.specs.Windows.{KnowsBetween, known_of}
use Rattle.bv_session.proofs.RangeLemmas.{known_verifies}

module _ (r : Reading) (from to : ℕ) (reading : IsReading r) (order : from < to) (few : to ≤ from + 65536) (within : to ≤ r.size)
    (known : IsSome (known_at r (from / 65536))) where
  -- the windows in which the bytes begin and go on
  here : List ℕ
  here = bytes_at r (from / 65536)

  abbrev both : List ℕ
  both = bytes_at r (from / 65536) ++ bytes_at r (from / 65536 + 1)

  -- where they begin in the first
  place : from - 65536 * (from / 65536) ≡ from % 65536
  place = omega arith

  long : length (bytes_at r (from / 65536)) ≡ window_bytes r.size (from / 65536)
  long = (known_verifies r (from / 65536) reading known).byte_count

  -- the bytes of so many windows
  abbrev cut : List ℕ → List ℕ
  cut bytes = take (to - from) (drop (from % 65536) bytes)

  -- one window
  one : to ≤ 65536 * (from / 65536 + 1) → cut (bytes_at r (from / 65536)) ≡ cut both
  one last =
      let begins : from % 65536 ≤ length (bytes_at r (from / 65536)) = omega (arith, long) in
      let enough : to - from ≤ length (drop (from % 65536) (bytes_at r (from / 65536))) = omega (arith, long, length-drop (from % 65536) (bytes_at r (from / 65536))) in
      sym (ap (take (to - from)) (drop-append-le (from % 65536) (bytes_at r (from / 65536)) (bytes_at r (from / 65536 + 1)) begins)
      ∙ take-append-le (to - from) (drop (from % 65536) (bytes_at r (from / 65536))) (bytes_at r (from / 65536 + 1)) enough)

  joined_of : ℕ → List ℕ
  joined_of n = flat_map (λ w. bytes_at r w) (range_with_len (from / 65536) n)

  -- the bytes of the range
  pub range_cut_of : cut_of (known_of r) (windows_between from to) from to ≡ range_of r from to
  range_cut_of =
      let e : (from == to) ≡ false = ne_eqb from to (omega arith) in
      rw (e, place) (elim (cases_lt (65536 * (from / 65536 + 1)) to) [
        | inl over ↦
            let n : (to + 65535) / 65536 - from / 65536 ≡ 2 = omega arith in
            ap (λ (k : ℕ). cut (flat_map (λ w. bytes_at r w) (range_with_len (from / 65536) k))) n
            ∙ ap (λ (bs : List ℕ). cut (bytes_at r (from / 65536) ++ bs)) (append-nil (bytes_at r (from / 65536 + 1)))
        | inr last ↦
            let n : (to + 65535) / 65536 - from / 65536 ≡ 1 = omega arith in
            ap (λ (k : ℕ). cut (flat_map (λ w. bytes_at r w) (range_with_len (from / 65536) k))) n
            ∙ ap cut (append-nil (bytes_at r (from / 65536)))
            ∙ one last
      ])

-- the window past those of these bytes
past_is : (from to : ℕ) → from < to → (windows_between from to).past ≡ (to + 65535) / 65536
past_is from to order = let e : (from == to) ≡ false = ne_eqb from to (omega arith) in rw e refl

-- the bytes of a read, all windows of which are known
module _ (r : Reading) (off len : ℕ) (known : KnowsBetween r (read_windows r.size off len).first (read_windows r.size off len).past) where
  abbrev begin : ℕ
  begin = min off r.size

  abbrev end : ℕ
  end = min (off + len) r.size

  -- no window of the range is missing
  pub none_missing : (w : ℕ) → IsFirstOfRange r begin end w → ⊥
  none_missing w f =
      let order : begin < end = f.there.some in
      let past : (windows_between begin end).past ≡ (end + 65535) / 65536 = past_is begin end order in
      let below : 65536 * w < end = f.there.begins in
      let above : begin < 65536 * (w + 1) = f.there.ends in
      let low : begin / 65536 ≤ w = omega (arith, above) in
      let high : w < (windows_between begin end).past = omega (arith, past, below) in
      let some : IsSome (known_at r w) = known w low high in
      let P : Option Page → Type 0 = λ o. IsSome o in
      let none : P None = subst P f.missing some in
      absurd (cc)

  -- what a reader reads is what its windows have
  pub range_is : IsReading r → len ≤ 65536 → off < r.size → 0 < len → range_of r begin end ≡ read_of r.size (known_of r) off len
  range_is reading few inside some =
      let order : begin < end = omega arith in
      let past : (windows_between begin end).past ≡ (end + 65535) / 65536 = past_is begin end order in
      let there : begin / 65536 < (windows_between begin end).past = omega (arith, past, order) in
      sym (range_cut_of r begin end reading order (omega arith) (omega arith) (known (begin / 65536) (omega arith) there))

-- a read that is about no byte
pub read_none : (known : Known) (size off len : ℕ) → (size ≤ off) ⊎ (len ≡ 0) → [] ≡ read_of size known off len
read_none known size off len (inl past) = let none : min (off + len) size - min off size ≡ 0 = omega arith in rw none refl
read_none known size off len (inr empty) = let none : min (off + len) size - min off size ≡ 0 = omega arith in rw none refl

-- no bytes
pub empty_cut : (r : Reading) (from : ℕ) → cut_of (known_of r) (windows_between from from) from from ≡ range_of r from from
empty_cut r from = let none : from - from ≡ 0 = omega arith in rw none refl
