-- Extents and the numbers in which they are stored.
use Rattle.std.proofs.Common.{◌≡◌, ◌<◌, ℕ, suc, ◌+◌, ◌*◌, ◌/◌, ◌%◌, ◌^◌, List, [], ◌∷◌, length, map, replicate, Bool, true, false, cond, leb, ◌&&◌, Some, None, refl, ap, sym, ◌∙◌, subst, arith}
use Rattle.std.specs.Prelude.{All}
use Rattle.spec_record.specs.declared.extent.Extent.{Extent}
use Rattle.spec_record.specs.Field.{number_of, bytes_of, AllFit}
use Rattle.spec_record.specs.Tests.{is_between}
use Rattle.spec_record.specs.Extent.{extent_in, extent_number, FitsExtent, IsExtent, is_extent, extent_of, extent_bytes}
use Rattle.spec_record.specs.Laws.{ExtentIsRead}
use Rattle.spec_record.proofs.FieldLemmas.{bytes_of-number_of, number_of-bytes_of}
use Rattle.spec_record.proofs.TestLemmas.{at_most, leb_true, both, both_true, between, is_between-true}

-- a number is that of the extent in it
pub extent_number-extent_in : (number : ℕ) → extent_number (extent_in number) ≡ number
extent_number-extent_in number = omega arith

-- an extent is the one in its number
pub extent_in-extent_number : (extent : Extent) → extent.start < 2 ^ 48 → extent_in (extent_number extent) ≡ extent
extent_in-extent_number extent lt =
    let start : (extent.start + 2 ^ 48 * extent.len) % 2 ^ 48 ≡ extent.start = omega arith in
    let len : (extent.start + 2 ^ 48 * extent.len) / 2 ^ 48 ≡ extent.len = omega arith in
    rw (start, len) refl

pub extent_in-fits : (number : ℕ) → number < 256 ^ 8 → FitsExtent (extent_in number)
extent_in-fits number lt = record { start = omega arith; len = omega arith }

pub extent_number-below : (extent : Extent) → FitsExtent extent → extent_number extent < 256 ^ 8
extent_number-below extent fits = omega (arith, fits.start, fits.len)

pub extents_back : (extents : List Extent) → All FitsExtent extents → map extent_in (map extent_number extents) ≡ extents
extents_back [] fits = refl
extents_back (extent ∷ extents) fits =
    let here : FitsExtent extent = fits 0 extent (omega arith) in
    rw (extent_in-extent_number extent here.start, extents_back extents (λ k d lt. fits (suc k) d (omega arith))) refl

pub extents-fit : (extents : List Extent) → All FitsExtent extents → AllFit (replicate (length extents) 8) (map extent_number extents)
extents-fit [] fits = tt
extents-fit (extent ∷ extents) fits =
    (extent_number-below extent (fits 0 extent (omega arith)), extents-fit extents (λ k d lt. fits (suc k) d (omega arith)))

chosen : (b : Bool) (x y : Extent) → cond b (Some x) None ≡ Some y → (b ≡ true) × (x ≡ y)
chosen true x y e = let same : x ≡ y = cc in (refl, same)
chosen false x y e = absurd cc

from_test : (blocks : ℕ) (extent : Extent) → is_extent blocks extent ≡ true → IsExtent blocks extent
from_test blocks extent t =
    let halves = both_true (leb 1 extent.start && is_between 1 extent.len 65535) (leb (extent.start + extent.len) blocks) t in
    let first = both_true (leb 1 extent.start) (is_between 1 extent.len 65535) halves.0 in
    record { start = at_most 1 extent.start first.0; len = between 1 extent.len 65535 first.1; end = at_most (extent.start + extent.len) blocks halves.1 }

to_test : (blocks : ℕ) (extent : Extent) → IsExtent blocks extent → is_extent blocks extent ≡ true
to_test blocks extent e =
    both _ _ (both _ _ (leb_true 1 extent.start e.start) (is_between-true 1 extent.len 65535 e.len)) (leb_true (extent.start + extent.len) blocks e.end)

pub extent_is_read : ExtentIsRead
unfolding extent_of
extent_is_read bytes blocks extent fit len few = (
  (λ e.
      let c = chosen (is_extent blocks (extent_in (number_of bytes))) (extent_in (number_of bytes)) extent e in
      let spelled_so : bytes ≡ extent_bytes (extent_in (number_of bytes)) =
      sym (ap (bytes_of 8) (extent_number-extent_in (number_of bytes)) ∙ ap (λ (n : ℕ). bytes_of n (number_of bytes)) (sym len) ∙ bytes_of-number_of bytes fit) in
      subst (λ (x : Extent). IsExtent blocks x × (bytes ≡ extent_bytes x)) c.1 (from_test blocks (extent_in (number_of bytes)) c.0, spelled_so)),
  λ s.
      let below : extent_number extent < 256 ^ 8 = omega (arith, s.0.start, s.0.end, s.0.len.to_high) in
      let number : number_of bytes ≡ extent_number extent = ap number_of s.1 ∙ number_of-bytes_of 8 (extent_number extent) below in
      let read : extent_in (number_of bytes) ≡ extent = ap extent_in number ∙ extent_in-extent_number extent (omega (arith, s.0.len.from_low, s.0.end)) in
      ap (λ (x : Extent). cond (is_extent blocks x) (Some x) None) read
      ∙ ap (λ (b : Bool). cond b (Some extent) None) (to_test blocks extent s.0),
)
