-- A field after a write of it, before and behind it, and as a row of a table.
use Rattle.std.proofs.Common.{◌≡◌, ◌<◌, ◌≤◌, ◌⊎◌, ℕ, zero, suc, ◌+◌, ◌-◌, ◌^◌, ◌%◌, ◌/◌, List, [], ◌∷◌, ◌++◌, length, take, drop, set, Bool, true, false, eqb, leb, ◌&&◌, IsTrue, refl, ap, sym, ◌∙◌, inl, inr, arith, append_assoc}
use Rattle.std.proofs.lemmas.List.{take_at, drop_at, length-append, length-take, drop-drop, places, same_lists}
use Rattle.std.proofs.Math.Nat.{div-div-eq-div-mul}
use Rattle.std.specs.Int.{w64, from_le_bytes}
use Rattle.spec_record.specs.Field.{number_of, bytes_of, field, fields}
use Rattle.spec_record.proofs.FieldLemmas.{length-bytes_of, number_of-bytes_of}
use Rattle.bv_bytes.specs.Rows.{with_field, is_row}

pub field-with_same : (bytes : List ℕ) (offset width number : ℕ) → offset + width ≤ length bytes → number < 256 ^ width → field (with_field bytes offset width number) offset width ≡ number
unfolding field with_field
field-with_same bytes offset width number fits lt =
    let front : length (take offset bytes) ≡ offset = omega (arith, length-take offset bytes) in
    rw (append_assoc (take offset bytes) (bytes_of width number) (drop (offset + width) bytes), drop_at (take offset bytes) (bytes_of width number ++ drop (offset + width) bytes) offset front, take_at (bytes_of width number) (drop (offset + width) bytes) width (length-bytes_of width number)) (number_of-bytes_of width number lt)

-- a field behind the one that is written
pub field-with_after : (bytes : List ℕ) (offset width number o v : ℕ) → offset + width ≤ length bytes → offset + width ≤ o → field (with_field bytes offset width number) o v ≡ field bytes o v
unfolding field with_field
field-with_after bytes offset width number o v fits after =
    let front : length (take offset bytes ++ bytes_of width number) ≡ offset + width = omega (arith, length-append (take offset bytes) (bytes_of width number), length-bytes_of width number, length-take offset bytes) in
    let k : ℕ = o - (offset + width) in
    let o_is : o ≡ (offset + width) + k = omega arith in
    let e : drop o (take offset bytes ++ bytes_of width number ++ drop (offset + width) bytes) ≡ drop o bytes = rw o_is (sym (drop-drop k (offset + width) (take offset bytes ++ bytes_of width number ++ drop (offset + width) bytes)) ∙ ap (drop k) (drop_at (take offset bytes ++ bytes_of width number) (drop (offset + width) bytes) (offset + width) front) ∙ drop-drop k (offset + width) bytes) in
    ap (λ (bs : List ℕ). number_of (take v bs)) e

-- a field before it
pub field-with_before : (bytes : List ℕ) (offset width number o v : ℕ) → offset + width ≤ length bytes → o + v ≤ offset → field (with_field bytes offset width number) o v ≡ field bytes o v
unfolding field with_field
field-with_before bytes offset width number o v fits before =
    let e : take v (drop o (take offset bytes ++ bytes_of width number ++ drop (offset + width) bytes)) ≡ take v (drop o bytes) = same_lists _ _ (grind (arith, places, length-bytes_of width number)) (λ k d h. grind (arith, places, length-bytes_of width number)) in
    ap number_of e

pub field-with_other : (bytes : List ℕ) (offset width number o v : ℕ) → offset + width ≤ length bytes → (o + v ≤ offset) ⊎ (offset + width ≤ o) → field (with_field bytes offset width number) o v ≡ field bytes o v
field-with_other bytes offset width number o v fits (inl before) = field-with_before bytes offset width number o v fits before
field-with_other bytes offset width number o v fits (inr after) = field-with_after bytes offset width number o v fits after

-- the rows behind the field
fields-with_after : (at : ℕ) (widths bytes : List ℕ) (offset width number : ℕ) → offset + width ≤ length bytes → offset + width ≤ at → fields at widths (with_field bytes offset width number) ≡ fields at widths bytes
fields-with_after at [] bytes offset width number fits le = refl
fields-with_after at (w ∷ widths) bytes offset width number fits le =
    rw (field-with_after bytes offset width number at w fits le, fields-with_after (at + w) widths bytes offset width number fits (omega arith)) refl

first : (a b : Bool) → IsTrue (a && b) → IsTrue a
first true b h = refl
first false b h = absurd cc

second : (a b : Bool) → IsTrue (a && b) → IsTrue b
second true true h = refl
second true false h = absurd cc
second false b h = absurd cc

-- the field is a row, and this row alone changes
pub fields-with : (at : ℕ) (widths : List ℕ) (k : ℕ) (bytes : List ℕ) (offset width number : ℕ) → IsTrue (is_row at widths k offset width) → offset + width ≤ length bytes → number < 256 ^ width → fields at widths (with_field bytes offset width number) ≡ set (fields at widths bytes) k number
fields-with at [] k bytes offset width number row fits lt = absurd cc
fields-with at (w ∷ widths) zero bytes offset width number row fits lt =
    let a : at ≡ offset = grind (arith, first (eqb at offset) (eqb w width) row) in
    let b : w ≡ width = grind (arith, second (eqb at offset) (eqb w width) row) in
    let one : field (with_field bytes offset width number) at w ≡ number = rw (a, b) (field-with_same bytes offset width number fits lt) in
    rw (one, fields-with_after (at + w) widths bytes offset width number fits (omega arith)) refl
fields-with at (w ∷ widths) (suc k) bytes offset width number row fits lt =
    let a : at + w ≤ offset = grind (arith, first (leb (at + w) offset) (is_row (at + w) widths k offset width) row) in
    rw (field-with_before bytes offset width number at w fits a, fields-with (at + w) widths k bytes offset width number (second (leb (at + w) offset) (is_row (at + w) widths k offset width) row) fits lt) refl

-- ---- eight bytes at a time

pub take-bytes_of : (width n number : ℕ) → width ≤ n → take width (bytes_of n number) ≡ bytes_of width number
unfolding bytes_of
take-bytes_of zero n number le = refl
take-bytes_of (suc width) zero number le = absurd (omega (arith, le))
take-bytes_of (suc width) (suc n) number le = ap (λ (ds : List ℕ). number % 256 ∷ ds) (take-bytes_of width n (number / 256) (omega (arith, le)))

pub eight_bytes : (v : ℕ) → v % 256 ∷ v / 256 % 256 ∷ v / 65536 % 256 ∷ v / 16777216 % 256 ∷ v / 4294967296 % 256 ∷ v / 1099511627776 % 256 ∷ v / 281474976710656 % 256 ∷ v / 72057594037927936 % 256 ∷ [] ≡ bytes_of 8 v
unfolding bytes_of
eight_bytes v = simp div-div-eq-div-mul

abbrev pub eight_zeros : List ℕ
eight_zeros = 0 ∷ 0 ∷ 0 ∷ 0 ∷ 0 ∷ 0 ∷ 0 ∷ 0 ∷ []

pub eight_read : (bs : List ℕ) → length bs ≤ 8 → from_le_bytes w64 (bs ++ drop (length bs) eight_zeros) ≡ number_of bs
unfolding number_of
eight_read [] le = refl
eight_read (a ∷ []) le = omega arith
eight_read (a ∷ b ∷ []) le = omega arith
eight_read (a ∷ b ∷ c ∷ []) le = omega arith
eight_read (a ∷ b ∷ c ∷ d ∷ []) le = omega arith
eight_read (a ∷ b ∷ c ∷ d ∷ e ∷ []) le = omega arith
eight_read (a ∷ b ∷ c ∷ d ∷ e ∷ f ∷ []) le = omega arith
eight_read (a ∷ b ∷ c ∷ d ∷ e ∷ f ∷ g ∷ []) le = omega arith
eight_read (a ∷ b ∷ c ∷ d ∷ e ∷ f ∷ g ∷ h ∷ []) le = omega arith
eight_read (a ∷ b ∷ c ∷ d ∷ e ∷ f ∷ g ∷ h ∷ i ∷ bs) le = absurd (omega (arith, le))
