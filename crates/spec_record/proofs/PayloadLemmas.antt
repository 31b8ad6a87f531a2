-- Payloads as they are stored: the magic taken out, and put back by the flag.
use Rattle.std.proofs.Common.{◌≡◌, ◌<◌, ℕ, ◌+◌, ◌^◌, List, ◌++◌, drop, Bool, true, false, not, cond, eqb, ◌&&◌, refl, ap, sym, ◌∙◌, subst, inl, inr, arith, lit<}
use Rattle.std.proofs.lemmas.Bool.{cases_eq}
use Rattle.std.proofs.lemmas.List.{take-append-drop, drop_at, get_or-drop, length-drop, length-append}
use Rattle.spec_record.specs.Field.{IsBlock, field, bytes_of}
use Rattle.spec_record.specs.Places.{entry_magic, begins_with_magic, is_escape}
use Rattle.spec_record.specs.Entry.{restored}
use Rattle.spec_record.specs.EntryBlocks.{stored, flag_of}
use Rattle.spec_record.proofs.FieldLemmas.{bytes_of-field, length-bytes_of, field-first, IsBytes-append, IsBytes-bytes_of}
use Rattle.spec_record.proofs.TestLemmas.{equal, eqb_same, both_true, either}

-- a block by its first number and the rest
front_spelled : (block : List ℕ) (number : ℕ) → IsBlock block → field block 0 8 ≡ number → bytes_of 8 number ++ drop 8 block ≡ block
front_spelled block number is_block e =
    ap (λ (n : ℕ). bytes_of 8 n ++ drop 8 block) (sym e)
    ∙ ap (λ (front : List ℕ). front ++ drop 8 block) (bytes_of-field block 0 8 is_block.bytes_fit (omega (arith, is_block.length_is)))
    ∙ take-append-drop 8 block

-- other bytes in front of a block's rest
abbrev fronted : ℕ → List ℕ → List ℕ
fronted number block = bytes_of 8 number ++ drop 8 block

drop-fronted : (number : ℕ) (block : List ℕ) → drop 8 (fronted number block) ≡ drop 8 block
drop-fronted number block = drop_at (bytes_of 8 number) (drop 8 block) 8 (length-bytes_of 8 number)

fronted-block : (number : ℕ) (block : List ℕ) → IsBlock block → IsBlock (fronted number block)
fronted-block number block b = record {
  length_is = omega (arith, length-append (bytes_of 8 number) (drop 8 block), length-bytes_of 8 number, length-drop 8 block, b.length_is);
  bytes_fit = IsBytes-append (bytes_of 8 number) (drop 8 block) (IsBytes-bytes_of 8 number) (λ i. rw (get_or-drop 8 block i 0) (b.bytes_fit (8 + i)));
}

-- what was stored is restored
pub restored-stored : (payload : List ℕ) → IsBlock payload → restored (flag_of payload) (stored payload) ≡ payload
unfolding restored stored flag_of
restored-stored payload b =
    elim (cases_eq (field payload 0 8) entry_magic) [
      | inl is ↦
          let t : eqb (field payload 0 8) entry_magic ≡ true = eqb_same (field payload 0 8) entry_magic is in
          let back : fronted entry_magic (fronted 0 payload) ≡ payload =
          ap (λ (rest : List ℕ). bytes_of 8 entry_magic ++ rest) (drop-fronted 0 payload) ∙ front_spelled payload entry_magic b is in
          rw t back
      | inr ne ↦
          let t : eqb (field payload 0 8) entry_magic ≡ false = grind (arith, ne) in
          rw t refl
    ]

pub stored-block : (payload : List ℕ) → IsBlock payload → IsBlock (stored payload)
unfolding stored
stored-block payload b =
    elim (eqb (field payload 0 8) entry_magic) as (λ t. IsBlock (cond t (fronted 0 payload) payload)) [
      | true ↦ fronted-block 0 payload b
      | false ↦ b
    ]

pub flag_of-below : (payload : List ℕ) → flag_of payload < 256 ^ 4
unfolding flag_of
flag_of-below payload =
    elim (eqb (field payload 0 8) entry_magic) as (λ t. cond t 1 0 < 256 ^ 4) [ true ↦ lit< tt | false ↦ lit< tt ]

-- a stored payload fits its flag
pub escape-stored : (payload : List ℕ) → is_escape (flag_of payload) (stored payload) ≡ true
unfolding stored flag_of
escape-stored payload =
    elim (cases_eq (field payload 0 8) entry_magic) [
      | inl is ↦
          let t : eqb (field payload 0 8) entry_magic ≡ true = eqb_same (field payload 0 8) entry_magic is in
          let zero_front : field (fronted 0 payload) 0 8 ≡ 0 = field-first 8 0 (drop 8 payload) (lit< tt) in
          rw t (rw zero_front refl)
      | inr ne ↦
          let t : eqb (field payload 0 8) entry_magic ≡ false = grind (arith, ne) in
          rw t (rw t refl)
    ]

not_true : (b : Bool) → not b ≡ true → b ≡ false
not_true true e = absurd cc
not_true false e = refl

-- what a restored payload is
pub record Restores (flag : ℕ) (block : List ℕ) : Type 0 where
  pub stored_is : stored (restored flag block) ≡ block
  pub flag_is : flag_of (restored flag block) ≡ flag
  pub is_block : IsBlock (restored flag block)

with_magic : (block : List ℕ) → IsBlock block → field block 0 8 ≡ 0 → Restores 1 block
unfolding restored stored flag_of
with_magic block b zero_front =
    let magic : field (fronted entry_magic block) 0 8 ≡ entry_magic = field-first 8 entry_magic (drop 8 block) (lit< tt) in
    let t : eqb (field (fronted entry_magic block) 0 8) entry_magic ≡ true = eqb_same (field (fronted entry_magic block) 0 8) entry_magic magic in
    record {
      stored_is = rw t (ap (λ (rest : List ℕ). bytes_of 8 0 ++ rest) (drop-fronted entry_magic block) ∙ front_spelled block 0 b zero_front);
      flag_is = rw t refl;
      is_block = fronted-block entry_magic block b;
    }

without_magic : (block : List ℕ) → IsBlock block → begins_with_magic block ≡ false → Restores 0 block
unfolding restored stored flag_of
without_magic block b t = record { stored_is = rw t refl; flag_is = rw t refl; is_block = b }

-- a stored payload that fits its flag is that of the restored one
pub stored-restored : (flag : ℕ) (block : List ℕ) → IsBlock block → is_escape flag block ≡ true → Restores flag block
stored-restored flag block b e =
    elim (either (eqb flag 1 && eqb (field block 0 8) 0) (eqb flag 0 && not (begins_with_magic block)) e) [
      | inl one ↦
          let parts = both_true (eqb flag 1) (eqb (field block 0 8) 0) one in
          subst (λ (f : ℕ). Restores f block) (sym (equal flag 1 parts.0)) (with_magic block b (equal (field block 0 8) 0 parts.1))
      | inr none ↦
          let parts = both_true (eqb flag 0) (not (begins_with_magic block)) none in
          subst (λ (f : ℕ). Restores f block) (sym (equal flag 0 parts.0)) (without_magic block b (not_true (begins_with_magic block) parts.1))
    ]
