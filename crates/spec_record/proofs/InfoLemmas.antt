-- An info block is read from its spelling alone.
use Rattle.std.proofs.Common.{◌≡◌, ◌≤◌, ◌<◌, ℕ, ◌^◌, List, [], ◌∷◌, length, take, get_or, true, ltb, Some, refl, ap, sym, ◌∙◌, subst, arith, append_assoc}
use Rattle.std.proofs.lemmas.List.{take_at}
use Rattle.std.specs.Result.{result_ok}
use Rattle.spec_record.specs.declared.info.Info.{Info}
use Rattle.spec_record.specs.Field.{IsBlock, field, fields, spelled, AllFit}
use Rattle.spec_record.specs.Tests.{IsBetween}
use Rattle.spec_record.specs.Crc.{crc32}
use Rattle.spec_record.specs.Info.{info_magic, info_in, info_tests, info_or_fault, IsInfo, info_front, info_bytes}
use Rattle.spec_record.specs.Laws.{InfoIsRead, InfoIsBlock, InfoIsOne, SpellsInfo}
use Rattle.spec_record.proofs.CrcLemmas.{crc32_below}
use Rattle.spec_record.proofs.FieldLemmas.{spelled-all, spelled-fields, fields-whole, length-spelled, IsBytes-spelled}
use Rattle.spec_record.proofs.TestLemmas.{Passed, value_passed, passed_value, some_ok, equal, eqb_same, between, is_between-true, below_of, ltb_true}

-- the whole table of the block
abbrev info_widths : List ℕ
info_widths = 8 ∷ 8 ∷ 8 ∷ 8 ∷ 4 ∷ 8156 ∷ []

abbrev info_rows : Info → List ℕ
info_rows info = info_magic ∷ info.start ∷ 0 ∷ info.number ∷ crc32 (info_front info) ∷ 0 ∷ []

-- the block is the spelling of the whole table
info_bytes-whole : (info : Info) → info_bytes info ≡ spelled info_widths (info_rows info)
info_bytes-whole info = simp append_assoc

info_rows-fit : (slots : ℕ) (info : Info) → IsInfo slots info → slots ≤ 2 ^ 64 → AllFit info_widths (info_rows info)
info_rows-fit slots info l few =
    let sum : crc32 (info_front info) < 2 ^ 32 = crc32_below (info_front info) in
    (omega arith, (omega arith, (omega arith, (omega arith, (omega arith, (omega arith, tt))))))

front-fit : (slots : ℕ) (info : Info) → IsInfo slots info → slots ≤ 2 ^ 64 → AllFit (8 ∷ 8 ∷ 8 ∷ 8 ∷ []) (info_magic ∷ info.start ∷ 0 ∷ info.number ∷ [])
front-fit slots info l few = (omega arith, (omega arith, (omega arith, (omega arith, tt))))

pub info_is_block : InfoIsBlock
info_is_block slots info l few = record {
  length_is = ap length (info_bytes-whole info) ∙ length-spelled info_widths (info_rows info) (info_rows-fit slots info l few);
  bytes_fit = subst (λ (bytes : List ℕ). (i : ℕ) → get_or bytes i 0 < 256) (sym (info_bytes-whole info)) (IsBytes-spelled info_widths (info_rows info));
}

-- the tests hold, so the fields are the rows of the value
from_tests : (bytes : List ℕ) (slots : ℕ) → IsBlock bytes → Passed (info_tests bytes slots) → SpellsInfo bytes slots (info_in bytes)
from_tests bytes slots block t =
    let info = info_in bytes in
    let magic : field bytes 0 8 ≡ info_magic = equal (field bytes 0 8) info_magic t.0 in
    let reserved : field bytes 16 8 ≡ 0 = equal (field bytes 16 8) 0 t.1.1.0 in
    let rest : field bytes 36 8156 ≡ 0 = equal (field bytes 36 8156) 0 t.1.1.1.0 in
    let front_rows : fields 0 (8 ∷ 8 ∷ 8 ∷ 8 ∷ []) bytes ≡ info_magic ∷ info.start ∷ 0 ∷ info.number ∷ [] = rw (magic, reserved) refl in
    let front : take 32 bytes ≡ info_front info =
    sym (spelled-fields 0 (8 ∷ 8 ∷ 8 ∷ 8 ∷ []) bytes block.bytes_fit (omega (arith, block.length_is))) ∙ ap (spelled (8 ∷ 8 ∷ 8 ∷ 8 ∷ [])) front_rows in
    let sum : field bytes 32 4 ≡ crc32 (info_front info) = equal (field bytes 32 4) (crc32 (take 32 bytes)) t.1.0 ∙ ap crc32 front in
    let rows : fields 0 info_widths bytes ≡ info_rows info = rw (magic, reserved, sum, rest) refl in
    record {
      lawful = record { start = below_of info.start slots t.1.1.1.1.0; number = between 1 info.number (2 ^ 62) t.1.1.1.1.1.0 };
      bytes_are = spelled-all info_widths bytes block.bytes_fit block.length_is ∙ ap (spelled info_widths) rows ∙ sym (info_bytes-whole info);
    }

-- the fields of a spelling are the rows of its value
rows_of : (bytes : List ℕ) (slots : ℕ) (info : Info) → slots ≤ 2 ^ 64 → SpellsInfo bytes slots info → fields 0 info_widths bytes ≡ info_rows info
rows_of bytes slots info few spells =
    ap (fields 0 info_widths) (spells.bytes_are ∙ info_bytes-whole info) ∙ fields-whole info_widths (info_rows info) (info_rows-fit slots info spells.lawful few)

-- so the value is read
from_rows : (bytes : List ℕ) (info : Info) → fields 0 info_widths bytes ≡ info_rows info → info_in bytes ≡ info
from_rows bytes info rows =
    let row : (k : ℕ) → get_or (fields 0 info_widths bytes) k 0 ≡ get_or (info_rows info) k 0 = λ k. ap (λ (ns : List ℕ). get_or ns k 0) rows in
    let start : field bytes 8 8 ≡ info.start = row 1 in
    let number : field bytes 24 8 ≡ info.number = row 3 in
    rw (start, number) refl

-- and each test holds
to_tests : (bytes : List ℕ) (slots : ℕ) (info : Info) → slots ≤ 2 ^ 64 → SpellsInfo bytes slots info → Passed (info_tests bytes slots)
to_tests bytes slots info few spells =
    let l = spells.lawful in
    let rows = rows_of bytes slots info few spells in
    let row : (k : ℕ) → get_or (fields 0 info_widths bytes) k 0 ≡ get_or (info_rows info) k 0 = λ k. ap (λ (ns : List ℕ). get_or ns k 0) rows in
    let start : field bytes 8 8 ≡ info.start = row 1 in
    let number : field bytes 24 8 ≡ info.number = row 3 in
    let front : take 32 bytes ≡ info_front info =
    ap (take 32) spells.bytes_are ∙ take_at (info_front info) _ 32 (length-spelled (8 ∷ 8 ∷ 8 ∷ 8 ∷ []) (info_magic ∷ info.start ∷ 0 ∷ info.number ∷ []) (front-fit slots info l few)) in
    let sum : field bytes 32 4 ≡ crc32 (take 32 bytes) = row 4 ∙ ap crc32 (sym front) in
    let is_slot : ltb (field bytes 8 8) slots ≡ true = ltb_true (field bytes 8 8) slots (rw start l.start) in
    let is_number : IsBetween 1 (field bytes 24 8) (2 ^ 62) = rw number l.number in (
      eqb_same (field bytes 0 8) info_magic (row 0),
      (
        eqb_same (field bytes 32 4) (crc32 (take 32 bytes)) sum,
        (
          eqb_same (field bytes 16 8) 0 (row 2),
          (
            eqb_same (field bytes 36 8156) 0 (row 5),
            (
              is_slot,
              (
                is_between-true 1 (field bytes 24 8) (2 ^ 62) is_number,
                tt,
              ),
            ),
          ),
        ),
      ),
    )

pub info_is_read : InfoIsRead
unfolding info_or_fault
info_is_read bytes slots info block few = (
  (λ e.
      let passed = value_passed (info_tests bytes slots) (info_in bytes) info (some_ok (info_or_fault bytes slots) info e) in
      subst (SpellsInfo bytes slots) passed.1 (from_tests bytes slots block passed.0)),
  λ spells.
      ap result_ok (passed_value (info_tests bytes slots) (info_in bytes) (to_tests bytes slots info few spells))
      ∙ ap (λ (v : Info). Some v) (from_rows bytes info (rows_of bytes slots info few spells)),
)

pub info_is_one : InfoIsOne
info_is_one slots i j i_lawful j_lawful few e =
    sym (from_rows (info_bytes i) i (rows_of (info_bytes i) slots i few (record { lawful = i_lawful; bytes_are = refl })))
    ∙ from_rows (info_bytes i) j (rows_of (info_bytes i) slots j few (record { lawful = j_lawful; bytes_are = e }))
