-- What the laws of the info block say of one that is read or written.
use Rattle.std.proofs.Common.{◌≡◌, ◌≤◌, ◌<◌, ◌^◌, ℕ, List, [], ◌∷◌, length, take, Result, Ok, Err, IfOk, refl, ap, sym, ◌∙◌, arith, append_assoc}
use Rattle.std.specs.Result.{result_ok}
use Rattle.spec_record.specs.declared.info.Info.{Info}
use Rattle.spec_record.specs.declared.info_fault.InfoFault.{InfoFault}
use Rattle.spec_record.specs.Field.{IsBlock, IsBytes, fields, spelled}
use Rattle.spec_record.specs.Tests.{IsBetween}
use Rattle.spec_record.specs.Crc.{crc32}
use Rattle.spec_record.specs.Info.{info_magic, info_or_fault, info_front, info_bytes, IsInfo}
use Rattle.spec_record.specs.Laws.{SpellsInfo}
use Rattle.spec_record.proofs.FieldLemmas.{spelled-all, spelled-fields}
use Rattle.spec_record.proofs.InfoLemmas.{info_is_read, info_is_block}
use Rattle.spec_record.proofs.TestLemmas.{some_ok}
use Rattle.bv_entry.specs.Rows.{info_widths}

-- what is read is spelled so
pub read_is_spelled : (bytes : List ℕ) (slots : ℕ) (r : Result Info InfoFault) → IsBlock bytes → slots ≤ 2 ^ 64 → r ≡ info_or_fault bytes slots → IfOk r (λ info. SpellsInfo bytes slots info)
read_is_spelled bytes slots (Ok info) block few e = (info_is_read bytes slots info block few).0 (ap result_ok (sym e))
read_is_spelled bytes slots (Err fault) block few e = tt

-- what is spelled so is read
pub spelling_is_read : (info : Info) (slots : ℕ) → IsBetween 1 info.number (2 ^ 62) → info.start < slots → slots ≤ 2 ^ 64 → info_or_fault (info_bytes info) slots ≡ Ok info
spelling_is_read info slots number start few =
    let lawful : IsInfo slots info = record { start = start; number = number } in
    some_ok (info_or_fault (info_bytes info) slots) info
    ((info_is_read (info_bytes info) slots info (info_is_block slots info lawful few) few).1 (record { lawful = lawful; bytes_are = refl }))

-- the rows before the checksum are the front
pub front_is : (bytes : List ℕ) (info : Info) → IsBytes bytes → length bytes ≡ 8192 → fields 0 info_widths bytes ≡ info_magic ∷ info.start ∷ 0 ∷ info.number ∷ 0 ∷ 0 ∷ [] → take 32 bytes ≡ info_front info
front_is bytes info fit len rows =
    let front : fields 0 (8 ∷ 8 ∷ 8 ∷ 8 ∷ []) bytes ≡ info_magic ∷ info.start ∷ 0 ∷ info.number ∷ [] = ap (take 4) rows in
    sym (spelled-fields 0 (8 ∷ 8 ∷ 8 ∷ 8 ∷ []) bytes fit (omega (arith, len))) ∙ ap (spelled (8 ∷ 8 ∷ 8 ∷ 8 ∷ [])) front

-- a block with these rows is that of the info
pub rows_spell : (bytes : List ℕ) (info : Info) (sum : ℕ) → IsBytes bytes → length bytes ≡ 8192 → sum ≡ crc32 (info_front info) → fields 0 info_widths bytes ≡ info_magic ∷ info.start ∷ 0 ∷ info.number ∷ sum ∷ 0 ∷ [] → bytes ≡ info_bytes info
rows_spell bytes info sum fit len sum_is rows =
    let whole : info_bytes info ≡ spelled info_widths (info_magic ∷ info.start ∷ 0 ∷ info.number ∷ crc32 (info_front info) ∷ 0 ∷ []) = simp append_assoc in
    spelled-all info_widths bytes fit len ∙ ap (spelled info_widths) (rows ∙ ap (λ (n : ℕ). info_magic ∷ info.start ∷ 0 ∷ info.number ∷ n ∷ 0 ∷ []) sum_is) ∙ sym whole
