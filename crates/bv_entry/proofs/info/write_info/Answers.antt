-- The block is the spelling of its rows, and is read as the value.
use Rattle.std.proofs.Common.{◌≡◌, ◌∙◌, ap, sym, subst, List, ℕ, length, set, rules, arith, refl}
use Rattle.std.proofs.lemmas.List.{length-take}
use Rattle.spec_record.specs.Field.{IsBytes}
use Rattle.spec_record.specs.Crc.{crc32}
use Rattle.bv_entry.specs.Rows.{info_widths}
use Rattle.bv_entry.proofs.PartLemmas.{IsBytes-with_field}
use Rattle.bv_entry.proofs.InfoLemmas.{front_is, rows_spell, spelling_is_read}
use Rattle.bv_entry.proofs.info.write_info.Goals as goal

pub slice_bounds-crc32-end : goal.slice_bounds-crc32-end
slice_bounds-crc32-end c =
    let len : length c.front_block-block.result ≡ 8192 = search rules in
    omega (arith, length-take 32 c.front_block-block.result)

pub returns-clause-bytes : goal.returns-clause-bytes
returns-clause-bytes c =
    let front = front_is c.front_block-block.result c.args.info.now (λ i. search rules) (search rules) c.front_block-block.ensures in
    let old : IsBytes c.front_block-block.result = λ i. search rules in
    let fit : IsBytes c.put.new.bytes = subst IsBytes (sym c.put.ensures.bytes) (IsBytes-with_field c.front_block-block.result 32 4 c.crc32-checksum.result old) in
    rows_spell c.put.new.bytes c.args.info.now c.crc32-checksum.result fit (search rules)
    (c.crc32-checksum.ensures ∙ ap crc32 front)
    (c.put.ensures.rows info_widths 4 refl ∙ ap (λ (rows : List ℕ). set rows 4 c.crc32-checksum.result) c.front_block-block.ensures)

pub returns-clause-read : goal.returns-clause-read
returns-clause-read c ring start few =
    rw (returns-clause-bytes c) (spelling_is_read c.args.info.now ring c.requires start few)
