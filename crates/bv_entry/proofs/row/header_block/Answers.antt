-- Each write changes its own row alone.
use Rattle.std.proofs.Common.{refl, ap, ◌∙◌, List, ℕ, set}
use Rattle.bv_entry.specs.Rows.{header_widths}
use Rattle.bv_entry.proofs.ZeroRows.{zero_header}
use Rattle.bv_entry.proofs.row.header_block.Goals as goal

-- the rows with one more written
abbrev with_row : ℕ → ℕ → List ℕ → List ℕ
with_row k number rows = set rows k number

pub returns : goal.returns
returns c =
    let row = c.args.header.now in
    let r0 = c.fields-put.ensures.rows header_widths 0 refl ∙ ap (with_row 0 row.magic) zero_header in
    let r1 = c.fields-put-2.ensures.rows header_widths 1 refl ∙ ap (with_row 1 row.number) r0 in
    let r2 = c.fields-put-3.ensures.rows header_widths 2 refl ∙ ap (with_row 2 row.kind) r1 in
    let r3 = c.fields-put-4.ensures.rows header_widths 3 refl ∙ ap (with_row 3 row.reserved) r2 in
    c.fields-put-5.ensures.rows header_widths 4 refl ∙ ap (with_row 4 row.count) r3
