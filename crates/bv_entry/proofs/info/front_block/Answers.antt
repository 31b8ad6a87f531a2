-- Each write changes its own row alone.
use Rattle.std.proofs.Common.{refl, ap, ◌∙◌, List, ℕ, set}
use Rattle.bv_entry.specs.Rows.{info_widths}
use Rattle.bv_entry.proofs.ZeroRows.{zero_info}
use Rattle.bv_entry.proofs.info.front_block.Goals as goal

-- the rows with one more written
abbrev with_row : ℕ → ℕ → List ℕ → List ℕ
with_row k number rows = set rows k number

pub returns : goal.returns
returns c =
    let row = c.args.front.now in
    let r0 = c.fields-put.ensures.rows info_widths 0 refl ∙ ap (with_row 0 row.magic) zero_info in
    let r1 = c.fields-put-2.ensures.rows info_widths 1 refl ∙ ap (with_row 1 row.start) r0 in
    let r2 = c.fields-put-3.ensures.rows info_widths 2 refl ∙ ap (with_row 2 row.reserved) r1 in
    c.fields-put-4.ensures.rows info_widths 3 refl ∙ ap (with_row 3 row.number) r2
