-- Each write changes its own row alone.
use Rattle.std.proofs.Common.{refl, ap, ◌∙◌, List, ℕ, set}
use Rattle.spec_record.specs.Superblock.{super_widths}
use Rattle.bv_layout.proofs.SuperLemmas.{zero_rows}
use Rattle.bv_layout.proofs.table.block_of.Goals as goal

-- the rows with one more written
abbrev with_row : ℕ → ℕ → List ℕ → List ℕ
with_row k number rows = set rows k number

pub returns : goal.returns
returns c =
    let row = c.args.row.now in
    let r0 = c.fields-put.ensures.rows super_widths 0 refl ∙ ap (with_row 0 row.magic) zero_rows in
    let r1 = c.fields-put-2.ensures.rows super_widths 1 refl ∙ ap (with_row 1 row.second_magic) r0 in
    let r2 = c.fields-put-3.ensures.rows super_widths 2 refl ∙ ap (with_row 2 row.version) r1 in
    let r3 = c.fields-put-4.ensures.rows super_widths 3 refl ∙ ap (with_row 3 row.reserved) r2 in
    let r4 = c.fields-put-5.ensures.rows super_widths 4 refl ∙ ap (with_row 4 row.blocks) r3 in
    let r5 = c.fields-put-6.ensures.rows super_widths 5 refl ∙ ap (with_row 5 row.nodes) r4 in
    let r6 = c.fields-put-7.ensures.rows super_widths 6 refl ∙ ap (with_row 6 row.journal) r5 in
    let r7 = c.fields-put-8.ensures.rows super_widths 7 refl ∙ ap (with_row 7 row.bitmap_blocks) r6 in
    let r8 = c.fields-put-9.ensures.rows super_widths 8 refl ∙ ap (with_row 8 row.node_blocks) r7 in
    let r9 = c.fields-put-10.ensures.rows super_widths 9 refl ∙ ap (with_row 9 row.blobs) r8 in
    let r10 = c.fields-put-11.ensures.rows super_widths 10 refl ∙ ap (with_row 10 row.used_blocks) r9 in
    c.fields-put-12.ensures.rows super_widths 11 refl ∙ ap (with_row 11 row.used_nodes) r10
