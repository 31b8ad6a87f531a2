-- The block is the spelling of its rows, and is read as the value.
use Rattle.std.proofs.Common.{◌≡◌, ap, ◌∙◌, rules}
use Rattle.spec_record.specs.Field.{fields, spelled}
use Rattle.spec_record.specs.Superblock.{super_widths, super_rows}
use Rattle.spec_record.proofs.FieldLemmas.{spelled-all}
use Rattle.bv_layout.proofs.SuperLemmas.{spelling_is_read}
use Rattle.bv_layout.proofs.superblock.write_super.Goals as goal

pub returns-clause-bytes : goal.returns-clause-bytes
returns-clause-bytes c =
    let rows : fields 0 super_widths c.block_of.result ≡ super_rows c.args.sup.now = rw (← c.bitmap.ensures, ← c.node_map.ensures) c.block_of.ensures in
    spelled-all super_widths c.block_of.result (λ i. search rules) (search rules) ∙ ap (spelled super_widths) rows

pub returns-clause-read : goal.returns-clause-read
returns-clause-read c device_blocks room =
    rw (returns-clause-bytes c) (spelling_is_read c.args.sup.now device_blocks c.requires room)
