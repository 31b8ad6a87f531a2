-- What the write leaves, by the laws of one field.
use Rattle.bv_bytes.proofs.RowLemmas.{field-with_same, field-with_other, fields-with}
use Rattle.bv_bytes.proofs.field.Field.put.Goals as goal

pub returns-clause-value : goal.returns-clause-value
returns-clause-value g c =
    rw c.put_at.ensures (field-with_same c.args.bytes.now g.row.OFF g.row.W c.args.value c.requires.covered c.requires.fits)

pub returns-clause-others : goal.returns-clause-others
returns-clause-others g c offset width apart =
    rw c.put_at.ensures (field-with_other c.args.bytes.now g.row.OFF g.row.W c.args.value offset width c.requires.covered apart)

pub returns-clause-rows : goal.returns-clause-rows
returns-clause-rows g c widths k row =
    rw c.put_at.ensures (fields-with 0 widths k c.args.bytes.now g.row.OFF g.row.W c.args.value row c.requires.covered c.requires.fits)
