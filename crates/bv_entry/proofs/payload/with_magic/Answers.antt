-- The magic is put back.
use Rattle.spec_record.specs.Entry.{restored}
use Rattle.bv_bytes.specs.Rows.{with_field}
use Rattle.bv_entry.proofs.payload.with_magic.Goals as goal

pub returns : goal.returns
unfolding restored with_field
returns c = c.put.ensures.bytes
