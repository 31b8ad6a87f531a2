-- No bytes before have the CRC-32 0.
use Rattle.spec_record.specs.Crc.{crc32}
use Rattle.bv_bytes.proofs.crc.crc32.Goals as goal

pub returns : goal.returns
unfolding crc32
returns c = c.crc_more.ensures.more
