use Rattle.std.proofs.Common.{refl}
use Rattle.spec_record.specs.Crc.{crc32, crc_step, bits_of}
use Rattle.spec_record.proofs.laws.crc32_has_the_check_value.Goals as goal

pub returns : goal.returns
unfolding crc32 crc_step bits_of
returns c = refl
