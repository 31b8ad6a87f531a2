use Rattle.bv_device.proofs.StopLemmas.{sector-written, sector-others}
use Rattle.bv_device.proofs.stop.copy_sector.Goals as goal

pub returns-clause-this : goal.returns-clause-this
returns-clause-this c = sector-written c.args.s c.args.into.now c.args.from.now c.copy_from_slice.new.self c.requires c.told-into c.told-from c.copy_from_slice.ensures.after

pub returns-clause-others : goal.returns-clause-others
returns-clause-others c t other = sector-others c.args.s t c.args.into.now c.args.from.now c.copy_from_slice.new.self c.requires c.told-into c.told-from c.copy_from_slice.ensures.after other
