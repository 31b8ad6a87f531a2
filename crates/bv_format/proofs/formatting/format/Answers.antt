use Rattle.std.proofs.Common.{rules, arith}
use Rattle.bv_format.specs.declared.fault.FormatFault.TheVariants.{Counts, ShortDevice}
use Rattle.bv_format.proofs.FormatsLemmas.{Formats-untouched, Formats-ok, Formats-err}
use Rattle.bv_format.proofs.formatting.format.Goals as goal

pub returns-in-Err-clause-formats : goal.returns-in-Err-clause-formats
returns-in-Err-clause-formats g c = Formats-untouched c.args.geometry (Counts c.in-Err.field-0.field c.in-Err.field-0.value) _ tt

pub returns-then-has-wanted-clause-formats : goal.returns-then-has-wanted-clause-formats
returns-then-has-wanted-clause-formats g c = Formats-untouched c.args.geometry (ShortDevice c.total-wanted.result c.blocks-has.result) _ tt

pub returns-in-Ok-clause-formats : goal.returns-in-Ok-clause-formats
returns-in-Ok-clause-formats g c =
    Formats-ok c.args.geometry _ _ (search rules) (omega arith) (g.met.D.Device.told_blocks c.args.dev.now) (search rules)

pub returns-in-Err-make_volume-clause-formats : goal.returns-in-Err-make_volume-clause-formats
returns-in-Err-make_volume-clause-formats g c =
    Formats-err c.args.geometry c.in-Err-make_volume.field-0 c.faults-fault.result _ _ (search rules) (omega arith) (g.met.D.Device.told_blocks c.args.dev.now)
    (search rules) c.faults-fault.ensures
