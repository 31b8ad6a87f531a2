use Rattle.bv_mounted.proofs.FreshLemmas.{is_formed}
use Rattle.bv_mounted.proofs.ToldLemmas.{store_safe, told_right}
use Rattle.bv_mounted.proofs.opening.store_of.Goals as goal

pub new-requires-clause-formed : goal.new-requires-clause-formed
new-requires-clause-formed g c = is_formed c.args.inspected

pub new-requires-clause-right : goal.new-requires-clause-right
new-requires-clause-right g c = told_right c.args.inspected c.args.opened (g.D.Device.seen c.args.dev).told c.requires.told

pub returns-clause-safe : goal.returns-clause-safe
returns-clause-safe g c =
    store_safe c.args.inspected c.args.opened (g.D.Device.seen c.args.dev) c.args.ring c.new.result c.new.ensures.value (g.met.D.Device.told_blocks c.args.dev) c.requires.total c.requires.told c.requires.ring c.new.ensures.both
