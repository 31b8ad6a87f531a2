use Rattle.std.proofs.Common.{arith}
use Rattle.bv_handles.specs.Counted.{counted}
use Rattle.bv_handles.proofs.HoldersLemmas.{one_more}
use Rattle.bv_handles.proofs.holders.Holders.add.Goals as goal

pub returns-else-slots-clause-ok : goal.returns-else-slots-clause-ok
returns-else-slots-clause-ok c =
    one_more (counted c.args.self.now) (counted c.set.new.self) c.args.root _ c.set.ensures.counted (omega (arith, c.count-slots.ensures))
