use Rattle.std.proofs.Common.{sym, ◌∙◌, arith}
use Rattle.bv_handles.specs.Counted.{counted}
use Rattle.bv_handles.proofs.HoldersLemmas.{one_less, removed_stand, removed_counts}
use Rattle.bv_handles.proofs.holders.Holders.remove.Goals as goal

pub returns-then-slots-gt1-clause-counted : goal.returns-then-slots-gt1-clause-counted
returns-then-slots-gt1-clause-counted c =
    one_less (counted c.args.self.now) (counted c.set.new.self) c.args.root _ c.set.ensures.counted (omega (arith, c.count-slots.ensures, c.if-slots-gt1.true))

pub returns-else-slots-gt1-clause-stands : goal.returns-else-slots-gt1-clause-stands
returns-else-slots-gt1-clause-stands c =
    removed_stand c.args.self.now.keys.entries c.args.self.now.blobs c.try_remove.new.self c.requires.stands c.args.root c.in-Some.key (sym c.get.ensures.value ∙ sym c.in-Some.ensures) _
    c.try_remove.ensures.updates c.remove.new.self.entries c.remove.ensures.updates.0

pub returns-else-slots-gt1-clause-counted : goal.returns-else-slots-gt1-clause-counted
returns-else-slots-gt1-clause-counted c =
    removed_counts c.args.self.now.keys.entries c.args.self.now.blobs c.try_remove.new.self c.requires.stands c.args.root c.in-Some.key (sym c.get.ensures.value ∙ sym c.in-Some.ensures) _
    c.try_remove.ensures.updates c.remove.new.self.entries c.remove.ensures.updates.0 (omega (arith, c.count-slots.ensures, c.if-slots-gt1.false, c.requires.held))
