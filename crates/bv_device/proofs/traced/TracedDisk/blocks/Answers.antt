use Rattle.std.proofs.Common.{arith, ap, ◌∙◌, subst}
use Rattle.spec_disk.specs.Laws.{AreWhole}
use Rattle.bv_device.specs.Told.{Disk, now_of}
use Rattle.bv_device.proofs.TracedLemmas.{IsTraced-length}
use Rattle.bv_device.proofs.traced.TracedDisk.blocks.Goals as goal

pub returns-clause-count : goal.returns-clause-count
returns-clause-count c = omega (arith, IsTraced-length c.args.self.now _ c.self.inside.current.items c.self.inside.trace.items c.self.invariant (ap (λ (d : Disk). d.base) c.self.view_is))

pub returns-clause-whole : goal.returns-clause-whole
returns-clause-whole c = subst AreWhole (c.deref.ensures.value ∙ c.self.invariant.is ∙ ap (λ (d : Disk). now_of d) c.self.view_is) c.are_whole.ensures
