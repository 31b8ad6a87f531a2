use Rattle.std.proofs.Common.{rules, refl, false}
use Rattle.spec_disk.specs.declared.event.Event.TheVariants.{Write}
use Rattle.bv_device.specs.Memory.{base_of}
use Rattle.bv_device.proofs.TracedLemmas.{IsTraced-push}
use Rattle.bv_device.proofs.traced.TracedDisk.failed_write.Goals as goal

pub invariant_of-self-2 : goal.invariant_of-self-2
invariant_of-self-2 c =
    IsTraced-push (base_of c.self.inside.is_kept c.self.inside.opening.items c.self.inside.current.items) c.self.inside.current.items c.self.inside.current.items
    c.self.inside.trace.items c.push.new.self.items (Write c.args.at c.args.from.now false) c.self.invariant (search rules) (search rules) refl
