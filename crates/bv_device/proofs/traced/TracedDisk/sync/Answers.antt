use Rattle.std.proofs.Common.{rules, refl}
use Rattle.spec_disk.specs.declared.event.Event.TheVariants.{Sync}
use Rattle.bv_device.specs.Memory.{base_of}
use Rattle.bv_device.proofs.TracedLemmas.{IsTraced-push}
use Rattle.bv_device.proofs.traced.TracedDisk.sync.Goals as goal

pub invariant_of-self-2 : goal.invariant_of-self-2
invariant_of-self-2 c =
    IsTraced-push (base_of c.self.inside.is_kept c.self.inside.opening.items c.self.inside.current.items) c.self.inside.current.items c.self.inside.current.items
    c.self.inside.trace.items c.push.new.self.items (Sync c.args.ok) c.self.invariant (search rules) (search rules) refl
