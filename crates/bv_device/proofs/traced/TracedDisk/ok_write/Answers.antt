use Rattle.std.proofs.Common.{rules, arith, refl, ap, true}
use Rattle.spec_disk.specs.declared.event.Event.TheVariants.{Write}
use Rattle.bv_device.specs.Told.{Disk}
use Rattle.bv_device.specs.Memory.{base_of}
use Rattle.bv_device.proofs.TracedLemmas.{IsTraced-length, IsTraced-kept}
use Rattle.bv_device.proofs.traced.TracedDisk.ok_write.Goals as goal

pub index_mut-requires : goal.index_mut-requires
index_mut-requires c = omega (arith, c.requires, IsTraced-length c.args.self.now _ c.self.inside.current.items c.self.inside.trace.items c.self.invariant (ap (λ (d : Disk). d.base) c.self.view_is))

pub invariant_of-self-2 : goal.invariant_of-self-2
invariant_of-self-2 c =
    IsTraced-kept c.keep.new.is_kept c.keep.new.opening.items c.self.inside.current.items
    (base_of c.self.inside.is_kept c.self.inside.opening.items c.self.inside.current.items) c.self.inside.current.items _
    c.self.inside.trace.items c.push.new.self.items (Write c.args.at c.args.from.now true)
    (search rules) (search rules) c.self.invariant (search rules) (search rules) refl
