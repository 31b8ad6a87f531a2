use Rattle.std.proofs.Common.{◌<◌, length, ap, arith}
use Rattle.spec_disk.specs.declared.event.Event.TheVariants.{Write}
use Rattle.bv_device.specs.Memory.{HeldDevice}
use Rattle.bv_device.proofs.MemoryLemmas.{Logs-counted}
use Rattle.bv_device.proofs.memory.MemDeviceDevice.write.Goals as goal

pub write-logged-requires : goal.write-logged-requires
write-logged-requires c =
    let below : c.args.at < length c.args.self.now.disk.base = c.requires in
    omega (arith, below, ap (λ (d : HeldDevice). length d.disk.base) c.self.view_is)

pub returns-clause-held : goal.returns-clause-held
returns-clause-held c =
    rw (← c.self.view_is, c.fails_next-named.ensures.later)
    (Logs-counted c.count.result c.write-logged.result c.fails_next-named.result (λ ok. Write c.args.at c.args.from.now ok) _ _ c.write-logged.new.self _ _
    c.fails_next-named.ensures.named c.write-logged.ensures c.count.ensures.exact)

pub returns-clause-faults : goal.returns-clause-faults
returns-clause-faults c = rw (← c.self.view_is) c.count.ensures.faults
