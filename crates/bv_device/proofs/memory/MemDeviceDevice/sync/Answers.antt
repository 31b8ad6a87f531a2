use Rattle.spec_disk.specs.declared.event.Event.TheVariants.{Sync}
use Rattle.bv_device.proofs.MemoryLemmas.{Logs-counted}
use Rattle.bv_device.proofs.memory.MemDeviceDevice.sync.Goals as goal

pub returns-clause-held : goal.returns-clause-held
returns-clause-held c =
    rw (← c.self.view_is, c.fails_next-named.ensures.later)
    (Logs-counted c.count.result c.sync-logged.result c.fails_next-named.result (λ ok. Sync ok) _ _ c.sync-logged.new.self _ _
    c.fails_next-named.ensures.named c.sync-logged.ensures c.count.ensures.exact)

pub returns-clause-faults : goal.returns-clause-faults
returns-clause-faults c = rw (← c.self.view_is) c.count.ensures.faults
