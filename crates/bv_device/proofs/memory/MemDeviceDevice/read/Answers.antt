use Rattle.std.proofs.Common.{◌<◌, length, ap, arith, refl}
use Rattle.bv_device.specs.Memory.{HeldDevice}
use Rattle.bv_device.proofs.memory.MemDeviceDevice.read.Goals as goal

pub block-requires : goal.block-requires
block-requires c =
    let below : c.args.at < length c.args.self.now.disk.base = c.requires in
    omega (arith, below, ap (λ (d : HeldDevice). length d.disk.base) c.self.view_is)

pub returns-then-fails_next-clause-held : goal.returns-then-fails_next-clause-held
returns-then-fails_next-clause-held c =
    rw (← c.self.view_is, c.fails_next.ensures.later, c.saturating_add-self-inside.ensures)
    (c.fails_next.ensures.named.0 c.if-fails_next.true, refl)
