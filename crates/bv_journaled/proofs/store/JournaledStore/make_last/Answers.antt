use Rattle.std.proofs.Common.{refl}
use Rattle.bv_device.specs.Plan.{a_sync}
use Rattle.bv_journaled.specs.Standing.{Standing}
use Rattle.bv_journaled.proofs.RightLemmas.{ran}
use Rattle.bv_journaled.proofs.store.JournaledStore.make_last.Goals as goal

pub invariant_of-self : goal.invariant_of-self
invariant_of-self g c =
    let i = c.self.inside in
    let s : Standing = record {
      device = g.D.Device.seen i.dev;
      opened = i.opened;
      meta = i.meta;
      cursor = i.ring;
      gone = i.gone.items;
      planned = i.planned;
    } in
    ran _ a_sync s (g.D.Device.seen c.sync.new.self) i.gone.items c.self.invariant c.in_err-sync.ensures.performs (g.met.D.Device.told_calls c.sync.new.self) (λ b of. refl)

pub invariant_of-self-2 : goal.invariant_of-self-2
invariant_of-self-2 g c =
    let i = c.self.inside in
    let s : Standing = record {
      device = g.D.Device.seen i.dev;
      opened = i.opened;
      meta = i.meta;
      cursor = i.ring;
      gone = i.gone.items;
      planned = i.planned;
    } in
    ran _ a_sync s (g.D.Device.seen c.sync.new.self) c.clear.new.self.items c.self.invariant c.in_ok-sync.ensures.performs (g.met.D.Device.told_calls c.sync.new.self) (λ b of. refl)
