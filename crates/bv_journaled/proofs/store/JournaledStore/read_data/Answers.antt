use Rattle.std.proofs.Common.{Option, sym, subst, arith}
use Rattle.std.specs.Prelude.{IfSome, option_map}
use Rattle.bv_device.specs.Told.{Disk}
use Rattle.bv_journaled.specs.Since.{since}
use Rattle.bv_journaled.specs.Standing.{PlacedRight, Standing, placed_at}
use Rattle.bv_journaled.proofs.RightLemmas.{moved}
use Rattle.bv_journaled.proofs.store.JournaledStore.read_data.Goals as goal

pub invariant_of-self : goal.invariant_of-self
invariant_of-self g c =
    let i = c.self.inside in
    let s : Standing = record {
      device = g.D.Device.seen i.dev;
      opened = i.opened;
      meta = i.meta;
      cursor = i.ring;
      gone = i.gone.items;
      planned = i.planned;
    } in
    moved s (g.D.Device.seen c.read.new.self) i.gone.items c.self.invariant c.read.ensures.blocks (omega (arith, c.read.ensures.calls)) (g.met.D.Device.told_calls c.read.new.self)
    (subst (λ (o : Option Disk). IfSome (option_map (since i.opened) o) (PlacedRight i.meta.geometry (placed_at i.meta.geometry i.meta.blocks))) (sym c.read.ensures.told) c.self.invariant.right)
