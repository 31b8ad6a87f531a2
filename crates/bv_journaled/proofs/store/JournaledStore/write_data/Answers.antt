use Rattle.std.proofs.Common.{sym, subst}
use Rattle.spec_record.specs.Geometry.{block_at}
use Rattle.bv_device.specs.Plan.{a_write}
use Rattle.bv_journaled.specs.Standing.{IsHeld, Standing}
use Rattle.bv_journaled.proofs.RightLemmas.{put_spares, ran}
use Rattle.bv_journaled.proofs.store.JournaledStore.write_data.Goals as goal

pub invariant_of-self : goal.invariant_of-self
invariant_of-self g c =
    let i = c.self.inside in
    let s : Standing = record {
      device = g.D.Device.seen i.dev;
      opened = i.opened;
      meta = i.meta;
      cursor = i.ring;
      gone = i.gone.items;
      planned = i.planned;
    } in
    ran _ (a_write (block_at i.meta.geometry c.args.at) c.args.from.now) s (g.D.Device.seen c.write.new.self) i.gone.items c.self.invariant
    (rw (c.block_at-place.ensures, c.geometry.ensures.value) at c.write.ensures.performs)
    (g.met.D.Device.told_calls c.write.new.self)
    (put_spares s c.args.at c.args.from.now (subst (λ (x : Standing). ¬ IsHeld x c.args.at) (sym c.self.view_is) c.requires.free))
