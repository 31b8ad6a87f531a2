use Rattle.bv_journaled.specs.Standing.{Standing}
use Rattle.bv_journaled.proofs.RightLemmas.{by_answer, in_place_stands}
use Rattle.bv_journaled.proofs.store.JournaledStore.write_in_place.Goals as goal

pub invariant_of-self : goal.invariant_of-self
invariant_of-self g c =
    let i = c.self.inside in
    let s : Standing = record {
      device = g.D.Device.seen i.dev;
      opened = i.opened;
      meta = i.meta;
      cursor = i.ring;
      gone = i.gone.items;
      planned = i.planned;
    } in
    in_place_stands c.checkpoint.result s (g.D.Device.seen c.checkpoint.new.dev) c.checkpoint.new.self i.ring.geometry c.blocks-2.result.now _ c.self.invariant c.checkpoint.ensures.performs c.self.invariant.same c.blocks-2.ensures.value
    (g.met.D.Device.told_calls c.checkpoint.new.dev) (by_answer c.checkpoint.result _ _ c.checkpoint.ensures.ok c.checkpoint.ensures.err)
