use Rattle.std.proofs.Common.{ap, ◌<◌, ◌^◌, sym, subst, ◌∙◌}
use Rattle.bv_journaled.specs.Standing.{Standing}
use Rattle.bv_journaled.proofs.RightLemmas.{append_stands, appended, by_answer}
use Rattle.bv_journaled.proofs.store.JournaledStore.append.Goals as goal

pub invariant_of-self : goal.invariant_of-self
invariant_of-self g c =
    let i = c.self.inside in
    let s : Standing = record {
      device = g.D.Device.seen i.dev;
      opened = i.opened;
      meta = i.meta;
      cursor = i.ring;
      gone = i.gone.items;
      planned = i.planned;
    } in
    let low = subst (λ (x : Standing). x.cursor.number < 2 ^ 62) (sym c.self.view_is) c.requires.number in
    append_stands c.append.result s (g.D.Device.seen c.append.new.dev) c.append.new.self i.ring.geometry i.ring.slot c.args.blocks.now c.self.invariant c.self.invariant.same
    (appended c.append.result i.ring.number _ _ _ c.append.ensures.appends low)
    (g.met.D.Device.told_calls c.append.new.dev) (by_answer c.append.result _ _ c.append.ensures.ok c.append.ensures.err)
    (ap (λ (x : Standing). x.planned) c.self.view_is ∙ c.requires.none) low
