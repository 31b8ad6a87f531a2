use Rattle.std.proofs.Common.{IfSome, ap, sym, ◌∙◌, subst}
use Rattle.spec_image.specs.WellFormed.{is_well_formed}
use Rattle.spec_meta.specs.Blocks.{metadata_at, patched}
use Rattle.bv_device.specs.Reads.{ReadsRight}
use Rattle.bv_journaled.specs.Standing.{Standing, stored_of}
use Rattle.bv_journaled.proofs.EnteringLemmas.{entered}
use Rattle.bv_journaled.proofs.store.JournaledStore.enter.Goals as goal

pub invariant_of-self : goal.invariant_of-self
invariant_of-self g c =
    let i = c.self.inside in
    let s : Standing = record {
      device = g.D.Device.seen i.dev;
      opened = i.opened;
      meta = i.meta;
      cursor = i.ring;
      gone = i.gone.items;
      planned = i.planned;
    } in
    entered s c.apply.new.self c.args.entry.now.targets c.args.changes.items c.self.invariant
    (ap (λ (x : Standing). x.planned) c.self.view_is ∙ c.requires.none)
    (ap (λ (x : Standing). is_well_formed (metadata_at x.meta.geometry (patched c.args.entry.now.targets x.meta.blocks))) c.self.view_is ∙ c.requires.formed)
    c.apply.ensures.geometry c.apply.ensures.blocks
    (subst (λ (x : Standing). IfSome (stored_of x).told ReadsRight) (sym c.self.view_is) c.requires.right)
