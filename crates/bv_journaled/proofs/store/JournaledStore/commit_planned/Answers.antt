use Rattle.std.proofs.Common.{◌≡◌, ap, ◌∙◌}
use Rattle.spec_image.specs.WellFormed.{is_well_formed}
use Rattle.spec_meta.specs.Blocks.{metadata_at, patched}
use Rattle.bv_txn.specs.Metas.{MetaBlocks}
use Rattle.bv_journaled.specs.Standing.{Standing}
use Rattle.bv_journaled.proofs.EnteringLemmas.{entry_right, stops_from, made_formed, prepared_of}
use Rattle.bv_journaled.proofs.store.JournaledStore.commit_planned.Goals as goal

pub returns-in_err-write_entry-clause-err : goal.returns-in_err-write_entry-clause-err
returns-in_err-write_entry-clause-err g c =
    stops_from c.from_residual.result c.args.self.now c.take_planned.new.self c.write_entry.new.self c.take_planned.ensures.rest c.in_err-write_entry.ensures.err

pub enter-requires-clause-formed : goal.enter-requires-clause-formed
enter-requires-clause-formed g c =
    let s = c.args.self.now in
    let same : c.write_entry.new.self.meta ≡ s.meta = ap (λ (x : Standing). x.meta) c.in_ok-write_entry.ensures.ok ∙ ap (λ (x : Standing). x.meta) c.take_planned.ensures.rest in
    ap (λ (m : MetaBlocks). is_well_formed (metadata_at m.geometry (patched c.in-Some.planned.entry.targets m.blocks))) same
    ∙ made_formed s c.in-Some.planned c.take_planned.ensures.standing (prepared_of s c.take_planned.result c.in-Some.planned c.take_planned.ensures.standing c.take_planned.ensures.value c.in-Some.is)

pub enter-requires-clause-right : goal.enter-requires-clause-right
enter-requires-clause-right g c =
    entry_right c.take_planned.new.self c.write_entry.new.self _ c.in_ok-write_entry.ensures.standing (ap (λ (x : Standing). x.opened) c.in_ok-write_entry.ensures.ok) c.in_ok-write_entry.ensures.performs
