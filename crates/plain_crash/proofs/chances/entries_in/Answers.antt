-- The journal that is scanned is the image's.
use Rattle.std.proofs.Common.{ap, sym, ◌∙◌}
use Rattle.std.proofs.lemmas.Result.{IfOk-weaker}
use Rattle.spec_image.specs.Chance.{placed_at, placed_from}
use Rattle.spec_image.specs.Journal.{journal_of}
use Rattle.bv_replay.specs.Found.{IsReplayOf}
use Rattle.plain_crash.proofs.VolumeLemmas.{seen_now, ring_length}
use Rattle.plain_crash.proofs.chances.entries_in.Goals as goal

pub returns : goal.returns
returns c =
    let g = c.args.geometry.now in let image = c.args.image.now in let j = journal_of g image in
    let found = seen_now image (λ i. IsReplayOf g i c.in-Ok.replay) _ (ap (λ m. m.disk) c.in_ok-dev.ensures) c.in-Ok.ensures.reads.now in
    IfOk-weaker c.with_slots.result _ _
    (λ placed same. same ∙ ap (placed_from j c.in-Some.info.start) found.entries
    ∙ ap (placed_at j) (sym (sym c.info_in.ensures.value ∙ c.in-Some.is)))
    (c.with_slots.ensures j (ring_length g image c.requires.room ∙ sym c.ring.ensures))
