use Rattle.std.proofs.Common.{ap, ◌∙◌}
use Rattle.bv_shared.specs.KeptPages.{kept_after, last_settled}
use Rattle.bv_shared.proofs.adds.settle_anew.Goals as goal

pub returns-clause-now : goal.returns-clause-now
returns-clause-now g c = (c.history-after.ensures.located, c.history-after.ensures.shown, c.history-after.ensures.sound, c.history-after.ensures.contents, c.history-after.ensures.counted)

pub returns-clause-kept : goal.returns-clause-kept
returns-clause-kept g c = c.forget_settled.ensures ∙ ap (λ es. kept_after (last_settled es) c.args.kept.now) (c.events.ensures ∙ ap (λ h. h.events) c.history-after.ensures.history)
