use Rattle.std.proofs.Common.{length, sym, ap, ◌∙◌}
use Rattle.spec_core.specs.History.{History}
use Rattle.bv_shared.proofs.GainLemmas.{as_many_in}
use Rattle.bv_shared.proofs.keeping.SharedKeeps.count.Goals as goal

pub returns-clause-count : goal.returns-clause-count
returns-clause-count g c = ap length (c.events.ensures ∙ ap (λ (h : History). h.events) c.history.ensures.history) ∙ sym (as_many_in c.args.self.now.volume 0)
