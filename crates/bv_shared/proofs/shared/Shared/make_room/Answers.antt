use Rattle.bv_shared.proofs.PagesLemmas.{pages_spared}
use Rattle.bv_shared.proofs.SinceLemmas.{are_within, since_spared}
use Rattle.bv_shared.proofs.shared.Shared.make_room.Goals as goal

pub invariant_of-self : goal.invariant_of-self
invariant_of-self g c = record { since = since_spared c.args.self.now.opening.value c.args.self.now.volume c.reserve-answer.new.self c.reserve-answer.ensures.rest c.args.self.now.since; pages = pages_spared c.args.self.now.volume c.reserve-answer.new.self c.args.self.now.kept c.reserve-answer.ensures.rest c.args.self.now.pages }

pub returns-clause-within : goal.returns-clause-within
returns-clause-within g c = are_within c.reserve-answer.new.self c.history-history.ensures.legal.calls c.history-history.ensures.calls c.history-history.ensures.counted
