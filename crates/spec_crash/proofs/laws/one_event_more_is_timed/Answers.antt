-- Each of the four sentences, by its lemma.
use Rattle.spec_crash.proofs.TimingLemmas.{IsTimed-push}
use Rattle.spec_crash.proofs.laws.one_event_more_is_timed.Goals as goal

pub returns : goal.returns
returns c = λ events more h e timed one. IsTimed-push events more h e timed one
