use Rattle.spec_core.proofs.Replies.{some_reply_fits}
use Rattle.spec_core.proofs.laws.some_reply_is_a_step.Goals as goal

pub returns : goal.returns
returns c = some_reply_fits
