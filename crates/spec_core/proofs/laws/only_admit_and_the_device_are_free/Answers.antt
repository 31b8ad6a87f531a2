use Rattle.spec_core.proofs.Replies.{one_reply}
use Rattle.spec_core.proofs.laws.only_admit_and_the_device_are_free.Goals as goal

pub returns : goal.returns
returns c = one_reply
