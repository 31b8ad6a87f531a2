use Rattle.spec_printed.proofs.Histories.{printed_is_read}
use Rattle.spec_printed.proofs.laws.a_printed_history_is_read_again.Goals as goal

pub returns : goal.returns
returns c = printed_is_read
