use Rattle.spec_complete.proofs.Meeting.{meet_none}
use Rattle.spec_complete.proofs.laws.lines_that_fit_meet_no_mismatch.Goals as goal

pub returns : goal.returns
returns c = meet_none
