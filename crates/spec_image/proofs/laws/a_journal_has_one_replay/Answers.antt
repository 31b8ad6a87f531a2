use Rattle.spec_image.proofs.ReplayLemmas.{replay_is, replay_alone}
use Rattle.spec_image.proofs.laws.a_journal_has_one_replay.Goals as goal

pub returns-clause-is : goal.returns-clause-is
returns-clause-is c = replay_is

pub returns-clause-alone : goal.returns-clause-alone
returns-clause-alone c = replay_alone
