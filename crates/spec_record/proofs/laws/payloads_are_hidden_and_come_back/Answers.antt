use Rattle.spec_record.proofs.PartLemmas.{stored_hides_magic, payload_comes_back}
use Rattle.spec_record.proofs.laws.payloads_are_hidden_and_come_back.Goals as goal

pub returns-clause-hidden : goal.returns-clause-hidden
returns-clause-hidden c = stored_hides_magic

pub returns-clause-back : goal.returns-clause-back
returns-clause-back c = payload_comes_back
