use Rattle.spec_exhibit.proofs.MessageLemmas.{root_of-message}
use Rattle.spec_exhibit.proofs.laws.a_root_is_sha_256_of_the_highest_message.Goals as goal

pub returns : goal.returns
returns c = root_of-message
