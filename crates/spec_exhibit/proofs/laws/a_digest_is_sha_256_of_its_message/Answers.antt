use Rattle.spec_exhibit.proofs.MessageLemmas.{slice_get-level_of}
use Rattle.spec_exhibit.proofs.laws.a_digest_is_sha_256_of_its_message.Goals as goal

pub returns : goal.returns
returns c = slice_get-level_of
