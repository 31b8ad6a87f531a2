-- Reads, by their lemmas.
use Rattle.spec_disk.proofs.ReadLemmas.{reads_right-only, reads_right-failed}
use Rattle.spec_disk.proofs.laws.reads_are_wrong_after_a_failed_write.Goals as goal

pub returns : goal.returns
returns c = λ p b. (reads_right-only p b, reads_right-failed p b)
