use Rattle.spec_laws.proofs.KeepLemmas.{keeps_theorem, theorem_keeps, keeps_first, keeps_more}
use Rattle.spec_laws.proofs.laws.a_mount_without_an_event_keeps_its_blobs.Goals as goal

pub returns-clause-theorem : goal.returns-clause-theorem
returns-clause-theorem c = keeps_theorem

pub returns-clause-blobs : goal.returns-clause-blobs
returns-clause-blobs c = theorem_keeps

pub returns-clause-first : goal.returns-clause-first
returns-clause-first c = keeps_first

pub returns-clause-more : goal.returns-clause-more
returns-clause-more c = keeps_more
