use Rattle.spec_seen.proofs.PublishedLemmas.{logged_published_by}
use Rattle.spec_seen.proofs.laws.a_root_of_the_log_has_a_publisher.Goals as goal

pub returns : goal.returns
returns c = logged_published_by
