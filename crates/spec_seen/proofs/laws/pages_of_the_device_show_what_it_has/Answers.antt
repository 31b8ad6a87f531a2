use Rattle.spec_seen.proofs.PageLemmas.{pages_show}
use Rattle.spec_seen.proofs.laws.pages_of_the_device_show_what_it_has.Goals as goal

pub returns : goal.returns
returns c = pages_show
