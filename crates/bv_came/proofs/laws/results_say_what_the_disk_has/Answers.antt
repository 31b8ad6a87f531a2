use Rattle.bv_came.proofs.Sees.{sessions_see_all}
use Rattle.bv_came.proofs.laws.results_say_what_the_disk_has.Goals as goal

pub returns : goal.returns
returns c = sessions_see_all
