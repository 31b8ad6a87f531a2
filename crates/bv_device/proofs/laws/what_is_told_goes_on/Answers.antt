use Rattle.bv_device.proofs.PlanLemmas.{Follows-none, with_events-some}
use Rattle.bv_device.proofs.laws.what_is_told_goes_on.Goals as goal

pub returns : goal.returns
returns c = record {
  none = λ result plan new f. Follows-none result plan new f;
  all = with_events-some;
}
