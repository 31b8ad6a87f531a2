use Rattle.bv_recovery.proofs.OpenedLemmas.{may_recover}
use Rattle.bv_recovery.proofs.laws.a_scan_may_be_recovered.Goals as goal

pub returns : goal.returns
returns c = may_recover
