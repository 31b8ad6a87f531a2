use Rattle.bv_journaled.proofs.RecoveryLemmas.{recovered_kept}
use Rattle.bv_journaled.proofs.opening.a_recovery_keeps_each_blob.Goals as goal

pub returns : goal.returns
returns c = recovered_kept
