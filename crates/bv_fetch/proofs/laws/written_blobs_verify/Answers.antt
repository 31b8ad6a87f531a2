use Rattle.bv_fetch.proofs.Written.{written_blobs_verify}
use Rattle.bv_fetch.proofs.laws.written_blobs_verify.Goals as goal

pub returns : goal.returns
returns c = written_blobs_verify
