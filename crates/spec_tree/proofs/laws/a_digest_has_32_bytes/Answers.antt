use Rattle.spec_tree.proofs.TreeLemmas.{length-block_digest}
use Rattle.spec_tree.proofs.laws.a_digest_has_32_bytes.Goals as goal

pub returns : goal.returns
returns c = length-block_digest
