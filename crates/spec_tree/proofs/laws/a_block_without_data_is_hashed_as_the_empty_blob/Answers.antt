use Rattle.spec_tree.proofs.TreeLemmas.{block_digest-none}
use Rattle.spec_tree.proofs.laws.a_block_without_data_is_hashed_as_the_empty_blob.Goals as goal

pub returns : goal.returns
returns c = block_digest-none
