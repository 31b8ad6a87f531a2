use Rattle.spec_laws.proofs.NodeLemmas.{one_chain}
use Rattle.spec_laws.proofs.laws.a_node_stands_in_one_chain.Goals as goal

pub returns : goal.returns
returns c = one_chain
