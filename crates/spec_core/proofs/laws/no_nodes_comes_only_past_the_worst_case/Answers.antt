use Rattle.spec_core.proofs.Nodes.{no_nodes_is_past_worst}
use Rattle.spec_core.proofs.laws.no_nodes_comes_only_past_the_worst_case.Goals as goal

pub returns : goal.returns
returns c = no_nodes_is_past_worst
