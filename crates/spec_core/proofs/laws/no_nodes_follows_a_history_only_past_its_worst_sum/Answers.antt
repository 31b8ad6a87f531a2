use Rattle.spec_core.proofs.Nodes.{worst_sum_is_passed}
use Rattle.spec_core.proofs.laws.no_nodes_follows_a_history_only_past_its_worst_sum.Goals as goal

pub returns : goal.returns
returns c = worst_sum_is_passed
