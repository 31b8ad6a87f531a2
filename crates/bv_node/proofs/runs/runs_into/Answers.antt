use Rattle.bv_node.proofs.RunLemmas.{fewest_of}
use Rattle.bv_node.proofs.runs.runs_into.Goals as goal

pub returns-clause-fewest : goal.returns-clause-fewest
returns-clause-fewest c =
    fewest_of c.args.blocks.now c.fill.new.into.items c.fill.ensures
