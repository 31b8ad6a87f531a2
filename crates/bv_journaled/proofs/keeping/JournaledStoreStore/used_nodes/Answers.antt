use Rattle.spec_meta.specs.Blocks.{metadata_at}
use Rattle.bv_journaled.proofs.NodeLemmas.{few_nodes}
use Rattle.bv_journaled.proofs.keeping.JournaledStoreStore.used_nodes.Goals as goal

pub returns-clause-few : goal.returns-clause-few
returns-clause-few g c =
    let s = c.args.self.now in
    few_nodes (metadata_at s.meta.geometry s.meta.blocks) c.used.ensures.standing.formed
