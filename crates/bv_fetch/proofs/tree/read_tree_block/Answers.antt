use Rattle.std.proofs.Common.{◌∙◌, ne_eqb}
use Rattle.bv_fetch.proofs.Amongs.{tree-one}
use Rattle.bv_fetch.proofs.tree.read_tree_block.Goals as goal

pub read_padded-requires-clause-count : goal.read_padded-requires-clause-count
read_padded-requires-clause-count g c = c.requires.count ∙ tree-one c.args.version c.args.size (ne_eqb c.args.version 2 (λ is. c.if-version-eq2.false is))
