use Rattle.spec_image.proofs.SampleNodeLemmas.{chain_reads}
use Rattle.spec_image.proofs.examples.a_chain_gives_its_extents_in_order.Goals as goal

pub returns : goal.returns
returns c = chain_reads
