use Rattle.spec_image.proofs.CountLemmas.{blob_count, node_count}
use Rattle.spec_image.proofs.BitLemmas.{block_count}
use Rattle.spec_image.proofs.laws.the_counts_are_what_is_in_use.Goals as goal

pub returns : goal.returns
returns c = λ m w some le. record {
  blobs = blob_count m w;
  used_blocks = block_count m w some le;
  used_nodes = node_count m w;
}
