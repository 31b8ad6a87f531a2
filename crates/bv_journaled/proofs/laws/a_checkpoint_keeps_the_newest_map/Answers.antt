use Rattle.bv_journaled.proofs.CallLemmas.{checkpoint_stops, checkpoint_done}
use Rattle.bv_journaled.proofs.laws.a_checkpoint_keeps_the_newest_map.Goals as goal

pub returns : goal.returns
returns c = record {
  stops = λ g i next es more meta d a b k start number most. checkpoint_stops g i es more meta d a b k next start number most;
  done = λ g i next es more meta d a b k start number most. checkpoint_done g i es more meta d a b k next start number most;
}
