use Rattle.bv_journaled.proofs.CallLemmas.{put_stops, put_done}
use Rattle.bv_journaled.proofs.laws.a_put_keeps_both_maps.Goals as goal

pub returns : goal.returns
returns c = record {
  stops = λ g i es more meta d a b at bytes k old new. put_stops g i es more meta d a b k at bytes old new;
  done = λ g i es more meta d a b at bytes k old new. put_done g i es more meta d a b k at bytes old new;
}
