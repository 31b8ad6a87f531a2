use Rattle.bv_journaled.proofs.PurgingLemmas.{purges_go}
use Rattle.bv_journaled.proofs.LookAfterLemmas.{next_purge}
use Rattle.bv_journaled.proofs.opening.purges_of_roots_are_those_of_the_log.Goals as goal

pub returns : goal.returns
returns c = record {
  fit = λ m roots formed. (purges_go m roots formed).fit;
  logged = λ m roots formed. (purges_go m roots formed).logged;
  placed = λ m roots formed. (purges_go m roots formed).placed;
  nodes = λ m roots formed. (purges_go m roots formed).nodes;
  next = next_purge;
}
