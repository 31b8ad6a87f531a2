use Rattle.bv_claims.proofs.CallerLemmas.{part_left, part_freed}
use Rattle.tests_parts.proofs.claims.free_both.Goals as goal

pub free-requires-clause-owned : goal.free-requires-clause-owned
free-requires-clause-owned c = part_left c.args.first.now c.args.second.now _ c.requires.owned

pub free-requires-2-clause-owned : goal.free-requires-2-clause-owned
free-requires-2-clause-owned c = part_freed c.args.first.now c.args.second.now _ _ c.requires.owned c.free.ensures.owned
