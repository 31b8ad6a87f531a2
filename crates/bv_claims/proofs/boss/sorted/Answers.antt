use Rattle.std.proofs.lemmas.List.Sorted.{IsNonDecreasingBy-from_sort}
use Rattle.bv_claims.proofs.Bosses.{same_blocks}
use Rattle.bv_claims.proofs.boss.sorted.Goals as goal

pub returns-clause-same : goal.returns-clause-same
returns-clause-same c = same_blocks c.args.tally.gained.items c.sort_unstable.new.self.items c.sort_unstable.ensures.permutation

pub returns-clause-sorted : goal.returns-clause-sorted
returns-clause-sorted c = IsNonDecreasingBy-from_sort (λ x. x) c.sort_unstable.new.self.items c.sort_unstable.ensures.sorted
