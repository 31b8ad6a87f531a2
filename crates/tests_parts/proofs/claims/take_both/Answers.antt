use Rattle.bv_claims.proofs.CallerLemmas.{taken_is_part, part-append}
use Rattle.tests_parts.proofs.claims.take_both.Goals as goal

pub returns-clause-owned : goal.returns-clause-owned
returns-clause-owned c =
    part-append _ _ _ _ (taken_is_part _ _ _ c.take-one.ensures.owned) c.take-other.ensures.owned
