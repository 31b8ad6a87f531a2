use Rattle.std.proofs.Common.{arith, ◌∙◌}
use Rattle.std.proofs.lemmas.Grind.{common_steps}
use Rattle.bv_io.proofs.StreamLemmas.{GivesFront-more}
use Rattle.bv_io.proofs.giving.give_all.Goals as goal

pub loop-rest-preserved : goal.loop-rest-preserved
loop-rest-preserved g c =
    let given = c.in_ok-count.ensures.ok in
    record {
      given = GivesFront-more _ _ _ _ _ _ c.in_ok-count.count c.loop-rest.invariant.given given.appended (grind (arith, common_steps));
      faults = c.in_ok-count.ensures.faults.kept ∙ c.loop-rest.invariant.faults;
    }
