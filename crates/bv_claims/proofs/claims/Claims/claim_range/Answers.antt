use Rattle.std.proofs.Common.{◌∙◌, arith}
use Rattle.bv_claims.proofs.Searches.{searched_none, searched_both, searched_spent}
use Rattle.bv_claims.proofs.claims.Claims.claim_range.Goals as goal

pub loop-next-preserved : goal.loop-next-preserved
loop-next-preserved c =
    let i = c.loop-next.invariant in record {
      table = c.claim_in_word.ensures.table.0 ∙ i.table;
      empty = c.claim_in_word.ensures.table.1;
      range = (omega arith, omega arith);
      tied = c.claim_in_word.ensures.tied;
      searched = searched_both c.args.from c.loop-next.next _ _ _ _ _ _ _ (omega arith) (omega arith) i.searched c.claim_in_word.ensures.searched;
    }

pub returns-else-tally-gt0-clause-searched : goal.returns-else-tally-gt0-clause-searched
returns-else-tally-gt0-clause-searched c =
    let i = c.loop-next.invariant in
    searched_spent c.args.from c.loop-next.next c.args.to _ _ _ _ (omega arith) (omega arith) (omega (arith, i.tied)) i.searched

pub returns-after-loop-next-clause-searched : goal.returns-after-loop-next-clause-searched
returns-after-loop-next-clause-searched c =
    let i = c.loop-next.invariant in
    searched_both c.args.from c.loop-next.next c.args.to _ _ _ _ _ _ (omega arith) (omega arith) i.searched (searched_none _ _ _ _ (λ _. omega arith))
