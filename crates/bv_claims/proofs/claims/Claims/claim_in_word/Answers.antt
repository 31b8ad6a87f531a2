use Rattle.std.proofs.Common.{◌∙◌, subst, arith}
use Rattle.bv_claims.specs.Search.{HasSearched}
use Rattle.bv_claims.specs.declared.rule.View.{View}
use Rattle.bv_claims.proofs.Searches.{searched_both, searched_spent}
use Rattle.bv_claims.proofs.claims.Claims.claim_in_word.Goals as goal

pub returns-then-tally-eq0-clause-searched : goal.returns-then-tally-eq0-clause-searched
returns-then-tally-eq0-clause-searched c =
    let i = c.loop-block.invariant in
    subst (λ (v : View). HasSearched c.args.from c.args.to v c.args.tally.now.gained.items c.loop-block.seat.me.0 c.loop-block.tally.gained.items) (c.look_full.ensures.open c.if-look_full.false)
    (searched_spent c.args.from c.loop-block.block c.args.to _ _ _ _ (omega arith) (omega arith) (omega (arith, i.tied)) i.searched)

pub loop-block-preserved : goal.loop-block-preserved
loop-block-preserved c =
    let i = c.loop-block.invariant in record {
      table = c.try_block.ensures.table.0 ∙ i.table;
      empty = c.try_block.ensures.table.1;
      tied = c.try_block.ensures.tied;
      searched = searched_both c.args.from c.loop-block.block _ _ _ _ _ _ _ (omega arith) (omega arith) i.searched c.try_block.ensures.searched;
    }
