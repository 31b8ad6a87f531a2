use Rattle.std.proofs.Common.{◌∙◌, sym, subst, arith, List, ℕ}
use Rattle.bv_claims.specs.Blocks.{CoverAllFrom1}
use Rattle.bv_claims.proofs.Searches.{cyclic_range, cyclic_once, searched_round, round_order, listed_is}
use Rattle.bv_claims.proofs.claims.Claims.claim.Goals as goal

pub returns-clause-range : goal.returns-clause-range
returns-clause-range c =
    cyclic_range c.args.grant.start c.args.self.now.blocks _ c.args.grant.begins c.requires.table.start
    (round_order _ _ _ _ _ _ _ _ c.args.grant.none_yet.0 c.claim_range.ensures.searched c.claim_range-2.ensures.searched)

pub returns-clause-distinct : goal.returns-clause-distinct
returns-clause-distinct c =
    cyclic_once c.args.grant.start c.args.self.now.blocks _
    (round_order _ _ _ _ _ _ _ _ c.args.grant.none_yet.0 c.claim_range.ensures.searched c.claim_range-2.ensures.searched)

pub returns-clause-left : goal.returns-clause-left
returns-clause-left c = λ some_left.
    let a = c.claim_range.ensures.searched in let b = c.claim_range-2.ensures.searched in
    let same = listed_is _ _ _ _ _ _ _ _ _ _ (c.args.grant.none_yet.0 ∙ sym c.args.grant.none_yet.1) a b in
    subst (λ (gains : List ℕ). CoverAllFrom1 c.args.self.now.blocks gains c.claim_range-2.new.seat.me.0.saw) (sym same)
    (searched_round _ _ _ _ _ _ _ _ a b (omega (arith, c.claim_range-2.ensures.tied)))
