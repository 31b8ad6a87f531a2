use Rattle.std.proofs.Common.{◌≡◌, ℕ, ap, sym, subst}
use Rattle.bv_claims.specs.declared.rule.View.{View}
use Rattle.bv_claims.specs.Views.{after_join}
use Rattle.bv_claims.specs.Search.{HasSearched}
use Rattle.bv_claims.proofs.Bosses.{completed}
use Rattle.bv_claims.proofs.boss.complete.Goals as goal

pub returns-clause-completed : goal.returns-clause-completed
returns-clause-completed c =
    let v = c.args.boss.now.me.0 in
    let joined : c.join.new.boss.me.0 ≡ after_join v c.args.other.me.0 = ap (λ m. m.0) c.join.ensures.joined in
    let same : c.claim_range.new.seat.me.0 ≡ c.review.new.boss.me.0 = sym (ap (λ m. m.0) c.review.ensures.same) in
    let size : c.blocks-2.result ≡ c.args.claims.now.blocks = c.blocks-2.ensures in
    let s = subst (λ (x : (ℕ × View) × View). HasSearched 1 x.0.0 x.0.1 c.args.tally.now.gained.items x.1 c.claim_range.new.tally.gained.items)
    (λ i. ((size i, joined i), same i)) c.claim_range.ensures.searched in
    completed c.args.claims.now.blocks v c.args.other.me.0 _ _ _ _ c.args.claims.now.range.0 c.requires.boss.1 c.requires.boss.2 c.requires.other.1 c.requires.other.2 s c.review.ensures.reviewed
