use Rattle.std.proofs.Common.{◌<◌, refl, sym, ◌∙◌, arith}
use Rattle.bv_merkle.proofs.CloseLemmas.{climbed-zero, climbed-more, climbed-root, climbed-levels, climbed-end, root-empty, root-one, levels-none}
use Rattle.bv_merkle.proofs.hasher.RootHasher.close.Goals as goal

pub returns-then-self-eq0-clause-root : goal.returns-then-self-eq0-clause-root
returns-then-self-eq0-clause-root c = λ m held. root-empty c.args.self.now m _ held c.if-self-eq0.true c.block_digest.ensures

pub returns-then-self-eq0-clause-kept : goal.returns-then-self-eq0-clause-kept
returns-then-self-eq0-clause-kept c = λ m level held low. absurd (levels-none c.args.self.now m level held (omega (arith, c.if-self-eq0.true)) low)

pub returns-then-count-eq1-clause-root : goal.returns-then-count-eq1-clause-root
returns-then-count-eq1-clause-root c = λ m held. root-one c.args.self.now m _ held (sym c.div_ceil-count.ensures ∙ c.if-count-eq1.true) c.first_digest.ensures

pub returns-then-count-eq1-clause-kept : goal.returns-then-count-eq1-clause-kept
returns-then-count-eq1-clause-kept c = λ m level held low. absurd (levels-none c.args.self.now m level held (omega (arith, c.div_ceil-count.ensures, c.if-count-eq1.true)) low)

pub levels-init : goal.levels-init
levels-init c =
    let more : 1 < c.div_ceil-count.result =
    omega (arith, c.div_ceil-count.ensures, c.if-self-eq0.false, c.if-count-eq1.false) in
    record {
      shape = refl;
      many = more;
      few = omega (arith, c.div_ceil-count.ensures);
      climbed = λ m held. climbed-zero c.args.self.now m _ held c.div_ceil-count.ensures more;
    }

pub returns-then-count-le-DIGESTS-clause-root : goal.returns-then-count-le-DIGESTS-clause-root
returns-then-count-le-DIGESTS-clause-root c = λ m held.
    let climbed = c.levels.invariant.climbed m held in
    sym (climbed-root m c.levels.self c.close_level-above.new.self c.levels.level c.levels.count _ climbed
    c.if-count-le-DIGESTS.true (c.close_level-above.ensures.closes _ climbed.count_is climbed.stands))

pub returns-then-count-le-DIGESTS-clause-kept : goal.returns-then-count-le-DIGESTS-clause-kept
returns-then-count-le-DIGESTS-clause-kept c = λ m level held low.
    let climbed = c.levels.invariant.climbed m held in
    climbed-levels m c.levels.self c.close_level-above.new.self c.levels.level c.levels.count _ climbed
    c.if-count-le-DIGESTS.true (c.close_level-above.ensures.closes _ climbed.count_is climbed.stands)
    c.close_level-above.ensures.below level low

pub levels-preserved : goal.levels-preserved
levels-preserved c = record {
  shape = c.close_level-above.ensures.shape ∙ c.levels.invariant.shape;
  many = omega (arith, c.div_ceil-count-in-levels.ensures, c.if-count-le-DIGESTS.false);
  few = omega (arith, c.div_ceil-count-in-levels.ensures, c.levels.invariant.few);
  climbed = λ m held.
      let climbed = c.levels.invariant.climbed m held in
      climbed-more m c.levels.self c.close_level-above.new.self c.levels.level c.levels.count _ _ c.levels-test.true climbed
      c.if-count-le-DIGESTS.false c.div_ceil-count-in-levels.ensures
      (c.close_level-above.ensures.closes _ climbed.count_is climbed.stands) c.close_level-above.ensures.below;
}

-- the loop ends by a return: no size has a level with more digests than one above level 6
pub returns-clause-root : goal.returns-clause-root
returns-clause-root c = λ m held.
    absurd (climbed-end m c.args.self.now c.levels.self c.levels.level c.levels.count held (omega arith)
    (omega (arith, c.levels-test.false, c.levels.auto.level-end)) (c.levels.invariant.climbed m held))

pub returns-clause-kept : goal.returns-clause-kept
returns-clause-kept c = λ m level held low.
    absurd (climbed-end m c.args.self.now c.levels.self c.levels.level c.levels.count held (omega arith)
    (omega (arith, c.levels-test.false, c.levels.auto.level-end)) (c.levels.invariant.climbed m held))
