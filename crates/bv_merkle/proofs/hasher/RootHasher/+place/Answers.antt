use Rattle.std.proofs.Common.{ℕ, ◌+◌, ◌/◌, ap, ◌∙◌, arith}
use Rattle.bv_merkle.specs.Levels.{whole_above}
use Rattle.bv_merkle.proofs.LevelsLemmas.{length-whole_above}
use Rattle.bv_merkle.proofs.StandsLemmas.{place-part, place-whole, place-top, place-below, place-above, place-kept-below, left}
use Rattle.bv_merkle.proofs.hasher.RootHasher.+place.Goals as goal

pub returns-else-index-eq0-clause-stands : goal.returns-else-index-eq0-clause-stands
returns-else-index-eq0-clause-stands t c = λ xs n s.
    place-part c.args.self.now c.put.new.self c.args.level c.args.index c.args.digest xs
    c.put.ensures.put c.requires.level c.put.ensures.levels c.put.ensures.digest c.if-index-eq0.false n s

pub returns-else-level-lt-LEVELS-clause-stands : goal.returns-else-level-lt-LEVELS-clause-stands
returns-else-level-lt-LEVELS-clause-stands t c = λ xs n s.
    let whole = place-whole c.args.self.now c.put.new.self c.keep.new.self c.args.level c.args.index c.args.digest xs
    c.put.ensures.put c.keep.ensures c.requires.level c.put.ensures.levels c.put.ensures.digest c.if-index-eq0.true n s in
    place-top c.keep.new.self c.args.level _ c.requires.level c.if-level-lt-LEVELS.false whole.0

pub returns-then-level-lt-LEVELS-clause-below : goal.returns-then-level-lt-LEVELS-clause-below
returns-then-level-lt-LEVELS-clause-below t c = λ k xs low at.
    c.place.ensures.below k xs (omega (arith, low))
    (place-below c.args.self.now c.put.new.self c.keep.new.self c.args.level c.args.index k c.args.digest xs
    c.put.ensures.put c.keep.ensures low at)

pub returns-then-level-lt-LEVELS-clause-stands : goal.returns-then-level-lt-LEVELS-clause-stands
returns-then-level-lt-LEVELS-clause-stands t c = λ xs n s.
    let whole = place-whole c.args.self.now c.put.new.self c.keep.new.self c.args.level c.args.index c.args.digest xs
    c.put.ensures.put c.keep.ensures c.requires.level c.put.ensures.levels c.put.ensures.digest c.if-index-eq0.true n s in
    place-above c.keep.new.self c.place.new.self c.args.level c.args.index c.args.digest c.digest_above-above.result xs
    c.requires.level c.if-index-eq0.true n whole.0 c.digest_above-above.ensures
    (c.place.ensures.below c.args.level _ (omega arith) whole.0)
    (c.place.ensures.stands (whole_above (c.args.level + 1) xs)
    (length-whole_above (c.args.level + 1) xs ∙ ap (λ (i : ℕ). i / 256) n)
    (left c.keep.new.self _ _ (c.args.level + 1) _ (omega arith) whole.1))

pub returns-then-level-lt-LEVELS-clause-kept : goal.returns-then-level-lt-LEVELS-clause-kept
returns-then-level-lt-LEVELS-clause-kept t c = λ k blocks low keeps.
    c.place.ensures.kept k blocks (omega (arith, low))
    (place-kept-below c.args.self.now c.put.new.self c.keep.new.self c.args.level c.args.index k c.args.digest blocks
    c.put.ensures.put c.keep.ensures low keeps)
