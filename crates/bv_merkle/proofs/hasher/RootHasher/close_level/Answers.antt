use Rattle.std.proofs.Common.{◌+◌, ◌-◌, arith}
use Rattle.bv_merkle.specs.Levels.{all_blocks, whole_above}
use Rattle.bv_merkle.proofs.StandsLemmas.{left}
use Rattle.bv_merkle.proofs.CloseLemmas.{closes-whole, closes-part, kept-part, above-index}
use Rattle.bv_merkle.proofs.hasher.RootHasher.close_level.Goals as goal

pub returns-else-count-ne0-clause-closes : goal.returns-else-count-ne0-clause-closes
returns-else-count-ne0-clause-closes c = λ xs n s.
    closes-whole c.args.self.now c.args.level c.args.count xs c.digest_above-above.result
    c.requires.level c.requires.some n c.if-count-ne0.false s c.digest_above-above.ensures

-- no level is above the highest
pub returns-else-level-lt-LEVELS-clause-closes : goal.returns-else-level-lt-LEVELS-clause-closes
returns-else-level-lt-LEVELS-clause-closes c = λ xs n s.
    let kept = kept-part c.args.self.now c.keep.new.self c.args.level c.args.count xs
    c.requires.level c.requires.some n c.if-count-ne0.true c.keep.ensures s in
    closes-part c.args.self.now c.keep.new.self c.args.level c.args.count xs c.digest_above-above.result
    c.requires.level c.requires.some n c.if-count-ne0.true s c.digest_above-above.ensures kept.0
    (left c.keep.new.self 0 (6 - c.args.level) (c.args.level + 1) _ (omega arith) tt)

pub returns-then-level-lt-LEVELS-clause-closes : goal.returns-then-level-lt-LEVELS-clause-closes
returns-then-level-lt-LEVELS-clause-closes c = λ xs n s.
    let kept = kept-part c.args.self.now c.keep.new.self c.args.level c.args.count xs
    c.requires.level c.requires.some n c.if-count-ne0.true c.keep.ensures s in
    closes-part c.args.self.now c.place.new.self c.args.level c.args.count xs c.digest_above-above.result
    c.requires.level c.requires.some n c.if-count-ne0.true s c.digest_above-above.ensures
    (c.place.ensures.kept c.args.level (all_blocks xs) (omega arith) kept.0)
    (left c.place.new.self (7 - (c.args.level + 1)) (6 - c.args.level) (c.args.level + 1) _ (omega arith)
    (c.place.ensures.stands (whole_above (c.args.level + 1) xs)
    (above-index (c.args.level + 1) c.args.count xs n c.if-count-ne0.true)
    (left c.keep.new.self (6 - c.args.level) (7 - (c.args.level + 1)) (c.args.level + 1) _ (omega arith) kept.1)))
