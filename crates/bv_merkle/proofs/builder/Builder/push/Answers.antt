use Rattle.std.proofs.Common.{◌-◌, drop, length-take, length-drop, length, subst, ◌∙◌, arith}
use Rattle.bv_merkle.specs.Builder.{Builds}
use Rattle.bv_merkle.proofs.BuilderLemmas.{push-more}
use Rattle.bv_merkle.proofs.builder.Builder.push.Goals as goal

pub loop-at-preserved : goal.loop-at-preserved
loop-at-preserved c = record {
  within = omega (arith, c.loop-at.invariant.within, c.add-at.ensures.within, length-take (length c.args.bytes.now - c.loop-at.at) (drop c.loop-at.at c.args.bytes.now), length-drop c.loop-at.at c.args.bytes.now);
  size = c.add-at.ensures.size ∙ c.loop-at.invariant.size;
  built = omega (arith, c.add-at.ensures.built, c.loop-at.invariant.built);
  builds = λ m b. subst (Builds c.add-at.new.self)
      (push-more m c.args.bytes.now c.loop-at.at c.add-at.result c.loop-at.invariant.within c.add-at.ensures.within)
      (c.add-at.ensures.builds _ (c.loop-at.invariant.builds m b));
}
