use Rattle.std.proofs.Common.{subst, arith}
use Rattle.bv_merkle.specs.Hasher.{Holds}
use Rattle.bv_merkle.proofs.CallerLemmas.{window-front, window-length}
use Rattle.bv_merkle.proofs.rooting.root.Goals as goal

pub loop-i-init : goal.loop-i-init
loop-i-init c = record { taken = c.new-hasher.ensures.taken; holds = c.new-hasher.ensures.holds }

pub loop-i-preserved : goal.loop-i-preserved
loop-i-preserved c = record {
  taken = omega (arith, c.window.ensures.taken, c.loop-i.invariant.taken, window-length c.args.bytes.now c.loop-i.i c.loop-i-test.true);
  holds = subst (Holds c.window.new.self) (window-front c.args.bytes.now c.loop-i.i)
      (c.window.ensures.holds _ c.loop-i.invariant.holds);
}
