use Rattle.std.proofs.Common.{◌≡◌, ℕ, ◌+◌, ◌++◌, length, subst, refl, ap, ◌∙◌, arith}
use Rattle.bv_merkle.specs.Levels.{data_digests}
use Rattle.bv_merkle.specs.Hasher.{Stands}
use Rattle.spec_tree.specs.Tree.{data_blocks}
use Rattle.bv_merkle.proofs.StandsLemmas.{stands-taken}
use Rattle.bv_merkle.proofs.WindowLemmas.{digests_from, window-begins, window-index, window-more, window-ends}
use Rattle.bv_merkle.proofs.hasher.RootHasher.window.Goals as goal

pub loop-i-init : goal.loop-i-init
loop-i-init c = record {
  shape = refl;
  taken = refl;
  stands = λ m held. window-begins c.args.self.now m held;
}

pub loop-i-preserved : goal.loop-i-preserved
loop-i-preserved c = record {
  shape = c.place.ensures.shape ∙ c.loop-i.invariant.shape;
  taken = c.place.ensures.taken ∙ c.loop-i.invariant.taken;
  stands = λ m held.
      window-more c.args.self.now c.place.new.self m c.args.bytes.now c.window_digests-digests.result _ _ c.loop-i.i _
      c.window_digests-digests.ensures (omega (arith, c.loop-i-test.true, c.div_ceil-i-end.ensures)) refl
      (c.place.ensures.stands (data_digests m ++ digests_from c.args.self.now.taken c.args.bytes.now c.loop-i.i)
      (window-index c.args.self.now m c.args.bytes.now c.loop-i.i held c.requires.whole)
      (c.loop-i.invariant.stands m held));
}

pub returns-clause-holds : goal.returns-clause-holds
returns-clause-holds c = λ m held.
    let all : c.loop-i.i ≡ data_blocks (length c.args.bytes.now) =
    omega (arith, c.loop-i-test.false, c.loop-i.auto.i-end, c.div_ceil-i-end.ensures) in
    let stands : Stands c.loop-i.self 7 0
    (data_digests m ++ digests_from c.args.self.now.taken c.args.bytes.now (data_blocks (length c.args.bytes.now))) =
    subst (λ (n : ℕ). Stands c.loop-i.self 7 0 (data_digests m ++ digests_from c.args.self.now.taken c.args.bytes.now n))
    all (c.loop-i.invariant.stands m held) in
    window-ends c.args.self.now _ m c.args.bytes.now held c.requires.whole
    (ap (λ (n : ℕ). n + length c.args.bytes.now) c.loop-i.invariant.taken)
    (stands-taken c.loop-i.self (c.loop-i.self.taken + length c.args.bytes.now) 7 0 _ stands)
