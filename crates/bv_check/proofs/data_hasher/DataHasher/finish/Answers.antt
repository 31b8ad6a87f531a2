use Rattle.std.proofs.Common.{◌≡◌, ◌∙◌, ap, sym, arith}
use Rattle.spec_tree.specs.Tree.{root_of}
use Rattle.bv_merkle.specs.Hasher.{taken}
use Rattle.bv_check.proofs.HashLemmas.{all_waits}
use Rattle.bv_check.proofs.data_hasher.DataHasher.finish.Goals as goal

pub returns-then-self-clause-root : goal.returns-then-self-clause-root
returns-then-self-clause-root c =
    let h = c.args.self.now in
    let none : taken h.hasher ≡ 0 = omega (arith, c.requires.sum, c.if-self.true) in
    λ blocks t. c.last_of.ensures ∙ ap root_of (sym (all_waits h blocks t none))
