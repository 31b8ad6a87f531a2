use Rattle.std.proofs.Common.{ℕ, None, sym, subst}
use Rattle.std.specs.Prelude.{Contains, IfSome}
use Rattle.bv_journaled.specs.Standing.{Standing, IsHeld, Both}
use Rattle.bv_journaled.proofs.RowLemmas.{both_planned}
use Rattle.bv_journaled.proofs.keeping.JournaledStoreStore.plan.Goals as goal

pub prepare-requires-clause-free : goal.prepare-requires-clause-free
prepare-requires-clause-free g c =
    subst (λ (n : Standing). IfSome c.args.published (λ p. (b : ℕ) → Contains p.blocks.items b → ¬ IsHeld n b))
    (sym c.forget.ensures) c.requires.free

pub returns-in_err-prepared-clause-both : goal.returns-in_err-prepared-clause-both
returns-in_err-prepared-clause-both g c a b both =
    subst (λ (n : Standing). Both n a b) (sym c.forget.ensures) (both_planned c.args.self.now None a b both)

pub returns-in_err-prepared-clause-held : goal.returns-in_err-prepared-clause-held
returns-in_err-prepared-clause-held g c b held = subst (λ (n : Standing). IsHeld n b) c.forget.ensures held

pub returns-clause-both : goal.returns-clause-both
returns-clause-both g c a b both =
    let first : Both c.forget.new.self a b =
    subst (λ (n : Standing). Both n a b) (sym c.forget.ensures) (both_planned c.args.self.now None a b both) in
    subst (λ (n : Standing). Both n a b) (sym c.remember.ensures) (both_planned c.forget.new.self _ a b first)

pub returns-clause-held : goal.returns-clause-held
returns-clause-held g c b held =
    subst (λ (n : Standing). IsHeld n b) c.forget.ensures (subst (λ (n : Standing). IsHeld n b) c.remember.ensures held)
