use Rattle.std.proofs.Common.{◌<◌, refl, sym, ◌∙◌, arith}
use Rattle.std.proofs.lemmas.Nat.Bits.{shr_and_one}
use Rattle.bv_claims.proofs.Moves.{claims}
use Rattle.bv_claims.proofs.Searches.{searched_try}
use Rattle.bv_claims.proofs.claims.Claims.try_block.Goals as goal

pub fetch_or-found-requires : goal.fetch_or-found-requires
fetch_or-found-requires c =
    let t = c.args.self.now in let m = c.args.seat.now in
    let some_left : 0 < m.me.0.budget = omega (arith, c.requires.budget) in (
      c.requires.table.0,
      omega (arith, t.packed, c.requires.block),
      rw (t.key) (claims _ _ m.id m.me c.args.block c.bit_of.result c.requires.block.0 c.requires.block.1 some_left c.bit_of.ensures),
    )

pub returns-then-found-block-eq0-clause-searched :
    goal.returns-then-found-block-eq0-clause-searched
returns-then-found-block-eq0-clause-searched c =
    let some_left : 0 < c.args.seat.now.me.0.budget = omega (arith, c.requires.budget) in
    searched_try c.args.block c.fetch_or-found.result c.args.seat.now.me c.fetch_or-found.new.seat.me c.bit_of.result c.args.self.now.table.shared.table_id.slots
    _ _ some_left c.bit_of.ensures c.fetch_or-found.ensures.2 (λ _. c.add.ensures.gained)
    (λ taken. absurd (taken (sym (shr_and_one c.fetch_or-found.result _) ∙ c.if-found-block-eq0.true)))

pub returns-else-found-block-eq0-clause-searched :
    goal.returns-else-found-block-eq0-clause-searched
returns-else-found-block-eq0-clause-searched c =
    let some_left : 0 < c.args.seat.now.me.0.budget = omega (arith, c.requires.budget) in
    searched_try c.args.block c.fetch_or-found.result c.args.seat.now.me c.fetch_or-found.new.seat.me c.bit_of.result c.args.self.now.table.shared.table_id.slots
    _ _ some_left c.bit_of.ensures c.fetch_or-found.ensures.2
    (λ free. absurd (c.if-found-block-eq0.false (shr_and_one c.fetch_or-found.result _ ∙ free))) (λ _. refl)
