use Rattle.std.proofs.Common.{◌≡◌, sym, ap, subst, arith}
use Rattle.std.proofs.lemmas.Bool.Decides.{nat_tests}
use Rattle.bv_claims.specs.Search.{HasSearched}
use Rattle.bv_claims.specs.declared.rule.View.{View}
use Rattle.bv_claims.proofs.Moves.{looks}
use Rattle.bv_claims.proofs.Searches.{searched_full}
use Rattle.bv_claims.proofs.claims.Claims.look_full.Goals as goal

pub load-found-requires : goal.load-found-requires
load-found-requires c =
    let t = c.args.self.now in let m = c.args.seat.now in (
      c.requires.table.0,
      omega (arith, t.packed, c.requires.blocks),
      rw (t.key) (looks _ _ m.id m.me _),
    )

pub returns-clause-full : goal.returns-clause-full
returns-clause-full c = λ full.
    let ones : c.load-found.result ≡ 18446744073709551615 = grind (arith, nat_tests) in
    let is = c.load-found.ensures.2.1 ones in (
      ap (λ (v : View). v.budget) is,
      λ had. subst (λ (v : View). HasSearched c.args.from c.args.to c.args.seat.now.me.0 had v had) (sym is)
          (searched_full c.args.from c.args.to _ c.args.seat.now.me.0 had c.requires.one_word),
    )
