use Rattle.std.proofs.Common.{arith}
use Rattle.bv_claims.proofs.Moves.{reviews}
use Rattle.bv_claims.proofs.boss.review.Goals as goal

pub load-found-requires : goal.load-found-requires
load-found-requires c =
    let t = c.args.claims.now in let m = c.args.boss.now in (
      c.requires.table,
      omega (arith, t.packed, t.range),
      rw (t.key) (reviews _ _ m.id m.me c.requires.boss.0 c.requires.boss.1),
    )
