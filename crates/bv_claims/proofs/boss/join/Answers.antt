use Rattle.std.proofs.Common.{arith}
use Rattle.bv_claims.proofs.Moves.{joins}
use Rattle.bv_claims.proofs.boss.join.Goals as goal

pub join_seat-requires : goal.join_seat-requires
join_seat-requires c =
    let t = c.args.claims.now in let m = c.args.boss.now in (
      c.requires.table.0,
      c.requires.table.1,
      c.requires.table.2,
      omega (arith, t.packed, t.range),
      rw (t.key) (joins _ _ m.me.0 _ c.args.other.me.0 c.requires.boss.0 c.requires.boss.1),
    )
