use Rattle.std.proofs.Common.{arith}
use Rattle.bv_claims.proofs.Moves.{holds}
use Rattle.bv_claims.proofs.boss.hold_mark.Goals as goal

pub fetch_or-found-requires : goal.fetch_or-found-requires
fetch_or-found-requires c =
    let t = c.args.claims.now in let m = c.args.boss.now in (
      c.requires.table,
      omega (arith, t.packed, c.requires.block),
      rw (t.key) (holds _ _ m.id m.me c.args.block c.bit_of.result c.requires.boss c.requires.block.0 c.requires.block.1 c.requires.nobodys
          (omega (arith, c.requires.idle)) c.bit_of.ensures),
    )
