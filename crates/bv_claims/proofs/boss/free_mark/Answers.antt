use Rattle.std.proofs.Common.{arith}
use Rattle.bv_claims.proofs.Moves.{frees}
use Rattle.bv_claims.proofs.boss.free_mark.Goals as goal

pub fetch_and-found-requires : goal.fetch_and-found-requires
fetch_and-found-requires c =
    let t = c.args.claims.now in let m = c.args.boss.now in (
      c.requires.table,
      omega (arith, t.packed, c.requires.block),
      rw (t.key) (frees _ _ m.id m.me c.args.block _ c.requires.boss c.requires.block.0 c.requires.block.1 c.requires.owned (omega (arith, c.bit_of.ensures, c.bit_of.type_inv))),
    )
