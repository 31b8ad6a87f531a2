use Rattle.std.proofs.Common.{ℕ, ◌≤◌, sym, subst, arith}
use Rattle.bv_claims.proofs.Moves.{splits}
use Rattle.bv_claims.proofs.boss.granted.Goals as goal

pub split_seat-requires : goal.split_seat-requires
split_seat-requires g c =
    let t = c.args.claims.now in let m = c.args.boss.now in (
      c.requires.table,
      omega (arith, t.packed, t.range),
      rw (t.key) (splits _ _ _ m.me.0 c.requires.boss.0 (subst (λ (k : ℕ). k ≤ m.me.0.room) (sym c.requires.need) c.requires.boss.1)),
    )
