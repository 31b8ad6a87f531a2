use Rattle.std.proofs.Common.{rules, arith, ap, ◌≡◌, length}
use Rattle.bv_turn.proofs.ViewLemmas.{only}
use Rattle.bv_turn.proofs.Waiting.{draws_expected}
use Rattle.bv_turn.proofs.turn.Turn.draw_now.Goals as goal

pub compare_exchange-found-requires : goal.compare_exchange-found-requires
compare_exchange-found-requires g c =
    let m = c.args.share.now in let idle = c.requires.idle in
    let one : length m.seat.me.0.parts ≡ 1 = ap length (only m.seat.me.0.parts m.session m.one).1 in
    (c.requires.this, search rules, draws_expected g.T.Keeps.session _ _ g.T.Keeps.entries g.T.Keeps.basis _ m.seat.id m.seat.me _ _ (search rules) idle.0 idle.1 (omega arith))
