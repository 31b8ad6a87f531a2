use Rattle.std.proofs.Common.{rules, ap}
use Rattle.bv_turn.proofs.Waiting.{looks}
use Rattle.bv_turn.proofs.turn.Turn.look.Goals as goal

pub load-serving-requires : goal.load-serving-requires
load-serving-requires g c =
    let m = c.args.share.now in let waits = c.requires.waits in
    (c.requires.this, search rules, looks g.T.Keeps.session _ _ g.T.Keeps.entries g.T.Keeps.basis _ m.seat.id m.seat.me waits.0 (ap (λ v. v.ticket) waits.2) (ap (λ v. v.taken) waits.2) waits.3)
