use Rattle.std.proofs.Common.{◌≡◌, None, rules}
use Rattle.bv_volume.proofs.Openings.{room_is}
use Rattle.bv_volume.proofs.volume.Volume.room.Goals as goal

pub room_of-requires : goal.room_of-requires
room_of-requires g c = record { legal = (c.self.inside.first, c.self.invariant.0.legal) }

pub returns : goal.returns
returns g c =
    let i = c.self.inside in
    let going : i.ledger.stopped ≡ None = search rules in
    rw (← c.self.view_is) (room_is i.history i.first i.ledger (g.S.Store.seen i.store) (g.S.Store.both i.store) c.self.invariant.0 going c.room.result (c.room.ensures going))
