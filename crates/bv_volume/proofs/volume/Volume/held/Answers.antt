use Rattle.std.proofs.Common.{refl}
use Rattle.bv_volume.proofs.Fetches.{held_is, map_is, none_held}
use Rattle.bv_volume.proofs.volume.Volume.held.Goals as goal

pub returns-in-Some-clause-some : goal.returns-in-Some-clause-some
returns-in-Some-clause-some g c =
    let i = c.self.inside in
    let some = rw (c.place.ensures) at c.in-Some.ensures.some in
    rw (← c.self.view_is) (record {
      holds = held_is i.history i.first i.ledger i.space (g.S.Store.seen i.store) (g.S.Store.both i.store) (g.S.Store.held i.store) c.args.who c.args.slot c.self.invariant.0 c.self.invariant.1 c.in-Some.root some.0;
      blob = c.in-Some.blob;
      has = map_is i.history i.first i.ledger i.space (g.S.Store.seen i.store) (g.S.Store.both i.store) (g.S.Store.held i.store) c.args.who c.args.slot c.self.invariant.0 c.self.invariant.1 c.in-Some.root c.in-Some.blob some.1;
      size_is = refl;
    })

pub returns-in-None-clause-none : goal.returns-in-None-clause-none
returns-in-None-clause-none g c =
    let i = c.self.inside in
    let none = rw (c.place.ensures) at (c.in-None.ensures.none refl) in
    λ is. rw (← c.self.view_is) (none_held i.history i.first i.ledger i.space (g.S.Store.seen i.store) (g.S.Store.both i.store) (g.S.Store.held i.store) c.args.who c.args.slot c.self.invariant.0 c.self.invariant.1 none)
