use Rattle.std.proofs.Common.{refl}
use Rattle.bv_volume.proofs.Fetches.{held_is, map_is, none_held}
use Rattle.bv_volume.proofs.volume.Volume.fetch.Goals as goal

pub fetch_held-requires-clause-held : goal.fetch_held-requires-clause-held
fetch_held-requires-clause-held g c =
    let i = c.self.inside in
    let some = rw (c.place.ensures) at c.in-Some.ensures.some in
    rw (← c.self.view_is) (held_is i.history i.first i.ledger i.space (g.S.Store.seen i.store) (g.S.Store.both i.store) (g.S.Store.held i.store) c.args.who c.args.slot c.self.invariant.0 c.self.invariant.1 c.in-Some.root some.0)

pub fetch_held-requires-clause-blob : goal.fetch_held-requires-clause-blob
fetch_held-requires-clause-blob g c =
    let i = c.self.inside in
    rw (← c.self.view_is) (map_is i.history i.first i.ledger i.space (g.S.Store.seen i.store) (g.S.Store.both i.store) (g.S.Store.held i.store) c.args.who c.args.slot c.self.invariant.0 c.self.invariant.1 c.in-Some.root c.in-Some.blob c.in-Some.ensures.some.1)

pub fetch_held-requires-clause-window : goal.fetch_held-requires-clause-window
fetch_held-requires-clause-window g c =
    let i = c.self.inside in
    let some = rw (c.place.ensures) at c.in-Some.ensures.some in
    let holds = held_is i.history i.first i.ledger i.space (g.S.Store.seen i.store) (g.S.Store.both i.store) (g.S.Store.held i.store) c.args.who c.args.slot c.self.invariant.0 c.self.invariant.1 c.in-Some.root some.0 in
    let has = map_is i.history i.first i.ledger i.space (g.S.Store.seen i.store) (g.S.Store.both i.store) (g.S.Store.held i.store) c.args.who c.args.slot c.self.invariant.0 c.self.invariant.1 c.in-Some.root c.in-Some.blob some.1 in
    let asked = rw (← c.self.view_is) at c.requires.window in
    rw (holds, has) at asked

pub fetch_nothing-requires-clause-empty : goal.fetch_nothing-requires-clause-empty
fetch_nothing-requires-clause-empty g c =
    let i = c.self.inside in
    let none = rw (c.place.ensures) at (c.in-None.ensures.none refl) in
    rw (← c.self.view_is) (none_held i.history i.first i.ledger i.space (g.S.Store.seen i.store) (g.S.Store.both i.store) (g.S.Store.held i.store) c.args.who c.args.slot c.self.invariant.0 c.self.invariant.1 none)
