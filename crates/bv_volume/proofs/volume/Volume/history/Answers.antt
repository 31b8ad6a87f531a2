use Rattle.std.proofs.Common.{ap, sym, subst}
use Rattle.spec_core.specs.State.{State}
use Rattle.spec_rest.specs.Rest.{Map}
use Rattle.bv_volume.specs.Sound.{PublishedAreSound}
use Rattle.bv_volume.specs.Kept.{seen_of}
use Rattle.bv_volume.proofs.Shown.{blobs_now}
use Rattle.bv_volume.proofs.SoundNow.{published_now, sound_found}
use Rattle.bv_volume.proofs.volume.Volume.history.Goals as goal

pub returns-clause-calls : goal.returns-clause-calls
returns-clause-calls g c = rw (← c.self.view_is) c.self.invariant.0.calls

pub returns-clause-counted : goal.returns-clause-counted
returns-clause-counted g c = rw (← c.self.view_is) (g.met.S.Store.counted c.self.inside.store)

pub returns-clause-puts : goal.returns-clause-puts
returns-clause-puts g c = rw (← c.self.view_is) c.self.invariant.2.puts

pub returns-clause-located : goal.returns-clause-located
returns-clause-located g c = rw (← c.self.view_is) c.self.invariant.2.located

pub returns-clause-shown : goal.returns-clause-shown
returns-clause-shown g c =
    let i = c.self.inside in
    rw (← c.self.view_is) (blobs_now i.history i.first i.ledger i.space (g.S.Store.seen i.store) (g.S.Store.both i.store) c.self.invariant.0 (g.met.S.Store.shown i.store))

pub returns-clause-sound : goal.returns-clause-sound
returns-clause-sound g c =
    let i = c.self.inside in
    rw (← c.self.view_is) (subst (λ (m : Map). PublishedAreSound i.history.history m (g.S.Store.seen i.store)) (sym (ap (λ (x : State). x.map) c.self.invariant.0.state)) c.self.invariant.3)

pub returns-clause-contents : goal.returns-clause-contents
returns-clause-contents g c = rw (← c.self.view_is) c.self.invariant.2.contents

pub returns-clause-published : goal.returns-clause-published
returns-clause-published g c =
    let i = c.self.inside in
    let s = g.S.Store.seen i.store in
    rw (← c.self.view_is)
    (published_now (seen_of i.history i.first i.ledger i.space s)
    (blobs_now i.history i.first i.ledger i.space s (g.S.Store.both i.store) c.self.invariant.0 (g.met.S.Store.shown i.store))
    (subst (λ (m : Map). PublishedAreSound i.history.history m s) (sym (ap (λ (x : State). x.map) c.self.invariant.0.state)) c.self.invariant.3))

pub returns-clause-found : goal.returns-clause-found
returns-clause-found g c =
    let i = c.self.inside in
    let s = g.S.Store.seen i.store in
    rw (← c.self.view_is)
    (sound_found (seen_of i.history i.first i.ledger i.space s)
    (blobs_now i.history i.first i.ledger i.space s (g.S.Store.both i.store) c.self.invariant.0 (g.met.S.Store.shown i.store)) c.self.invariant.0.legal c.self.invariant.2.located c.self.invariant.2.contents)
