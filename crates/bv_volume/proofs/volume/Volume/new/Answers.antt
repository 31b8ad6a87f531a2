use Rattle.std.proofs.Common.{refl, arith}
use Rattle.bv_volume.proofs.SessionCalls.{ordered_fresh}
use Rattle.bv_volume.proofs.Freed.{spaced_fresh}
use Rattle.bv_volume.proofs.Openings.{first, fresh_told}
use Rattle.bv_volume.proofs.Sound.{sound_fresh}
use Rattle.bv_volume.proofs.volume.Volume.new.Goals as goal

pub invariant_of-result : goal.invariant_of-result
invariant_of-result g c =
    let h = c.args.history.history in
    let s = g.S.Store.seen c.args.store in (
      rw (c.new-ledger.ensures) (record {
        setting = c.setting.ensures;
        state = rw (first h c.args.first c.requires.fresh, c.requires.map) refl;
        accounts = rw (first h c.args.first c.requires.fresh) (record { within = omega arith; purged = λ none. refl });
        legal = record { sorted = rw (← c.requires.map) c.requires.sorted; steps = rw (c.requires.fresh) tt; calls = rw (c.requires.fresh) tt };
        calls = rw (c.requires.fresh) (omega arith);
        apart = omega arith;
        number = λ none. c.requires.number.1;
        safe = λ opened. fresh_told (g.S.Store.both c.args.store) s.told h c.args.first c.requires.fresh (c.requires.safe opened);
        shown = λ opened f failed. cc;
      }),
      rw (c.new-ledger.ensures) (spaced_fresh h _ _ _ _ c.setting.ensures refl refl c.requires.space),
      ordered_fresh h c.args.space s c.requires.fresh c.geometry-counts.ensures.whole c.requires.located c.requires.contents,
      sound_fresh h _ s c.requires.fresh,
    )
