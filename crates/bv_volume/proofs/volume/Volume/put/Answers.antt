use Rattle.std.proofs.Common.{Some, refl, sym, arith}
use Rattle.spec_core.specs.declared.act.Act.TheVariants.{Put}
use Rattle.spec_core.specs.declared.reply.Reply.TheVariants.{Stopped}
use Rattle.bv_volume.specs.Adding.{IsAdmitted}
use Rattle.bv_volume.specs.Kept.{seen_of}
use Rattle.bv_volume.proofs.Puts.{is_admitted, put_stopped}
use Rattle.bv_volume.proofs.Silent.{CallDone, silent_call}
use Rattle.bv_volume.proofs.SessionCalls.{admitted_is, ordered_silent}
use Rattle.bv_volume.proofs.Still.{spaced_silent}
use Rattle.bv_volume.proofs.Sound.{sound_silent}
use Rattle.bv_volume.proofs.volume.Volume.put.Goals as goal
use Rattle.bv_volume.proofs.volume.Volume.put.Goals.{After-note}
use Rattle.bv_volume.proofs.volume.Volume.put.Given.{Over}

done : (g : Over) (c : After-note g) → CallDone c.self.inside.history c.note.new.history c.self.inside.first c.self.inside.ledger c.self.inside.ledger c.self.inside.space c.self.inside.space (g.S.Store.seen c.self.inside.store) (g.S.Store.seen c.self.inside.store) (g.S.Store.both c.self.inside.store) c.args.who (Put c.args.add.now.put) (Some (Stopped c.in-Some.fault))
done g c =
    let i = c.self.inside in
    silent_call i.history c.note.new.history i.first i.ledger i.ledger i.space (g.S.Store.seen i.store) (g.S.Store.both i.store) c.args.who (Put c.args.add.now.put) (Some (Stopped c.in-Some.fault))
    (rw (c.calls.ensures) at c.note.ensures) c.self.invariant.0 (put_stopped i.ledger c.args.who c.args.add.now.put c.in-Some.fault (sym c.in-Some.ensures)) (refl, refl) (λ q. refl) (rw (← c.self.view_is) at c.requires.spare) (g.met.S.Store.counted i.store)

pub invariant_of-self : goal.invariant_of-self
invariant_of-self g c =
    let i = c.self.inside in (
      (done g c).kept,
      spaced_silent i.ledger i.ledger i.space (g.S.Store.seen i.store) (g.S.Store.held i.store) _ _ c.args.who (Put c.args.add.now.put) (Some (Stopped c.in-Some.fault)) c.self.invariant.0.accounts (put_stopped i.ledger c.args.who c.args.add.now.put c.in-Some.fault (sym c.in-Some.ensures)) (refl, refl) tt c.self.invariant.1,
      ordered_silent i.history c.note.new.history i.space (g.S.Store.seen i.store) c.args.who (Put c.args.add.now.put) (Some (Stopped c.in-Some.fault)) (g.S.Store.seen i.store).calls (rw (c.calls.ensures) at c.note.ensures)
          (record { order = λ add. tt; add = λ add. refl; puts = λ puts calls. refl; unput = λ who calls w. cc; unpublished = refl }) c.self.invariant.2,
      sound_silent i.history c.note.new.history i.ledger.map i.ledger.map (g.S.Store.seen i.store) c.args.who (Put c.args.add.now.put) (Some (Stopped c.in-Some.fault)) (g.S.Store.seen i.store).calls (rw (c.calls.ensures) at c.note.ensures) refl refl c.self.invariant.3,
    )

pub returns-in-Some-clause-row : goal.returns-in-Some-clause-row
returns-in-Some-clause-row g c = rw (← c.self.view_is) (done g c).does

pub returns-in-Some-clause-crash : goal.returns-in-Some-clause-crash
returns-in-Some-clause-crash g c = (done g c).safe

pub returns-in-Some-clause-admitted : goal.returns-in-Some-clause-admitted
returns-in-Some-clause-admitted g c =
    let i = c.self.inside in
    let s = g.S.Store.seen i.store in
    let a = c.args.add.now in
    let old : IsAdmitted (seen_of i.history i.first i.ledger i.space s) a = admitted_is c.self.inside.history c.self.inside.first c.self.inside.ledger c.self.inside.space (g.S.Store.seen c.self.inside.store) (g.S.Store.both c.self.inside.store) c.args.who.session c.self.invariant.0 c.self.invariant.2 c.args.add.now (rw (← c.self.view_is) at c.requires.add) in
    is_admitted i.history c.note.new.history i.first i.ledger i.ledger i.space s s (g.S.Store.both i.store) (g.S.Store.both i.store) a a c.self.invariant.0 (done g c).kept refl refl old refl refl (omega (arith, old.put, old.need))
