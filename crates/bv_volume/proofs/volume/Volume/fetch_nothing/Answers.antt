use Rattle.std.proofs.Common.{Some, refl, ap, ◌∙◌, sym}
use Rattle.spec_core.specs.Choice.{place_of}
use Rattle.spec_core.specs.State.{State, held}
use Rattle.spec_core.specs.declared.act.Act.TheVariants.{Fetch}
use Rattle.spec_core.specs.declared.reply.Reply.TheVariants.{BadSlot}
use Rattle.bv_volume.proofs.Fetches.{empty_row}
use Rattle.bv_volume.proofs.Silent.{CallDone, silent_call}
use Rattle.bv_volume.proofs.SessionCalls.{by_any, ordered_silent}
use Rattle.bv_volume.proofs.Still.{spaced_silent}
use Rattle.bv_volume.proofs.Sound.{sound_silent}
use Rattle.bv_volume.proofs.volume.Volume.fetch_nothing.Goals as goal
use Rattle.bv_volume.proofs.volume.Volume.fetch_nothing.Goals.{After-note}
use Rattle.bv_volume.proofs.volume.Volume.fetch_nothing.Given.{Over}

done : (g : Over) (c : After-note g) → CallDone c.self.inside.history c.note.new.history c.self.inside.first c.self.inside.ledger c.self.inside.ledger c.self.inside.space c.self.inside.space (g.S.Store.seen c.self.inside.store) (g.S.Store.seen c.self.inside.store) (g.S.Store.both c.self.inside.store) c.args.who (Fetch c.args.slot c.args.window) (Some BadSlot)
done g c =
    let i = c.self.inside in
    silent_call i.history c.note.new.history i.first i.ledger i.ledger i.space (g.S.Store.seen i.store) (g.S.Store.both i.store) c.args.who (Fetch c.args.slot c.args.window) (Some BadSlot)
    (rw (c.calls.ensures) at c.note.ensures) c.self.invariant.0 (empty_row i.ledger c.args.who c.args.slot c.args.window (ap (λ (x : State). held x.slots (place_of c.args.who c.args.slot)) (sym c.self.invariant.0.state) ∙ (rw (← c.self.view_is) at c.requires.empty))) (refl, refl) (λ q. refl) (rw (← c.self.view_is) at c.requires.spare) (g.met.S.Store.counted i.store)

pub invariant_of-self : goal.invariant_of-self
invariant_of-self g c =
    let i = c.self.inside in (
      (done g c).kept,
      spaced_silent i.ledger i.ledger i.space (g.S.Store.seen i.store) (g.S.Store.held i.store) _ _ c.args.who (Fetch c.args.slot c.args.window) (Some BadSlot) c.self.invariant.0.accounts (empty_row i.ledger c.args.who c.args.slot c.args.window (ap (λ (x : State). held x.slots (place_of c.args.who c.args.slot)) (sym c.self.invariant.0.state) ∙ (rw (← c.self.view_is) at c.requires.empty))) (refl, refl) tt c.self.invariant.1,
      ordered_silent i.history c.note.new.history i.space (g.S.Store.seen i.store) c.args.who (Fetch c.args.slot c.args.window) (Some BadSlot) (g.S.Store.seen i.store).calls (rw (c.calls.ensures) at c.note.ensures)
          (by_any (Fetch c.args.slot c.args.window) (Some BadSlot) (λ x. record { order = λ add. tt; add = λ add. refl; puts = λ puts calls. refl; unput = λ who calls w. w.0; unpublished = refl })) c.self.invariant.2,
      sound_silent i.history c.note.new.history i.ledger.map i.ledger.map (g.S.Store.seen i.store) c.args.who (Fetch c.args.slot c.args.window) (Some BadSlot) (g.S.Store.seen i.store).calls (rw (c.calls.ensures) at c.note.ensures) refl refl c.self.invariant.3,
    )

pub returns-clause-row : goal.returns-clause-row
returns-clause-row g c = rw (← c.self.view_is) (done g c).does

pub returns-clause-crash : goal.returns-clause-crash
returns-clause-crash g c = (done g c).safe
