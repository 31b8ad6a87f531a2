-- What one event makes of the history, of its session's events, and of the room for events.
use Rattle.std.proofs.Common.{◌≡◌, ◌≤◌, ◌+◌, ◌==◌, ℕ, Bool, true, cond, List, [], ◌∷◌, ◌++◌, length, refl, ap, ◌∙◌, arith, eq-eqb}
use Rattle.std.proofs.lemmas.List.Elements.{filter-append}
use Rattle.spec_core.proofs.Histories.{last_state-with_event}
use Rattle.spec_core.specs.History.{History, last_state, setting_of, with_event}
use Rattle.spec_core.specs.State.{State}
use Rattle.spec_core.specs.declared.act.Act.{Act}
use Rattle.spec_core.specs.declared.event.CoreEvent.{CoreEvent}
use Rattle.spec_core.specs.declared.reply.Reply.{Reply}
use Rattle.spec_core.specs.declared.who.Who.{Who}
use Rattle.spec_session.specs.Conform.{events_of}
use Rattle.spec_session.specs.Own.{add_after}
use Rattle.bv_session.proofs.Moves.{add_gains}
use Rattle.bv_session.specs.Sessions.{Gains}
use Rattle.bv_volume.proofs.Quiet.{adds_bound, begins}
use Rattle.bv_volume.specs.Events.{Happens, event_of}
use Rattle.bv_volume.specs.Seen.{Seen}
use Rattle.bv_volume.specs.Sessions.{own_add}
use Rattle.bv_adder.specs.Steps.{own}

-- one event more of a session
pub own_more : (s : ℕ) (es : List CoreEvent) (e : CoreEvent) → (e.who.session == s) ≡ true → events_of s (es ++ e ∷ []) ≡ events_of s es ++ e ∷ []
own_more s es e mine = filter-append (λ (f : CoreEvent). f.who.session == s) es (e ∷ []) ∙ ap (λ (b : Bool). events_of s es ++ cond b (e ∷ []) []) mine

module _ (v w : Seen) (who : Who) (act : Act) (q : Reply) (h : Happens v w who act q) where
  -- the history gains the event
  pub gains_all : Gains who act q v.history.events w.history.events
  gains_all = (w.store.calls, ap (λ (x : History). x.events) h.history)

  -- its session's events gain it
  pub own_grows : own who.session w ≡ own who.session v ++ event_of who act q w.store.calls ∷ []
  own_grows = ap (λ (x : History). events_of who.session x.events) h.history ∙ own_more who.session v.history.events (event_of who act q w.store.calls) (eq-eqb who.session who.session refl)

  pub gains_own : Gains who act q (own who.session v) (own who.session w)
  gains_own = (w.store.calls, own_grows)

  -- what becomes of its session's add
  pub add_then : own_add w.history who.session ≡ add_after (own_add v.history who.session) act q
  add_then = add_gains who act q (own who.session v) (own who.session w) gains_own

  version_stays : w.history.version ≡ v.history.version
  version_stays = ap (λ (x : History). x.version) h.history

  -- the volume's version stays
  pub same_version : (version : ℕ) → v.history.version ≡ version → w.history.version ≡ version
  same_version version is = version_stays ∙ is

  state_is : last_state w.history w.next ≡ last_state (with_event v.history (event_of who act q w.store.calls)) v.next
  state_is = ap (λ (x : History). last_state x w.next) h.history ∙ ap (λ (n : ℕ). last_state (with_event v.history (event_of who act q w.store.calls)) n) h.next

  -- the room for events falls by one, and by one more where an add begins
  pub spare_falls : v.spare ≤ w.spare + 1 + begins act q
  spare_falls =
      let bound = adds_bound (setting_of v.history) (last_state v.history v.next) who act q in
      let now = ap (λ (x : State). length x.adds) (state_is ∙ last_state-with_event v.history v.next (event_of who act q w.store.calls)) in
      omega (arith, bound, now, h.room)
