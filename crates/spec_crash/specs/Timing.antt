-- How the events of a device time a history (this project's profile).
--
-- `calls` of a history's event is the number of writes and syncs since the mount began: a place in
-- the list of the device's events, counted from 1.
use Rattle.std.specs.Prelude.{◌≡◌, ◌<◌, ◌⊎◌, ◌++◌, ℕ, zero, suc, ◌+◌, List, [], ◌∷◌, length, true, All, Option, None, IsSomeAnd, IsTrue, slice_get}
use Rattle.spec_disk.specs.declared.event.Event.{Event}
use Rattle.spec_disk.specs.declared.event.Event.TheVariants as device
use Rattle.spec_core.specs.declared.act.Act.{Act}
use Rattle.spec_core.specs.declared.act.Act.TheVariants as acts
use Rattle.spec_core.specs.declared.reply.Reply.TheVariants as replies
use Rattle.spec_core.specs.declared.event.CoreEvent.{CoreEvent}
use Rattle.spec_core.specs.History.{History, FromEachToNext}
use Rattle.spec_core.specs.Synced.{tells_durable, SyncsInCalls}

-- the device's event at a place, or none
abbrev pub event_at : List Event → ℕ → Option Event
event_at events zero = None
event_at events (suc before) = slice_get events before

-- a write that succeeded
abbrev pub IsOkWrite : Event → Type 0
IsOkWrite (device.Write at bytes ok) = IsTrue ok
IsOkWrite (device.Sync ok) = ⊥

-- a sync that succeeded
abbrev pub IsOkSync : Event → Type 0
IsOkSync (device.Write at bytes ok) = ⊥
IsOkSync (device.Sync ok) = IsTrue ok

-- the last of these events, if there is one, has P
abbrev pub LastHas : (CoreEvent → Type 0) → List CoreEvent → Type 0
LastHas P [] = Unit {0}
LastHas P (e ∷ []) = P e
LastHas P (e ∷ f ∷ events) = LastHas P (f ∷ events)

-- the events that may write and sync
abbrev pub MayCall : Act → Type 0
MayCall (acts.Put index) = Unit {0}
MayCall (acts.Settle root) = Unit {0}
MayCall acts.Sync = Unit {0}
MayCall acts.Unmount = Unit {0}
MayCall _ = ⊥

-- the event puts a block
abbrev pub IsPut : Act → Type 0
IsPut (acts.Put index) = Unit {0}
IsPut _ = ⊥

-- a put that replied `written`
abbrev pub IsWritten : CoreEvent → Type 0
IsWritten e = IsPut e.act × (e.reply ≡ replies.Written)

-- From event to event, calls rises only in put, settle, sync and unmount.
abbrev pub RisesInCalls : History → Type 0
RisesInCalls h = FromEachToNext (λ old new. old.calls < new.calls → MayCall new.act) h.events

-- From event to event, a put that replied `written` raises calls by one; calls is then the place of
-- an Ok write.
pub record PutsWrite (events : List Event) (h : History) : Type 0 where
  pub one : FromEachToNext (λ old new. IsWritten new → new.calls ≡ old.calls + 1) h.events
  pub written : All (λ e. IsWritten e → IsSomeAnd (event_at events e.calls) IsOkWrite) h.events

-- From event to event, one that replied `synced` or `unmounted` raises calls, and calls is then the
-- place of an Ok sync: it ends with a sync of its own.
pub record RepliesSync (events : List Event) (h : History) : Type 0 where
  pub own : SyncsInCalls h
  pub synced : All
      (λ e. IsTrue (tells_durable e.reply) → IsSomeAnd (event_at events e.calls) IsOkSync)
      h.events

-- After the last event, calls is the number of the device's events.
abbrev pub EndsAtLast : List Event → History → Type 0
EndsAtLast events h = LastHas (λ e. e.calls ≡ length events) h.events

-- a history is timed by these events of the device
pub record IsTimed (events : List Event) (h : History) : Type 0 where
  pub rises : RisesInCalls h
  pub puts : PutsWrite events h
  pub syncs : RepliesSync events h
  pub ends : EndsAtLast events h

-- a new event e of a history ends with these calls: those before it, and those that it made
pub record TimesOne (events more : List Event) (e : CoreEvent) : Type 0 where
  pub calls : e.calls ≡ length events + length more
  pub silent : (more ≡ []) ⊎ MayCall e.act
  pub written : IsWritten e → (at : ℕ) × (bytes : List ℕ) × (more ≡ device.Write at bytes true ∷ [])
  pub synced : IsTrue (tells_durable e.reply)
      → (q : List Event) × (more ≡ q ++ device.Sync true ∷ [])
