-- Which changes are durable, and which may be, after so many calls of the device; and where faults
-- come from (this project's profile).
use Rattle.std.specs.Prelude.{◌≡◌, ℕ, Bool, true, false, ◌-◌, ◌^◌, ◌<◌, ◌≤◌, ◌&&◌, ◌⊎◌, List, [], ◌∷◌, ◌++◌, length, map, filter, nat_le, IsTrue}
use Rattle.spec_faults.specs.Faults.{Rose}
use Rattle.spec_core.specs.History.{History, setting_of, opening_map, first_state, log_of, FromEachToNext}
use Rattle.spec_core.specs.State.{State}
use Rattle.spec_core.specs.Step.{after}
use Rattle.spec_core.specs.declared.event.CoreEvent.{CoreEvent}
use Rattle.spec_core.specs.declared.reply.Reply.{Reply}
use Rattle.spec_core.specs.declared.reply.Reply.TheVariants.{Synced, Unmounted, DeviceFault, ReadFault}
use Rattle.spec_core.specs.declared.setting.Setting.{Setting}

-- each event, with the log's length after it
abbrev pub lengths_from : Setting → State → List CoreEvent → List (CoreEvent × ℕ)
lengths_from g s [] = []
lengths_from g s (e ∷ events) = (e, length (after g s e).log) ∷ lengths_from g (after g s e) events

-- each event of a history, with the log's length after it
abbrev pub log_lengths : History → List (CoreEvent × ℕ)
log_lengths h = lengths_from (setting_of h) (first_state (opening_map h) 0) h.events

-- the lengths of the events that pass a test
abbrev pub lengths_where : (CoreEvent → Bool) → List (CoreEvent × ℕ) → List ℕ
lengths_where test lengths = map (λ p. p.1) (filter (λ p. test p.0) lengths)

-- the first number, or this one
abbrev pub first_or : ℕ → List ℕ → ℕ
first_or none [] = none
first_or none (n ∷ ns) = n

-- the last number, or this one
abbrev pub last_or : ℕ → List ℕ → ℕ
last_or none [] = none
last_or none (n ∷ ns) = last_or n ns

-- the replies synced and unmounted
abbrev pub tells_durable : Reply → Bool
tells_durable Synced = true
tells_durable Unmounted = true
tells_durable _ = false

-- each event that makes the log durable has more calls than the event before it
abbrev pub SyncsInCalls : History → Type 0
SyncsInCalls h =
    FromEachToNext (λ old new. IsTrue (tells_durable new.reply) → old.calls < new.calls) h.events

-- SyncedBy: the log's length after the last event with reply synced or unmounted and at most so
-- many calls, else 0
abbrev pub synced_by : History → ℕ → ℕ
synced_by h calls =
    last_or 0 (lengths_where (λ e. tells_durable e.reply && nat_le e.calls calls) (log_lengths h))

-- LoggedBy: the log's length after the first event with at least so many calls, else the whole
-- length
abbrev pub logged_by : History → ℕ → ℕ
logged_by h calls =
    first_or (length (log_of h)) (lengths_where (λ e. nat_le calls e.calls) (log_lengths h))

-- the number of a device-fault or read-fault
abbrev pub fault_of : Reply → List ℕ
fault_of (DeviceFault f) = f ∷ []
fault_of (ReadFault f) = f ∷ []
fault_of _ = []

-- the numbers of all faults, in order
abbrev pub faults_of : List CoreEvent → List ℕ
faults_of [] = []
faults_of (e ∷ events) = fault_of e.reply ++ faults_of events

-- the count rose to each number from the one before, from the first on, and each is at most the last
abbrev pub RiseWithin : ℕ → ℕ → List ℕ → Type 0
RiseWithin first last [] = Unit {0}
RiseWithin first last (f ∷ faults) = Rose first f × (f ≤ last) × RiseWithin f last faults

-- Caused: the faults of a history came from a device whose count rose from the first to the last
abbrev pub Caused : History → ℕ → ℕ → Type 0
Caused h first last = RiseWithin first last (faults_of h.events)
