-- What the events of an add line make of a volume.
use Rattle.std.specs.Prelude.{◌≡◌, ◌≤◌, ◌++◌, List}
use Rattle.spec_core.specs.Synced.{RiseWithin, faults_of}
use Rattle.spec_core.specs.declared.event.CoreEvent.{CoreEvent}
use Rattle.bv_store.specs.Stored.{Grows}
use Rattle.bv_volume.specs.Seen.{Seen}

-- some events are appended; the numbers of their faults are those of the device's count; the disk
-- that is told only grows; and what the volume stands on stays
pub record Goes (old new : Seen) : Type 0 where
  pub more : List CoreEvent
  pub history : new.history ≡ record old.history { events = old.history.events ++ more }
  pub next : new.next ≡ old.next
  pub geometry : new.store.geometry ≡ old.store.geometry
  pub began : new.store.began ≡ old.store.began
  pub claims : new.space.claims ≡ old.space.claims
  pub faults : (old.store.faults ≤ new.store.faults)
      × RiseWithin old.store.faults new.store.faults (faults_of more)
  pub told : Grows old.store.told new.store.told (λ d written. Unit {0})
