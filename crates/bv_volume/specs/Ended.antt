-- What an unmount did before its event is noted.
use Rattle.std.specs.Prelude.{◌≡◌, ◌+◌, ◌++◌, [], ℕ, cond, List, Option, None, Some, Result, Ok, Err, IfSome}
use Rattle.spec_disk.specs.Images.{IsSettled}
use Rattle.spec_tree.specs.declared.Digest.{Digest}
use Rattle.spec_core.specs.Choice.{is_empty}
use Rattle.spec_core.specs.Log.{purges}
use Rattle.spec_rest.specs.Rest.{Map}
use Rattle.bv_ledger.specs.declared.faults.Refusal.{Refusal}
use Rattle.bv_ledger.specs.declared.faults.Refusal.TheVariants as refusal
use Rattle.bv_store.specs.Stored.{Stored, Entry}
use Rattle.bv_volume.specs.Wrote.{Lasts}
use Rattle.bv_volume.specs.declared.unmounting.UnmountFault.{UnmountFault}
use Rattle.bv_volume.specs.declared.unmounting.UnmountFault.TheVariants as unmount

-- the answer, by the fault of a call that failed
abbrev pub device_answer : Option ℕ → Result (Unit {0}) UnmountFault
device_answer None = Ok tt
device_answer (Some f) = Err (unmount.DeviceFault f)

-- the answer of an unmount that was refused
abbrev pub refusal_answer : Refusal → Result (Unit {0}) UnmountFault
refusal_answer (refusal.Stopped f) = Err (unmount.Stopped f)
refusal_answer refusal.NumberEnd = Err unmount.NumberEnd

-- the queue was purged and all made to last, while nothing had failed
pub record EndsMount (stopped : Option ℕ) (old new : Stored) (Both New : Map → Map → Type 0)
    (queue : List Digest) (failed : Option ℕ) : Type 0 where
  pub going : stopped ≡ None
  pub lasts : Lasts old new Both New (λ m. purges m queue ++ []) failed
  pub number : failed ≡ None → new.number ≡ cond (is_empty queue) old.number (old.number + 1)
  pub settled : failed ≡ None → IfSome new.told (λ d. IsSettled d.trace)

-- the device was not asked
pub record AsksNothing (old new : Stored) (Both New : Map → Map → Type 0) : Type 0 where
  pub planned : Option Entry
  pub is : new ≡ record old { planned = planned }
  pub both : (a b : Map) → Both a b → New a b

-- what an unmount with this answer did, before which this had failed and this was queued
abbrev pub Unmounts : Option ℕ → Stored → Stored → (Map → Map → Type 0) → (Map → Map → Type 0)
    → List Digest → Result (Unit {0}) UnmountFault → Type 0
Unmounts stopped old new Both New queue (Ok v) = EndsMount stopped old new Both New queue None
Unmounts stopped old new Both New queue (Err (unmount.DeviceFault f)) =
    EndsMount stopped old new Both New queue (Some f)
Unmounts stopped old new Both New queue (Err e) = AsksNothing old new Both New
