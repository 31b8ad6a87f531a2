-- What the calls of a device in memory say of it as of any device.
use Rattle.std.proofs.Common.{◌≡◌, ◌↔◌, IsTrue, ℕ, zero, suc, ◌-◌, List, [], ◌++◌, take, replicate, Bool, true, false, not, Result, Ok, Err, refl, ap, sym, ◌∙◌, inl, inr, arith}
use Rattle.std.proofs.lemmas.Bool.{false≢true}
use Rattle.spec_disk.specs.declared.event.Event.{Event}
use Rattle.bv_device.specs.declared.failed.Failed.{Failed}
use Rattle.bv_device.specs.declared.traced.Refusal.{Refusal}
use Rattle.bv_device.specs.declared.traced.Refusal.TheVariants.{Full, NoMemory}
use Rattle.bv_device.specs.Told.{Disk}
use Rattle.bv_device.specs.Memory.{HeldDevice, IsNamed, IsLogged, IsCounted, Logs}

-- the same but for the disk and the counts of failures
abbrev pub held : HeldDevice → Disk → ℕ → ℕ → HeldDevice
held d disk faults short = record { disk = disk; reads = d.reads; writes = d.writes; syncs = d.syncs; faults = faults; short = short }

held-same : (d : HeldDevice) (a b : Disk) (f g s t : ℕ) → a ≡ b → f ≡ g → s ≡ t → held d a f s ≡ held d b g t
held-same d a b f g s t p q r = ap (λ (x : Disk). held d x f s) p ∙ ap (λ (n : ℕ). held d b n s) q ∙ ap (λ (n : ℕ). held d b g n) r

pub Logs-counted : (result : Result Unit Failed) (logged : Result Unit Refusal) (named : Bool) (event : Bool → Event) (fails : List ℕ) (d : HeldDevice) (disk : Disk) (faults short : ℕ)
    → IsTrue named ↔ IsNamed fails → IsLogged logged (event (not named)) d.disk disk
    → IsCounted result logged named d.faults d.short faults short → Logs result event fails d (held d disk faults short)
Logs-counted (Ok v) (Ok w) true event fails d disk faults short tells logged counted = absurd (false≢true (sym counted.0))
Logs-counted (Ok v) (Ok w) false event fails d disk faults short tells logged counted =
    ((λ n. false≢true (tells.1 n)), logged.0, held-same d _ _ _ _ _ _ logged.1 counted.1 counted.2)
Logs-counted (Ok v) (Err r) named event fails d disk faults short tells logged counted = absurd counted
Logs-counted (Err e) (Ok w) true event fails d disk faults short tells logged counted = inl (tells.0 refl, held-same d _ _ _ _ _ _ logged.1 counted.1 counted.2)
Logs-counted (Err e) (Ok w) false event fails d disk faults short tells logged counted = absurd (false≢true counted.0)
Logs-counted (Err e) (Err Full) named event fails d disk faults short tells logged counted = inr (inl (logged.0, held-same d _ _ _ _ _ _ logged.1 counted.0 counted.1))
Logs-counted (Err e) (Err NoMemory) named event fails d disk faults short tells logged counted = inr (inr (held-same d _ _ _ _ _ _ logged counted.0 counted.1))

take_none : (n : ℕ) → take n (let none : List (List ℕ) = [] in none) ≡ []
take_none zero = refl
take_none (suc n) = refl

-- an empty Vec that was filled up
pub filled_up : (n len : ℕ) (items : List (List ℕ)) (x : List ℕ) → items ≡ [] → len ≡ 0 → take n items ++ replicate (n - len) x ≡ replicate n x
filled_up n len items x none zero_is =
    ap (λ (l : List (List ℕ)). take n l ++ replicate (n - len) x) none ∙ ap (λ (l : List (List ℕ)). l ++ replicate (n - len) x) (take_none n)
    ∙ ap (λ (k : ℕ). replicate k x) (omega (arith, zero_is))
