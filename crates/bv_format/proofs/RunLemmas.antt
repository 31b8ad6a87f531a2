-- What FormatStop says of a plan it says of each run that follows the plan, whichever of its calls failed.
use Rattle.std.proofs.Common.{◌≡◌, ◌⊎◌, List, [], ◌∷◌, ◌++◌, length, take, true, false, Option, Some, Result, Ok, Err, refl, ap, sym, ◌∙◌, subst, inl, inr, arith, append_assoc}
use Rattle.std.proofs.lemmas.List.{take_all, take-append-le, length_push, length-append}
use Rattle.std.proofs.Math.Seq.{take-append_seam}
use Rattle.std.proofs.lemmas.Bool.{cases_lt}
use Rattle.spec_disk.specs.declared.event.Event.{Event}
use Rattle.spec_disk.specs.declared.event.Event.TheVariants.{Write, Sync}
use Rattle.spec_disk.specs.Disk.{Blocks, has_sync}
use Rattle.spec_disk.specs.Images.{IsImage, IsSettled}
use Rattle.spec_disk.proofs.EventLemmas.{has_sync-push}
use Rattle.spec_record.specs.declared.geometry.Geometry.{Geometry}
use Rattle.spec_crash.specs.Format.{HasOldHead, HasNoHead, IsEmptyVolume, FormatStop}
use Rattle.bv_device.specs.Told.{Disk, disk_with, with_event}
use Rattle.bv_device.specs.Plan.{IsPlan, failed_event, with_events, CutShort, Follows}
use Rattle.bv_device.proofs.PlanLemmas.{disk_with-nil, disk_with-append, with_events-some, IsPlan-tail}
use Rattle.bv_device.proofs.CrashLemmas.{image-failed_write, image-failed_sync}
use Rattle.bv_format.specs.Formats.{StopsWell}

-- the three cases, after these events
abbrev pub Case : Blocks → List Event → Geometry → List Event → Blocks → Type 0
Case base trace g events j = HasOldHead base trace events j ⊎ (HasNoHead j ⊎ IsEmptyVolume g j)

-- the events matter only by whether they have an Ok sync
Case-as : (base : Blocks) (trace : List Event) (g : Geometry) (p q : List Event) (j : Blocks) → has_sync p ≡ has_sync q → Case base trace g p j → Case base trace g q j
Case-as base trace g p q j same c = elim c [
  | inl h ↦ inl (record { old = h.old; unsynced = sym same ∙ h.unsynced })
  | inr other ↦ inr other
]

Stop-front : (base : Blocks) (trace p q : List Event) (g : Geometry) → FormatStop base trace (p ++ q) g → FormatStop base trace p g
Stop-front base trace p q g stop settled n j le i =
    let same : take n (p ++ q) ≡ take n p = take-append-le n p q le in
    let image : IsImage base (trace ++ take n (p ++ q)) j = subst (λ (t : List Event). IsImage base (trace ++ t) j) (sym same) i in
    subst (λ (t : List Event). Case base trace g t j) same (stop settled n j (omega (arith, length-append p q, le)) image)

-- after all of the first part
Stop-at : (base : Blocks) (trace p q : List Event) (g : Geometry) (j : Blocks) → FormatStop base trace (p ++ q) g → IsSettled trace → IsImage base (trace ++ p) j → Case base trace g p j
Stop-at base trace p q g j stop settled i =
    let same : take (length p) (p ++ q) ≡ p = take-append_seam p q in
    let image : IsImage base (trace ++ take (length p) (p ++ q)) j = subst (λ (t : List Event). IsImage base (trace ++ t) j) (sym same) i in
    subst (λ (t : List Event). Case base trace g t j) same (stop settled (length p) j (omega (arith, length-append p q)) image)

-- the call that fails after a first part
Stop-at_failed : (base : Blocks) (trace before : List Event) (e : Event) (plan : List Event) (g : Geometry) (j : Blocks) → IsPlan (e ∷ plan)
    → FormatStop base trace (before ++ e ∷ plan) g → IsSettled trace → IsImage base (trace ++ (before ++ failed_event e ∷ [])) j → Case base trace g (before ++ failed_event e ∷ []) j
Stop-at_failed base trace before (Write at bytes true) plan g j planned stop settled i =
    let apart : IsImage base ((trace ++ before) ++ Write at bytes false ∷ []) j = subst (λ (t : List Event). IsImage base t j) (sym (append_assoc trace before (Write at bytes false ∷ []))) i in
    let image : IsImage base (trace ++ (before ++ Write at bytes true ∷ [])) j =
    subst (λ (t : List Event). IsImage base t j) (append_assoc trace before (Write at bytes true ∷ [])) (image-failed_write base (trace ++ before) at bytes j apart) in
    let parts : FormatStop base trace ((before ++ Write at bytes true ∷ []) ++ plan) g = subst (λ (t : List Event). FormatStop base trace t g) (sym (append_assoc before (Write at bytes true ∷ []) plan)) stop in
    let same : has_sync (before ++ Write at bytes true ∷ []) ≡ has_sync (before ++ Write at bytes false ∷ []) =
    has_sync-push before (Write at bytes true) refl ∙ sym (has_sync-push before (Write at bytes false) refl) in
    Case-as base trace g (before ++ Write at bytes true ∷ []) (before ++ Write at bytes false ∷ []) j same (Stop-at base trace (before ++ Write at bytes true ∷ []) plan g j parts settled image)
Stop-at_failed base trace before (Write at bytes false) plan g j planned stop settled i = absurd planned
Stop-at_failed base trace before (Sync true) plan g j planned stop settled i =
    let apart : IsImage base ((trace ++ before) ++ Sync false ∷ []) j = subst (λ (t : List Event). IsImage base t j) (sym (append_assoc trace before (Sync false ∷ []))) i in
    let same : has_sync before ≡ has_sync (before ++ Sync false ∷ []) = sym (has_sync-push before (Sync false) refl) in
    Case-as base trace g before (before ++ Sync false ∷ []) j same (Stop-at base trace before (Sync true ∷ plan) g j stop settled (image-failed_sync base (trace ++ before) j apart))
Stop-at_failed base trace before (Sync false) plan g j planned stop settled i = absurd planned

Stop-failed : (base : Blocks) (trace before : List Event) (e : Event) (plan : List Event) (g : Geometry) → IsPlan (e ∷ plan)
    → FormatStop base trace (before ++ e ∷ plan) g → FormatStop base trace (before ++ failed_event e ∷ []) g
Stop-failed base trace before e plan g planned stop settled n j le i =
    elim (cases_lt (length before) n) [
      | inl more ↦
          let all : take n (before ++ failed_event e ∷ []) ≡ before ++ failed_event e ∷ [] = take_all n (before ++ failed_event e ∷ []) (omega (arith, length_push before (failed_event e))) in
          let image : IsImage base (trace ++ (before ++ failed_event e ∷ [])) j = subst (λ (t : List Event). IsImage base (trace ++ t) j) all i in
          subst (λ (t : List Event). Case base trace g t j) (sym all) (Stop-at_failed base trace before e plan g j planned stop settled image)
      | inr few ↦
          let same : take n (before ++ failed_event e ∷ []) ≡ take n before = take-append-le n before (failed_event e ∷ []) few in
          let image : IsImage base (trace ++ take n before) j = subst (λ (t : List Event). IsImage base (trace ++ t) j) same i in
          subst (λ (t : List Event). Case base trace g t j) (sym same) (Stop-front base trace before (e ∷ plan) g stop settled n j few image)
    ]

Stops-cut_from : (g : Geometry) (d : Disk) (before plan : List Event) (new : Option Disk) → IsPlan plan → FormatStop d.base d.trace (before ++ plan) g
    → CutShort plan (Some (disk_with d before)) new → StopsWell g d new
Stops-cut_from g d before [] new planned stop cut = absurd cut
Stops-cut_from g d before (e ∷ plan) new planned stop cut =
    let some_is : (x : Event) → with_event (Some (disk_with d before)) x ≡ Some (disk_with d (before ++ x ∷ [])) = λ x. ap (λ (y : Disk). Some y) (disk_with-append d before (x ∷ [])) in
    elim cut [
      | inl same ↦ record { events = before; is = same; stop = Stop-front d.base d.trace before (e ∷ plan) g stop }
      | inr more ↦ elim more [
        | inl f ↦ record { events = before ++ failed_event e ∷ []; is = f ∙ some_is (failed_event e); stop = Stop-failed d.base d.trace before e plan g planned stop }
        | inr on ↦ Stops-cut_from g d (before ++ e ∷ []) plan new (IsPlan-tail e plan planned)
            (subst (λ (t : List Event). FormatStop d.base d.trace t g) (sym (append_assoc before (e ∷ []) plan)) stop)
            (subst (λ (o : Option Disk). CutShort plan o new) (some_is e) on)
      ]
    ]

-- a run that follows a plan of which FormatStop holds
pub Stops-run : {T E : Type 0} (r : Result T E) (g : Geometry) (d : Disk) (plan : List Event) (old new : Option Disk) → IsPlan plan → FormatStop d.base d.trace plan g
    → old ≡ Some d → Follows r plan old new → StopsWell g d new
Stops-run (Ok v) g d plan old new planned stop is f =
    record { events = plan; is = f ∙ ap (λ (o : Option Disk). with_events o plan) is ∙ with_events-some d plan; stop = stop }
Stops-run (Err x) g d plan old new planned stop is f =
    Stops-cut_from g d [] plan new planned stop
    (subst (λ (y : Disk). CutShort plan (Some y) new) (sym (disk_with-nil d)) (subst (λ (o : Option Disk). CutShort plan o new) is f))
