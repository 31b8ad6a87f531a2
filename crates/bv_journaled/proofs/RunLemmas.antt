-- A run that follows a plan, by the events that came.
use Rattle.std.proofs.Common.{◌≡◌, ℕ, List, [], ◌∷◌, ◌++◌, Option, Some, None, Result, Ok, Err, refl, ap, sym, ◌∙◌, subst, inl, inr}
use Rattle.std.proofs.lemmas.List.{append_cancel_left}
use Rattle.std.specs.Prelude.{Contains, OnOk}
use Rattle.spec_disk.specs.declared.event.Event.{Event}
use Rattle.spec_disk.specs.declared.event.Event.TheVariants.{Write, Sync}
use Rattle.spec_disk.specs.Disk.{Blocks, block, now_after}
use Rattle.spec_disk.specs.Images.{written_to}
use Rattle.spec_disk.proofs.EventLemmas.{written_to-append, now_after-append}
use Rattle.spec_disk.proofs.ImageLemmas.{now_after-written, Contains-one}
use Rattle.bv_device.specs.Told.{Disk, disk_with, now_of}
use Rattle.bv_device.specs.Plan.{failed_event, with_events, CutShort, Follows}
use Rattle.bv_device.proofs.PlanLemmas.{disk_with-nil, disk_with-append, with_events-some, with_events-none}
use Rattle.bv_journaled.proofs.QuietLemmas.{parts_none}

-- the events that came since d: the plan at Ok, and they write to no block to which the plan doesn't
pub record Run {T E : Type 0} (r : Result T E) (plan : List Event) (d : Disk) (new : Option Disk) : Type 0 where
  pub events : List Event
  pub is : new ≡ Some (disk_with d events)
  pub spared : (x : ℕ) → written_to x plan ≡ [] → written_to x events ≡ []
  pub ok : OnOk r (events ≡ plan)

failed_written : (x : ℕ) (e : Event) → written_to x (failed_event e ∷ []) ≡ written_to x (e ∷ [])
failed_written x (Write at bytes ok) = refl
failed_written x (Sync ok) = refl

abbrev Came : List Event → Disk → Option Disk → Type 0
Came plan d new = (events : List Event) × (new ≡ Some (disk_with d events)) × ((x : ℕ) → written_to x plan ≡ [] → written_to x events ≡ [])

cut_came : (plan : List Event) (d : Disk) (new : Option Disk) → CutShort plan (Some d) new → Came plan d new
cut_came [] d new cut = absurd cut
cut_came (e ∷ plan) d new cut = elim cut [
  | inl same ↦ ([], same ∙ ap (λ (y : Disk). Some y) (sym (disk_with-nil d)), λ x none. refl)
  | inr more ↦ elim more [
    | inl f ↦ (failed_event e ∷ [], f, λ x none. failed_written x e ∙ (parts_none x (e ∷ []) plan none).0)
    | inr on ↦
        let rest = cut_came plan (disk_with d (e ∷ [])) new on in (
          e ∷ rest.0,
          rest.1 ∙ ap (λ (y : Disk). Some y) (disk_with-append d (e ∷ []) rest.0),
          λ x none.
              let parts = parts_none x (e ∷ []) plan none in
              written_to-append x (e ∷ []) rest.0 ∙ ap (λ (ws : Blocks). ws ++ written_to x rest.0) parts.0 ∙ rest.2 x parts.1,
        )
  ]
]

pub run_came : {T E : Type 0} (r : Result T E) (plan : List Event) (d : Disk) (new : Option Disk) → Follows r plan (Some d) new → Run r plan d new
run_came (Ok v) plan d new f = record { events = plan; is = f ∙ with_events-some d plan; spared = λ x none. none; ok = refl }
run_came (Err y) plan d new f = let came = cut_came plan d new f in record { events = came.0; is = came.1; spared = came.2; ok = tt }

one_disk : (a b : Disk) → Some a ≡ Some b → a ≡ b
one_disk a b e = cc

-- the events that came are one list
pub one_run : (d : Disk) (p q : List Event) → Some (disk_with d p) ≡ Some (disk_with d q) → p ≡ q
one_run d p q e = append_cancel_left d.trace p q (ap (λ (x : Disk). x.trace) (one_disk (disk_with d p) (disk_with d q) e))

-- a run that tells and did all of its plan
pub ok_told : (plan : List Event) (old : Option Disk) (new : Disk) → Some new ≡ with_events old plan → (d : Disk) × (old ≡ Some d) × (new ≡ disk_with d plan)
ok_told plan None new f = absurd (none (f ∙ with_events-none plan))
  where
    none : Some new ≡ None → ⊥
    none e = cc
ok_told plan (Some d) new f = (d, refl, one_disk new (disk_with d plan) (f ∙ with_events-some d plan))

-- ---- what reads give

pub now_unwritten : (disk : Blocks) (p : List Event) (x : ℕ) → written_to x p ≡ [] → block (now_after disk p) x ≡ block disk x
now_unwritten disk p x none =
    sym (Contains-one (block disk x) (block (now_after disk p) x) (subst (λ (ws : Blocks). Contains (block disk x ∷ ws) (block (now_after disk p) x)) none (now_after-written disk p x)))

pub now_same : (d : Disk) (events : List Event) (x : ℕ) → written_to x events ≡ [] → block (now_of (disk_with d events)) x ≡ block (now_of d) x
now_same d events x none = ap (λ (b : Blocks). block b x) (now_after-append d.base d.trace events) ∙ now_unwritten (now_of d) events x none
