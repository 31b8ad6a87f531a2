-- What a run of the device is to what the store shows.
use Rattle.std.proofs.Common.{◌≡◌, ◌≤◌, ℕ, ◌+◌, ◌-◌, List, [], ◌∷◌, ◌++◌, length, drop, Option, Some, None, Result, Ok, Err, refl, ap, sym, ◌∙◌, subst, inl, inr, arith, length-append}
use Rattle.std.proofs.lemmas.List.{take-append-le, drop-append-le}
use Rattle.std.specs.Prelude.{option_map, IfSome, OnOk, OnErr}
use Rattle.spec_disk.specs.declared.event.Event.{Event}
use Rattle.spec_disk.specs.Disk.{Blocks, block, now_after}
use Rattle.spec_disk.specs.Images.{written_to}
use Rattle.spec_image.specs.Leaves.{LeavesWithin}
use Rattle.spec_rest.specs.Rest.{Map}
use Rattle.bv_device.specs.Told.{Disk, disk_with, now_of}
use Rattle.bv_device.specs.Plan.{IsPlan, failed_event, CutShort, Follows}
use Rattle.bv_device.specs.Seen.{Performs}
use Rattle.bv_device.proofs.PlanLemmas.{with_events-some, Follows-none}
use Rattle.bv_journal.specs.Stops.{Stops}
use Rattle.bv_store.specs.Stored.{Counts, Grows}
use Rattle.bv_journaled.specs.declared.prepared.Prepared.{Prepared}
use Rattle.bv_journaled.specs.Since.{began_at, since, calls_since}
use Rattle.bv_journaled.specs.Standing.{Standing, stored_of, IsStanding, RestsOn, Both}
use Rattle.bv_journaled.proofs.RunLemmas.{run_came, one_run, now_same}
use Rattle.bv_journaled.proofs.StopLemmas.{run_leaves}

-- ---- the disk since the mount began

pub since_with : (n : ℕ) (d : Disk) (p : List Event) → n ≤ length d.trace → since n (disk_with d p) ≡ disk_with (since n d) p
since_with n d p le =
    let front = take-append-le n d.trace p le in
    let back = drop-append-le n d.trace p le in
    λ i. record { base = now_after d.base (front i); trace = back i }

began_with : (n : ℕ) (d : Disk) (p : List Event) → n ≤ length d.trace → began_at n (disk_with d p) ≡ began_at n d
began_with n d p le = let front = take-append-le n d.trace p le in λ i. record { base = d.base; trace = front i }

pub some_since : (n : ℕ) (d : Disk) (p : List Event) (o : Option Disk) → n ≤ length d.trace → o ≡ Some (disk_with d p) → option_map (since n) o ≡ Some (disk_with (since n d) p)
some_since n d p o le is = ap (option_map (since n)) is ∙ ap (λ (y : Disk). Some y) (since_with n d p le)

cut_since : (n : ℕ) (plan : List Event) (d : Disk) (new : Option Disk) → n ≤ length d.trace → CutShort plan (Some d) new → CutShort plan (Some (since n d)) (option_map (since n) new)
cut_since n [] d new le cut = absurd cut
cut_since n (e ∷ plan) d new le cut = elim cut [
  | inl same ↦ inl (ap (option_map (since n)) same)
  | inr more ↦ elim more [
    | inl f ↦ inr (inl (some_since n d (failed_event e ∷ []) new le f))
    | inr on ↦ inr (inr (subst (λ (x : Disk). CutShort plan (Some x) (option_map (since n) new)) (since_with n d (e ∷ []) le)
        (cut_since n plan (disk_with d (e ∷ [])) new (omega (arith, le, length-append d.trace (e ∷ []))) on)))
  ]
]

pub follows_since : {T E : Type 0} (r : Result T E) (n : ℕ) (plan : List Event) (d : Disk) (new : Option Disk) → n ≤ length d.trace → Follows r plan (Some d) new → Follows r plan (Some (since n d)) (option_map (since n) new)
follows_since (Ok v) n plan d new le f = some_since n d plan new le (f ∙ with_events-some d plan) ∙ sym (with_events-some (since n d) plan)
follows_since (Err x) n plan d new le f = cut_since n plan d new le f

-- ---- what the store shows of a run

module _ {T E : Type 0} (r : Result T E) (plan : List Event) (old new : Standing) (is : IsStanding old) (geometry : new.meta.geometry ≡ old.meta.geometry) (opened : new.opened ≡ old.opened) (performs : Performs r plan old.device new.device) where
  same_began : (o : Option Disk) → IfSome o (λ d. length d.trace ≡ old.device.calls_made) → Follows r plan o new.device.told → option_map (began_at old.opened) new.device.told ≡ option_map (began_at old.opened) o
  same_began None long f = ap (option_map (began_at old.opened)) (Follows-none r plan new.device.told f)
  same_began (Some d) long f =
      let came = run_came r plan d new.device.told f in
      ap (option_map (began_at old.opened)) came.is ∙ ap (λ (y : Disk). Some y) (began_with old.opened d came.events (omega (arith, long, is.opened)))

  later : (o : Option Disk) → IfSome o (λ d. length d.trace ≡ old.device.calls_made) → Follows r plan o new.device.told
      → calls_since (option_map (since old.opened) o) (old.device.calls_made - old.opened) ≤ calls_since (option_map (since old.opened) new.device.told) (new.device.calls_made - old.opened)
  later None long f =
      subst (λ (x : Option Disk). old.device.calls_made - old.opened ≤ calls_since (option_map (since old.opened) x) (new.device.calls_made - old.opened)) (sym (Follows-none r plan new.device.told f)) (omega (arith, performs.calls.later))
  later (Some d) long f =
      let came = run_came r plan d new.device.told f in
      let le : old.opened ≤ length d.trace = omega (arith, long, is.opened) in
      subst (λ (x : Option Disk). length (drop old.opened d.trace) ≤ calls_since x (new.device.calls_made - old.opened)) (sym (some_since old.opened d came.events new.device.told le came.is))
      (omega (arith, length-append (drop old.opened d.trace) came.events))

  pub run_counts : Counts r (stored_of old) (stored_of new)
  run_counts = record {
    geometry = geometry;
    began = ap (λ (n : ℕ). option_map (began_at n) new.device.told) opened ∙ same_began old.device.told is.told performs.plan;
    calls = subst (λ (n : ℕ). calls_since (option_map (since old.opened) old.device.told) (old.device.calls_made - old.opened) ≤ calls_since (option_map (since n) new.device.told) (new.device.calls_made - n)) (sym opened) (later old.device.told is.told performs.plan);
    faults = performs.faults;
  }

  -- what is told has grown by the events of the run
  grown : (P : Disk → List Event → Type 0) (o : Option Disk) → IfSome o (λ d. length d.trace ≡ old.device.calls_made) → Follows r plan o new.device.told
      → ((d : Disk) (more : List Event) → option_map (since old.opened) o ≡ Some d → Follows r plan (Some d) (Some (disk_with d more)) → P d more)
      → Grows (option_map (since old.opened) o) (option_map (since old.opened) new.device.told) P
  grown P None long f each = ap (option_map (since old.opened)) (Follows-none r plan new.device.told f)
  grown P (Some d) long f each =
      let came = run_came r plan d new.device.told f in
      let le : old.opened ≤ length d.trace = omega (arith, long, is.opened) in
      let told = some_since old.opened d came.events new.device.told le came.is in (
        came.events,
        told,
        each (since old.opened d) came.events refl (subst (λ (x : Option Disk). Follows r plan (Some (since old.opened d)) x) told (follows_since r old.opened plan d new.device.told le f)),
      )

  pub run_grows : (P : Disk → List Event → Type 0) → ((d : Disk) (more : List Event) → (stored_of old).told ≡ Some d → Follows r plan (Some d) (Some (disk_with d more)) → P d more) → Grows (stored_of old).told (stored_of new).told P
  run_grows P each =
      subst (λ (n : ℕ). Grows (stored_of old).told (option_map (since n) new.device.told) P) (sym opened) (grown P old.device.told is.told performs.plan each)

  -- an Ok run has a call for each event of its plan
  counted : (o : Option Disk) → IfSome o (λ d. length d.trace ≡ old.device.calls_made) → Follows r plan o new.device.told → (v : T) → r ≡ Ok v
      → calls_since (option_map (since old.opened) new.device.told) (new.device.calls_made - old.opened) ≡ calls_since (option_map (since old.opened) o) (old.device.calls_made - old.opened) + length plan
  counted None long f v ok =
      let calls = subst (λ (x : Result T E). OnOk x (new.device.calls_made ≡ old.device.calls_made + length plan)) ok performs.calls.ok in
      subst (λ (x : Option Disk). calls_since (option_map (since old.opened) x) (new.device.calls_made - old.opened) ≡ old.device.calls_made - old.opened + length plan) (sym (Follows-none r plan new.device.told f)) (omega (arith, calls, is.opened))
  counted (Some d) long f v ok =
      let came = run_came r plan d new.device.told f in
      let le : old.opened ≤ length d.trace = omega (arith, long, is.opened) in
      let same : came.events ≡ plan = subst (λ (x : Result T E). OnOk x (came.events ≡ plan)) ok came.ok in
      let long' : length (drop old.opened d.trace ++ came.events) ≡ length (drop old.opened d.trace) + length plan = length-append (drop old.opened d.trace) came.events ∙ ap (λ (p : List Event). length (drop old.opened d.trace) + length p) same in
      subst (λ (x : Option Disk). calls_since x (new.device.calls_made - old.opened) ≡ length (drop old.opened d.trace) + length plan) (sym (some_since old.opened d came.events new.device.told le came.is)) long'

  pub run_calls : (v : T) → r ≡ Ok v → (stored_of new).calls ≡ (stored_of old).calls + length plan
  run_calls v ok =
      subst (λ (n : ℕ). calls_since (option_map (since n) new.device.told) (new.device.calls_made - n) ≡ (stored_of old).calls + length plan) (sym opened) (counted old.device.told is.told performs.plan v ok)

pub on_ok : {T E : Type 0} (r : Result T E) (P : Type 0) → ((v : T) → r ≡ Ok v → P) → OnOk r P
on_ok (Ok v) P h = h v refl
on_ok (Err x) P h = tt

-- where the disk told keeps something, a run keeps what its plan's stops leave
pub told_rests : (s : Standing) (d : Disk) (a b : Map) → (stored_of s).told ≡ Some d → Both s a b → RestsOn s d a b
told_rests s d a b is both = subst (λ (o : Option Disk). IfSome o (λ x. RestsOn s x a b)) is both

pub rests_told : (s : Standing) (a b : Map) (o : Option Disk) → (stored_of s).told ≡ o → ((d : Disk) → o ≡ Some d → RestsOn s d a b) → Both s a b
rests_told s a b None is each = subst (λ (x : Option Disk). IfSome x (λ d. RestsOn s d a b)) (sym is) tt
rests_told s a b (Some d) is each = subst (λ (x : Option Disk). IfSome x (λ y. RestsOn s y a b)) (sym is) (each d refl)

-- each stop within the events that came leaves P
pub more_leaves : {T E : Type 0} (r : Result T E) (d : Disk) (plan more : List Event) (P : Blocks → Type 0) → IsPlan plan → Stops d plan P → Follows r plan (Some d) (Some (disk_with d more)) → LeavesWithin d.base d.trace more P
more_leaves r d plan more P planned stops f =
    let left = run_leaves r d plan (Some (disk_with d more)) P planned stops f in
    subst (λ (events : List Event). LeavesWithin d.base d.trace events P) (sym (one_run d more left.events left.is)) left.leaves

-- and a block to which the plan writes nothing is as it was
pub more_spares : {T E : Type 0} (r : Result T E) (d : Disk) (plan more : List Event) (x : ℕ) → written_to x plan ≡ [] → Follows r plan (Some d) (Some (disk_with d more)) → block (now_of (disk_with d more)) x ≡ block (now_of d) x
more_spares r d plan more x none f =
    let came = run_came r plan d (Some (disk_with d more)) f in
    now_same d more x (subst (λ (events : List Event). written_to x events ≡ []) (sym (one_run d more came.events came.is)) (came.spared x none))

-- at Ok the plan came
pub more_ok : {T E : Type 0} (r : Result T E) (d : Disk) (plan more : List Event) → Follows r plan (Some d) (Some (disk_with d more)) → OnOk r (more ≡ plan)
more_ok (Ok v) d plan more f = one_run d more plan (f ∙ with_events-some d plan)
more_ok (Err x) d plan more f = tt

-- what had told goes on to tell
pub grown_from : (old new : Option Disk) (P : Disk → List Event → Type 0) → Grows old new P → (d' : Disk) → new ≡ Some d' → (d : Disk) × (more : List Event) × (old ≡ Some d) × (d' ≡ disk_with d more) × P d more
grown_from None new P h d' e = absurd (none (sym h ∙ e))
  where
    none : {x : Disk} → None ≡ Some x → ⊥
    none e = cc
grown_from (Some d) new P h d' e = (d, h.0, refl, one (sym e ∙ h.1), h.2)
  where
    one : {x y : Disk} → Some x ≡ Some y → x ≡ y
    one e = cc

-- an Ok run that tells told before, and its plan came
pub ok_from : {T E : Type 0} (r : Result T E) (v : T) (plan : List Event) (old new : Standing) → IsStanding old → new.meta.geometry ≡ old.meta.geometry → new.opened ≡ old.opened → Performs r plan old.device new.device
    → r ≡ Ok v → (d' : Disk) → (stored_of new).told ≡ Some d' → (d : Disk) × ((stored_of old).told ≡ Some d) × (d' ≡ disk_with d plan)
ok_from {T} {E} r v plan old new is geometry opened performs ok d' e =
    let at : Grows (stored_of old).told (stored_of new).told (λ d more. OnOk r (more ≡ plan)) =
    run_grows r plan old new is geometry opened performs (λ d more. OnOk r (more ≡ plan)) (λ d more told f. more_ok r d plan more f) in
    let from = grown_from (stored_of old).told (stored_of new).told (λ d more. OnOk r (more ≡ plan)) at d' e in
    let same : from.1 ≡ plan = subst (λ (x : Result T E). OnOk x (from.1 ≡ plan)) ok from.4 in
    (from.0, from.2, from.3 ∙ ap (disk_with from.0) same)

-- what an Ok answer says, from what it was said to say
pub on_ok_from : {T E : Type 0} (r : Result T E) (P Q : Type 0) → OnOk r P → (P → Q) → OnOk r Q
on_ok_from (Ok v) P Q p f = f p
on_ok_from (Err x) P Q p f = tt

pub on_ok_at : {T E : Type 0} (r : Result T E) (v : T) (P : Type 0) → r ≡ Ok v → OnOk r P → P
on_ok_at {T} {E} r v P ok p = subst (λ (x : Result T E). OnOk x P) ok p

-- what follows from either answer
pub either : {T E : Type 0} (r : Result T E) (P Q R : Type 0) → OnOk r P → OnErr r Q → (P → R) → (Q → R) → R
either (Ok v) P Q R p q f h = f p
either (Err x) P Q R p q f h = h q

-- what is planned is no matter of the disk
pub both_planned : (s : Standing) (p : Option Prepared) (a b : Map) → Both s a b → Both (record s { planned = p }) a b
both_planned s p a b both =
    let new : Standing = record s { planned = p } in
    rests_told new a b (stored_of new).told refl (λ d e.
    let rests = told_rests s d a b e both in
    record { info = rests.info; entries = rests.entries; more = rests.more; durable = rests.durable; keeps = rests.keeps; newest = rests.newest; stands = rests.stands; older = rests.older })

pub on_err_from : {T E : Type 0} (r : Result T E) (P Q : Type 0) → OnErr r P → (P → Q) → OnErr r Q
on_err_from (Ok v) P Q p f = tt
on_err_from (Err x) P Q p f = f p
