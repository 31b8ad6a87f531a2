-- What a volume keeps since its opening, from one event to the next.
use Rattle.std.proofs.Common.{◌≡◌, ◌≤◌, ◌⊎◌, ℕ, Option, Some, None, List, [], ◌∷◌, ◌++◌, length, refl, sym, ap, ◌∙◌, subst, arith, append_assoc}
use Rattle.std.specs.Prelude.{IfSome, false}
use Rattle.std.proofs.lemmas.List.{append-nil}
use Rattle.spec_disk.specs.declared.event.Event.{Event}
use Rattle.spec_crash.specs.Timing.{MayCall}
use Rattle.spec_core.specs.History.{History, NeverFall}
use Rattle.spec_core.specs.Synced.{Caused, RiseWithin, fault_of, faults_of}
use Rattle.spec_core.specs.declared.act.Act.{Act}
use Rattle.spec_core.specs.declared.event.CoreEvent.{CoreEvent}
use Rattle.spec_core.specs.declared.reply.Reply.{Reply}
use Rattle.spec_core.specs.declared.who.Who.{Who}
use Rattle.spec_core.proofs.Histories.{last_calls}
use Rattle.bv_device.specs.Told.{Disk}
use Rattle.bv_store.specs.Stored.{Grows}
use Rattle.bv_volume.specs.Events.{Does, Happens, event_of}
use Rattle.bv_volume.specs.Seen.{Seen}
use Rattle.spec_orderly.specs.Slots.{AreMounted, is_unmount}
use Rattle.bv_ledger.specs.Answers.{look_act}
use Rattle.bv_ledger.specs.declared.opening.Look.{Look}
use Rattle.bv_ledger.specs.declared.opening.Look.TheVariants as look
use Rattle.bv_shared.specs.Moments.{HasNow, Moments}
use Rattle.bv_shared.specs.Since.{AreOfOneDisk, AreWithin, EndBy, Since}
use Rattle.bv_shared.proofs.MomentLemmas.{moments_by, moments_fresh}

-- ---- where events ended

rises : (c : ℕ) (es : List CoreEvent) → NeverFall c es → c ≤ last_calls c es
rises c [] k = omega arith
rises c (e ∷ es) k = omega (arith, k.0, rises e.calls es k.1)

pub ends_by : (c n : ℕ) (es : List CoreEvent) → NeverFall c es → last_calls c es ≤ n → EndBy n es
ends_by c n [] k last = tt
ends_by c n (e ∷ es) k last = (omega (arith, last, rises e.calls es k.1), ends_by e.calls n es k.1 last)

within_by : (o : Option Disk) (calls : ℕ) (es : List CoreEvent) → NeverFall 0 es → last_calls 0 es ≤ calls → IfSome o (λ d. length d.trace ≡ calls) → IfSome o (λ d. EndBy (length d.trace) es)
within_by None calls es k last counted = tt
within_by (Some d) calls es k last counted = ends_by 0 (length d.trace) es k (omega (arith, last, counted))

-- by what the volume says of its history
pub are_within : (v : Seen) → NeverFall 0 v.history.events → last_calls 0 v.history.events ≤ v.store.calls → IfSome v.store.told (λ d. length d.trace ≡ v.store.calls) → AreWithin v
are_within v = within_by v.store.told v.store.calls v.history.events

-- ---- faults

rise_from : (a b c : ℕ) (fs : List ℕ) → a ≤ b → RiseWithin b c fs → RiseWithin a c fs
rise_from a b c [] ab k = tt
rise_from a b c (f ∷ fs) ab k = (omega (arith, k.0, ab), k.1, k.2)

rise_on : (a b c : ℕ) (fs more : List ℕ) → a ≤ b → b ≤ c → RiseWithin a b fs → RiseWithin b c more → RiseWithin a c (fs ++ more)
rise_on a b c [] more ab bc k l = rise_from a b c more ab l
rise_on a b c (f ∷ fs) more ab bc k l = (k.0, omega (arith, k.1, bc), rise_on f b c fs more k.1 bc k.2 l)

faults_more : (es : List CoreEvent) (e : CoreEvent) → faults_of (es ++ e ∷ []) ≡ faults_of es ++ fault_of e.reply
faults_more [] e = append-nil (fault_of e.reply)
faults_more (x ∷ es) e = ap (λ (ys : List ℕ). fault_of x.reply ++ ys) (faults_more es e) ∙ sym (append_assoc (fault_of x.reply) (faults_of es) (fault_of e.reply))

pub caused_more : (v w : Seen) (who : Who) (act : Act) (reply : Reply) → Happens v w who act reply → (first : ℕ) → first ≤ v.store.faults → Caused v.history first v.store.faults → Caused w.history first w.store.faults
caused_more v w who act reply happens first rose k =
    subst (λ (h : History). RiseWithin first w.store.faults (faults_of h.events)) (sym happens.history)
    (subst (λ (fs : List ℕ). RiseWithin first w.store.faults fs) (sym (faults_more v.history.events (event_of who act reply w.store.calls)))
    (rise_on first v.store.faults w.store.faults (faults_of v.history.events) (fault_of reply) rose happens.faults.0 k happens.faults.1))

-- ---- no unmount

mounted_push : (es : List CoreEvent) (e : CoreEvent) → AreMounted es → is_unmount e.act ≡ false → AreMounted (es ++ e ∷ [])
mounted_push [] e k one = (one, tt)
mounted_push (x ∷ es) e k one = (k.0, mounted_push es e k.1 one)

mounted_more : (v w : Seen) (who : Who) (act : Act) (reply : Reply) → Happens v w who act reply → is_unmount act ≡ false → AreMounted v.history.events → AreMounted w.history.events
mounted_more v w who act reply happens one k =
    subst (λ (h : History). AreMounted h.events) (sym happens.history) (mounted_push v.history.events (event_of who act reply w.store.calls) k one)

-- ---- one disk

one_disk : (b o new : Option Disk) (P : Disk → List Event → Type 0) → Grows o new P → AreOfOneDisk b o → AreOfOneDisk b new
one_disk b None new P grows k = subst (λ (x : Option Disk). AreOfOneDisk b x) (sym grows) k
one_disk None (Some d) new P grows k = absurd k
one_disk (Some b) (Some d) new P grows k = subst (λ (x : Option Disk). AreOfOneDisk (Some b) x) (sym grows.1) k

pub one_disk_more : (v w : Seen) (who : Who) (act : Act) (reply : Reply) → Happens v w who act reply → AreOfOneDisk v.store.began v.store.told → AreOfOneDisk w.store.began w.store.told
one_disk_more v w who act reply happens k =
    subst (λ (b : Option Disk). AreOfOneDisk b w.store.told) (sym happens.began)
    (one_disk v.store.began v.store.told w.store.told (λ d more. (more ≡ []) ⊎ MayCall act) happens.told k)

-- ---- all of it

-- as it began
pub since_fresh : (o v : Seen) → o ≡ v → v.history.events ≡ [] → AreOfOneDisk v.store.began v.store.told → Since o v
since_fresh o v is fresh disk =
    subst (λ (x : Seen). Since x v) (sym is)
    (subst (λ (es : List CoreEvent). (v.store.faults ≤ v.store.faults) × RiseWithin v.store.faults v.store.faults (faults_of es) × AreMounted es × AreOfOneDisk v.store.began v.store.told × Moments v) (sym fresh)
    (omega arith, tt, tt, disk, moments_fresh v fresh))

module _ (o v w : Seen) (within : AreWithin v) (who : Who) (act : Act) where
  since_more : (reply : Reply) → Happens v w who act reply → is_unmount act ≡ false → HasNow w → Since o v → Since o w
  since_more reply happens one now k =
      let disk = one_disk_more v w who act reply happens k.3 in (
        omega (arith, k.0, happens.faults.0),
        caused_more v w who act reply happens o.store.faults k.0 k.1,
        mounted_more v w who act reply happens one k.2,
        disk,
        moments_by v w within who act (Some reply) happens now disk k.4,
      )

  -- with a reply or without
  pub since_by : (q : Option Reply) → Does v w who act q → is_unmount act ≡ false → HasNow w → Since o v → Since o w
  since_by None does one now k = subst (λ (x : Seen). Since o x) (sym does) k
  since_by (Some reply) does one now k = since_more reply does one now k

pub since_spared : (o v u : Seen) → u ≡ record v { spare = u.spare } → Since o v → Since o u
since_spared o v u is k = subst (λ (x : Seen). Since o x) (sym is) k

-- a look is no unmount
pub look_mounted : (slot : ℕ) (what : Look) → is_unmount (look_act slot what) ≡ false
look_mounted slot (look.Read off len) = refl
look_mounted slot look.Scan = refl
