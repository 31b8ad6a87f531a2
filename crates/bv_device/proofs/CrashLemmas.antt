-- What each stop of a run leaves: of runs joined, of a plan that is walked along, and of a plan that was cut short.
use Rattle.std.proofs.Common.{◌≡◌, ◌<◌, ◌≤◌, ℕ, zero, suc, ◌+◌, ◌-◌, List, [], ◌∷◌, ◌++◌, length, take, true, false, Option, Some, Result, Ok, Err, refl, ap, sym, ◌∙◌, subst, inl, inr, arith}
use Rattle.std.proofs.lemmas.List.{append_assoc, take_all, length_push, length-append, take-append-le}
use Rattle.std.proofs.Math.Seq.{take-append-add, take-append_seam}
use Rattle.std.proofs.lemmas.Bool.{cases_lt}
use Rattle.spec_disk.specs.declared.event.Event.{Event}
use Rattle.spec_disk.specs.declared.event.Event.TheVariants.{Write, Sync}
use Rattle.spec_disk.specs.Disk.{Blocks}
use Rattle.spec_disk.specs.Images.{IsImage}
use Rattle.spec_disk.proofs.EventLemmas.{candidates-push_write, candidates-push_failed_sync}
use Rattle.spec_disk.proofs.ImageLemmas.{image-same_candidates}
use Rattle.bv_device.specs.Told.{Disk, disk_with, with_event}
use Rattle.bv_device.specs.Plan.{IsPlan, failed_event, with_events, CutShort, Follows}
use Rattle.bv_device.specs.Crash.{EachStop, Crash, Ran, LeftByPlan}
use Rattle.bv_device.proofs.PlanLemmas.{disk_with-nil, disk_with-append, with_events-some, IsPlan-tail}

-- a property that doesn't get harder with time
abbrev pub Lasts : (ℕ → List (List ℕ) → Type 0) → Type 0
Lasts P = (k : ℕ) (j : List (List ℕ)) → P k j → P (k + 1) j

-- Runs, event by event

pub Crash-none : (d : Disk) (P : ℕ → List (List ℕ) → Type 0) → EachStop d (P 0) → Crash d [] P
Crash-none d P h k le =
    let z : k ≡ 0 = omega arith in
    subst (λ (n : ℕ). EachStop (disk_with d (take n [])) (P n)) (sym z) (subst (λ (e : Disk). EachStop e (P 0)) (sym (disk_with-nil d)) h)

pub Crash-more : (d : Disk) (p : List Event) (e : Event) (P : ℕ → List (List ℕ) → Type 0) → Crash d p P
    → EachStop (disk_with d (p ++ e ∷ [])) (P (length p + 1)) → Crash d (p ++ e ∷ []) P
Crash-more d p e P c h k le j i =
    elim (cases_lt (length p) k) [
      | inl lt ↦
          let k_is : k ≡ length p + 1 = omega (arith, length_push p e, le) in
          let all : take k (p ++ e ∷ []) ≡ p ++ e ∷ [] = take_all k (p ++ e ∷ []) (omega (arith, length_push p e)) in
          subst (λ (n : ℕ). P n j) (sym k_is) (h j (subst (λ (t : List Event). IsImage d.base (d.trace ++ t) j) all i))
      | inr small ↦ c k small j (subst (λ (t : List Event). IsImage d.base (d.trace ++ t) j) (take-append-le k p (e ∷ []) small) i)
    ]

pub Crash-append : (d : Disk) (p q : List Event) (P : ℕ → List (List ℕ) → Type 0) → Crash d p P
    → Crash (disk_with d p) q (λ k j. 0 < k → P (length p + k) j) → Crash d (p ++ q) P
Crash-append d p q P a b k le j i =
    elim (cases_lt (length p) k) [
      | inl lt ↦
          let n : ℕ = k - length p in
          let k_is : k ≡ length p + n = omega arith in
          let parts : take k (p ++ q) ≡ p ++ take n q = ap (λ (m : ℕ). take m (p ++ q)) k_is ∙ take-append-add p q n in
          let whole : d.trace ++ take k (p ++ q) ≡ (d.trace ++ p) ++ take n q = ap (λ (t : List Event). d.trace ++ t) parts ∙ sym (append_assoc d.trace p (take n q)) in
          let fits : n ≤ length q = omega (arith, length-append p q, le) in
          subst (λ (m : ℕ). P m j) (sym k_is) (b n fits j (subst (λ (t : List Event). IsImage d.base t j) whole i) (omega arith))
      | inr small ↦ a k small j (subst (λ (t : List Event). IsImage d.base (d.trace ++ t) j) (take-append-le k p q small) i)
    ]

pub Crash-weaker : (d : Disk) (p : List Event) (P Q : ℕ → List (List ℕ) → Type 0) → ((k : ℕ) (j : List (List ℕ)) → k ≤ length p → P k j → Q k j)
    → Crash d p P → Crash d p Q
Crash-weaker d p P Q w c k le j i = w k j le (c k le j i)

pub Crash-front : (d : Disk) (p q : List Event) (P : ℕ → List (List ℕ) → Type 0) → Crash d (p ++ q) P → Crash d p P
Crash-front d p q P c k le j i =
    c k (omega (arith, length-append p q, le)) j (subst (λ (t : List Event). IsImage d.base (d.trace ++ t) j) (sym (take-append-le k p q le)) i)

-- the stop after a first part
pub Crash-at : (d : Disk) (p q : List Event) (P : ℕ → List (List ℕ) → Type 0) → Crash d (p ++ q) P → EachStop (disk_with d p) (P (length p))
Crash-at d p q P c j i =
    c (length p) (omega (arith, length-append p q)) j (subst (λ (t : List Event). IsImage d.base (d.trace ++ t) j) (sym (take-append_seam p q)) i)

-- A plan that was cut short

-- a failed write leaves the images of an Ok one
pub image-failed_write : (base : List (List ℕ)) (p : List Event) (at : ℕ) (bytes : List ℕ) (j : List (List ℕ)) → IsImage base (p ++ Write at bytes false ∷ []) j → IsImage base (p ++ Write at bytes true ∷ []) j
image-failed_write base p at bytes j i =
    image-same_candidates base (p ++ Write at bytes false ∷ []) (p ++ Write at bytes true ∷ []) j
    (λ b s. candidates-push_write base p at bytes false b s ∙ sym (candidates-push_write base p at bytes true b s)) i

-- a failed sync leaves those that there were
pub image-failed_sync : (base : List (List ℕ)) (p : List Event) (j : List (List ℕ)) → IsImage base (p ++ Sync false ∷ []) j → IsImage base p j
image-failed_sync base p j i = image-same_candidates base (p ++ Sync false ∷ []) p j (λ b s. candidates-push_failed_sync base p b s) i

-- the call that fails after a first part
EachStop-failed : (d : Disk) (before : List Event) (e : Event) (plan : List Event) (P : ℕ → List (List ℕ) → Type 0) → Lasts P → IsPlan (e ∷ plan)
    → Crash d (before ++ e ∷ plan) P → EachStop (disk_with d (before ++ failed_event e ∷ [])) (P (length before + 1))
EachStop-failed d before (Write at bytes true) plan P lasts planned c j i =
    let image : IsImage d.base (d.trace ++ (before ++ Write at bytes true ∷ [])) j =
    subst (λ (t : List Event). IsImage d.base t j) (append_assoc d.trace before (Write at bytes true ∷ [])) (image-failed_write d.base (d.trace ++ before) at bytes j (subst (λ (t : List Event). IsImage d.base t j) (sym (append_assoc d.trace before (Write at bytes false ∷ []))) i)) in
    let whole : (before ++ Write at bytes true ∷ []) ++ plan ≡ before ++ Write at bytes true ∷ plan = append_assoc before (Write at bytes true ∷ []) plan in
    subst (λ (n : ℕ). P n j) (length_push before (Write at bytes true)) (Crash-at d (before ++ Write at bytes true ∷ []) plan P (subst (λ (t : List Event). Crash d t P) (sym whole) c) j image)
EachStop-failed d before (Write at bytes false) plan P lasts planned c j i = absurd planned
EachStop-failed d before (Sync true) plan P lasts planned c j i =
    let image : IsImage d.base (d.trace ++ before) j = image-failed_sync d.base (d.trace ++ before) j (subst (λ (t : List Event). IsImage d.base t j) (sym (append_assoc d.trace before (Sync false ∷ []))) i) in
    lasts (length before) j (Crash-at d before (Sync true ∷ plan) P c j image)
EachStop-failed d before (Sync false) plan P lasts planned c j i = absurd planned

Ran-cut_from : (d : Disk) (before plan : List Event) (new : Option Disk) (P : ℕ → List (List ℕ) → Type 0) → Lasts P → IsPlan plan
    → Crash d (before ++ plan) P → CutShort plan (Some (disk_with d before)) new → Ran d new P
Ran-cut_from d before [] new P lasts planned c cut = absurd cut
Ran-cut_from d before (e ∷ plan) new P lasts planned c cut =
    let some_is : (x : Event) → with_event (Some (disk_with d before)) x ≡ Some (disk_with d (before ++ x ∷ [])) = λ x. ap (λ (y : Disk). Some y) (disk_with-append d before (x ∷ [])) in
    elim cut [
      | inl same ↦ record { events = before; is = same; crash = Crash-front d before (e ∷ plan) P c }
      | inr more ↦ elim more [
        | inl f ↦ record {
          events = before ++ failed_event e ∷ [];
          is = f ∙ some_is (failed_event e);
          crash = Crash-more d before (failed_event e) P (Crash-front d before (e ∷ plan) P c) (EachStop-failed d before e plan P lasts planned c);
        }
        | inr on ↦ Ran-cut_from d (before ++ e ∷ []) plan new P lasts (IsPlan-tail e plan planned)
            (subst (λ (t : List Event). Crash d t P) (sym (append_assoc before (e ∷ []) plan)) c)
            (subst (λ (o : Option Disk). CutShort plan o new) (some_is e) on)
      ]
    ]

-- What holds of each stop of the plan holds of each stop of a run that follows it, whichever of its calls failed.
pub Ran-plan : {T E : Type 0} (r : Result T E) (d : Disk) (plan : List Event) (old new : Option Disk) (P : ℕ → List (List ℕ) → Type 0) → Lasts P → IsPlan plan
    → Crash d plan P → old ≡ Some d → Follows r plan old new → Ran d new P
Ran-plan (Ok v) d plan old new P lasts planned c is f =
    record { events = plan; is = f ∙ ap (λ (o : Option Disk). with_events o plan) is ∙ with_events-some d plan; crash = c }
Ran-plan (Err x) d plan old new P lasts planned c is f =
    Ran-cut_from d [] plan new P lasts planned c
    (subst (λ (y : Disk). CutShort plan (Some y) new) (sym (disk_with-nil d)) (subst (λ (o : Option Disk). CutShort plan o new) is f))

-- The same with no property: whatever a stop of the run leaves, a stop of the plan leaves, and not later.
pub Ran-left_by_plan : {T E : Type 0} (r : Result T E) (d : Disk) (plan : List Event) (new : Option Disk) → IsPlan plan → Follows r plan (Some d) new → Ran d new (LeftByPlan d plan)
Ran-left_by_plan r d plan new planned f =
    Ran-plan r d plan (Some d) new (LeftByPlan d plan) (λ k j l. (l.0, omega (arith, l.1), l.2, l.3)) planned (λ k le j i. (k, omega arith, le, i)) refl f

-- A walk along a plan

-- whatever a stop leaves before the plan has P n, after its first event P (n + 1), and so on
abbrev pub Walks : Disk → List Event → (ℕ → Blocks → Type 0) → ℕ → Type 0
Walks d [] P n = EachStop d (P n)
Walks d (e ∷ plan) P n = EachStop d (P n) × Walks (disk_with d (e ∷ [])) plan P (n + 1)

-- each event of the plan keeps S
abbrev pub EachKeeps : (Disk → Type 0) → List Event → Type 0
EachKeeps S [] = Unit {0}
EachKeeps S (e ∷ plan) = ((d : Disk) → S d → S (disk_with d (e ∷ []))) × EachKeeps S plan

pub Walks-each : (d : Disk) (plan : List Event) (P : ℕ → List (List ℕ) → Type 0) (n k : ℕ) → Walks d plan P n → k ≤ length plan → EachStop (disk_with d (take k plan)) (P (n + k))
Walks-each d [] P n zero w le j i = let e : n ≡ n + 0 = omega arith in subst (λ (x : ℕ). P x j) e (w j (subst (λ (x : Disk). IsImage x.base x.trace j) (disk_with-nil d) i))
Walks-each d [] P n (suc k) w le j i = absurd (omega (arith, le))
Walks-each d (e ∷ plan) P n zero w le j i = let e : n ≡ n + 0 = omega arith in subst (λ (x : ℕ). P x j) e (w.0 j (subst (λ (x : Disk). IsImage x.base x.trace j) (disk_with-nil d) i))
Walks-each d (e ∷ plan) P n (suc k) w le j i =
    let time : (n + 1) + k ≡ n + suc k = omega arith in
    subst (λ (x : ℕ). P x j) time (Walks-each (disk_with d (e ∷ [])) plan P (n + 1) k (w.1) (omega (arith, le)) j (subst (λ (t : List Event). IsImage d.base t j) (sym (append_assoc d.trace (e ∷ []) (take k plan))) i))

pub Crash-walk : (d : Disk) (plan : List Event) (P : ℕ → List (List ℕ) → Type 0) → Walks d plan P 0 → Crash d plan P
Crash-walk d plan P w k le = subst (λ (n : ℕ). EachStop (disk_with d (take k plan)) (P n)) (omega arith) (Walks-each d plan P 0 k w le)

pub Walks-append : (d : Disk) (p q : List Event) (P : ℕ → List (List ℕ) → Type 0) (n : ℕ) → Walks d p P n → Walks (disk_with d p) q P (n + length p) → Walks d (p ++ q) P n
Walks-append d [] q P n v w =
    let same : Walks d q P (n + 0) = subst (λ (x : Disk). Walks x q P (n + 0)) (disk_with-nil d) w in
    subst (λ (m : ℕ). Walks d q P m) (omega arith) same
Walks-append d (e ∷ p) q P n v w =
    let later : Walks (disk_with d (e ∷ p)) q P ((n + 1) + length p) = subst (λ (m : ℕ). Walks (disk_with d (e ∷ p)) q P m) (omega arith) w in
    (v.0, Walks-append (disk_with d (e ∷ [])) p q P (n + 1) (v.1) (subst (λ (x : Disk). Walks x q P ((n + 1) + length p)) (sym (disk_with-append d (e ∷ []) p)) later))

-- Where P is the same at each time, the time at the start doesn't matter.
pub Walks-at : (d : Disk) (plan : List Event) (P : List (List ℕ) → Type 0) (n m : ℕ) → Walks d plan (λ _. P) n → Walks d plan (λ _. P) m
Walks-at d [] P n m w = w
Walks-at d (e ∷ plan) P n m w = (w.0, Walks-at (disk_with d (e ∷ [])) plan P (n + 1) (m + 1) (w.1))

-- a state that each event keeps
pub Walks-kept : (S : Disk → Type 0) (P : List (List ℕ) → Type 0) (d : Disk) (plan : List Event) (n : ℕ) → ((x : Disk) → S x → EachStop x P) → EachKeeps S plan → S d → Walks d plan (λ _. P) n
Walks-kept S P d [] n leaves keeps s = leaves d s
Walks-kept S P d (e ∷ plan) n leaves keeps s = (leaves d s, Walks-kept S P (disk_with d (e ∷ [])) plan (n + 1) leaves (keeps.1) (keeps.0 d s))

pub EachKeeps-end : (S : Disk → Type 0) (d : Disk) (plan : List Event) → EachKeeps S plan → S d → S (disk_with d plan)
EachKeeps-end S d [] keeps s = subst S (sym (disk_with-nil d)) s
EachKeeps-end S d (e ∷ plan) keeps s = subst S (disk_with-append d (e ∷ []) plan) (EachKeeps-end S (disk_with d (e ∷ [])) plan (keeps.1) (keeps.0 d s))

-- Runs, one after another

pub Ran-none : (d : Disk) (told : Option Disk) (P : ℕ → List (List ℕ) → Type 0) → told ≡ Some d → EachStop d (P 0) → Ran d told P
Ran-none d told P is h = record { events = []; is = is ∙ ap (λ (e : Disk). Some e) (sym (disk_with-nil d)); crash = Crash-none d P h }

pub Ran-more : (d : Disk) (old new : Option Disk) (e : Event) (P : ℕ → List (List ℕ) → Type 0) → (r : Ran d old P) → new ≡ with_event old e
    → EachStop (disk_with d (r.events ++ e ∷ [])) (P (length r.events + 1)) → Ran d new P
Ran-more d old new e P r is h = record {
  events = r.events ++ e ∷ [];
  is = is ∙ ap (λ (o : Option Disk). with_event o e) r.is ∙ ap (λ (x : Disk). Some x) (disk_with-append d r.events (e ∷ []));
  crash = Crash-more d r.events e P r.crash h;
}

pub Ran-then : (d : Disk) (old new : Option Disk) (P : ℕ → List (List ℕ) → Type 0) → (r : Ran d old P)
    → Ran (disk_with d r.events) new (λ k j. 0 < k → P (length r.events + k) j) → Ran d new P
Ran-then d old new P r q = record {
  events = r.events ++ q.events;
  is = q.is ∙ ap (λ (x : Disk). Some x) (disk_with-append d r.events q.events);
  crash = Crash-append d r.events q.events P r.crash q.crash;
}
