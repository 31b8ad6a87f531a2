-- Plans, and what runs that follow them tell: joined, cut short, and what they keep.
use Rattle.std.proofs.Common.{◌≡◌, ◌<◌, ℕ, suc, ◌+◌, ◌-◌, List, [], ◌∷◌, ◌++◌, length, replicate, true, false, Option, Some, None, Result, Ok, Err, refl, ap, sym, ◌∙◌, subst, inl, inr, arith}
use Rattle.std.proofs.lemmas.List.{append_assoc, append-nil}
use Rattle.spec_disk.specs.declared.event.Event.{Event}
use Rattle.spec_disk.specs.declared.event.Event.TheVariants.{Write, Sync}
use Rattle.bv_device.specs.Told.{Disk, disk_with, with_event}
use Rattle.bv_device.specs.Plan.{writes, IsPlan, with_events, CutShort, Follows}

-- Disks with events more

pub disk_with-nil : (d : Disk) → disk_with d [] ≡ d
disk_with-nil d = ap (λ (t : List Event). let r : Disk = record { base = d.base; trace = t } in r) (append-nil d.trace)

pub disk_with-append : (d : Disk) (p q : List Event) → disk_with (disk_with d p) q ≡ disk_with d (p ++ q)
disk_with-append d p q = ap (λ (t : List Event). let r : Disk = record { base = d.base; trace = t } in r) (append_assoc d.trace p q)

pub with_events-append : (told : Option Disk) (p q : List Event) → with_events told (p ++ q) ≡ with_events (with_events told p) q
with_events-append told [] q = refl
with_events-append told (e ∷ p) q = with_events-append (with_event told e) p q

pub with_events-some : (d : Disk) (p : List Event) → with_events (Some d) p ≡ Some (disk_with d p)
with_events-some d [] = ap (λ (e : Disk). Some e) (sym (disk_with-nil d))
with_events-some d (e ∷ p) = with_events-some (disk_with d (e ∷ [])) p ∙ ap (λ (x : Disk). Some x) (disk_with-append d (e ∷ []) p)

pub with_events-none : (p : List Event) → with_events None p ≡ None
with_events-none [] = refl
with_events-none (e ∷ p) = with_events-none p

-- Plans

pub IsPlan-tail : (e : Event) (plan : List Event) → IsPlan (e ∷ plan) → IsPlan plan
IsPlan-tail (Write at bytes true) plan h = h
IsPlan-tail (Write at bytes false) plan h = absurd h
IsPlan-tail (Sync true) plan h = h
IsPlan-tail (Sync false) plan h = absurd h

pub IsPlan-append : (p q : List Event) → IsPlan p → IsPlan q → IsPlan (p ++ q)
IsPlan-append [] q hp hq = hq
IsPlan-append (Write at bytes true ∷ p) q hp hq = IsPlan-append p q hp hq
IsPlan-append (Write at bytes false ∷ p) q hp hq = absurd hp
IsPlan-append (Sync true ∷ p) q hp hq = IsPlan-append p q hp hq
IsPlan-append (Sync false ∷ p) q hp hq = absurd hp

pub IsPlan-writes : (at : ℕ) (blocks : List (List ℕ)) → IsPlan (writes at blocks)
IsPlan-writes at [] = tt
IsPlan-writes at (bytes ∷ rest) = IsPlan-writes (at + 1) rest

pub writes-append : (at : ℕ) (a b : List (List ℕ)) → writes at (a ++ b) ≡ writes at a ++ writes (at + length a) b
writes-append at [] b = ap (λ (n : ℕ). writes n b) (omega arith)
writes-append at (bytes ∷ a) b =
    ap (λ (p : List Event). Write at bytes true ∷ p) (writes-append (at + 1) a b ∙ ap (λ (n : ℕ). writes (at + 1) a ++ writes n b) (omega arith))

-- Runs

-- a first part was done
pub Follows-append : {T E : Type 0} (r : Result T E) (p q : List Event) (old mid new : Option Disk) → mid ≡ with_events old p → Follows r q mid new → Follows r (p ++ q) old new
Follows-append (Ok v) p q old mid new is f = f ∙ ap (λ (o : Option Disk). with_events o q) is ∙ sym (with_events-append old p q)
Follows-append (Err x) [] q old mid new is f = subst (λ (o : Option Disk). CutShort q o new) is f
Follows-append {T} {E} (Err x) (e ∷ p) q old mid new is f = inr (inr (Follows-append {T = T} {E = E} (Err x) p q (with_event old e) mid new is f))

-- a first part was cut short
pub CutShort-append : (p q : List Event) (old new : Option Disk) → CutShort p old new → CutShort (p ++ q) old new
CutShort-append [] q old new c = absurd c
CutShort-append (e ∷ p) q old new c = elim c [
  | inl none ↦ inl none
  | inr more ↦ elim more [ inl f ↦ inr (inl f) | inr later ↦ inr (inr (CutShort-append p q (with_event old e) new later)) ]
]

-- a device that tells nothing goes on so
pub Follows-none : {T E : Type 0} (r : Result T E) (plan : List Event) (new : Option Disk) → Follows r plan None new → new ≡ None
Follows-none (Ok v) plan new f = f ∙ with_events-none plan
Follows-none (Err x) [] new f = absurd f
Follows-none {T} {E} (Err x) (e ∷ plan) new f = elim f [
  | inl is ↦ is
  | inr more ↦ elim more [ inl is ↦ is | inr later ↦ Follows-none {T = T} {E = E} (Err x) plan new later ]
]

-- Writes of one block to several places

pub copies-next : (at done count : ℕ) (x : List ℕ) → done < count
    → writes (at + done) (replicate (count - done) x) ≡ Write (at + done) x true ∷ writes (at + (done + 1)) (replicate (count - (done + 1)) x)
copies-next at done count x below =
    let n_is : count - done ≡ suc (count - (done + 1)) = omega arith in
    ap (λ (n : ℕ). writes (at + done) (replicate n x)) n_is
    ∙ ap (λ (n : ℕ). Write (at + done) x true ∷ writes n (replicate (count - (done + 1)) x)) (omega arith)
