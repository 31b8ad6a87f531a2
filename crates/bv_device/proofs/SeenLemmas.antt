-- Runs of writes and syncs on a device: joined, and cut short.
use Rattle.std.proofs.Common.{◌≡◌, ◌<◌, ℕ, ◌+◌, ◌-◌, List, [], ◌++◌, length, replicate, Result, Ok, Err, refl, sym, ◌∙◌, subst, arith, length-append}
use Rattle.std.specs.Prelude.{IsErrAnd}
use Rattle.spec_disk.specs.declared.event.Event.{Event}
use Rattle.spec_faults.specs.Faults.{CountsFaults}
use Rattle.bv_device.specs.Plan.{a_write, writes, CountsCalls}
use Rattle.bv_device.specs.Seen.{Seen, Performs}
use Rattle.bv_device.proofs.PlanLemmas.{Follows-append, CutShort-append, copies-next}

-- nothing was done
pub Performs-nothing : {E : Type 0} (s : Seen) → Performs {T = Unit {0}} {E = E} (Ok tt) [] s s
Performs-nothing s = record {
  plan = refl;
  blocks = refl;
  calls = record { later = omega arith; ok = omega arith; err = tt };
  faults = record { later = omega arith; failed = tt; kept = refl };
}

-- the counts of two runs, of which the first was Ok
calls-append : {T U E F : Type 0} (r : Result T E) (v : U) (m n before mid now : ℕ) → CountsCalls {T = U} {E = F} m before mid (Ok v) → CountsCalls n mid now r → CountsCalls (m + n) before now r
calls-append (Ok w) v m n before mid now first second = record { later = omega (arith, first.later, second.later); ok = omega (arith, first.ok, second.ok); err = tt }
calls-append (Err x) v m n before mid now first second = record { later = omega (arith, first.later, second.later); ok = tt; err = omega (arith, first.ok, second.err) }

pub faults-append : {T U E F : Type 0} (r : Result T E) (v : U) (before mid now : ℕ) → CountsFaults {T = U} {E = F} before mid (Ok v) → CountsFaults mid now r → CountsFaults before now r
faults-append (Ok w) v before mid now first second = record { later = omega (arith, first.later, second.later); failed = tt; kept = second.kept ∙ first.kept }
faults-append (Err x) v before mid now first second = record { later = omega (arith, first.later, second.later); failed = omega (arith, first.kept, second.failed); kept = tt }

-- a first part was done
pub Performs-append : {T U E F : Type 0} (r : Result T E) (v : U) (p q : List Event) (old mid new : Seen) → Performs {T = U} {E = F} (Ok v) p old mid → Performs r q mid new → Performs r (p ++ q) old new
Performs-append r v p q old mid new first second = record {
  plan = Follows-append r p q old.told mid.told new.told first.plan second.plan;
  blocks = second.blocks ∙ first.blocks;
  calls = rw (length-append p q) (calls-append r v (length p) (length q) old.calls_made mid.calls_made new.calls_made first.calls second.calls);
  faults = faults-append r v old.fault_count mid.fault_count new.fault_count first.faults second.faults;
}

-- a first part was cut short
pub Performs-cut : {T U E F : Type 0} (x : E) (y : F) (p q : List Event) (old new : Seen) → Performs {T = T} {E = E} (Err x) p old new → Performs {T = U} {E = F} (Err y) (p ++ q) old new
Performs-cut x y p q old new first = record {
  plan = CutShort-append p q old.told new.told first.plan;
  blocks = first.blocks;
  calls = record { later = first.calls.later; ok = tt; err = omega (arith, first.calls.err, length-append p q) };
  faults = record { later = first.faults.later; failed = first.faults.failed; kept = tt };
}

-- a call cut its part short, and `?` handed on the error
pub Performs-stopped : {T U E : Type 0} (r : Result U E) (x : E) (p q : List Event) (old new : Seen) → Performs {T = T} {E = E} (Err x) p old new
    → IsErrAnd r (λ y. y ≡ x) → Performs r (p ++ q) old new
Performs-stopped (Ok v) x p q old new first e = absurd e
Performs-stopped {T} {U} {E} (Err y) x p q old new first e = Performs-cut {T = T} {U = U} {E = E} {F = E} x y p q old new first

-- what performs the rest performs all of it, once one more place was written
pub Performs-copies : {T E F : Type 0} (r : Result T E) (at done count : ℕ) (x : List ℕ) (old mid new : Seen) → done < count
    → Performs {T = Unit {0}} {E = F} (Ok tt) (a_write (at + done) x) old mid → Performs r (writes (at + (done + 1)) (replicate (count - (done + 1)) x)) mid new
    → Performs r (writes (at + done) (replicate (count - done) x)) old new
Performs-copies {T} {E} {F} r at done count x old mid new below first rest =
    subst (λ (p : List Event). Performs r p old new) (sym (copies-next at done count x below))
    (Performs-append {T = T} {U = Unit {0}} {E = E} {F = F} r tt (a_write (at + done) x) (writes (at + (done + 1)) (replicate (count - (done + 1)) x)) old mid new first rest)

-- the write to one more place was cut short
pub Performs-cut_copies : {T U E F : Type 0} (e : E) (f : F) (at done count : ℕ) (x : List ℕ) (old new : Seen) → done < count → Performs {T = T} {E = E} (Err e) (a_write (at + done) x) old new
    → Performs {T = U} {E = F} (Err f) (writes (at + done) (replicate (count - done) x)) old new
Performs-cut_copies {T} {U} {E} {F} e f at done count x old new below first =
    subst (λ (p : List Event). Performs {T = U} {E = F} (Err f) p old new) (sym (copies-next at done count x below))
    (Performs-cut {T = T} {U = U} {E = E} {F = F} e f (a_write (at + done) x) (writes (at + (done + 1)) (replicate (count - (done + 1)) x)) old new first)

-- for a function that calls others with plans of their own, its plan grouped to the right
pub ruleset runs = (Performs-append, Performs-cut, Performs-stopped)
