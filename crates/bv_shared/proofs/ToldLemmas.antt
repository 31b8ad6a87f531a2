-- What was told by the end of a put: its write, last.
use Rattle.std.proofs.Common.{◌≡◌, ℕ, zero, suc, true, Some, List, [], ◌∷◌, ◌++◌, length, length-append, take, refl, sym, ap, ◌∙◌, subst, arith, append_assoc}
use Rattle.std.specs.Prelude.{IsSomeAnd, slice_get}
use Rattle.spec_disk.specs.declared.event.Event.{Event}
use Rattle.spec_disk.specs.declared.event.Event.TheVariants as device
use Rattle.spec_crash.specs.Timing.{event_at}
use Rattle.bv_session.specs.declared.entry.Told.{Told}
use Rattle.bv_session.specs.Disk.{told_after}
use Rattle.bv_session.specs.Written.{EndsInWrite}

-- one event more
pub take_next : (xs : List Event) (k : ℕ) (x : Event) → slice_get xs k ≡ Some x → take (suc k) xs ≡ take k xs ++ x ∷ []
take_next [] zero x is = absurd (cc)
take_next [] (suc k) x is = absurd (cc)
take_next (y ∷ ys) zero x is = let same : y ≡ x = cc in ap (λ (z : Event). z ∷ []) same
take_next (y ∷ ys) (suc k) x is = ap (λ (zs : List Event). y ∷ zs) (take_next ys k x is)

-- an event whose last call is an Ok write of these bytes was told with that write last
pub ends_in : (b : Told) (trace : List Event) (calls at : ℕ) (bytes : List ℕ) → event_at trace calls ≡ Some (device.Write at bytes true) → IsSomeAnd (told_after (Some b) trace calls) (λ d. EndsInWrite d.trace bytes)
ends_in b trace zero at bytes is = absurd (cc)
ends_in b trace (suc k) at bytes is =
    (b.trace ++ take k trace, at, ap (λ (xs : List Event). b.trace ++ xs) (take_next trace k (device.Write at bytes true) is) ∙ sym (append_assoc b.trace (take k trace) (device.Write at bytes true ∷ [])))

last_of : (xs : List Event) (x : Event) → slice_get (xs ++ x ∷ []) (length xs) ≡ Some x
last_of [] x = refl
last_of (y ∷ ys) x = last_of ys x

-- the last of all events is at their number
pub last_at : (xs : List Event) (x : Event) (n : ℕ) → length (xs ++ x ∷ []) ≡ n → event_at (xs ++ x ∷ []) n ≡ Some x
last_at xs x n is =
    let next : suc (length xs) ≡ n = omega (arith, is, length-append xs (x ∷ [])) in
    subst (λ (m : ℕ). event_at (xs ++ x ∷ []) m ≡ Some x) next (last_of xs x)
