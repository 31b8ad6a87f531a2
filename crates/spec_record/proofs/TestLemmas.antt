-- Tests in order: a value comes exactly where each holds.
use Rattle.std.proofs.Common.{◌≡◌, ◌<◌, ◌≤◌, ℕ, List, [], ◌∷◌, Bool, true, false, cond, eqb, ltb, leb, ◌&&◌, ◌||◌, ◌⊎◌, inl, inr, Some, Result, Ok, Err, refl, arith}
use Rattle.std.specs.Result.{result_ok}
use Rattle.spec_record.specs.Tests.{value_or_fault, IsBetween, is_between}

-- each test holds
abbrev pub Passed : {E : Type 0} → List (Bool × E) → Type 0
Passed [] = Unit {0}
Passed (test ∷ tests) = (test.0 ≡ true) × Passed tests

chosen : {A E : Type 0} (b : Bool) (fault : E) (rest : Result A E) (y : A) → cond b rest (Err fault) ≡ Ok y → (b ≡ true) × (rest ≡ Ok y)
chosen true fault rest y e = (refl, e)
chosen false fault rest y e = absurd cc

abbrev done : (A E : Type 0) → A → Result A E
done A E x = Ok x

pub ok_is : {A : Type 0} (E : Type 0) (x y : A) → done A E x ≡ done A E y → x ≡ y
ok_is E x y e = cc

-- a value came, so each test held and it is the value
pub value_passed : {A E : Type 0} (tests : List (Bool × E)) (x y : A) → value_or_fault tests x ≡ Ok y → Passed tests × (x ≡ y)
value_passed {A = A} {E = E} [] x y e = (tt, ok_is E x y e)
value_passed (test ∷ tests) x y e =
    let here = chosen test.0 test.1 (value_or_fault tests x) y e in
    let rest = value_passed tests x y here.1 in
    ((here.0, rest.0), rest.1)

-- each test holds, so the value comes
pub passed_value : {A E : Type 0} (tests : List (Bool × E)) (x : A) → Passed tests → value_or_fault tests x ≡ Ok x
passed_value [] x passed = refl
passed_value (test ∷ tests) x passed = rw (passed.0, passed_value tests x passed.1) refl

-- a value that is not none came without a fault
pub some_ok : {A E : Type 0} (r : Result A E) (y : A) → result_ok r ≡ Some y → r ≡ Ok y
some_ok (Ok x) y e = cc
some_ok (Err fault) y e = absurd cc

pub both_true : (a b : Bool) → (a && b) ≡ true → (a ≡ true) × (b ≡ true)
both_true true true e = (refl, refl)
both_true true false e = absurd cc
both_true false b e = absurd cc

pub equal : (a b : ℕ) → eqb a b ≡ true → a ≡ b
equal a b e = grind (arith, e)

pub at_most : (a b : ℕ) → leb a b ≡ true → a ≤ b
at_most a b e = grind (arith, e)

pub eqb_same : (a b : ℕ) → a ≡ b → eqb a b ≡ true
eqb_same a b e = grind (arith, e)

pub leb_true : (a b : ℕ) → a ≤ b → leb a b ≡ true
leb_true a b e = grind (arith, e)

pub below_of : (a b : ℕ) → ltb a b ≡ true → a < b
below_of a b e = grind (arith, e)

pub ltb_true : (a b : ℕ) → a < b → ltb a b ≡ true
ltb_true a b e = grind (arith, e)

pub ltb_false : (a b : ℕ) → b ≤ a → ltb a b ≡ false
ltb_false a b e = grind (arith, e)

pub both : (a b : Bool) → a ≡ true → b ≡ true → (a && b) ≡ true
both a b e f = rw (e, f) refl

pub either : (a b : Bool) → (a || b) ≡ true → (a ≡ true) ⊎ (b ≡ true)
either true b e = inl refl
either false b e = inr e

pub between : (low number high : ℕ) → is_between low number high ≡ true → IsBetween low number high
between low number high e =
    let parts = both_true (leb low number) (leb number high) e in
    record { from_low = at_most low number parts.0; to_high = at_most number high parts.1 }

pub is_between-true : (low number high : ℕ) → IsBetween low number high → is_between low number high ≡ true
is_between-true low number high b =
    both (leb low number) (leb number high) (leb_true low number b.from_low) (leb_true number high b.to_high)
