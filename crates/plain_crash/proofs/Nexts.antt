-- From each of a list to the next, and the last of a list.
use Rattle.std.proofs.Common.{◌≡◌, ℕ, suc, ◌+◌, ◌-◌, ◌<◌, ◌≤◌, ◌↔◌, IsTrue, true, false, List, [], ◌∷◌, length, drop, get_or, ◌∙◌, ap, arith}
use Rattle.std.proofs.lemmas.List.{drop_more, length-drop}
use Rattle.spec_core.specs.History.{FromEachToNext}
use Rattle.spec_core.specs.declared.event.CoreEvent.{CoreEvent}
use Rattle.spec_crash.specs.Timing.{LastHas}
use Rattle.spec_disk.proofs.ProgramLemmas.{told_true, told_false}

-- all of a list keep the relation exactly if those from place i on do, with the one before them
pub record Left {X : Type 0} (R : X → X → Type 0) (xs : List X) (i : ℕ) : Type 0 where
  pub tells : FromEachToNext R (drop (i - 1) xs) ↔ FromEachToNext R xs

module _ {X : Type 0} (R : X → X → Type 0) where
  -- those from the one before place i on, by those from place i on
  next_left : (xs : List X) (i : ℕ) (d : X) → 1 ≤ i → i < length xs
      → FromEachToNext R (drop (i - 1) xs) ↔ (R (get_or xs (i - 1) d) (get_or xs i d) × FromEachToNext R (drop i xs))
  next_left xs i d one short =
      let up : i - 1 + 1 ≡ i = omega (arith, one) in
      let here : drop (i - 1) xs ≡ get_or xs (i - 1) d ∷ get_or xs i d ∷ drop (i + 1) xs =
      drop_more xs (i - 1) d (omega (arith, short)) ∙ ap (λ (ys : List X). get_or xs (i - 1) d ∷ ys) (ap (λ (n : ℕ). drop n xs) up ∙ drop_more xs i d short) in
      rw (here, drop_more xs i d short) (λ h. h, λ h. h)

  at_most_one : (xs : List X) → length xs ≤ 1 → FromEachToNext R xs
  at_most_one [] h = tt
  at_most_one (x ∷ []) h = tt
  at_most_one (x ∷ y ∷ xs) h = absurd (omega (arith, h))

module _ {X : Type 0} {R : X → X → Type 0} {xs : List X} where
  pub left_first : Left R xs 1
  left_first = record { tells = (λ h. h, λ h. h) }

module _ {X : Type 0} {R : X → X → Type 0} {xs : List X} {i : ℕ} (left : Left R xs i) (one : 1 ≤ i) where
  pub left_more : (d : X) → i < length xs → R (get_or xs (i - 1) d) (get_or xs i d) → Left R xs (i + 1)
  left_more d short here =
      let next = next_left R xs i d one short in
      let up : i + 1 - 1 ≡ i = omega arith in
      record { tells = rw up (λ rest. left.tells.0 (next.1 (here, rest)), λ all. (next.0 (left.tells.1 all)).1) }

  pub left_never : (d : X) → i < length xs → (R (get_or xs (i - 1) d) (get_or xs i d) → ⊥) → IsTrue false ↔ FromEachToNext R xs
  left_never d short never = told_false _ (λ all. never ((next_left R xs i d one short).0 (left.tells.1 all)).0)

  pub left_all : length xs ≤ i → IsTrue true ↔ FromEachToNext R xs
  left_all all = told_true _ (left.tells.0 (at_most_one R (drop (i - 1) xs) (rw length-drop (omega (arith, all)))))

-- the last of a list has P
pub last_is : (P : CoreEvent → Type 0) (xs : List CoreEvent) (d : CoreEvent) → 1 ≤ length xs → LastHas P xs ↔ P (get_or xs (length xs - 1) d)
last_is P [] d h = absurd (omega (arith, h))
last_is P (x ∷ []) d h = (λ h. h, λ h. h)
last_is P (x ∷ y ∷ xs) d h =
    let less : suc (suc (length xs)) - 1 ≡ suc (suc (length xs) - 1) = omega arith in
    rw less (last_is P (y ∷ xs) d (omega arith))
