-- What holds of each of eight lanes, and of a list of eight.
use Rattle.std.proofs.Common.{◌≡◌, ℕ, zero, suc, ◌<◌, List, [], ◌∷◌, length, ap, ◌∙◌, arith}
use Rattle.sha2.specs.Sha256.{IsWindow, rounds, schedule}

-- what holds of each of eight lanes
pub each_lane : (P : ℕ → Type 0) → P 0 → P 1 → P 2 → P 3 → P 4 → P 5 → P 6 → P 7 → (j : ℕ) → j < 8 → P j
each_lane P a b c d e f g h zero lt = a
each_lane P a b c d e f g h (suc zero) lt = b
each_lane P a b c d e f g h (suc (suc zero)) lt = c
each_lane P a b c d e f g h (suc (suc (suc zero))) lt = d
each_lane P a b c d e f g h (suc (suc (suc (suc zero)))) lt = e
each_lane P a b c d e f g h (suc (suc (suc (suc (suc zero))))) lt = f
each_lane P a b c d e f g h (suc (suc (suc (suc (suc (suc zero)))))) lt = g
each_lane P a b c d e f g h (suc (suc (suc (suc (suc (suc (suc zero))))))) lt = h
each_lane P a b c d e f g h (suc (suc (suc (suc (suc (suc (suc (suc n)))))))) lt = absurd (omega arith)

-- what holds of each list of eight elements
pub eight_of : {X : Type 0} (P : List X → Type 0) → ((a b c d e f g h : X) → P (a ∷ b ∷ c ∷ d ∷ e ∷ f ∷ g ∷ h ∷ [])) → (xs : List X) → length xs ≡ 8 → P xs
eight_of P p (a ∷ b ∷ c ∷ d ∷ e ∷ f ∷ g ∷ h ∷ []) len = p a b c d e f g h
eight_of P p ([]) len = absurd (omega arith)
eight_of P p (a ∷ []) len = absurd (omega arith)
eight_of P p (a ∷ b ∷ []) len = absurd (omega arith)
eight_of P p (a ∷ b ∷ c ∷ []) len = absurd (omega arith)
eight_of P p (a ∷ b ∷ c ∷ d ∷ []) len = absurd (omega arith)
eight_of P p (a ∷ b ∷ c ∷ d ∷ e ∷ []) len = absurd (omega arith)
eight_of P p (a ∷ b ∷ c ∷ d ∷ e ∷ f ∷ []) len = absurd (omega arith)
eight_of P p (a ∷ b ∷ c ∷ d ∷ e ∷ f ∷ g ∷ []) len = absurd (omega arith)
eight_of P p (a ∷ b ∷ c ∷ d ∷ e ∷ f ∷ g ∷ h ∷ i ∷ xs) len = absurd (omega arith)

-- the same window, at a place that is spelled another way
pub IsWindow_at : (piece w : List ℕ) (n k : ℕ) → n ≡ k → IsWindow w (schedule piece 48) n → IsWindow w (schedule piece 48) k
IsWindow_at piece w n k at window = rw (← at) window

-- the same working variables, at a round that is spelled another way
pub rounds_at : (piece h v : List ℕ) (n k : ℕ) → n ≡ k → v ≡ rounds h (schedule piece 48) n → v ≡ rounds h (schedule piece 48) k
rounds_at piece h v n k at is = is ∙ ap (rounds h (schedule piece 48)) at
