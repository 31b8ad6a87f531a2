-- The lines of a summary, one behind another.
use Rattle.std.proofs.Common.{◌≡◌, ℕ, List, [], ◌++◌, refl, ap, ◌∙◌}

pub six_lines : (a b c d e f o1 o2 o3 o4 o5 o6 : List ℕ) → o1 ≡ [] ++ a → o2 ≡ o1 ++ b → o3 ≡ o2 ++ c → o4 ≡ o3 ++ d → o5 ≡ o4 ++ e → o6 ≡ o5 ++ f
    → o6 ≡ a ++ b ++ c ++ d ++ e ++ f
six_lines a b c d e f o1 o2 o3 o4 o5 o6 p q r s t u =
    u ∙ ap (λ (x : List ℕ). x ++ f) (t ∙ ap (λ (x : List ℕ). x ++ e) (s ∙ ap (λ (x : List ℕ). x ++ d) (r ∙ ap (λ (x : List ℕ). x ++ c) (q ∙ ap (λ (x : List ℕ). x ++ b) p))))
