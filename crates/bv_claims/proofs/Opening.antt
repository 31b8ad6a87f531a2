-- A new table keeps the rule: block 0 alone is marked, and the boss may give out all others.
use Rattle.std.proofs.Common.{◌≡◌, ◌≢◌, ℕ, zero, suc, ◌/◌, ◌%◌, ◌<◌, ◌≤◌, true≢false, List, [], ◌∷◌, length, get_or, set, replicate, sym, refl, ap, ◌∙◌, subst, arith, length-set}
use Rattle.std.specs.Int.{bit_at}
use Rattle.std.proofs.lemmas.Nat.Bits.{bit_at-zero, bit_at-pow_other}
use mathlib.Core.Option.{some-injective, some-ne-none}
use Rattle.atomic_table.specs.Table.{opening}
use Rattle.bv_claims.specs.Views.{first_view}
use Rattle.bv_claims.specs.Rule.{words_for, mark, FitsBoss, AllFit, IsReserved}
use Rattle.bv_claims.proofs.Marks.{mark_is, mark_here, mark_elsewhere}

-- n words of 0
abbrev pub zeros : ℕ → List ℕ
zeros n = replicate n 0

zero_words : (n k : ℕ) → get_or (zeros n) k 0 ≡ 0
zero_words zero k = refl
zero_words (suc n) zero = refl
zero_words (suc n) (suc k) = zero_words n k

only_first : (n b : ℕ) → 0 < length (zeros n) → b ≢ 0 → mark (set (zeros n) 0 1) b ≡ 0
only_first n b some_word other =
    mark_elsewhere (zeros n) 0 1 some_word
    (λ i small away. bit_at-pow_other 0 i away ∙ sym (ap (λ (x : ℕ). bit_at x i) (zero_words n 0) ∙ bit_at-zero i)) b other
    ∙ mark_is (zeros n) b ∙ ap (λ (x : ℕ). bit_at x (b % 64)) (zero_words n (b / 64)) ∙ bit_at-zero (b % 64)

fits_first : (words : List ℕ) (blocks : ℕ) → AllFit words (first_view blocks ∷ [])
fits_first words blocks zero v at = subst (FitsBoss words 0) (some-injective (first_view blocks) v at) ((λ _. refl), (λ not. absurd (true≢false not)), λ _ b seen. absurd (omega arith))
fits_first words blocks (suc id) v at = absurd (some-ne-none v (sym at))

pub opens : (blocks : ℕ) (words : List ℕ) → 2 ≤ blocks → words ≡ set (zeros (words_for blocks)) 0 1 → length (zeros (words_for blocks)) ≡ words_for blocks
    → IsReserved blocks (opening {S = Unit {0}} words [] (first_view blocks))
opens blocks words some_block is len = subst (λ (ws : List ℕ). IsReserved blocks (opening {S = Unit {0}} ws [] (first_view blocks))) (sym is)
    (let some_word : 0 < length (zeros (words_for blocks)) = omega arith in record {
      counted = (some_block, length-set (zeros (words_for blocks)) 0 1 ∙ len);
      zero_taken = mark_here (zeros (words_for blocks)) 0 1 some_word;
      past_end = λ b far. only_first (words_for blocks) b some_word (λ e. absurd (omega arith));
      marked = λ b low high. only_first (words_for blocks) b some_word (λ e. absurd (omega arith));
      within = λ b out. refl;
      accounted = omega arith;
      one_boss = refl;
      fit = fits_first (set (zeros (words_for blocks)) 0 1) blocks;
    })
