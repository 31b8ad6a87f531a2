-- The marks of blocks as bits of words: a mark that is set or cleared here, and the others
-- elsewhere. Nothing else knows of words.
use Rattle.std.proofs.Common.{◌≡◌, ◌≢◌, ℕ, zero, suc, ◌+◌, ◌-◌, ◌*◌, ◌/◌, ◌%◌, ◌^◌, ◌<◌, ◌≤◌, List, length, get_or, set, sym, refl, ap, ◌∙◌, subst, arith, min, max, get_or-set_same, get_or-set_other}
use Rattle.std.specs.Int.{bit_at, bit_not}
use Rattle.std.specs.Int.Bits.{bit_or, bit_and}
use Rattle.std.proofs.lemmas.Nat.Bits.{bit_at-lt, bit_at_or, bit_at_and, bit_at_not, bit_at_ones, bit_at-pow_same, bit_at-pow_other}
use Rattle.std.proofs.lemmas.Bool.Decides.{nat_tests}
use mathlib.Core.Logic.{dite}
use native.Mathlib.Decide.{ℕ_discrete}
use mir.Syntax.{w64}
use Rattle.bv_claims.specs.Blocks.{times, consecutive, blocks_of_word}
use Rattle.bv_claims.specs.Rule.{mark}

pub mark-le-1 : (words : List ℕ) (b : ℕ) → mark words b ≤ 1
unfolding mark
mark-le-1 words b = let r : bit_at (get_or words (b / 64) 0) (b % 64) < 2 = bit_at-lt (get_or words (b / 64) 0) (b % 64) in omega arith

-- set here: the mark is the bit of the new word
pub mark_here : (words : List ℕ) (b n : ℕ) → b / 64 < length words → mark (set words (b / 64) n) b ≡ bit_at n (b % 64)
unfolding mark
mark_here words b n within = ap (λ (x : ℕ). bit_at x (b % 64)) (get_or-set_same words (b / 64) n 0 within)

-- set elsewhere: where the word changes in no other bit, no other mark changes
pub mark_elsewhere : (words : List ℕ) (b n : ℕ) → b / 64 < length words → ((i : ℕ) → i < 64 → i ≢ b % 64 → bit_at n i ≡ bit_at (get_or words (b / 64) 0) i)
    → (c : ℕ) → c ≢ b → mark (set words (b / 64) n) c ≡ mark words c
unfolding mark
mark_elsewhere words b n within same c other = dite (ℕ_discrete (c / 64) (b / 64))
    (λ (e : c / 64 ≡ b / 64). let apart : c % 64 ≢ b % 64 = (λ k. other (omega arith)) in
    subst (λ (w : ℕ). bit_at (get_or (set words (b / 64) n) w 0) (c % 64) ≡ bit_at (get_or words w 0) (c % 64)) (sym e)
    (ap (λ (x : ℕ). bit_at x (c % 64)) (get_or-set_same words (b / 64) n 0 within) ∙ same (c % 64) (omega arith) apart))
    (λ (e : c / 64 ≢ b / 64). ap (λ (x : ℕ). bit_at x (c % 64)) (get_or-set_other words (b / 64) (c / 64) n 0 e))

max_one : (x : ℕ) → x < 2 → max x 1 ≡ 1
max_one x h = omega arith

max_none : (x : ℕ) → max x 0 ≡ x
max_none x = omega arith

-- an operand with the bit of b alone sets that bit and no other
pub or_here : (n b k : ℕ) → k ≡ 2 ^ (b % 64) → bit_at (bit_or n k) (b % 64) ≡ 1
or_here n b k e = subst (λ (x : ℕ). bit_at (bit_or n x) (b % 64) ≡ 1) (sym e)
    (let r = bit_at_or n (2 ^ (b % 64)) (b % 64) in let s = bit_at-pow_same (b % 64) in let t = bit_at-lt n (b % 64) in
    r ∙ (rw s (max_one (bit_at n (b % 64)) t)))

pub or_elsewhere : (n b k i : ℕ) → k ≡ 2 ^ (b % 64) → i ≢ b % 64 → bit_at (bit_or n k) i ≡ bit_at n i
or_elsewhere n b k i e other = subst (λ (x : ℕ). bit_at (bit_or n x) i ≡ bit_at n i) (sym e)
    (bit_at_or n (2 ^ (b % 64)) i ∙ rw (bit_at-pow_other (b % 64) i other) (max_none (bit_at n i)))

-- an operand with every bit but that of b clears that bit and no other
mask : (b k i : ℕ) → k + 2 ^ (b % 64) ≡ 2 ^ 64 - 1 → i < 64 → bit_at k i ≡ 1 - bit_at (2 ^ (b % 64)) i
mask b k i e small =
    let is : k ≡ bit_not w64 (2 ^ (b % 64)) = omega arith in
    ap (λ (x : ℕ). bit_at x i) is ∙ bit_at_not w64 (2 ^ (b % 64)) i (omega arith) small

min_none : (x : ℕ) → min x (1 - 1) ≡ 0
min_none x = omega arith

min_one : (x : ℕ) → x < 2 → min x (1 - 0) ≡ x
min_one x h = omega arith

pub and_here : (n b k : ℕ) → k + 2 ^ (b % 64) ≡ 2 ^ 64 - 1 → bit_at (bit_and n k) (b % 64) ≡ 0
and_here n b k e =
    bit_at_and n k (b % 64) ∙ rw (mask b k (b % 64) e (omega arith)) (rw (bit_at-pow_same (b % 64)) (min_none (bit_at n (b % 64))))

pub and_elsewhere : (n b k i : ℕ) → k + 2 ^ (b % 64) ≡ 2 ^ 64 - 1 → i < 64 → i ≢ b % 64 → bit_at (bit_and n k) i ≡ bit_at n i
and_elsewhere n b k i e small other =
    bit_at_and n k i ∙ rw (mask b k i e small) (rw (bit_at-pow_other (b % 64) i other) (min_one (bit_at n i) (bit_at-lt n i)))

-- in a word whose bits are all 1 every mark is 1
pub full_word : (words : List ℕ) (b : ℕ) → get_or words (b / 64) 0 ≡ 2 ^ 64 - 1 → mark words b ≡ 1
unfolding mark
full_word words b full = ap (λ (x : ℕ). bit_at x (b % 64)) full ∙ bit_at_ones 64 (b % 64) (omega arith)

apart : (x : ℕ) → x ≡ 0 → x ≡ 1 → ⊥
apart x none one = omega arith

-- two blocks of one word with one bit are one block
pub set_of_one : (b c k : ℕ) → k ≡ 2 ^ (b % 64) → k ≡ 2 ^ (c % 64) → b / 64 ≡ c / 64 → b ≡ c
set_of_one b c k e e' word = dite (ℕ_discrete (c % 64) (b % 64))
    (λ (same : c % 64 ≡ b % 64). omega arith)
    (λ (other : c % 64 ≢ b % 64).
    let none : bit_at k (c % 64) ≡ 0 = ap (λ (x : ℕ). bit_at x (c % 64)) e ∙ bit_at-pow_other (b % 64) (c % 64) other in
    let one : bit_at k (c % 64) ≡ 1 = ap (λ (x : ℕ). bit_at x (c % 64)) e' ∙ bit_at-pow_same (c % 64) in
    absurd (apart (bit_at k (c % 64)) none one))

pub clear_of_one : (b c k : ℕ) → k + 2 ^ (b % 64) ≡ 2 ^ 64 - 1 → k + 2 ^ (c % 64) ≡ 2 ^ 64 - 1 → b / 64 ≡ c / 64 → b ≡ c
clear_of_one b c k e e' word = set_of_one b c (2 ^ (b % 64)) refl (omega arith) word

-- the blocks from b on, n of them
pub times-consecutive : (c b n : ℕ) → 0 < times c (consecutive b n) → (b ≤ c) × (c < b + n)
times-consecutive c b zero h = absurd (omega arith)
times-consecutive c b (suc n) h = dite (ℕ_discrete b c)
    (λ e. (omega arith, omega arith))
    (λ ne. let r = times-consecutive c (b + 1) n (grind (arith, nat_tests)) in (omega arith, omega arith))

pub in_consecutive : (c b n : ℕ) → b ≤ c → c < b + n → 0 < times c (consecutive b n)
in_consecutive c b zero low high = absurd (omega arith)
in_consecutive c b (suc n) low high = dite (ℕ_discrete b c)
    (λ e. grind (arith, nat_tests))
    (λ ne. let r = in_consecutive c (b + 1) n (omega arith) (omega arith) in omega arith)

pub of_word : (c w : ℕ) → 0 < times c (blocks_of_word w) → c / 64 ≡ w
unfolding blocks_of_word
of_word c w h = let r = times-consecutive c (64 * w) 64 h in omega arith

pub in_word : (c w : ℕ) → c / 64 ≡ w → 0 < times c (blocks_of_word w)
unfolding blocks_of_word
in_word c w e = in_consecutive c (64 * w) 64 (omega arith) (omega arith)

pub mark_is : (words : List ℕ) (b : ℕ) → mark words b ≡ bit_at (get_or words (b / 64) 0) (b % 64)
unfolding mark
mark_is words b = refl

-- a mark that is not 0 is 1
pub taken_is : (words : List ℕ) (b : ℕ) → mark words b ≢ 0 → mark words b ≡ 1
taken_is words b some_mark = let r = mark-le-1 words b in omega arith

-- the words after the bit of b is set
abbrev pub with_set : List ℕ → ℕ → ℕ → List ℕ
with_set words b k = set words (b / 64) (bit_or (get_or words (b / 64) 0) k)

-- the words after the bit of b is cleared
abbrev pub with_clear : List ℕ → ℕ → ℕ → List ℕ
with_clear words b k = set words (b / 64) (bit_and (get_or words (b / 64) 0) k)

module _ (words : List ℕ) (b k : ℕ) (inside : b / 64 < length words) where
  pub set_here : k ≡ 2 ^ (b % 64) → mark (with_set words b k) b ≡ 1
  set_here e = mark_here words b (bit_or (get_or words (b / 64) 0) k) inside ∙ or_here (get_or words (b / 64) 0) b k e

  pub set_elsewhere : k ≡ 2 ^ (b % 64) → (c : ℕ) → c ≢ b → mark (with_set words b k) c ≡ mark words c
  set_elsewhere e = mark_elsewhere words b (bit_or (get_or words (b / 64) 0) k) inside (λ i _ n. or_elsewhere (get_or words (b / 64) 0) b k i e n)

  pub clear_here : k + 2 ^ (b % 64) ≡ 2 ^ 64 - 1 → mark (with_clear words b k) b ≡ 0
  clear_here e = mark_here words b (bit_and (get_or words (b / 64) 0) k) inside ∙ and_here (get_or words (b / 64) 0) b k e

  pub clear_elsewhere : k + 2 ^ (b % 64) ≡ 2 ^ 64 - 1 → (c : ℕ) → c ≢ b → mark (with_clear words b k) c ≡ mark words c
  clear_elsewhere e = mark_elsewhere words b (bit_and (get_or words (b / 64) 0) k) inside (λ i small n. and_elsewhere (get_or words (b / 64) 0) b k i e small n)
