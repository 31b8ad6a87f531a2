-- Rotations inside rotations, bit by bit: bit i of a word that is rotated by k is its bit i + k.
use Rattle.std.proofs.Common.{◌≡◌, ℕ, ◌+◌, ◌-◌, ◌*◌, ◌/◌, ◌%◌, ◌^◌, ◌<◌, bit_or, bit_xor, sym, ap, ◌∙◌, inl, inr, add-zero, arith}
use Rattle.std.specs.Int.{w32, bit_at, rotate_right}
use Rattle.std.proofs.lemmas.Bool.{cases_lt}
use Rattle.std.proofs.lemmas.Nat.{mod-pow-add, mod_below, mod_low, or_comm, or_lt, or_shifted, pow_pos, shl-shr, shr_below, shr_le, shr_split, shr-shr, xor_lt}
use Rattle.std.proofs.lemmas.Nat.Bits.{bit_at_cat_high, bit_at_cat_low, bit_at_xor, same_from_bits_below}

-- a word of k + j bits whose low k bits go above its other j
swapped : (x k j : ℕ) → x < 2 ^ (j + k) → bit_or (x / 2 ^ k) (x * 2 ^ j % 2 ^ (k + j)) ≡ x % 2 ^ k * 2 ^ j + x / 2 ^ k
swapped x k j word =
    let clear : x * 2 ^ j % 2 ^ j ≡ 0 = ap (λ (n : ℕ). n % 2 ^ j) (sym (add-zero (x * 2 ^ j))) ∙ mod_low x j 0 (pow_pos j) in
    let low : x * 2 ^ j % 2 ^ (k + j) ≡ x % 2 ^ k * 2 ^ j =
    mod-pow-add (x * 2 ^ j) k j ∙ (λ t. (shl-shr x j t % 2 ^ k) * 2 ^ j + clear t) ∙ add-zero (x % 2 ^ k * 2 ^ j) in
    ap (bit_or (x / 2 ^ k)) low ∙ or_comm (x / 2 ^ k) (x % 2 ^ k * 2 ^ j) ∙ or_shifted (x % 2 ^ k) j (x / 2 ^ k) (shr_below x j k word)

rotated_is : (x k j : ℕ) → k + j ≡ 32 → x < 2 ^ 32 → 0 < k → 0 < j → rotate_right w32 x k ≡ x % 2 ^ k * 2 ^ j + x / 2 ^ k
rotated_is x k j whole word some rest =
    let right : k % 32 ≡ k = omega arith in
    let left : (32 - k % 32) % 32 ≡ j = omega arith in
    let turned : 32 ≡ j + k = omega arith in
    let all : 32 ≡ k + j = omega arith in
    let fits : x < 2 ^ (j + k) = rw (← turned) word in
    (λ t. bit_or (x / 2 ^ right t) (x * 2 ^ left t % 2 ^ all t)) ∙ swapped x k j fits

-- a rotated word is a word
pub rotated-lt : (x k : ℕ) → x < 2 ^ 32 → rotate_right w32 x k < 2 ^ 32
rotated-lt x k word =
    or_lt 32 (x / 2 ^ (k % 32)) (x * 2 ^ ((32 - k % 32) % 32) % 2 ^ 32) (omega (arith, shr_le x (k % 32))) (mod_below _ (2 ^ 32) (pow_pos 32))

bit_of_rotated : (x k i : ℕ) → x < 2 ^ 32 → 0 < k → k < 32 → i < 32 → bit_at (rotate_right w32 x k) i ≡ bit_at x ((i + k) % 32)
bit_of_rotated x k i word some few low =
    let j : ℕ = 32 - k in
    let turned : 32 ≡ j + k = omega arith in
    let fits : x < 2 ^ (j + k) = rw (← turned) word in
    let lower : x / 2 ^ k < 2 ^ j = shr_below x j k fits in
    ap (λ (n : ℕ). bit_at n i) (rotated_is x k j (omega arith) word some (omega arith))
    ∙ elim (cases_lt i j) [
      | inl near ↦
          let at : k + i ≡ (i + k) % 32 = omega arith in
          bit_at_cat_low (x % 2 ^ k) j (x / 2 ^ k) i near ∙ ap (λ (n : ℕ). n % 2) (shr-shr x k i) ∙ ap (bit_at x) at
      | inr far ↦
          let at : i - j ≡ (i + k) % 32 = omega arith in
          bit_at_cat_high (x % 2 ^ k) j (x / 2 ^ k) i lower far
          ∙ sym (bit_at_cat_low (x / 2 ^ k) k (x % 2 ^ k) (i - j) (omega arith))
          ∙ ap (λ (n : ℕ). bit_at n (i - j)) (shr_split x k) ∙ ap (bit_at x) at
    ]

parity : (p q r : ℕ) → (p + (q + r) % 2) % 2 ≡ ((p + q) % 2 + r) % 2
parity p q r = omega arith

-- two rotations of a word under xor, the nearer one done once
pub rotated_two : (x a b : ℕ) → x < 2 ^ 32 → 0 < a → 0 < b → a + b < 32
    → rotate_right w32 (bit_xor x (rotate_right w32 x b)) a ≡ bit_xor (rotate_right w32 x a) (rotate_right w32 x (a + b))
rotated_two x a b word some_a some_b few =
    let inner : ℕ = rotate_right w32 x b in
    let both : bit_xor x inner < 2 ^ 32 = xor_lt 32 x inner word (rotated-lt x b word) in
    let right : bit_xor (rotate_right w32 x a) (rotate_right w32 x (a + b)) < 2 ^ 32 =
    xor_lt 32 _ _ (rotated-lt x a word) (rotated-lt x (a + b) word) in
    same_from_bits_below 32 _ _ (rotated-lt (bit_xor x inner) a both) right (λ i low.
    let p : ℕ = (i + a) % 32 in
    let at : (p + b) % 32 ≡ (i + (a + b)) % 32 = omega arith in
    bit_of_rotated (bit_xor x inner) a i both some_a (omega arith) low
    ∙ bit_at_xor x inner p
    ∙ ap (λ (n : ℕ). (bit_at x p + n) % 2) (bit_of_rotated x b p word some_b (omega arith) (omega arith) ∙ ap (bit_at x) at)
    ∙ sym (bit_at_xor (rotate_right w32 x a) (rotate_right w32 x (a + b)) i
    ∙ (λ t. (bit_of_rotated x a i word some_a (omega arith) low t + bit_of_rotated x (a + b) i word (omega arith) few low t) % 2)))

-- three rotations of a word under xor, each inside the one before
pub rotated_three : (x a b c : ℕ) → x < 2 ^ 32 → 0 < a → 0 < b → 0 < c → a + (b + c) < 32
    → rotate_right w32 (bit_xor x (rotate_right w32 (bit_xor x (rotate_right w32 x c)) b)) a
    ≡ bit_xor (bit_xor (rotate_right w32 x a) (rotate_right w32 x (a + b))) (rotate_right w32 x (a + (b + c)))
rotated_three x a b c word some_a some_b some_c few =
    let near : ℕ = rotate_right w32 x b in
    let far : ℕ = rotate_right w32 x (b + c) in
    let inner : ℕ = rotate_right w32 (bit_xor x (rotate_right w32 x c)) b in
    let inner_is : inner ≡ bit_xor near far = rotated_two x b c word some_b some_c (omega arith) in
    let inner_fits : inner < 2 ^ 32 = rw inner_is (xor_lt 32 near far (rotated-lt x b word) (rotated-lt x (b + c) word)) in
    let both : bit_xor x inner < 2 ^ 32 = xor_lt 32 x inner word inner_fits in
    let first : ℕ = rotate_right w32 x a in
    let second : ℕ = rotate_right w32 x (a + b) in
    let third : ℕ = rotate_right w32 x (a + (b + c)) in
    let right : bit_xor (bit_xor first second) third < 2 ^ 32 =
    xor_lt 32 _ _ (xor_lt 32 _ _ (rotated-lt x a word) (rotated-lt x (a + b) word)) (rotated-lt x (a + (b + c)) word) in
    same_from_bits_below 32 _ _ (rotated-lt (bit_xor x inner) a both) right (λ i low.
    let p : ℕ = (i + a) % 32 in
    let p_low : p < 32 = omega arith in
    let at_b : (p + b) % 32 ≡ (i + (a + b)) % 32 = omega arith in
    let at_c : (p + (b + c)) % 32 ≡ (i + (a + (b + c))) % 32 = omega arith in
    let near_bit : bit_at near p ≡ bit_at second i =
    bit_of_rotated x b p word some_b (omega arith) p_low ∙ ap (bit_at x) at_b ∙ sym (bit_of_rotated x (a + b) i word (omega arith) (omega arith) low) in
    let far_bit : bit_at far p ≡ bit_at third i =
    bit_of_rotated x (b + c) p word (omega arith) (omega arith) p_low ∙ ap (bit_at x) at_c ∙ sym (bit_of_rotated x (a + (b + c)) i word (omega arith) few low) in
    bit_of_rotated (bit_xor x inner) a i both some_a (omega arith) low
    ∙ bit_at_xor x inner p
    ∙ ap (λ (n : ℕ). (bit_at x p + n) % 2) (ap (λ (n : ℕ). bit_at n p) inner_is ∙ bit_at_xor near far p)
    ∙ (λ t. (sym (bit_of_rotated x a i word some_a (omega arith) low) t + (near_bit t + far_bit t) % 2) % 2)
    ∙ parity (bit_at first i) (bit_at second i) (bit_at third i)
    ∙ sym (bit_at_xor (bit_xor first second) third i ∙ ap (λ (n : ℕ). (n + bit_at third i) % 2) (bit_at_xor first second i)))
