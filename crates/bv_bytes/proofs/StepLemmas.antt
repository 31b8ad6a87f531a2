-- Steps of the register are linear in exclusive or, so those of a number can be looked up byte by byte.
use Rattle.std.proofs.Common.{◌≡◌, ◌<◌, ℕ, zero, suc, ◌+◌, ◌*◌, ◌/◌, ◌%◌, ◌^◌, bit_xor, refl, ap, sym, ◌∙◌, inl, inr, ◌⊎◌, arith}
use Rattle.std.specs.Int.Bits.{xor_self, xor_zero_l, xor_zero_r, xor_assoc, xor_shifted}
use Rattle.std.proofs.lemmas.Nat.{xor_comm, xor_shr, xor_mod, div_below}
use Rattle.std.proofs.lemmas.Bool.{cases_lt}
use Rattle.std.proofs.Math.Nat.{pow-suc, mul_assoc}
use Rattle.spec_record.specs.Crc.{crc_step, crc_register, bits_of}
use Rattle.bv_bytes.specs.Crc.{shifts}

-- a number is even or odd
parity : (n : ℕ) → (n % 2 ≡ 0) ⊎ (n % 2 ≡ 1)
parity n = elim (cases_lt (n % 2) 1) [ inl lt ↦ inl (omega arith) | inr le ↦ inr (omega arith) ]

-- what is there twice falls out
twice : (x y p : ℕ) → bit_xor (bit_xor x p) (bit_xor y p) ≡ bit_xor x y
twice x y p =
    ap (bit_xor (bit_xor x p)) (xor_comm y p) ∙ xor_assoc x p (bit_xor p y)
    ∙ ap (bit_xor x) (sym (xor_assoc p p y) ∙ ap (λ (n : ℕ). bit_xor n y) (xor_self p) ∙ xor_zero_l y)

-- one step over a bit is a step over a zero bit once the bit is in the register
step_over : (register bit : ℕ) → bit < 2 → crc_step register bit ≡ crc_step (bit_xor register bit) 0
unfolding crc_step
step_over register zero lt = rw (xor_zero_r register) refl
step_over register (suc zero) lt =
    let low : bit_xor register 1 % 2 ≡ bit_xor (register % 2) 1 = xor_mod register 1 1 in
    let high : bit_xor register 1 / 2 ≡ register / 2 = xor_shr register 1 1 ∙ xor_zero_r (register / 2) in
    elim (parity register) [
      | inl even ↦ rw (low, high, even) refl
      | inr odd ↦ rw (low, high, odd) refl
    ]
step_over register (suc (suc bit)) lt = absurd (omega (arith, lt))

-- steps over zero bits are linear
step_linear : (a b : ℕ) → crc_step (bit_xor a b) 0 ≡ bit_xor (crc_step a 0) (crc_step b 0)
unfolding crc_step
step_linear a b =
    let low : bit_xor a b % 2 ≡ bit_xor (a % 2) (b % 2) = xor_mod a b 1 in
    let high : bit_xor a b / 2 ≡ bit_xor (a / 2) (b / 2) = xor_shr a b 1 in
    elim (parity a) [
      | inl even ↦
          elim (parity b) [
            | inl same ↦ rw (low, high, even, same) refl
            | inr odd ↦ rw (low, high, even, odd) (xor_assoc (a / 2) (b / 2) 0xEDB88320)
          ]
      | inr odd ↦
          elim (parity b) [
            | inl even ↦
                rw (low, high, odd, even) (xor_assoc (a / 2) (b / 2) 0xEDB88320
                ∙ ap (bit_xor (a / 2)) (xor_comm (b / 2) 0xEDB88320) ∙ sym (xor_assoc (a / 2) 0xEDB88320 (b / 2)))
            | inr same ↦ rw (low, high, odd, same) (sym (twice (a / 2) (b / 2) 0xEDB88320))
          ]
    ]

pub shifts_linear : (steps a b : ℕ) → shifts steps (bit_xor a b) ≡ bit_xor (shifts steps a) (shifts steps b)
unfolding shifts
shifts_linear zero a b = refl
shifts_linear (suc steps) a b = ap (shifts steps) (step_linear a b) ∙ shifts_linear steps (crc_step a 0) (crc_step b 0)

pub shifts-add : (m n a : ℕ) → shifts (m + n) a ≡ shifts n (shifts m a)
unfolding shifts
shifts-add zero n a = let e : 0 + n ≡ n = omega arith in rw e refl
shifts-add (suc m) n a = let e : suc m + n ≡ suc (m + n) = omega arith in rw e (shifts-add m n (crc_step a 0))

-- zero bits below a register fall out of it
shifts_out : (steps high : ℕ) → shifts steps (high * 2 ^ steps) ≡ high
unfolding shifts crc_step
shifts_out zero high = omega arith
shifts_out (suc steps) high =
    let twofold : high * 2 ^ suc steps ≡ high * 2 ^ steps * 2 = rw (pow-suc 2 steps) (sym (mul_assoc high (2 ^ steps) 2)) in
    let even : high * 2 ^ suc steps % 2 ≡ 0 = rw twofold (omega arith) in
    let half : high * 2 ^ suc steps / 2 ≡ high * 2 ^ steps = rw twofold (omega arith) in
    rw (even, half) (shifts_out steps high)

-- the register after the bits of a number
pub bits_at_once : (count register number : ℕ) → number < 2 ^ count → crc_register register (bits_of count number) ≡ shifts count (bit_xor register number)
unfolding shifts bits_of
bits_at_once zero register number lt =
    let none : number ≡ 0 = omega arith in rw (none, xor_zero_r register) refl
bits_at_once (suc count) register number lt =
    let bit : ℕ = number % 2 in
    let high : ℕ = number / 2 in
    let high_below : number / 2 < 2 ^ count = div_below number 2 (2 ^ count) (omega arith) (rw (← pow-suc 2 count) lt) in
    let parts : bit_xor (number / 2 * 2) (number % 2) ≡ number = xor_shifted (number / 2) 1 (number % 2) (omega arith) ∙ omega arith in
    let out : crc_step (number / 2 * 2) 0 ≡ number / 2 = shifts_out 1 (number / 2) in
    let front : crc_step (bit_xor register number) 0 ≡ bit_xor (crc_step register (number % 2)) (number / 2) =
    ap (λ (n : ℕ). crc_step n 0) (ap (bit_xor register) (sym parts ∙ xor_comm (number / 2 * 2) (number % 2)) ∙ sym (xor_assoc register (number % 2) (number / 2 * 2)))
    ∙ step_linear (bit_xor register (number % 2)) (number / 2 * 2)
    ∙ ap (λ (n : ℕ). bit_xor n (crc_step (number / 2 * 2) 0)) (sym (step_over register (number % 2) (omega arith)))
    ∙ ap (bit_xor (crc_step register (number % 2))) out in
    bits_at_once count (crc_step register (number % 2)) (number / 2) high_below ∙ ap (shifts count) (sym front)

-- the lowest byte of a register goes by itself
pub shifts_split : (steps register : ℕ) → shifts (8 + steps) register ≡ bit_xor (shifts (8 + steps) (register % 256)) (shifts steps (register / 256))
shifts_split steps register =
    let parts : bit_xor (register / 256 * 256) (register % 256) ≡ register = xor_shifted (register / 256) 8 (register % 256) (omega arith) ∙ omega arith in
    let out : shifts (8 + steps) (register / 256 * 256) ≡ shifts steps (register / 256) = shifts-add 8 steps (register / 256 * 256) ∙ ap (shifts steps) (shifts_out 8 (register / 256)) in
    ap (shifts (8 + steps)) (sym parts) ∙ shifts_linear (8 + steps) (register / 256 * 256) (register % 256)
    ∙ xor_comm (shifts (8 + steps) (register / 256 * 256)) (shifts (8 + steps) (register % 256))
    ∙ ap (bit_xor (shifts (8 + steps) (register % 256))) out
