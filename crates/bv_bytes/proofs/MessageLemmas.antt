-- The register after bytes, by the words of each byte.
use Rattle.std.proofs.Common.{◌≡◌, ◌<◌, ℕ, ◌+◌, ◌*◌, ◌/◌, ◌%◌, List, [], ◌∷◌, ◌++◌, length, take, drop, get_or, bit_xor, subst, refl, ap, sym, ◌∙◌, arith, append_assoc}
use Rattle.std.proofs.Common.{add-one}
use Rattle.std.proofs.Math.Seq.{drop-cons}
use Rattle.std.specs.Int.{w32, to_le_bytes, from_le_bytes}
use Rattle.std.proofs.lemmas.Nat.{xor_comm, xor_shr, xor_mod}
use Rattle.std.proofs.lemmas.List.{take-append-drop}
use Rattle.std.specs.Int.Bits.{xor_zero_l, xor_zero_r, xor_assoc}
use Rattle.spec_record.specs.Field.{IsBytes}
use Rattle.spec_record.specs.Crc.{crc_step, crc_register, crc32, message_bits, bits_of}
use Rattle.spec_record.proofs.FieldLemmas.{IsBytes-rest, IsBytes-part}
use Rattle.bv_bytes.specs.Crc.{shifts, crc_after}
use Rattle.bv_bytes.proofs.StepLemmas.{shifts_linear, shifts-add, shifts_split, bits_at_once}

pub register-append : (xs ys : List ℕ) (register : ℕ) → crc_register register (xs ++ ys) ≡ crc_register (crc_register register xs) ys
register-append [] ys register = refl
register-append (x ∷ xs) ys register = register-append xs ys (crc_step register x)

pub message_bits-append : (xs ys : List ℕ) → message_bits (xs ++ ys) ≡ message_bits xs ++ message_bits ys
message_bits-append [] ys = refl
message_bits-append (x ∷ xs) ys =
    ap (λ (bits : List ℕ). bits_of 8 x ++ bits) (message_bits-append xs ys) ∙ sym (append_assoc (bits_of 8 x) (message_bits xs) (message_bits ys))

-- the register after a byte and more bytes
pub after_byte : (register byte : ℕ) (bytes : List ℕ) → byte < 256 → crc_register register (message_bits (byte ∷ bytes)) ≡ crc_register (shifts 8 (bit_xor register byte)) (message_bits bytes)
after_byte register byte bytes lt =
    register-append (bits_of 8 byte) (message_bits bytes) register ∙ ap (λ (r : ℕ). crc_register r (message_bits bytes)) (bits_at_once 8 register byte lt)

-- the register and the message go by themselves
pub after_bytes : (register : ℕ) (bytes : List ℕ) → IsBytes bytes → crc_register register (message_bits bytes) ≡ bit_xor (shifts (8 * length bytes) register) (crc_register 0 (message_bits bytes))
unfolding shifts
after_bytes register [] fit = sym (xor_zero_r register)
after_bytes register (byte ∷ bytes) fit =
    let steps : ℕ = 8 * length bytes in
    let rest : IsBytes bytes = IsBytes-rest byte bytes fit in
    let all : 8 * length (byte ∷ bytes) ≡ 8 + 8 * length bytes = omega arith in
    let z : ℕ = crc_register 0 (message_bits bytes) in
    let alone : crc_register 0 (message_bits (byte ∷ bytes)) ≡ bit_xor (shifts (8 * length bytes) (shifts 8 byte)) (crc_register 0 (message_bits bytes)) =
    after_byte 0 byte bytes (fit 0) ∙ ap (λ (n : ℕ). crc_register (shifts 8 n) (message_bits bytes)) (xor_zero_l byte) ∙ after_bytes (shifts 8 byte) bytes rest in
    after_byte register byte bytes (fit 0)
    ∙ after_bytes (shifts 8 (bit_xor register byte)) bytes rest
    ∙ ap (λ (n : ℕ). bit_xor (shifts (8 * length bytes) n) (crc_register 0 (message_bits bytes))) (shifts_linear 8 register byte)
    ∙ ap (λ (n : ℕ). bit_xor n (crc_register 0 (message_bits bytes))) (shifts_linear (8 * length bytes) (shifts 8 register) (shifts 8 byte))
    ∙ xor_assoc (shifts (8 * length bytes) (shifts 8 register)) (shifts (8 * length bytes) (shifts 8 byte)) (crc_register 0 (message_bits bytes))
    ∙ ap (bit_xor (shifts (8 * length bytes) (shifts 8 register))) (sym alone)
    ∙ ap (λ (n : ℕ). bit_xor n (crc_register 0 (message_bits (byte ∷ bytes)))) (sym (ap (λ (n : ℕ). shifts n register) all ∙ shifts-add 8 (8 * length bytes) register))

-- a byte and more bytes from 0 on
pub from_zero : (byte : ℕ) (bytes : List ℕ) → IsBytes (byte ∷ bytes) → crc_register 0 (message_bits (byte ∷ bytes)) ≡ bit_xor (shifts (8 + 8 * length bytes) byte) (crc_register 0 (message_bits bytes))
from_zero byte bytes fit =
    after_byte 0 byte bytes (fit 0) ∙ ap (λ (n : ℕ). crc_register (shifts 8 n) (message_bits bytes)) (xor_zero_l byte)
    ∙ after_bytes (shifts 8 byte) bytes (IsBytes-rest byte bytes fit)
    ∙ ap (λ (n : ℕ). bit_xor n (crc_register 0 (message_bits bytes))) (sym (shifts-add 8 (8 * length bytes) byte))

-- four words, joined from the left
pub joined : (a b c d : ℕ) → bit_xor (bit_xor (bit_xor a b) c) d ≡ bit_xor a (bit_xor b (bit_xor c d))
joined a b c d = xor_assoc (bit_xor a b) c d ∙ xor_assoc a b (bit_xor c d)

-- four bytes from 0 on
pub four_words : (a b c d : ℕ) → IsBytes (a ∷ b ∷ c ∷ d ∷ []) → crc_register 0 (message_bits (a ∷ b ∷ c ∷ d ∷ [])) ≡ bit_xor (shifts 32 a) (bit_xor (shifts 24 b) (bit_xor (shifts 16 c) (shifts 8 d)))
four_words a b c d fit =
    let fit_b : IsBytes (b ∷ c ∷ d ∷ []) = IsBytes-rest a (b ∷ c ∷ d ∷ []) fit in
    let fit_c : IsBytes (c ∷ d ∷ []) = IsBytes-rest b (c ∷ d ∷ []) fit_b in
    let fit_d : IsBytes (d ∷ []) = IsBytes-rest c (d ∷ []) fit_c in
    from_zero a (b ∷ c ∷ d ∷ []) fit ∙ ap (bit_xor (shifts 32 a)) (
    from_zero b (c ∷ d ∷ []) fit_b ∙ ap (bit_xor (shifts 24 b)) (
    from_zero c (d ∷ []) fit_c ∙ ap (bit_xor (shifts 16 c)) (from_zero d [] fit_d ∙ xor_zero_r (shifts 8 d))))

-- a register of four bytes, from its words, so many bytes before the end
pub register_words : (more register : ℕ) → bit_xor (shifts (32 + more) (register % 256)) (bit_xor (shifts (24 + more) (register / 256 % 256)) (bit_xor (shifts (16 + more) (register / 65536 % 256)) (shifts (8 + more) (register / 16777216)))) ≡ shifts (32 + more) register
register_words more register =
    let e32 : 32 + more ≡ 8 + (24 + more) = omega arith in
    let e24 : 24 + more ≡ 8 + (16 + more) = omega arith in
    let e16 : 16 + more ≡ 8 + (8 + more) = omega arith in
    let one : shifts (32 + more) register ≡ bit_xor (shifts (32 + more) (register % 256)) (shifts (24 + more) (register / 256)) = rw e32 (shifts_split (24 + more) register) in
    let two : shifts (24 + more) (register / 256) ≡ bit_xor (shifts (24 + more) (register / 256 % 256)) (shifts (16 + more) (register / 65536)) =
    let q : register / 256 / 256 ≡ register / 65536 = omega arith in rw (e24, ← q) (shifts_split (16 + more) (register / 256)) in
    let three : shifts (16 + more) (register / 65536) ≡ bit_xor (shifts (16 + more) (register / 65536 % 256)) (shifts (8 + more) (register / 16777216)) =
    let q : register / 65536 / 256 ≡ register / 16777216 = omega arith in rw (e16, ← q) (shifts_split (8 + more) (register / 65536)) in
    sym (one ∙ ap (bit_xor (shifts (32 + more) (register % 256))) (two ∙ ap (bit_xor (shifts (24 + more) (register / 256 % 256))) three))

-- the register after four bytes from 0 on is that of their number
pub four_at_once : (a b c d : ℕ) → IsBytes (a ∷ b ∷ c ∷ d ∷ []) → crc_register 0 (message_bits (a ∷ b ∷ c ∷ d ∷ [])) ≡ shifts 32 (a + 256 * b + 65536 * c + 16777216 * d)
four_at_once a b c d fit =
    let a_fits : a < 256 = fit 0 in
    let b_fits : b < 256 = fit 1 in
    let c_fits : c < 256 = fit 2 in
    let n : ℕ = a + 256 * b + 65536 * c + 16777216 * d in
    let ea : (a + 256 * b + 65536 * c + 16777216 * d) % 256 ≡ a = omega arith in
    let eb : (a + 256 * b + 65536 * c + 16777216 * d) / 256 % 256 ≡ b = omega arith in
    let ec : (a + 256 * b + 65536 * c + 16777216 * d) / 65536 % 256 ≡ c = omega arith in
    let ed : (a + 256 * b + 65536 * c + 16777216 * d) / 16777216 ≡ d = omega arith in
    four_words a b c d fit ∙ (rw (ea, eb, ec, ed) at (register_words 0 (a + 256 * b + 65536 * c + 16777216 * d)))

-- lists of four and of eight
pub four_of : (xs : List ℕ) → length xs ≡ 4 → xs ≡ get_or xs 0 0 ∷ get_or xs 1 0 ∷ get_or xs 2 0 ∷ get_or xs 3 0 ∷ []
four_of [] len = absurd (omega (arith, len))
four_of (a ∷ []) len = absurd (omega (arith, len))
four_of (a ∷ b ∷ []) len = absurd (omega (arith, len))
four_of (a ∷ b ∷ c ∷ []) len = absurd (omega (arith, len))
four_of (a ∷ b ∷ c ∷ d ∷ []) len = refl
four_of (a ∷ b ∷ c ∷ d ∷ e ∷ xs) len = absurd (omega (arith, len))

-- ---- what each function of the code looks up

-- four words of four bytes
pub four_looked_up
    : (xs : List ℕ) (u v w x : ℕ) → length xs ≡ 4 → IsBytes xs → u ≡ shifts 32 (get_or xs 0 0) → v ≡ shifts 24 (get_or xs 1 0)
    → w ≡ shifts 16 (get_or xs 2 0) → x ≡ shifts 8 (get_or xs 3 0) → bit_xor (bit_xor (bit_xor u v) w) x ≡ crc_register 0 (message_bits xs)
four_looked_up xs u v w x len fit ue ve we xe =
    let is : xs ≡ get_or xs 0 0 ∷ get_or xs 1 0 ∷ get_or xs 2 0 ∷ get_or xs 3 0 ∷ [] = four_of xs len in
    rw (ue, ve, we, xe) (
    joined (shifts 32 (get_or xs 0 0)) (shifts 24 (get_or xs 1 0)) (shifts 16 (get_or xs 2 0)) (shifts 8 (get_or xs 3 0))
    ∙ sym (four_words (get_or xs 0 0) (get_or xs 1 0) (get_or xs 2 0) (get_or xs 3 0) (subst IsBytes is fit))
    ∙ ap (λ (ys : List ℕ). crc_register 0 (message_bits ys)) (sym is))

-- four words of a register
pub register_looked_up
    : (register : ℕ) (bytes : List ℕ) (u v w x : ℕ) → register < 4294967296 → bytes ≡ to_le_bytes w32 register
    → u ≡ shifts 64 (get_or bytes 0 0) → v ≡ shifts 56 (get_or bytes 1 0) → w ≡ shifts 48 (get_or bytes 2 0)
    → x ≡ shifts 40 (get_or bytes 3 0) → bit_xor (bit_xor (bit_xor u v) w) x ≡ shifts 64 register
register_looked_up register bytes u v w x lt is ue ve we xe =
    let last : register / 16777216 % 256 ≡ register / 16777216 = omega arith in
    let a : u ≡ shifts 64 (register % 256) = ue ∙ ap (λ (ys : List ℕ). shifts 64 (get_or ys 0 0)) is in
    let b : v ≡ shifts 56 (register / 256 % 256) = ve ∙ ap (λ (ys : List ℕ). shifts 56 (get_or ys 1 0)) is in
    let d : w ≡ shifts 48 (register / 65536 % 256) = we ∙ ap (λ (ys : List ℕ). shifts 48 (get_or ys 2 0)) is in
    let e : x ≡ shifts 40 (register / 16777216) = xe ∙ ap (λ (ys : List ℕ). shifts 40 (get_or ys 3 0)) is ∙ ap (shifts 40) last in
    rw (a, b, d, e) (joined (shifts 64 (register % 256)) (shifts 56 (register / 256 % 256)) (shifts 48 (register / 65536 % 256)) (shifts 40 (register / 16777216)) ∙ register_words 32 register)

-- one word of a byte
pub one_looked_up
    : (register byte : ℕ) (bytes : List ℕ) (u : ℕ) → byte < 256 → bytes ≡ to_le_bytes w32 register → u ≡ shifts 8 (bit_xor (get_or bytes 0 0) byte)
    → bit_xor (register / 256) u ≡ crc_register register (message_bits (byte ∷ []))
unfolding shifts
one_looked_up register byte bytes u lt is ue =
    let a : u ≡ shifts 8 (bit_xor (register % 256) byte) = ue ∙ ap (λ (ys : List ℕ). shifts 8 (bit_xor (get_or ys 0 0) byte)) is in
    let low : bit_xor register byte % 256 ≡ bit_xor (register % 256) byte = xor_mod register byte 8 ∙ ap (bit_xor (register % 256)) (omega arith) in
    let none : byte / 256 ≡ 0 = omega arith in
    let high : bit_xor register byte / 256 ≡ register / 256 = xor_shr register byte 8 ∙ ap (bit_xor (register / 256)) none ∙ xor_zero_r (register / 256) in
    let split : shifts 8 (bit_xor register byte) ≡ bit_xor (shifts 8 (bit_xor (register % 256) byte)) (register / 256) = rw (low, high) at (shifts_split 0 (bit_xor register byte)) in
    rw a (xor_comm (register / 256) (shifts 8 (bit_xor (register % 256) byte)) ∙ sym (after_byte register byte [] lt ∙ split))

-- four bytes with the register, and four by themselves
pub eight_looked_up
    : (register front : ℕ) (xs : List ℕ) → length xs ≡ 8 → IsBytes xs
    → front ≡ from_le_bytes w32 (get_or xs 0 0 ∷ get_or xs 1 0 ∷ get_or xs 2 0 ∷ get_or xs 3 0 ∷ [])
    → bit_xor (shifts 64 (bit_xor register front)) (crc_register 0 (message_bits (take 4 (drop 4 xs)))) ≡ crc_register register (message_bits xs)
eight_looked_up register front [] len fit is = absurd (omega (arith, len))
eight_looked_up register front (a ∷ []) len fit is = absurd (omega (arith, len))
eight_looked_up register front (a ∷ b ∷ []) len fit is = absurd (omega (arith, len))
eight_looked_up register front (a ∷ b ∷ c ∷ []) len fit is = absurd (omega (arith, len))
eight_looked_up register front (a ∷ b ∷ c ∷ d ∷ []) len fit is = absurd (omega (arith, len))
eight_looked_up register front (a ∷ b ∷ c ∷ d ∷ e ∷ []) len fit is = absurd (omega (arith, len))
eight_looked_up register front (a ∷ b ∷ c ∷ d ∷ e ∷ f ∷ []) len fit is = absurd (omega (arith, len))
eight_looked_up register front (a ∷ b ∷ c ∷ d ∷ e ∷ f ∷ g ∷ []) len fit is = absurd (omega (arith, len))
eight_looked_up register front (a ∷ b ∷ c ∷ d ∷ e ∷ f ∷ g ∷ h ∷ []) len fit is =
    let first_fit : IsBytes (a ∷ b ∷ c ∷ d ∷ []) = IsBytes-part 0 4 (a ∷ b ∷ c ∷ d ∷ e ∷ f ∷ g ∷ h ∷ []) fit in
    let last_fit : IsBytes (e ∷ f ∷ g ∷ h ∷ []) = IsBytes-part 4 4 (a ∷ b ∷ c ∷ d ∷ e ∷ f ∷ g ∷ h ∷ []) fit in
    let number : front ≡ a + 256 * b + 65536 * c + 16777216 * d = is ∙ omega arith in
    let early : crc_register register (message_bits (a ∷ b ∷ c ∷ d ∷ [])) ≡ shifts 32 (bit_xor register front) =
    after_bytes register (a ∷ b ∷ c ∷ d ∷ []) first_fit
    ∙ ap (bit_xor (shifts 32 register)) (four_at_once a b c d first_fit ∙ ap (shifts 32) (sym number))
    ∙ sym (shifts_linear 32 register front) in
    sym (
    ap (crc_register register) (message_bits-append (a ∷ b ∷ c ∷ d ∷ []) (e ∷ f ∷ g ∷ h ∷ []))
    ∙ register-append (message_bits (a ∷ b ∷ c ∷ d ∷ [])) (message_bits (e ∷ f ∷ g ∷ h ∷ [])) register
    ∙ ap (λ (n : ℕ). crc_register n (message_bits (e ∷ f ∷ g ∷ h ∷ []))) early
    ∙ after_bytes (shifts 32 (bit_xor register front)) (e ∷ f ∷ g ∷ h ∷ []) last_fit
    ∙ ap (λ (n : ℕ). bit_xor n (crc_register 0 (message_bits (e ∷ f ∷ g ∷ h ∷ [])))) (sym (shifts-add 32 32 (bit_xor register front))))
eight_looked_up register front (a ∷ b ∷ c ∷ d ∷ e ∷ f ∷ g ∷ h ∷ x ∷ xs) len fit is = absurd (omega (arith, len))

-- ---- a message in parts

-- the register after the first bytes and the rest
pub register_split : (n : ℕ) (xs : List ℕ) (register : ℕ) → crc_register (crc_register register (message_bits (take n xs))) (message_bits (drop n xs)) ≡ crc_register register (message_bits xs)
register_split n xs register =
    sym (register-append (message_bits (take n xs)) (message_bits (drop n xs)) register)
    ∙ ap (crc_register register) (sym (message_bits-append (take n xs) (drop n xs)) ∙ ap message_bits (take-append-drop n xs))

-- the register after the next byte and the rest
pub register_next : (xs : List ℕ) (i register byte : ℕ) → i < length xs → byte ≡ get_or xs i 0 → crc_register (crc_register register (message_bits (byte ∷ []))) (message_bits (drop (i + 1) xs)) ≡ crc_register register (message_bits (drop i xs))
register_next xs i register byte lt is =
    let here : drop i xs ≡ byte ∷ drop (i + 1) xs = rw (is, add-one) (drop-cons xs i 0 lt) in
    sym (register-append (message_bits (byte ∷ [])) (message_bits (drop (i + 1) xs)) register)
    ∙ ap (crc_register register) (sym (message_bits-append (byte ∷ []) (drop (i + 1) xs)) ∙ ap message_bits (sym here))

-- more bytes after a message
pub crc_after_message : (message bytes : List ℕ) → crc_after (crc32 message) bytes ≡ crc32 (message ++ bytes)
unfolding crc32
crc_after_message message bytes =
    let turned : bit_xor (bit_xor (crc_register 0xFFFFFFFF (message_bits message)) 0xFFFFFFFF) 0xFFFFFFFF ≡ crc_register 0xFFFFFFFF (message_bits message) =
    xor_assoc (crc_register 0xFFFFFFFF (message_bits message)) 0xFFFFFFFF 0xFFFFFFFF ∙ xor_zero_r (crc_register 0xFFFFFFFF (message_bits message)) in
    ap (λ (n : ℕ). bit_xor n 0xFFFFFFFF) (
    ap (λ (n : ℕ). crc_register n (message_bits bytes)) turned
    ∙ sym (register-append (message_bits message) (message_bits bytes) 0xFFFFFFFF)
    ∙ ap (crc_register 0xFFFFFFFF) (sym (message_bits-append message bytes)))
