-- A field is 0 exactly where its bytes are zero.
use Rattle.std.proofs.Common.{◌≡◌, ◌<◌, ℕ, zero, suc, ◌+◌, List, [], ◌∷◌, take, drop, get_or, refl, sym, ◌∙◌, arith, inl, inr}
use Rattle.std.proofs.lemmas.List.{get_or-take, get_or-drop, get_or_past, length-take}
use Rattle.std.proofs.lemmas.Bool.{cases_lt}
use Rattle.spec_record.specs.Field.{number_of, field}

all_zero : (bytes : List ℕ) → number_of bytes ≡ 0 → (i : ℕ) → get_or bytes i 0 ≡ 0
unfolding number_of
all_zero [] e i = refl
all_zero (byte ∷ bytes) e zero = omega (arith, e)
all_zero (byte ∷ bytes) e (suc i) = all_zero bytes (omega (arith, e)) i

zero_number : (bytes : List ℕ) → ((i : ℕ) → get_or bytes i 0 ≡ 0) → number_of bytes ≡ 0
unfolding number_of
zero_number [] zeros = refl
zero_number (byte ∷ bytes) zeros =
    let first : byte ≡ 0 = zeros 0 in
    let rest : number_of bytes ≡ 0 = zero_number bytes (λ i. zeros (suc i)) in
    omega arith

-- the bytes of a field that is 0
pub zero_bytes : (bytes : List ℕ) (offset width i : ℕ) → field bytes offset width ≡ 0 → i < width → get_or bytes (offset + i) 0 ≡ 0
unfolding field
zero_bytes bytes offset width i e lt =
    sym (get_or-take width (drop offset bytes) i 0 lt ∙ get_or-drop offset bytes i 0) ∙ all_zero (take width (drop offset bytes)) e i

-- a field whose bytes are zero
pub zero_field : (bytes : List ℕ) (offset width : ℕ) → ((i : ℕ) → i < width → get_or bytes (offset + i) 0 ≡ 0) → field bytes offset width ≡ 0
unfolding field
zero_field bytes offset width zeros =
    zero_number (take width (drop offset bytes)) (λ i.
    elim (cases_lt i width) [
      | inl lt ↦ get_or-take width (drop offset bytes) i 0 lt ∙ get_or-drop offset bytes i 0 ∙ zeros i lt
      | inr le ↦ get_or_past (take width (drop offset bytes)) i 0 (omega (arith, length-take width (drop offset bytes)))
    ])
