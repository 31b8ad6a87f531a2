-- A head of zeros has no magic.
use Rattle.std.proofs.Common.{◌≡◌, ◌==◌, ◌&&◌, if◌then◌else◌, ℕ, List, ◌∷◌, length, take, drop, replicate, Bool, false, Err, ap, sym, ◌∙◌, arith}
use Rattle.std.proofs.lemmas.List.{take-append-drop, take-append-le, take-replicate, length-replicate}
use Rattle.spec_disk.specs.Disk.{Blocks, block}
use Rattle.spec_record.specs.declared.super_fault.SuperFault.TheVariants.{Magic}
use Rattle.spec_record.specs.Field.{field, number_of}
use Rattle.spec_record.specs.Superblock.{first_magic, second_magic, super_in, super_tests, super_or_fault}
use Rattle.spec_record.specs.Tests.{value_or_fault}
use Rattle.spec_crash.specs.Format.{head}

-- the first bytes of a list are those of its beginning
take-take_8 : (bytes : List ℕ) → length (take 512 bytes) ≡ 512 → take 8 bytes ≡ take 8 (take 512 bytes)
take-take_8 bytes long = ap (λ (b : List ℕ). take 8 b) (sym (take-append-drop 512 bytes)) ∙ take-append-le 8 (take 512 bytes) (drop 512 bytes) (omega (arith, long))

first_field-zeros : (bytes : List ℕ) → take 512 bytes ≡ replicate 512 0 → field bytes 0 8 ≡ 0
unfolding field number_of
first_field-zeros bytes zeros =
    let long : length (take 512 bytes) ≡ 512 = ap (λ (b : List ℕ). length b) zeros ∙ length-replicate {A = ℕ} 512 0 in
    let same : take 8 bytes ≡ replicate 8 0 = take-take_8 bytes long ∙ ap (λ (b : List ℕ). take 8 b) zeros ∙ take-replicate 8 512 0 (omega arith) in
    ap (λ (b : List ℕ). number_of b) same

first_fault : {A E : Type 0} → (test : Bool) (fault : E) (tests : List (Bool × E)) (value : A) → test ≡ false → value_or_fault ((test, fault) ∷ tests) value ≡ Err fault
first_fault test fault tests value fails = ap (λ b. if b then value_or_fault tests value else Err fault) fails

pub head-refused : (j : Blocks) (blocks : ℕ) → head j ≡ replicate 512 0 → super_or_fault (block j 0) blocks ≡ Err Magic
unfolding super_or_fault
head-refused j blocks zeros =
    let bytes : List ℕ = block j 0 in
    let second : Bool = field bytes 8 8 == second_magic in
    let fails : ((field bytes 0 8 == first_magic) && second) ≡ false = ap (λ n. (n == first_magic) && second) (first_field-zeros bytes zeros) in
    first_fault ((field bytes 0 8 == first_magic) && second) Magic (drop 1 (super_tests bytes blocks)) (super_in bytes) fails
