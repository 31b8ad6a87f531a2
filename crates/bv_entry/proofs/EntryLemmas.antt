-- An entry read from its blocks.
use Rattle.std.proofs.Common.{◌≡◌, ℕ, ◌+◌, ◌-◌, ◌^◌, List, [], ◌∷◌, ◌++◌, length, take, drop, ◌↔◌, IsErrAnd, Bool, true, false, cond, eqb, Result, Ok, Err, ap, sym, ◌∙◌, arith}
use Rattle.spec_record.specs.declared.entry_fault.EntryFault.{EntryFault}
use Rattle.bv_entry.specs.declared.read.ReadEntryFault.{ReadEntryFault}
use Rattle.bv_entry.specs.declared.read.ReadEntryFault.TheVariants as reads
use Rattle.spec_record.specs.Field.{field}
use Rattle.spec_record.specs.Tests.{value_or_fault, is_between}
use Rattle.spec_record.specs.Places.{block_in, target_in, flag_in}
use Rattle.spec_record.specs.Entry.{Entry, restored, entry_tests, entry_in, targets_in, entry_or_fault}
use Rattle.spec_record.proofs.TestLemmas.{value_passed, passed_value, both_true, equal}

-- one target more
pub targets_more : (header : List ℕ) (place : ℕ) (blocks : List (List ℕ)) (block : List ℕ) → targets_in header place (blocks ++ block ∷ []) ≡ targets_in header place blocks ++ (target_in header (place + length blocks), restored (flag_in header (place + length blocks)) block) ∷ []
targets_more header place [] block =
    let same : place ≡ place + 0 = omega arith in
    ap (λ (p : ℕ). (target_in header p, restored (flag_in header p) block) ∷ []) same
targets_more header place (first ∷ blocks) block =
    let same : place + 1 + length blocks ≡ place + length (first ∷ blocks) = omega arith in
    ap (λ (ts : List (ℕ × List ℕ)). (target_in header place, restored (flag_in header place) first) ∷ ts)
    (targets_more header (place + 1) blocks block
    ∙ ap (λ (p : ℕ). targets_in header (place + 1) blocks ++ (target_in header p, restored (flag_in header p) block) ∷ []) same)

abbrev failed : (A E : Type 0) → E → Result A E
failed A E fault = Err fault

fault_is : (A E : Type 0) (here fault : E) → failed A E here ≡ failed A E fault → here ≡ fault
fault_is A E here fault e = cc

other_value : {A B E : Type 0} (b : Bool) (x : Result A E) (y : Result B E) (here fault : E) → (x ≡ Err fault → y ≡ Err fault) → cond b x (Err here) ≡ Err fault → cond b y (Err here) ≡ Err fault
other_value true x y here fault same e = same e
other_value {A = A} {B = B} {E = E} false x y here fault same e = ap (failed B E) (fault_is A E here fault e)

-- a fault doesn't depend on the value
pub same_fault : {A B E : Type 0} (tests : List (Bool × E)) (x : A) (y : B) (fault : E) → value_or_fault tests x ≡ Err fault → value_or_fault tests y ≡ Err fault
same_fault [] x y fault e = absurd cc
same_fault (test ∷ tests) x y fault e =
    other_value test.0 (value_or_fault tests x) (value_or_fault tests y) test.1 fault (same_fault tests x y fault) e

abbrev entry_with : ℕ → List (ℕ × List ℕ) → Entry
entry_with number targets = record { number = number; targets = targets }

-- where each test holds the entry is the one in the fields
pub passed_entry : (blocks : List (List ℕ)) (number meta count : ℕ) (targets : List (ℕ × List ℕ)) → value_or_fault (entry_tests blocks number meta) (field (block_in blocks 0) 32 8) ≡ Ok count → targets ≡ targets_in (block_in blocks 0) 0 (take count (drop 1 blocks)) → entry_or_fault blocks number meta ≡ Ok (record { number = number; targets = targets })
unfolding entry_or_fault
passed_entry blocks number meta count targets e is =
    let header : List ℕ = block_in blocks 0 in
    let passed = value_passed (entry_tests blocks number meta) (field header 32 8) count e in
    let numbers = both_true (eqb (field header 8 8) number) (is_between 1 number (2 ^ 62 - 1)) passed.0.1.0 in
    let number_is : field header 8 8 ≡ number = equal (field header 8 8) number numbers.0 in
    let targets_are : targets_in header 0 (take (field header 32 8) (drop 1 blocks)) ≡ targets =
    ap (λ (n : ℕ). targets_in header 0 (take n (drop 1 blocks))) passed.1 ∙ sym is in
    let entry_is : entry_in blocks ≡ entry_with number targets =
    ap (λ (n : ℕ). entry_with n (targets_in header 0 (take (field header 32 8) (drop 1 blocks)))) number_is
    ∙ ap (entry_with number) targets_are in
    passed_value (entry_tests blocks number meta) (entry_in blocks) passed.0 ∙ ap (λ (e : Entry). Ok e) entry_is

abbrev no_value : (A : Type 0) → ReadEntryFault → Result A ReadEntryFault
no_value A fault = Err fault

err_and : (A : Type 0) (r : Result A ReadEntryFault) (fault : ReadEntryFault) → IsErrAnd r (λ e. e ≡ fault) → r ≡ no_value A fault
err_and A (Ok value) fault h = absurd h
err_and A (Err e) fault h = ap (no_value A) h

same_entry_fault : (A : Type 0) (given fault : EntryFault) → no_value A (reads.Entry given) ≡ no_value A (reads.Entry fault) → given ≡ fault
same_entry_fault A given fault e = cc

-- a fault of the blocks is answered as it is
pub faulted : (A B : Type 0) (r : Result A ReadEntryFault) (s : Result B EntryFault) (given : EntryFault) → IsErrAnd r (λ e. e ≡ reads.Entry given) → s ≡ Err given → (fault : EntryFault) → (r ≡ Err (reads.Entry fault)) ↔ (s ≡ Err fault)
faulted A B r s given h e fault =
    let is : r ≡ no_value A (reads.Entry given) = err_and A r (reads.Entry given) h in (
      (λ f. e ∙ ap (failed B EntryFault) (same_entry_fault A given fault (sym is ∙ f))),
      λ f. is ∙ ap (λ (g : EntryFault). no_value A (reads.Entry g)) (fault_is B EntryFault given fault (sym e ∙ f)),
    )

not_both : (B : Type 0) (s : Result B EntryFault) (value : B) (fault : EntryFault) → s ≡ Ok value → s ≡ Err fault → ⊥
not_both B s value fault is e = cc

not_memory : (A : Type 0) (fault : EntryFault) → no_value A reads.NoMemory ≡ no_value A (reads.Entry fault) → ⊥
not_memory A fault e = cc

-- where an entry is there, want of memory is no fault of the blocks
pub out_of_memory : (A B : Type 0) (r : Result A ReadEntryFault) (s : Result B EntryFault) (value : B) → IsErrAnd r (λ e. e ≡ reads.NoMemory) → s ≡ Ok value → (fault : EntryFault) → (r ≡ Err (reads.Entry fault)) ↔ (s ≡ Err fault)
out_of_memory A B r s value h is fault = (
  (λ f. absurd (not_memory A fault (sym (err_and A r reads.NoMemory h) ∙ f))),
  λ f. absurd (not_both B s value fault is f),
)

-- nor is an entry
pub read_whole : (A B : Type 0) (x : A) (s : Result B EntryFault) (value : B) → s ≡ Ok value → (fault : EntryFault) → (Ok x ≡ no_value A (reads.Entry fault)) ↔ (s ≡ Err fault)
read_whole A B x s value is fault = ((λ f. absurd cc), λ f. absurd (not_both B s value fault is f))
