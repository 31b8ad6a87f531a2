-- An entry depends on its own blocks alone: the header, the payloads and the commit.
use Rattle.std.proofs.Common.{◌≡◌, ℕ, suc, ◌+◌, ◌-◌, ◌%◌, ◌^◌, ◌<◌, ◌≤◌, min, List, [], ◌∷◌, length, take, drop, get_or, Bool, true, false, cond, eqb, leb, ltb, ◌&&◌, Option, Some, refl, ap, sym, ◌∙◌, inl, inr, arith, length-append}
use Rattle.std.proofs.lemmas.Bool.{cases_lt}
use Rattle.std.proofs.lemmas.List.{length-take, length-drop, get_or-take, get_or-drop, get_or_default, get_or_append_left, get_or-append_right, same_lists}
use Rattle.std.proofs.Math.Nat.{mod-eq_of_lt, mod-lt, add-mod_right, mod-add-mod}
use Rattle.std.specs.List.{concat}
use Rattle.std.specs.Prelude.{is_none, unwrap_or}
use Rattle.std.specs.Result.{result_ok}
use Rattle.spec_record.specs.declared.entry_fault.EntryFault.{EntryFault}
use Rattle.spec_record.specs.declared.entry_fault.EntryFault.TheVariants as faults
use Rattle.spec_record.specs.Field.{field}
use Rattle.spec_record.specs.Tests.{value_or_fault, is_between}
use Rattle.spec_record.specs.Crc.{crc32}
use Rattle.spec_record.specs.Places.{header_places, block_in, begins_with_magic, is_used_place, is_unused_place, is_place, first_failing, wrong_place}
use Rattle.spec_record.specs.Entry.{Entry, is_commit, entry_tests, targets_in, entry_in, entry_or_fault, entry_of}
use Rattle.spec_record.specs.EntryBlocks.{entry_slots, ring_from}
use Rattle.spec_record.proofs.TestLemmas.{Passed, value_passed, some_ok, both_true, at_most}

-- the payload count of a header
abbrev pub count_in : List ℕ → ℕ
count_in header = field header 32 8

-- the tests of an entry, and its value, over the parts that they look at
unfoldable pub tests_of : List ℕ → Option ℕ → List ℕ → List (List ℕ) → ℕ → ℕ → ℕ → List (Bool × EntryFault)
tests_of header wrong commit front size number meta =
    let found = field header 8 8 in
    let kind = field header 16 8 in
    let count = field header 32 8 in
    let stored = field commit 32 4 in
    let sum = crc32 (concat front) in
    (begins_with_magic header, faults.Magic)
    ∷ (eqb found number && is_between 1 number (2 ^ 62 - 1), faults.Number number found)
    ∷ (eqb kind 1, faults.Kind kind)
    ∷ (is_between 1 count meta && leb (count + 2) size, faults.Count count)
    ∷ (is_none wrong, faults.Target (unwrap_or wrong 0))
    ∷ (eqb (field header 24 8) 0 && eqb (field header 8188 4) 0, faults.Target 679)
    ∷ (is_commit commit number, faults.Commit)
    ∷ (eqb stored sum, faults.Checksum stored sum)
    ∷ []

unfoldable pub value_of : List ℕ → List (List ℕ) → Entry
value_of header payloads = record { number = field header 8 8; targets = targets_in header 0 payloads }

-- what is read of these parts
unfoldable pub read_of : List ℕ → Option ℕ → List ℕ → List (List ℕ) → List (List ℕ) → ℕ → ℕ → ℕ → Option Entry
read_of header wrong commit front payloads size number meta = result_ok (value_or_fault (tests_of header wrong commit front size number meta) (value_of header payloads))

unfoldable pub count_of : List (List ℕ) → ℕ
count_of blocks = count_in (block_in blocks 0)

pub reads_parts : (blocks : List (List ℕ)) (number meta : ℕ) → entry_of blocks number meta
    ≡ read_of (block_in blocks 0) (wrong_place blocks meta) (block_in blocks (count_of blocks + 1)) (take (count_of blocks + 1) blocks) (take (count_of blocks) (drop 1 blocks)) (length blocks) number meta
unfolding entry_or_fault read_of tests_of value_of count_of
reads_parts blocks number meta = refl

length-targets_in : (header : List ℕ) (place : ℕ) (blocks : List (List ℕ)) → length (targets_in header place blocks) ≡ length blocks
length-targets_in header place [] = refl
length-targets_in header place (b ∷ bs) = ap suc (length-targets_in header (place + 1) bs)

-- an entry that was read
pub record IsRead (blocks : List (List ℕ)) (number meta : ℕ) (e : Entry) : Type 0 where
  pub tests : Passed (entry_tests blocks number meta)
  pub value : entry_in blocks ≡ e

pub entry_read : (blocks : List (List ℕ)) (number meta : ℕ) (e : Entry) → entry_of blocks number meta ≡ Some e → IsRead blocks number meta e
unfolding entry_or_fault
entry_read blocks number meta e is =
    let r = value_passed (entry_tests blocks number meta) (entry_in blocks) e (some_ok _ e is) in
    record { tests = r.0; value = r.1 }

pub read_slots : (blocks : List (List ℕ)) (number meta : ℕ) (e : Entry) → IsRead blocks number meta e → (count_of blocks + 2 ≡ entry_slots e) × (entry_slots e ≤ length blocks)
unfolding count_of
read_slots blocks number meta e r =
    let count = count_of blocks in
    let room : count + 2 ≤ length blocks = at_most (count + 2) (length blocks) (both_true (is_between 1 count meta) (leb (count + 2) (length blocks)) r.tests.1.1.1.0).1 in
    let payloads = take count (drop 1 blocks) in
    let long : length (entry_in blocks).targets ≡ min count (length blocks - 1) =
    length-targets_in (block_in blocks 0) 0 payloads ∙ length-take count (drop 1 blocks) ∙ ap (min count) (length-drop 1 blocks) in
    let same : length (entry_in blocks).targets ≡ length e.targets = ap (λ (x : Entry). length x.targets) r.value in
    (omega (arith, room, long, same), omega (arith, room, long, same))

-- the block behind the payloads is a commit
pub commit_test : (blocks : List (List ℕ)) (number meta : ℕ) (e : Entry) → IsRead blocks number meta e → is_commit (block_in blocks (count_of blocks + 1)) number ≡ true
unfolding count_of
commit_test blocks number meta e r = r.tests.1.1.1.1.1.1.0

-- functions that agree are one
pub ext : {A B : Type 0} (f h : A → B) → ((x : A) → f x ≡ h x) → f ≡ h
ext f h same = λ i x. same x i

-- the same blocks in the first places
abbrev pub AgreeBelow : ℕ → List (List ℕ) → List (List ℕ) → Type 0
AgreeBelow n bs cs = (k : ℕ) → k < n → get_or bs k [] ≡ get_or cs k []

pub take_same : (n : ℕ) (bs cs : List (List ℕ)) → length bs ≡ length cs → AgreeBelow n bs cs → take n bs ≡ take n cs
take_same n bs cs long same =
    let as_long : length (take n bs) ≡ length (take n cs) = length-take n bs ∙ ap (min n) long ∙ sym (length-take n cs) in
    same_lists (take n bs) (take n cs) as_long (λ k d lt.
    let below : k < n = omega (arith, length-take n bs) in
    let within : k < length bs = omega (arith, length-take n bs) in
    get_or-take n bs k d below ∙ get_or_default bs k d [] within ∙ same k below ∙ sym (get_or_default cs k d [] (omega (arith, within, long))) ∙ sym (get_or-take n cs k d below))

pub drop_one_same : (n : ℕ) (bs cs : List (List ℕ)) → AgreeBelow (n + 1) bs cs → AgreeBelow n (drop 1 bs) (drop 1 cs)
drop_one_same n bs cs same k lt = get_or-drop 1 bs k [] ∙ same (1 + k) (omega (arith, lt)) ∙ sym (get_or-drop 1 cs k [])

chosen_same : {A : Type 0} (place count : ℕ) (x y z : A) → (place < count → x ≡ y) → cond (ltb place count) x z ≡ cond (ltb place count) y z
chosen_same {A} place count x y z same =
    elim (cases_lt place count) [
      | inl lt ↦ ap (λ (w : A). cond (ltb place count) w z) (same lt)
      | inr ge ↦ let t : ltb place count ≡ false = grind (arith, ge) in rw t refl
    ]

pub places_same : (bs cs : List (List ℕ)) (meta : ℕ) → AgreeBelow (count_in (block_in bs 0) + 2) bs cs → wrong_place bs meta ≡ wrong_place cs meta
places_same bs cs meta same =
    let header : block_in bs 0 ≡ block_in cs 0 = same 0 (omega arith) in
    ap (λ (test : ℕ → Bool). first_failing test 0 header_places) (ext (is_place bs meta) (is_place cs meta) (λ place.
    chosen_same place (count_in (block_in bs 0)) (is_used_place (block_in bs 0) meta place (block_in bs (place + 1))) (is_used_place (block_in bs 0) meta place (block_in cs (place + 1))) (is_unused_place (block_in bs 0) place)
    (λ lt. ap (is_used_place (block_in bs 0) meta place) (same (place + 1) (omega (arith, lt))))
    ∙ ap (λ (h : List ℕ). cond (ltb place (count_in h)) (is_used_place h meta place (block_in cs (place + 1))) (is_unused_place h place)) header))

pub parts_same : (bs cs : List (List ℕ)) (number meta : ℕ) → length bs ≡ length cs → AgreeBelow (count_in (block_in bs 0) + 2) bs cs → entry_of bs number meta ≡ entry_of cs number meta
unfolding count_of
parts_same bs cs number meta long same =
    let n = count_of bs in
    let header : block_in bs 0 ≡ block_in cs 0 = same 0 (omega arith) in
    let count : count_of bs ≡ count_of cs = ap count_in header in
    let wrong : wrong_place bs meta ≡ wrong_place cs meta = places_same bs cs meta same in
    let commit : block_in bs (count_of bs + 1) ≡ block_in cs (count_of cs + 1) = same (n + 1) (omega arith) ∙ ap (λ (c : ℕ). block_in cs (c + 1)) count in
    let front : take (count_of bs + 1) bs ≡ take (count_of cs + 1) cs = take_same (n + 1) bs cs long (λ k lt. same k (omega (arith, lt))) ∙ ap (λ (c : ℕ). take (c + 1) cs) count in
    let payloads : take (count_of bs) (drop 1 bs) ≡ take (count_of cs) (drop 1 cs) =
    take_same n (drop 1 bs) (drop 1 cs) (length-drop 1 bs ∙ ap (λ (m : ℕ). m - 1) long ∙ sym (length-drop 1 cs)) (drop_one_same n bs cs (λ k lt. same k (omega (arith, lt)))) ∙ ap (λ (c : ℕ). take c (drop 1 cs)) count in
    let parts : read_of (block_in bs 0) (wrong_place bs meta) (block_in bs (count_of bs + 1)) (take (count_of bs + 1) bs) (take (count_of bs) (drop 1 bs)) (length bs) number meta
    ≡ read_of (block_in cs 0) (wrong_place cs meta) (block_in cs (count_of cs + 1)) (take (count_of cs + 1) cs) (take (count_of cs) (drop 1 cs)) (length cs) number meta =
    λ i. read_of (header i) (wrong i) (commit i) (front i) (payloads i) (long i) number meta in
    reads_parts bs number meta ∙ parts ∙ sym (reads_parts cs number meta)

-- blocks that agree as far as an entry goes have this entry
pub entry_local : (bs cs : List (List ℕ)) (number meta : ℕ) (e : Entry) → length bs ≡ length cs → entry_of bs number meta ≡ Some e → AgreeBelow (entry_slots e) bs cs → entry_of cs number meta ≡ Some e
unfolding count_of
entry_local bs cs number meta e long is same =
    let slots = (read_slots bs number meta e (entry_read bs number meta e is)).0 in
    sym (parts_same bs cs number meta long (λ k lt. same k (omega (arith, lt, slots)))) ∙ is

-- ---- around a ring

pub length-ring_from : (ring : List (List ℕ)) (slot : ℕ) → length (ring_from ring slot) ≡ length ring
length-ring_from ring slot =
    elim (cases_lt 0 (length ring)) [
      | inl some ↦
          let lt : slot % length ring < length ring = mod-lt slot some in
          omega (arith, length-append (drop (slot % length ring) ring) (take (slot % length ring) ring), length-drop (slot % length ring) ring, length-take (slot % length ring) ring)
      | inr none ↦ omega (arith, length-append (drop (slot % length ring) ring) (take (slot % length ring) ring), length-drop (slot % length ring) ring, length-take (slot % length ring) ring)
    ]

-- the blocks from a slot on
pub ring_from_get : (ring : List (List ℕ)) (slot k : ℕ) → k < length ring → get_or (ring_from ring slot) k [] ≡ get_or ring ((slot + k) % length ring) []
ring_from_get ring slot k lt =
    let n = length ring in
    let a = slot % n in
    let below : a < n = mod-lt slot (omega arith) in
    let long : length (drop a ring) ≡ n - a = length-drop a ring in
    elim (cases_lt k (n - a)) [
      | inl near ↦
          let at : (slot + k) % n ≡ a + k = sym (mod-add-mod slot n k) ∙ mod-eq_of_lt (omega (arith, near, below)) in
          get_or_append_left (drop a ring) (take a ring) [] k (omega (arith, near, long)) ∙ get_or-drop a ring k [] ∙ ap (λ (x : ℕ). get_or ring x []) (sym at)
      | inr far ↦
          let over : a + k ≡ (a + k - n) + n = omega (arith, far, below) in
          let at : (slot + k) % n ≡ k - (n - a) =
          sym (mod-add-mod slot n k) ∙ ap (λ (x : ℕ). x % n) over ∙ add-mod_right (a + k - n) n ∙ mod-eq_of_lt (omega (arith, lt, below)) ∙ omega (arith, far, below) in
          get_or-append_right (drop a ring) (take a ring) (n - a) k [] long far ∙ get_or-take a ring (k - (n - a)) [] (omega (arith, lt, far, below)) ∙ ap (λ (x : ℕ). get_or ring x []) (sym at)
    ]
