-- What is read as an entry is spelled so.
use Rattle.std.proofs.Common.{◌≡◌, ◌≤◌, ◌<◌, ℕ, zero, suc, ◌+◌, ◌-◌, ◌^◌, List, [], ◌∷◌, ◌++◌, length, take, drop, map, get_or, Bool, true, false, cond, eqb, ltb, leb, ◌||◌, Option, Some, None, is_none, refl, ap, sym, ◌∙◌, subst, inl, inr, arith, add-one}
use Rattle.std.specs.Prelude.{All}
use Rattle.std.specs.List.{concat}
use Rattle.std.proofs.lemmas.Bool.{cases_lt}
use Rattle.std.proofs.lemmas.List.{length-take, length-drop, length-map, get_or-take, get_or-drop, get_or-map, get_or_default, same_lists, take_more}
use Rattle.spec_record.specs.Field.{IsBlock, field, fields, spelled}
use Rattle.spec_record.specs.Crc.{crc32}
use Rattle.spec_record.specs.Tests.{IsBetween, is_between}
use Rattle.spec_record.specs.Places.{entry_magic, header_places, block_in, begins_with_magic, target_in, flag_in, is_escape, is_used_place, is_unused_place, is_place, wrong_place}
use Rattle.spec_record.specs.Entry.{restored, is_commit, entry_tests, targets_in, entry_in}
use Rattle.spec_record.specs.EntryBlocks.{IsEntry, stored, flag_of, header_bytes, entry_front, commit_bytes, entry_slots}
use Rattle.spec_record.specs.Laws.{SpellsEntry}
use Rattle.spec_record.proofs.FieldLemmas.{spelled-all}
use Rattle.spec_record.proofs.TestLemmas.{Passed, equal, at_most, below_of, ltb_true, ltb_false, both_true, either, between}
use Rattle.spec_record.proofs.PayloadLemmas.{Restores, stored-restored}
use Rattle.spec_record.proofs.PlaceLemmas.{places_are, none_failing, used_at, unused_at, header_spelled}

pub length-targets_in : (header : List ℕ) (place : ℕ) (blocks : List (List ℕ)) → length (targets_in header place blocks) ≡ length blocks
length-targets_in header place [] = refl
length-targets_in header place (block ∷ blocks) = ap suc (length-targets_in header (place + 1) blocks)

-- the target and the payload at a place
pub target_at : (header : List ℕ) (place : ℕ) (blocks : List (List ℕ)) (i : ℕ) (d : ℕ × List ℕ) (c : List ℕ) → i < length blocks → get_or (targets_in header place blocks) i d ≡ (target_in header (place + i), restored (flag_in header (place + i)) (get_or blocks i c))
target_at header place [] i d c lt = absurd (omega (arith, lt))
target_at header place (block ∷ blocks) zero d c lt =
    let same : place ≡ place + 0 = omega arith in
    ap (λ (p : ℕ). (target_in header p, restored (flag_in header p) block)) same
target_at header place (block ∷ blocks) (suc i) d c lt =
    let same : place + 1 + i ≡ place + suc i = omega arith in
    target_at header (place + 1) blocks i d c (omega (arith, lt))
    ∙ ap (λ (p : ℕ). (target_in header p, restored (flag_in header p) (get_or blocks i c))) same

-- the target and the payload at a place of the header
pub target_from : (header : List ℕ) (blocks : List (List ℕ)) (i : ℕ) (d : ℕ × List ℕ) (c : List ℕ) → i < length blocks → get_or (targets_in header 0 blocks) i d ≡ (target_in header i, restored (flag_in header i) (get_or blocks i c))
target_from header blocks i d c lt =
    let same : 0 + i ≡ i = omega arith in
    target_at header 0 blocks i d c lt ∙ ap (λ (p : ℕ). (target_in header p, restored (flag_in header p) (get_or blocks i c))) same

when_true : (b x y : Bool) → b ≡ true → cond b x y ≡ true → x ≡ true
when_true true x y is e = e
when_true false x y is e = absurd cc

when_false : (b x y : Bool) → b ≡ false → cond b x y ≡ true → y ≡ true
when_false false x y is e = e
when_false true x y is e = absurd cc

none_is : (o : Option ℕ) → is_none o ≡ true → o ≡ None
none_is None e = refl
none_is (Some x) e = absurd cc

-- the first blocks, one by one
pub take_first : (n : ℕ) (blocks : List (List ℕ)) → 1 ≤ length blocks → take (n + 1) blocks ≡ block_in blocks 0 ∷ take n (drop 1 blocks)
take_first n [] some = absurd (omega (arith, some))
take_first n (block ∷ blocks) some = rw add-one refl

-- the blocks of the entry that a header asks for are blocks
abbrev pub OwnBlocks : List (List ℕ) → Type 0
OwnBlocks blocks = All IsBlock (take (field (block_in blocks 0) 32 8 + 2) blocks)

own_block : (blocks : List (List ℕ)) (i : ℕ) → OwnBlocks blocks → field (block_in blocks 0) 32 8 + 2 ≤ length blocks → i < field (block_in blocks 0) 32 8 + 2 → IsBlock (block_in blocks i)
own_block blocks i own there lt =
    let n : ℕ = field (block_in blocks 0) 32 8 + 2 in
    subst IsBlock (get_or-take n blocks i [] lt) (own i [] (omega (arith, lt, there, length-take n blocks)))

-- what the tests say of a used place
record Used (header : List ℕ) (meta place : ℕ) (payload : List ℕ) : Type 0 where
  pub rises : (eqb place 0 || ltb (target_in header (place - 1)) (target_in header place)) ≡ true
  pub below : target_in header place < meta
  pub escape : is_escape (flag_in header place) payload ≡ true

used : (header : List ℕ) (meta place : ℕ) (payload : List ℕ) → is_used_place header meta place payload ≡ true → Used header meta place payload
used header meta place payload e =
    let outer = both_true _ (is_escape (flag_in header place) payload) e in
    let inner = both_true _ (ltb (target_in header place) meta) outer.0 in
    record { rises = inner.0; below = below_of (target_in header place) meta inner.1; escape = outer.1 }

-- what the tests say of an entry
record Read (blocks : List (List ℕ)) (number meta : ℕ) : Type 0 where
  pub magic : field (block_in blocks 0) 0 8 ≡ entry_magic
  pub number_is : field (block_in blocks 0) 8 8 ≡ number
  pub number_in : IsBetween 1 number (2 ^ 62 - 1)
  pub kind : field (block_in blocks 0) 16 8 ≡ 1
  pub count : IsBetween 1 (field (block_in blocks 0) 32 8) meta
  pub there : field (block_in blocks 0) 32 8 + 2 ≤ length blocks
  pub places : (i : ℕ) → i < header_places → is_place blocks meta i ≡ true
  pub reserved : field (block_in blocks 0) 24 8 ≡ 0
  pub last : field (block_in blocks 0) 8188 4 ≡ 0
  pub commit : is_commit (block_in blocks (field (block_in blocks 0) 32 8 + 1)) number ≡ true
  pub sum : field (block_in blocks (field (block_in blocks 0) 32 8 + 1)) 32 4 ≡ crc32 (concat (take (field (block_in blocks 0) 32 8 + 1) blocks))

read_from : (blocks : List (List ℕ)) (number meta : ℕ) → Passed (entry_tests blocks number meta) → Read blocks number meta
read_from blocks number meta t =
    let h = block_in blocks 0 in
    let n : ℕ = field h 32 8 in
    let numbers = both_true (eqb (field h 8 8) number) (is_between 1 number (2 ^ 62 - 1)) t.1.0 in
    let counts = both_true (is_between 1 n meta) (leb (n + 2) (length blocks)) t.1.1.1.0 in
    let later = t.1.1.1.1 in
    let zeros = both_true (eqb (field h 24 8) 0) (eqb (field h 8188 4) 0) later.1.0 in
    let none = none_is (wrong_place blocks meta) later.0 in
    record {
      magic = equal (field h 0 8) entry_magic t.0;
      number_is = equal (field h 8 8) number numbers.0;
      number_in = between 1 number (2 ^ 62 - 1) numbers.1;
      kind = equal (field h 16 8) 1 t.1.1.0;
      count = between 1 n meta counts.0;
      there = at_most (n + 2) (length blocks) counts.1;
      places = λ i lt. none_failing (is_place blocks meta) 0 header_places none i (omega arith) (omega (arith, lt));
      reserved = equal (field h 24 8) 0 zeros.0;
      last = equal (field h 8188 4) 0 zeros.1;
      commit = later.1.1.0;
      sum = equal _ _ later.1.1.1.0;
    }

-- the places of the header, one by one
read_used : (blocks : List (List ℕ)) (number meta i : ℕ) → meta ≤ 679 → Read blocks number meta → i < field (block_in blocks 0) 32 8 → Used (block_in blocks 0) meta i (block_in blocks (i + 1))
read_used blocks number meta i few r lt =
    let h = block_in blocks 0 in
    let n : ℕ = field h 32 8 in
    let within : i < header_places = omega (arith, places_are, r.count.to_high, few, lt) in
    used h meta i (block_in blocks (i + 1)) (when_true (ltb i n) (is_used_place h meta i (block_in blocks (i + 1))) (is_unused_place h i) (ltb_true i n lt) (r.places i within))

pub length-payloads : (n : ℕ) (blocks : List (List ℕ)) → n + 2 ≤ length blocks → length (take n (drop 1 blocks)) ≡ n
length-payloads n blocks there = omega (arith, length-take n (drop 1 blocks), length-drop 1 blocks)

pub payload_at : (n : ℕ) (blocks : List (List ℕ)) (i : ℕ) (c : List ℕ) → i < n → get_or (take n (drop 1 blocks)) i c ≡ get_or blocks (i + 1) c
payload_at n blocks i c lt =
    get_or-take n (drop 1 blocks) i c lt ∙ get_or-drop 1 blocks i c ∙ ap (λ (k : ℕ). get_or blocks k c) (omega arith)

-- a payload is restored as its place asks for
restores_at : (blocks : List (List ℕ)) (number meta i : ℕ) → OwnBlocks blocks → meta ≤ 679 → Read blocks number meta → i < field (block_in blocks 0) 32 8 → Restores (flag_in (block_in blocks 0) i) (get_or (take (field (block_in blocks 0) 32 8) (drop 1 blocks)) i [])
restores_at blocks number meta i b few r lt =
    let h = block_in blocks 0 in
    let u = read_used blocks number meta i few r lt in
    subst (λ (block : List ℕ). Restores (flag_in h i) block) (sym (payload_at (field h 32 8) blocks i [] lt))
    (stored-restored (flag_in h i) (block_in blocks (i + 1)) (own_block blocks (i + 1) b r.there (omega (arith, lt))) u.escape)

-- what an unused place holds
unused_zero : (blocks : List (List ℕ)) (number meta i : ℕ) → Read blocks number meta → field (block_in blocks 0) 32 8 ≤ i → i < header_places → (target_in (block_in blocks 0) i ≡ 0) × (flag_in (block_in blocks 0) i ≡ 0)
unused_zero blocks number meta i r le lt =
    let h = block_in blocks 0 in
    let n : ℕ = field h 32 8 in
    let past : ltb i n ≡ false = ltb_false i n le in
    let both = both_true (eqb (target_in h i) 0) (eqb (flag_in h i) 0) (when_false (ltb i n) (is_used_place h meta i (block_in blocks (i + 1))) (is_unused_place h i) past (r.places i lt)) in
    (equal (target_in h i) 0 both.0, equal (flag_in h i) 0 both.1)

-- a target, a flag and a payload of what is read
first_of_pair : ℕ × List ℕ → ℕ
first_of_pair t = t.0

read_target : (blocks : List (List ℕ)) (number meta i : ℕ) → Read blocks number meta → i < field (block_in blocks 0) 32 8 → get_or (map (λ t. t.0) (entry_in blocks).targets) i 0 ≡ target_in (block_in blocks 0) i
read_target blocks number meta i r lt =
    let h = block_in blocks 0 in
    let n : ℕ = field h 32 8 in
    let bs = take n (drop 1 blocks) in
    let none : ℕ × List ℕ = (0, []) in
    let inside : i < length bs = omega (arith, length-payloads n blocks r.there, lt) in
    let fst : ℕ × List ℕ → ℕ = λ t. t.0 in
    get_or-map fst (targets_in h 0 bs) i none 0 (omega (arith, length-targets_in h 0 bs)) ∙ ap fst (target_from h bs i none [] inside)

read_flag : (blocks : List (List ℕ)) (number meta i : ℕ) → OwnBlocks blocks → meta ≤ 679 → Read blocks number meta → i < field (block_in blocks 0) 32 8 → get_or (map (λ t. flag_of t.1) (entry_in blocks).targets) i 0 ≡ flag_in (block_in blocks 0) i
read_flag blocks number meta i b few r lt =
    let h = block_in blocks 0 in
    let n : ℕ = field h 32 8 in
    let bs = take n (drop 1 blocks) in
    let none : ℕ × List ℕ = (0, []) in
    let inside : i < length bs = omega (arith, length-payloads n blocks r.there, lt) in
    let flag : ℕ × List ℕ → ℕ = λ t. flag_of t.1 in
    get_or-map flag (targets_in h 0 bs) i none 0 (omega (arith, length-targets_in h 0 bs)) ∙ ap flag (target_from h bs i none [] inside) ∙ (restores_at blocks number meta i b few r lt).flag_is

read_stored : (blocks : List (List ℕ)) (number meta : ℕ) → OwnBlocks blocks → meta ≤ 679 → Read blocks number meta → map (λ t. stored t.1) (entry_in blocks).targets ≡ take (field (block_in blocks 0) 32 8) (drop 1 blocks)
read_stored blocks number meta b few r =
    let h = block_in blocks 0 in
    let n : ℕ = field h 32 8 in
    let bs = take n (drop 1 blocks) in
    let ts = targets_in h 0 bs in
    let none : ℕ × List ℕ = (0, []) in
    let payload : ℕ × List ℕ → List ℕ = λ t. stored t.1 in
    let bs_len : length bs ≡ n = length-payloads n blocks r.there in
    let len : length (map payload ts) ≡ length bs = length-map ts payload ∙ length-targets_in h 0 bs in
    same_lists (map payload ts) bs len (λ i d lt.
    let inside : i < length bs = omega (arith, len, lt) in
    let i_lt : i < n = omega (arith, bs_len, inside) in
    let restored_so = restores_at blocks number meta i b few r i_lt in
    get_or-map payload ts i none d (omega (arith, length-targets_in h 0 bs))
    ∙ ap payload (target_from h bs i none [] inside)
    ∙ restored_so.stored_is
    ∙ payload_at n blocks i [] i_lt ∙ get_or_default blocks (i + 1) [] d (omega (arith, r.there)) ∙ sym (payload_at n blocks i d i_lt))

read_header : (blocks : List (List ℕ)) (number meta : ℕ) → OwnBlocks blocks → meta ≤ 679 → Read blocks number meta → block_in blocks 0 ≡ header_bytes (entry_in blocks)
read_header blocks number meta b few r =
    let h = block_in blocks 0 in
    let n : ℕ = field h 32 8 in
    let bs = take n (drop 1 blocks) in
    let ts = targets_in h 0 bs in
    let fst : ℕ × List ℕ → ℕ = λ t. t.0 in
    let flag : ℕ × List ℕ → ℕ = λ t. flag_of t.1 in
    let ts_len : length ts ≡ n = length-targets_in h 0 bs ∙ length-payloads n blocks r.there in
    let n_few : n ≤ header_places = omega (arith, places_are, r.count.to_high, few) in
    let fst_len : length (map fst ts) ≡ n = length-map ts fst ∙ ts_len in
    let flag_len : length (map flag ts) ≡ n = length-map ts flag ∙ ts_len in
    header_spelled h (field h 8 8) (length ts) (map fst ts) (map flag ts) (own_block blocks 0 b r.there (omega arith))
    (record { targets_few = omega (arith, fst_len); flags_few = omega (arith, flag_len) })
    (record {
      magic = r.magic;
      number_is = refl;
      kind = r.kind;
      reserved = r.reserved;
      count_is = sym ts_len;
      targets_are = λ i lt. elim (cases_lt i n) [
        | inl i_lt ↦ sym (used_at (map fst ts) i (omega (arith, fst_len)) ∙ read_target blocks number meta i r i_lt)
        | inr le ↦ (unused_zero blocks number meta i r le lt).0 ∙ sym (unused_at (map fst ts) i (omega (arith, fst_len)) lt)
      ];
      flags_are = λ i lt. elim (cases_lt i n) [
        | inl i_lt ↦ sym (used_at (map flag ts) i (omega (arith, flag_len)) ∙ read_flag blocks number meta i b few r i_lt)
        | inr le ↦ (unused_zero blocks number meta i r le lt).1 ∙ sym (unused_at (map flag ts) i (omega (arith, flag_len)) lt)
      ];
      last = r.last;
    })

-- the header and the payloads are the first blocks
read_front : (blocks : List (List ℕ)) (number meta : ℕ) → OwnBlocks blocks → meta ≤ 679 → Read blocks number meta → take (field (block_in blocks 0) 32 8 + 1) blocks ≡ entry_front (entry_in blocks)
read_front blocks number meta b few r =
    let h = block_in blocks 0 in
    let n : ℕ = field h 32 8 in
    take_first n blocks (omega (arith, r.there))
    ∙ ap (λ (front : List ℕ). front ∷ take n (drop 1 blocks)) (read_header blocks number meta b few r)
    ∙ ap (λ (rest : List (List ℕ)). header_bytes (entry_in blocks) ∷ rest) (sym (read_stored blocks number meta b few r))

-- a commit by its fields
commit_spelled : (block : List ℕ) (number sum : ℕ) → IsBlock block → is_commit block number ≡ true → field block 32 4 ≡ sum → block ≡ spelled (8 ∷ 8 ∷ 8 ∷ 8 ∷ 4 ∷ 8156 ∷ []) (entry_magic ∷ number ∷ 2 ∷ 0 ∷ sum ∷ 0 ∷ [])
commit_spelled block number sum b e sum_is =
    let e1 = both_true _ (eqb (field block 36 8156) 0) e in
    let e2 = both_true _ (eqb (field block 24 8) 0) e1.0 in
    let e3 = both_true _ (eqb (field block 16 8) 2) e2.0 in
    let e4 = both_true (begins_with_magic block) (eqb (field block 8 8) number) e3.0 in
    let magic : field block 0 8 ≡ entry_magic = equal (field block 0 8) entry_magic e4.0 in
    let number_is : field block 8 8 ≡ number = equal (field block 8 8) number e4.1 in
    let kind : field block 16 8 ≡ 2 = equal (field block 16 8) 2 e3.1 in
    let reserved : field block 24 8 ≡ 0 = equal (field block 24 8) 0 e2.1 in
    let rest : field block 36 8156 ≡ 0 = equal (field block 36 8156) 0 e1.1 in
    let rows : fields 0 (8 ∷ 8 ∷ 8 ∷ 8 ∷ 4 ∷ 8156 ∷ []) block ≡ entry_magic ∷ number ∷ 2 ∷ 0 ∷ sum ∷ 0 ∷ [] = rw (magic, number_is, kind, reserved, sum_is, rest) refl in
    spelled-all (8 ∷ 8 ∷ 8 ∷ 8 ∷ 4 ∷ 8156 ∷ []) block b.bytes_fit b.length_is ∙ ap (spelled (8 ∷ 8 ∷ 8 ∷ 8 ∷ 4 ∷ 8156 ∷ [])) rows

read_commit : (blocks : List (List ℕ)) (number meta : ℕ) → OwnBlocks blocks → meta ≤ 679 → Read blocks number meta → block_in blocks (field (block_in blocks 0) 32 8 + 1) ≡ commit_bytes (entry_in blocks)
read_commit blocks number meta b few r =
    let h = block_in blocks 0 in
    let n : ℕ = field h 32 8 in
    let sum_is : field (block_in blocks (n + 1)) 32 4 ≡ crc32 (concat (entry_front (entry_in blocks))) = r.sum ∙ ap (λ (front : List (List ℕ)). crc32 (concat front)) (read_front blocks number meta b few r) in
    let number_is : is_commit (block_in blocks (n + 1)) (field h 8 8) ≡ true = subst (λ (k : ℕ). is_commit (block_in blocks (n + 1)) k ≡ true) (sym r.number_is) r.commit in
    commit_spelled (block_in blocks (n + 1)) (field h 8 8) (crc32 (concat (entry_front (entry_in blocks)))) (own_block blocks (n + 1) b r.there (omega arith)) number_is sum_is

read_lawful : (blocks : List (List ℕ)) (number meta : ℕ) → OwnBlocks blocks → meta ≤ 679 → Read blocks number meta → IsEntry meta (entry_in blocks)
read_lawful blocks number meta b few r =
    let h = block_in blocks 0 in
    let n : ℕ = field h 32 8 in
    let bs = take n (drop 1 blocks) in
    let ts = targets_in h 0 bs in
    let fst : ℕ × List ℕ → ℕ = λ t. t.0 in
    let bs_len : length bs ≡ n = length-payloads n blocks r.there in
    let ts_len : length ts ≡ n = length-targets_in h 0 bs ∙ bs_len in
    record {
      number = subst (λ (k : ℕ). IsBetween 1 k (2 ^ 62 - 1)) (sym r.number_is) r.number_in;
      count = subst (λ (k : ℕ). IsBetween 1 k meta) (sym ts_len) r.count;
      rising = λ k lt.
          let next : k + 1 < n = omega (arith, length-map ts fst, ts_len, lt) in
          let u = read_used blocks number meta (k + 1) few r next in
          elim (either (eqb (k + 1) 0) (ltb (target_in h (k + 1 - 1)) (target_in h (k + 1))) u.rises) [
            | inl first ↦ absurd (omega (arith, equal (k + 1) 0 first))
            | inr above ↦
                let same : k + 1 - 1 ≡ k = omega arith in
                let lt_next : target_in h k < target_in h (k + 1) = subst (λ (j : ℕ). target_in h j < target_in h (k + 1)) same (below_of (target_in h (k + 1 - 1)) (target_in h (k + 1)) above) in
                let here : get_or (map fst ts) k 0 ≡ target_in h k = read_target blocks number meta k r (omega arith) in
                let there : get_or (map fst ts) (k + 1) 0 ≡ target_in h (k + 1) = read_target blocks number meta (k + 1) r next in
                omega (arith, here, there, lt_next)
          ];
      below = λ k d lt.
          let k_lt : k < n = omega (arith, ts_len, lt) in
          subst (λ (t : ℕ × List ℕ). t.0 < meta) (sym (target_from h bs k d [] (omega (arith, bs_len)))) (read_used blocks number meta k few r k_lt).below;
      blocks = λ k d lt.
          let k_lt : k < n = omega (arith, ts_len, lt) in
          subst (λ (t : ℕ × List ℕ). IsBlock t.1) (sym (target_from h bs k d [] (omega (arith, bs_len)))) (restores_at blocks number meta k b few r k_lt).is_block;
    }

-- as many blocks as what is read takes
pub own_blocks : (blocks : List (List ℕ)) (number meta : ℕ) → Passed (entry_tests blocks number meta) → All IsBlock (take (entry_slots (entry_in blocks)) blocks) → OwnBlocks blocks
own_blocks blocks number meta t all =
    let n : ℕ = field (block_in blocks 0) 32 8 in
    let there = (read_from blocks number meta t).there in
    let count : length (entry_in blocks).targets ≡ n = length-targets_in (block_in blocks 0) 0 (take n (drop 1 blocks)) ∙ length-payloads n blocks there in
    subst (λ (k : ℕ). All IsBlock (take (k + 2) blocks)) count all

pub read_spelled : (blocks : List (List ℕ)) (number meta : ℕ) → OwnBlocks blocks → meta ≤ 679 → Passed (entry_tests blocks number meta) → SpellsEntry blocks number meta (entry_in blocks)
read_spelled blocks number meta b few t =
    let r = read_from blocks number meta t in
    let h = block_in blocks 0 in
    let n : ℕ = field h 32 8 in
    let e = entry_in blocks in
    let slots : entry_slots e ≡ n + 1 + 1 = omega (arith, length-targets_in h 0 (take n (drop 1 blocks)), length-payloads n blocks r.there) in
    record {
      number_is = r.number_is;
      lawful = read_lawful blocks number meta b few r;
      blocks_are =
          ap (λ (k : ℕ). take k blocks) slots
          ∙ take_more blocks (n + 1) [] (omega (arith, r.there))
          ∙ ap (λ (front : List (List ℕ)). front ++ block_in blocks (n + 1) ∷ []) (read_front blocks number meta b few r)
          ∙ ap (λ (commit : List ℕ). entry_front e ++ commit ∷ []) (read_commit blocks number meta b few r);
    }
