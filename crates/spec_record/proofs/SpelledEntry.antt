-- What is spelled as an entry is read so.
use Rattle.std.proofs.Common.{◌≡◌, ◌≤◌, ◌<◌, ℕ, zero, suc, ◌+◌, ◌-◌, ◌^◌, List, [], ◌∷◌, length, take, drop, map, get_or, Bool, true, false, cond, eqb, ltb, leb, ◌&&◌, ◌||◌, None, is_none, refl, ap, sym, ◌∙◌, subst, inl, inr, arith, add-one, lit<}
use Rattle.std.specs.Prelude.{All}
use Rattle.std.specs.List.{concat}
use Rattle.std.proofs.lemmas.Bool.{cases_lt}
use Rattle.std.proofs.lemmas.List.{length-take, length-map, length-append, get_or-take, get_or-map, get_or_past, get_or_append_left, get_or-append_right, get_or_default, same_lists, take-take, take_at}
use Rattle.spec_record.specs.Field.{IsBlock, field, fields, AllFit}
use Rattle.spec_record.specs.Crc.{crc32}
use Rattle.spec_record.specs.Tests.{IsBetween}
use Rattle.spec_record.specs.Places.{entry_magic, header_places, block_in, begins_with_magic, target_in, flag_in, is_escape, is_used_place, is_unused_place, is_place, wrong_place}
use Rattle.spec_record.specs.Entry.{Entry, restored, is_commit, entry_tests, targets_in, entry_in}
use Rattle.spec_record.specs.EntryBlocks.{IsEntry, stored, flag_of, header_bytes, entry_front, commit_bytes, entry_blocks, entry_slots}
use Rattle.spec_record.specs.Laws.{SpellsEntry}
use Rattle.spec_record.proofs.CrcLemmas.{crc32_below}
use Rattle.spec_record.proofs.FieldLemmas.{fields-whole, length-spelled, IsBytes-spelled}
use Rattle.spec_record.proofs.TestLemmas.{Passed, eqb_same, leb_true, ltb_true, ltb_false, both, is_between-true}
use Rattle.spec_record.proofs.PayloadLemmas.{restored-stored, stored-block, flag_of-below, escape-stored}
use Rattle.spec_record.proofs.PlaceLemmas.{places_are, all_pass, used_at, unused_at, HeaderFields, FitHeader, FitWidths, header_fields, header_block}
use Rattle.spec_record.proofs.ReadEntry.{length-targets_in, target_from, length-payloads, payload_at}

abbrev target_of : ℕ × List ℕ → ℕ
target_of t = t.0

abbrev flag_at : ℕ × List ℕ → ℕ
flag_at t = flag_of t.1

abbrev stored_at : ℕ × List ℕ → List ℕ
stored_at t = stored t.1

abbrev no_target : ℕ × List ℕ
no_target = (0, [])

few_places : (meta : ℕ) (e : Entry) → IsEntry meta e → meta ≤ 679 → FitHeader (map target_of e.targets) (map flag_at e.targets)
few_places meta e l few = record {
  targets_few = omega (arith, length-map e.targets target_of, l.count.to_high, places_are);
  flags_few = omega (arith, length-map e.targets flag_at, l.count.to_high, places_are);
}

fit_widths : (meta : ℕ) (e : Entry) → IsEntry meta e → meta ≤ 679 → FitWidths e.number (length e.targets) (map target_of e.targets) (map flag_at e.targets)
fit_widths meta e l few = record {
  number_fits = omega (arith, l.number.to_high);
  count_fits = omega (arith, l.count.to_high);
  targets_fit = λ i. elim (cases_lt i (length e.targets)) [
    | inl lt ↦
        let here : get_or (map target_of e.targets) i 0 ≡ (get_or e.targets i no_target).0 = get_or-map target_of e.targets i no_target 0 lt in
        omega (arith, here, l.below i no_target lt)
    | inr le ↦ omega (arith, get_or_past (map target_of e.targets) i 0 (omega (arith, length-map e.targets target_of)))
  ];
  flags_fit = λ i. elim (cases_lt i (length e.targets)) [
    | inl lt ↦ subst (λ (f : ℕ). f < 2 ^ 32) (sym (get_or-map flag_at e.targets i no_target 0 lt)) (flag_of-below (get_or e.targets i no_target).1)
    | inr le ↦ omega (arith, get_or_past (map flag_at e.targets) i 0 (omega (arith, length-map e.targets flag_at)))
  ];
}

pub header_of_entry : (meta : ℕ) (e : Entry) → IsEntry meta e → meta ≤ 679 → HeaderFields (header_bytes e) e.number (length e.targets) (map target_of e.targets) (map flag_at e.targets)
header_of_entry meta e l few = header_fields e.number (length e.targets) (map target_of e.targets) (map flag_at e.targets) (few_places meta e l few) (fit_widths meta e l few)

-- the commit's fields
abbrev commit_widths : List ℕ
commit_widths = 8 ∷ 8 ∷ 8 ∷ 8 ∷ 4 ∷ 8156 ∷ []

abbrev commit_rows : Entry → List ℕ
commit_rows e = entry_magic ∷ e.number ∷ 2 ∷ 0 ∷ crc32 (concat (entry_front e)) ∷ 0 ∷ []

commit_rows-fit : (meta : ℕ) (e : Entry) → IsEntry meta e → AllFit commit_widths (commit_rows e)
commit_rows-fit meta e l =
    (lit< tt, (omega (arith, l.number.to_high), (lit< tt, (lit< tt, (crc32_below (concat (entry_front e)), (omega arith, tt))))))

commit-fields : (meta : ℕ) (e : Entry) → IsEntry meta e → fields 0 commit_widths (commit_bytes e) ≡ commit_rows e
commit-fields meta e l = fields-whole commit_widths (commit_rows e) (commit_rows-fit meta e l)

commit-block : (meta : ℕ) (e : Entry) → IsEntry meta e → IsBlock (commit_bytes e)
commit-block meta e l = record {
  length_is = length-spelled commit_widths (commit_rows e) (commit_rows-fit meta e l);
  bytes_fit = IsBytes-spelled commit_widths (commit_rows e);
}

length-front : (e : Entry) → length (entry_front e) ≡ length e.targets + 1
length-front e = omega (arith, length-map e.targets stored_at)

pub length-entry_blocks : (e : Entry) → length (entry_blocks e) ≡ entry_slots e
length-entry_blocks e = omega (arith, length-append (entry_front e) (commit_bytes e ∷ []), length-front e)

-- each block of an entry is a block
front_block : (meta : ℕ) (e : Entry) → IsEntry meta e → meta ≤ 679 → (k : ℕ) (d : List ℕ) → k < length e.targets + 1 → IsBlock (get_or (entry_front e) k d)
front_block meta e l few zero d lt = header_block e.number (length e.targets) (map target_of e.targets) (map flag_at e.targets) (few_places meta e l few) (fit_widths meta e l few)
front_block meta e l few (suc k) d lt =
    subst IsBlock (sym (get_or-map stored_at e.targets k no_target d (omega (arith, lt))))
    (stored-block (get_or e.targets k no_target).1 (l.blocks k no_target (omega (arith, lt))))

pub entry_block : (meta : ℕ) (e : Entry) → IsEntry meta e → meta ≤ 679 → All IsBlock (entry_blocks e)
entry_block meta e l few k d lt =
    elim (cases_lt k (length (entry_front e))) [
      | inl in_front ↦ subst IsBlock (sym (get_or_append_left (entry_front e) (commit_bytes e ∷ []) d k in_front)) (front_block meta e l few k d (omega (arith, length-front e, in_front)))
      | inr le ↦
          let same : k - length (entry_front e) ≡ 0 = omega (arith, length-entry_blocks e, length-front e, lt) in
          let here : get_or (entry_blocks e) k d ≡ commit_bytes e =
          get_or-append_right (entry_front e) (commit_bytes e ∷ []) (length (entry_front e)) k d refl le ∙ ap (λ (i : ℕ). get_or (commit_bytes e ∷ []) i d) same in
          subst IsBlock (sym here) (commit-block meta e l)
    ]

-- blocks that begin with an entry
record Begins (blocks : List (List ℕ)) (e : Entry) : Type 0 where
  pub header_is : block_in blocks 0 ≡ header_bytes e
  pub payload_is : (i : ℕ) → i < length e.targets → block_in blocks (i + 1) ≡ stored (get_or e.targets i no_target).1
  pub commit_is : block_in blocks (length e.targets + 1) ≡ commit_bytes e
  pub front_is : take (length e.targets + 1) blocks ≡ entry_front e
  pub there : length e.targets + 2 ≤ length blocks

begins : (blocks : List (List ℕ)) (e : Entry) → take (entry_slots e) blocks ≡ entry_blocks e → Begins blocks e
begins blocks e is =
    let n : ℕ = length e.targets in
    let at : (i : ℕ) → i < n + 2 → block_in blocks i ≡ get_or (entry_blocks e) i [] = λ i lt.
    sym (get_or-take (n + 2) blocks i [] lt) ∙ ap (λ (bs : List (List ℕ)). get_or bs i []) is in
    let in_front : (i : ℕ) → i < n + 1 → get_or (entry_blocks e) i [] ≡ get_or (entry_front e) i [] = λ i lt.
    get_or_append_left (entry_front e) (commit_bytes e ∷ []) [] i (omega (arith, length-front e, lt)) in
    let none_left : n + 1 - (n + 1) ≡ 0 = omega arith in
    record {
      header_is = at 0 (omega arith);
      payload_is = λ i lt.
          at (i + 1) (omega arith) ∙ in_front (i + 1) (omega arith) ∙ rw add-one (get_or-map stored_at e.targets i no_target [] lt);
      commit_is =
          at (n + 1) (omega arith)
          ∙ get_or-append_right (entry_front e) (commit_bytes e ∷ []) (n + 1) (n + 1) [] (length-front e) (omega arith)
          ∙ ap (λ (i : ℕ). get_or (commit_bytes e ∷ []) i []) none_left;
      front_is =
          sym (take-take (n + 1) (n + 2) blocks (omega arith)) ∙ ap (take (n + 1)) is ∙ take_at (entry_front e) (commit_bytes e ∷ []) (n + 1) (length-front e);
      there = omega (arith, length-take (n + 2) blocks, ap length is, length-entry_blocks e);
    }

-- the fields of the header among blocks
header_among : (blocks : List (List ℕ)) (meta : ℕ) (e : Entry) → IsEntry meta e → meta ≤ 679 → Begins blocks e → HeaderFields (block_in blocks 0) e.number (length e.targets) (map target_of e.targets) (map flag_at e.targets)
header_among blocks meta e l few s =
    subst (λ (h : List ℕ). HeaderFields h e.number (length e.targets) (map target_of e.targets) (map flag_at e.targets)) (sym s.header_is) (header_of_entry meta e l few)

target_is : (blocks : List (List ℕ)) (meta i : ℕ) (e : Entry) → IsEntry meta e → meta ≤ 679 → Begins blocks e → i < length e.targets → target_in (block_in blocks 0) i ≡ (get_or e.targets i no_target).0
target_is blocks meta i e l few s lt =
    (header_among blocks meta e l few s).targets_are i (omega (arith, places_are, l.count.to_high))
    ∙ used_at (map target_of e.targets) i (omega (arith, length-map e.targets target_of))
    ∙ get_or-map target_of e.targets i no_target 0 lt

flag_is : (blocks : List (List ℕ)) (meta i : ℕ) (e : Entry) → IsEntry meta e → meta ≤ 679 → Begins blocks e → i < length e.targets → flag_in (block_in blocks 0) i ≡ flag_of (get_or e.targets i no_target).1
flag_is blocks meta i e l few s lt =
    (header_among blocks meta e l few s).flags_are i (omega (arith, places_are, l.count.to_high))
    ∙ used_at (map flag_at e.targets) i (omega (arith, length-map e.targets flag_at))
    ∙ get_or-map flag_at e.targets i no_target 0 lt

-- the targets rise
rises_at : (blocks : List (List ℕ)) (meta i : ℕ) (e : Entry) → IsEntry meta e → meta ≤ 679 → Begins blocks e → i < length e.targets → (eqb i 0 || ltb (target_in (block_in blocks 0) (i - 1)) (target_in (block_in blocks 0) i)) ≡ true
rises_at blocks meta zero e l few s lt = refl
rises_at blocks meta (suc j) e l few s lt =
    let h = block_in blocks 0 in
    let before : target_in h j ≡ (get_or e.targets j no_target).0 = target_is blocks meta j e l few s (omega (arith, lt)) in
    let here : target_in h (suc j) ≡ (get_or e.targets (suc j) no_target).0 = target_is blocks meta (suc j) e l few s lt in
    let low : get_or (map target_of e.targets) j 0 ≡ (get_or e.targets j no_target).0 = get_or-map target_of e.targets j no_target 0 (omega (arith, lt)) in
    let next : j + 1 ≡ suc j = omega arith in
    let high : get_or (map target_of e.targets) (j + 1) 0 ≡ (get_or e.targets (suc j) no_target).0 =
    ap (λ (k : ℕ). get_or (map target_of e.targets) k 0) next ∙ get_or-map target_of e.targets (suc j) no_target 0 lt in
    let up : get_or (map target_of e.targets) j 0 < get_or (map target_of e.targets) (j + 1) 0 = l.rising j (omega (arith, lt, length-map e.targets target_of)) in
    let above : target_in h j < target_in h (suc j) = omega (arith, before, here, low, high, up) in
    let same : suc j - 1 ≡ j = omega arith in
    let not_first : eqb (suc j) 0 ≡ false = grind arith in
    ap (λ (b : Bool). b || ltb (target_in h (suc j - 1)) (target_in h (suc j))) not_first
    ∙ ap (λ (k : ℕ). ltb (target_in h k) (target_in h (suc j))) same
    ∙ ltb_true (target_in h j) (target_in h (suc j)) above

-- a used place passes
used_place : (blocks : List (List ℕ)) (meta i : ℕ) (e : Entry) → IsEntry meta e → meta ≤ 679 → Begins blocks e → i < length e.targets → is_used_place (block_in blocks 0) meta i (block_in blocks (i + 1)) ≡ true
used_place blocks meta i e l few s lt =
    let h = block_in blocks 0 in
    let t = get_or e.targets i no_target in
    let here : target_in h i ≡ t.0 = target_is blocks meta i e l few s lt in
    let under : target_in h i < meta = omega (arith, here, l.below i no_target lt) in
    let escape : is_escape (flag_in h i) (block_in blocks (i + 1)) ≡ true =
    ap (λ (f : ℕ). is_escape f (block_in blocks (i + 1))) (flag_is blocks meta i e l few s lt)
    ∙ ap (is_escape (flag_of t.1)) (s.payload_is i lt)
    ∙ escape-stored t.1 in
    both ((eqb i 0 || ltb (target_in h (i - 1)) (target_in h i)) && ltb (target_in h i) meta) (is_escape (flag_in h i) (block_in blocks (i + 1)))
    (both (eqb i 0 || ltb (target_in h (i - 1)) (target_in h i)) (ltb (target_in h i) meta) (rises_at blocks meta i e l few s lt) (ltb_true (target_in h i) meta under))
    escape

-- each place passes
place_passes : (blocks : List (List ℕ)) (meta i : ℕ) (e : Entry) → IsEntry meta e → meta ≤ 679 → Begins blocks e → i < header_places → is_place blocks meta i ≡ true
place_passes blocks meta i e l few s lt =
    let h = block_in blocks 0 in
    let n : ℕ = length e.targets in
    let f = header_among blocks meta e l few s in
    elim (cases_lt i n) [
      | inl i_lt ↦
          let t : ltb i (field h 32 8) ≡ true = ltb_true i (field h 32 8) (omega (arith, f.count_is, i_lt)) in
          ap (λ (b : Bool). cond b (is_used_place h meta i (block_in blocks (i + 1))) (is_unused_place h i)) t ∙ used_place blocks meta i e l few s i_lt
      | inr le ↦
          let t : ltb i (field h 32 8) ≡ false = ltb_false i (field h 32 8) (omega (arith, f.count_is, le)) in
          let target : target_in h i ≡ 0 = f.targets_are i lt ∙ unused_at (map target_of e.targets) i (omega (arith, length-map e.targets target_of)) lt in
          let flag : flag_in h i ≡ 0 = f.flags_are i lt ∙ unused_at (map flag_at e.targets) i (omega (arith, length-map e.targets flag_at)) lt in
          ap (λ (b : Bool). cond b (is_used_place h meta i (block_in blocks (i + 1))) (is_unused_place h i)) t
          ∙ both (eqb (target_in h i) 0) (eqb (flag_in h i) 0) (eqb_same (target_in h i) 0 target) (eqb_same (flag_in h i) 0 flag)
    ]

-- the commit is one of this number, and has the checksum
commit_passes : (meta : ℕ) (e : Entry) → IsEntry meta e → is_commit (commit_bytes e) e.number ≡ true
commit_passes meta e l =
    let block = commit_bytes e in
    let row : (k : ℕ) → get_or (fields 0 commit_widths block) k 0 ≡ get_or (commit_rows e) k 0 = λ k. ap (λ (ns : List ℕ). get_or ns k 0) (commit-fields meta e l) in
    let magic = eqb_same (field block 0 8) entry_magic (row 0) in
    let number = eqb_same (field block 8 8) e.number (row 1) in
    let kind = eqb_same (field block 16 8) 2 (row 2) in
    let reserved = eqb_same (field block 24 8) 0 (row 3) in
    let rest = eqb_same (field block 36 8156) 0 (row 5) in
    both (((begins_with_magic block && eqb (field block 8 8) e.number) && eqb (field block 16 8) 2) && eqb (field block 24 8) 0) (eqb (field block 36 8156) 0)
    (both ((begins_with_magic block && eqb (field block 8 8) e.number) && eqb (field block 16 8) 2) (eqb (field block 24 8) 0)
    (both (begins_with_magic block && eqb (field block 8 8) e.number) (eqb (field block 16 8) 2)
    (both (begins_with_magic block) (eqb (field block 8 8) e.number) magic number) kind) reserved) rest

commit_sum : (meta : ℕ) (e : Entry) → IsEntry meta e → field (commit_bytes e) 32 4 ≡ crc32 (concat (entry_front e))
commit_sum meta e l = ap (λ (ns : List ℕ). get_or ns 4 0) (commit-fields meta e l)

to_tests : (blocks : List (List ℕ)) (number meta : ℕ) (e : Entry) → meta ≤ 679 → SpellsEntry blocks number meta e → Passed (entry_tests blocks number meta)
to_tests blocks number meta e few spells =
    let l = spells.lawful in
    let s = begins blocks e spells.blocks_are in
    let h = block_in blocks 0 in
    let f = header_among blocks meta e l few s in
    let n : ℕ = field h 32 8 in
    let in_range : IsBetween 1 number (2 ^ 62 - 1) = subst (λ (k : ℕ). IsBetween 1 k (2 ^ 62 - 1)) spells.number_is l.number in
    let in_count : IsBetween 1 n meta = subst (λ (k : ℕ). IsBetween 1 k meta) (sym f.count_is) l.count in
    let there : n + 2 ≤ length blocks = omega (arith, f.count_is, s.there) in
    let wrong : wrong_place blocks meta ≡ None = all_pass (is_place blocks meta) 0 header_places (λ i le lt. place_passes blocks meta i e l few s (omega (arith, lt))) in
    let commit_at : block_in blocks (n + 1) ≡ commit_bytes e = ap (λ (k : ℕ). block_in blocks (k + 1)) f.count_is ∙ s.commit_is in
    let commit : is_commit (block_in blocks (n + 1)) number ≡ true =
    ap (λ (block : List ℕ). is_commit block number) commit_at ∙ ap (is_commit (commit_bytes e)) (sym spells.number_is) ∙ commit_passes meta e l in
    let front : take (n + 1) blocks ≡ entry_front e = ap (λ (k : ℕ). take (k + 1) blocks) f.count_is ∙ s.front_is in
    let sum : field (block_in blocks (n + 1)) 32 4 ≡ crc32 (concat (take (n + 1) blocks)) =
    ap (λ (block : List ℕ). field block 32 4) commit_at ∙ commit_sum meta e l ∙ ap (λ (bs : List (List ℕ)). crc32 (concat bs)) (sym front) in (
      eqb_same (field h 0 8) entry_magic f.magic,
      (
        both (eqb (field h 8 8) number) _ (eqb_same (field h 8 8) number (f.number_is ∙ spells.number_is)) (is_between-true 1 number (2 ^ 62 - 1) in_range),
        (
          eqb_same (field h 16 8) 1 f.kind,
          (
            both _ (leb (n + 2) (length blocks)) (is_between-true 1 n meta in_count) (leb_true (n + 2) (length blocks) there),
            (
              ap is_none wrong,
              (
                both (eqb (field h 24 8) 0) (eqb (field h 8188 4) 0) (eqb_same (field h 24 8) 0 f.reserved) (eqb_same (field h 8188 4) 0 f.last),
                (
                  commit,
                  (
                    eqb_same (field (block_in blocks (n + 1)) 32 4) (crc32 (concat (take (n + 1) blocks))) sum,
                    tt,
                  ),
                ),
              ),
            ),
          ),
        ),
      ),
    )

-- a target with its payload restored
target_back : (blocks : List (List ℕ)) (meta i : ℕ) (e : Entry) → IsEntry meta e → meta ≤ 679 → Begins blocks e → i < length e.targets → (target_in (block_in blocks 0) i, restored (flag_in (block_in blocks 0) i) (block_in blocks (i + 1))) ≡ get_or e.targets i no_target
target_back blocks meta i e l few s lt =
    let h = block_in blocks 0 in
    let t = get_or e.targets i no_target in
    let payload : restored (flag_in h i) (block_in blocks (i + 1)) ≡ t.1 =
    ap (λ (f : ℕ). restored f (block_in blocks (i + 1))) (flag_is blocks meta i e l few s lt)
    ∙ ap (restored (flag_of t.1)) (s.payload_is i lt)
    ∙ restored-stored t.1 (l.blocks i no_target lt) in
    ap (λ (x : ℕ). (x, restored (flag_in h i) (block_in blocks (i + 1)))) (target_is blocks meta i e l few s lt) ∙ ap (λ (y : List ℕ). (t.0, y)) payload

targets_back : (blocks : List (List ℕ)) (meta : ℕ) (e : Entry) → IsEntry meta e → meta ≤ 679 → Begins blocks e → targets_in (block_in blocks 0) 0 (take (length e.targets) (drop 1 blocks)) ≡ e.targets
targets_back blocks meta e l few s =
    let h = block_in blocks 0 in
    let n : ℕ = length e.targets in
    let bs = take n (drop 1 blocks) in
    let bs_len : length bs ≡ n = length-payloads n blocks s.there in
    let len : length (targets_in h 0 bs) ≡ n = length-targets_in h 0 bs ∙ bs_len in
    same_lists (targets_in h 0 bs) e.targets len (λ i d lt.
    let i_lt : i < n = omega (arith, len, lt) in
    target_from h bs i d [] (omega (arith, bs_len, i_lt))
    ∙ ap (λ (block : List ℕ). (target_in h i, restored (flag_in h i) block)) (payload_at n blocks i [] i_lt)
    ∙ target_back blocks meta i e l few s i_lt
    ∙ get_or_default e.targets i no_target d i_lt)

value_is : (blocks : List (List ℕ)) (meta : ℕ) (e : Entry) → IsEntry meta e → meta ≤ 679 → Begins blocks e → entry_in blocks ≡ e
value_is blocks meta e l few s =
    let h = block_in blocks 0 in
    let f = header_among blocks meta e l few s in
    let targets : targets_in h 0 (take (field h 32 8) (drop 1 blocks)) ≡ e.targets = ap (λ (k : ℕ). targets_in h 0 (take k (drop 1 blocks))) f.count_is ∙ targets_back blocks meta e l few s in
    let made : ℕ → List (ℕ × List ℕ) → Entry = λ number ts. record { number = number; targets = ts } in
    ap (λ (number : ℕ). made number (entry_in blocks).targets) f.number_is ∙ ap (made e.number) targets

-- the blocks pass each test and hold the entry
pub spelled_read : (blocks : List (List ℕ)) (number meta : ℕ) (e : Entry) → meta ≤ 679 → SpellsEntry blocks number meta e → Passed (entry_tests blocks number meta) × (entry_in blocks ≡ e)
spelled_read blocks number meta e few spells =
    (to_tests blocks number meta e few spells, value_is blocks meta e spells.lawful few (begins blocks e spells.blocks_are))
