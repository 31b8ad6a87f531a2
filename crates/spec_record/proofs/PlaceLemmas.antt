-- The header of an entry: its fields, and the first place that is wrong.
use Rattle.std.proofs.Common.{◌≡◌, ◌≤◌, ◌<◌, ℕ, zero, suc, ◌+◌, ◌-◌, ◌*◌, ◌^◌, List, [], ◌∷◌, ◌++◌, length, drop, get_or, replicate, Bool, true, false, cond, Option, Some, None, refl, ap, sym, ◌∙◌, subst, inl, inr, arith, lit<}
use Rattle.std.proofs.lemmas.Bool.{cases_eq, cases_lt}
use Rattle.std.proofs.lemmas.Grind.{same_number_lists}
use Rattle.std.proofs.lemmas.List.{get_or_append_left, get_or-append_right, get_or-replicate, length-append, length-replicate}
use Rattle.spec_record.specs.Field.{IsBlock, field, fields, spelled, total_width, AllFit}
use Rattle.spec_record.specs.Places.{entry_magic, header_places, target_in, flag_in, first_failing}
use Rattle.spec_record.specs.EntryBlocks.{with_unused}
use Rattle.spec_record.proofs.FieldLemmas.{spelled-all, fields-whole, length-spelled, IsBytes-spelled}
use Rattle.spec_record.proofs.TableLemmas.{length-fields, fields-append, spelled-append, AllFit-append, AllFit-replicate, total_width-append, total_width-replicate, field_at}

pub places_are : header_places ≡ 679
unfolding header_places
places_are = refl

step : (b : Bool) (rest : Option ℕ) (start : ℕ) → cond b rest (Some start) ≡ None → (b ≡ true) × (rest ≡ None)
step true rest start e = (refl, e)
step false rest start e = absurd cc

-- where none fails, each passes
pub none_failing : (test : ℕ → Bool) (start count : ℕ) → first_failing test start count ≡ None → (i : ℕ) → start ≤ i → i < start + count → test i ≡ true
unfolding first_failing
none_failing test start zero e i le lt = absurd (omega (arith, le, lt))
none_failing test start (suc count) e i le lt =
    let s = step (test start) (first_failing test (start + 1) count) start e in
    elim (cases_eq i start) [
      | inl is ↦ ap test is ∙ s.0
      | inr ne ↦ none_failing test (start + 1) count s.1 i (omega (arith, le, ne)) (omega (arith, lt))
    ]

-- where each passes, none fails
pub all_pass : (test : ℕ → Bool) (start count : ℕ) → ((i : ℕ) → start ≤ i → i < start + count → test i ≡ true) → first_failing test start count ≡ None
unfolding first_failing
all_pass test start zero pass = refl
all_pass test start (suc count) pass =
    let here : test start ≡ true = pass start (omega arith) (omega arith) in
    rw here (all_pass test (start + 1) count (λ i le lt. pass i (omega (arith, le)) (omega (arith, lt))))

pub length-with_unused : (ns : List ℕ) → length ns ≤ header_places → length (with_unused ns) ≡ header_places
length-with_unused ns le = omega (arith, length-append ns (replicate (header_places - length ns) 0), length-replicate {A = ℕ} (header_places - length ns) 0)

pub used_at : (ns : List ℕ) (i : ℕ) → i < length ns → get_or (with_unused ns) i 0 ≡ get_or ns i 0
used_at ns i lt = get_or_append_left ns (replicate (header_places - length ns) 0) 0 i lt

pub unused_at : (ns : List ℕ) (i : ℕ) → length ns ≤ i → i < header_places → get_or (with_unused ns) i 0 ≡ 0
unused_at ns i le lt =
    get_or-append_right ns (replicate (header_places - length ns) 0) (length ns) i 0 refl le
    ∙ get_or-replicate (header_places - length ns) (i - length ns) 0 0 (omega (arith, le, lt))

-- the header of these numbers
abbrev front_widths : List ℕ
front_widths = 8 ∷ 8 ∷ 8 ∷ 8 ∷ 8 ∷ []

abbrev front_rows : ℕ → ℕ → List ℕ
front_rows number count = entry_magic ∷ number ∷ 1 ∷ 0 ∷ count ∷ []

abbrev pub header_of : ℕ → ℕ → List ℕ → List ℕ → List ℕ
header_of number count targets flags =
    spelled front_widths (front_rows number count)
    ++ spelled (replicate header_places 8) (with_unused targets)
    ++ spelled (replicate header_places 4) (with_unused flags)
    ++ spelled (4 ∷ []) (0 ∷ [])

abbrev header_widths : List ℕ
header_widths = front_widths ++ replicate header_places 8 ++ replicate header_places 4 ++ (4 ∷ [])

abbrev header_rows : ℕ → ℕ → List ℕ → List ℕ → List ℕ
header_rows number count targets flags = front_rows number count ++ with_unused targets ++ with_unused flags ++ (0 ∷ [])

-- what the fields of a header hold
pub record HeaderFields (header : List ℕ) (number count : ℕ) (targets flags : List ℕ) : Type 0 where
  pub magic : field header 0 8 ≡ entry_magic
  pub number_is : field header 8 8 ≡ number
  pub kind : field header 16 8 ≡ 1
  pub reserved : field header 24 8 ≡ 0
  pub count_is : field header 32 8 ≡ count
  pub targets_are : (i : ℕ) → i < header_places → target_in header i ≡ get_or (with_unused targets) i 0
  pub flags_are : (i : ℕ) → i < header_places → flag_in header i ≡ get_or (with_unused flags) i 0
  pub last : field header 8188 4 ≡ 0

-- no more than the places
pub record FitHeader (targets flags : List ℕ) : Type 0 where
  pub targets_few : length targets ≤ header_places
  pub flags_few : length flags ≤ header_places

-- numbers of the three lists that are joined
nth_first : (xs ys zs : List ℕ) (i : ℕ) → i < length xs → get_or (xs ++ ys ++ zs) i 0 ≡ get_or xs i 0
nth_first xs ys zs i lt =
    get_or_append_left (xs ++ ys) zs 0 i (omega (arith, length-append xs ys)) ∙ get_or_append_left xs ys 0 i lt

nth_second : (xs ys zs : List ℕ) (n i : ℕ) → length xs ≡ n → i < length ys → get_or (xs ++ ys ++ zs) (n + i) 0 ≡ get_or ys i 0
nth_second xs ys zs n i len lt =
    get_or_append_left (xs ++ ys) zs 0 (n + i) (omega (arith, length-append xs ys))
    ∙ get_or-append_right xs ys n (n + i) 0 len (omega arith)
    ∙ ap (λ (k : ℕ). get_or ys k 0) (omega arith)

nth_third : (xs ys zs : List ℕ) (n : ℕ) → length xs + length ys ≡ n → get_or (xs ++ ys ++ zs) n 0 ≡ get_or zs 0 0
nth_third xs ys zs n len =
    get_or-append_right (xs ++ ys) zs n n 0 (omega (arith, length-append xs ys)) (omega arith)
    ∙ ap (λ (k : ℕ). get_or zs k 0) (omega arith)

-- a list as long as the places
places_of : (width : ℕ) → length (replicate header_places width) ≡ header_places
places_of width = length-replicate header_places width

header-whole : (number count : ℕ) (targets flags : List ℕ) → FitHeader targets flags → header_of number count targets flags ≡ spelled header_widths (header_rows number count targets flags)
header-whole number count targets flags few =
    let T = with_unused targets in
    let F = with_unused flags in
    let R8 = replicate header_places 8 in
    let R4 = replicate header_places 4 in
    let t_len : length R8 ≡ length T = places_of 8 ∙ sym (length-with_unused targets few.targets_few) in
    let f_len : length R4 ≡ length F = places_of 4 ∙ sym (length-with_unused flags few.flags_few) in
    let two : length (front_widths ++ R8) ≡ length (front_rows number count ++ T) = ap (λ (n : ℕ). suc (suc (suc (suc (suc n))))) t_len in
    let three : length (R8 ++ R4) ≡ length (T ++ F) = length-append R8 R4 ∙ ap (λ (n : ℕ). n + length R4) t_len ∙ ap (λ (n : ℕ). length T + n) f_len ∙ sym (length-append T F) in
    sym (
    spelled-append (front_widths ++ R8 ++ R4) (4 ∷ []) (front_rows number count ++ T ++ F) (0 ∷ []) (ap (λ (n : ℕ). suc (suc (suc (suc (suc n))))) three)
    ∙ ap (λ (bytes : List ℕ). bytes ++ spelled (4 ∷ []) (0 ∷ [])) (
    spelled-append (front_widths ++ R8) R4 (front_rows number count ++ T) F two
    ∙ ap (λ (bytes : List ℕ). bytes ++ spelled R4 F) (spelled-append front_widths R8 (front_rows number count) T refl)))

targets_width : total_width (replicate header_places 8) ≡ 5432
targets_width = total_width-replicate header_places 8 ∙ ap (λ (n : ℕ). 8 * n) places_are

flags_width : total_width (replicate header_places 4) ≡ 2716
flags_width = total_width-replicate header_places 4 ∙ ap (λ (n : ℕ). 4 * n) places_are

both_widths : total_width (replicate header_places 8 ++ replicate header_places 4) ≡ 8148
both_widths = total_width-append (replicate header_places 8) (replicate header_places 4) ∙ ap (λ (n : ℕ). n + total_width (replicate header_places 4)) targets_width ∙ ap (λ (n : ℕ). 5432 + n) flags_width

width_is : total_width header_widths ≡ 8192
width_is =
    let tail : total_width (replicate header_places 8 ++ replicate header_places 4 ++ (4 ∷ [])) ≡ 8152 =
    total_width-append (replicate header_places 8 ++ replicate header_places 4) (4 ∷ []) ∙ ap (λ (n : ℕ). n + 4) both_widths in
    ap (λ (n : ℕ). 8 + (8 + (8 + (8 + (8 + n))))) tail

-- the fields of the whole header, in parts
header-parts : (header : List ℕ) → fields 0 header_widths header ≡ fields 0 front_widths header ++ (fields 40 (replicate header_places 8) header ++ fields 5472 (replicate header_places 4) header ++ fields 8188 (4 ∷ []) header)
header-parts header =
    let R8 = replicate header_places 8 in
    let R4 = replicate header_places 4 in
    let inner : fields 40 (R8 ++ R4 ++ (4 ∷ [])) header ≡ fields 40 R8 header ++ fields 5472 R4 header ++ fields 8188 (4 ∷ []) header =
    fields-append 40 (R8 ++ R4) (4 ∷ []) header
    ∙ ap (λ (w : ℕ). fields 40 (R8 ++ R4) header ++ fields (40 + w) (4 ∷ []) header) both_widths
    ∙ ap (λ (ns : List ℕ). ns ++ fields 8188 (4 ∷ []) header) (
    fields-append 40 R8 R4 header ∙ ap (λ (w : ℕ). fields 40 R8 header ++ fields (40 + w) R4 header) targets_width) in
    ap (λ (ns : List ℕ). field header 0 8 ∷ field header 8 8 ∷ field header 16 8 ∷ field header 24 8 ∷ field header 32 8 ∷ ns) inner

-- a block with these fields is the header
pub header_spelled : (header : List ℕ) (number count : ℕ) (targets flags : List ℕ) → IsBlock header → FitHeader targets flags → HeaderFields header number count targets flags → header ≡ header_of number count targets flags
header_spelled header number count targets flags b few f =
    let T_is : fields 40 (replicate header_places 8) header ≡ with_unused targets =
    let len : length (fields 40 (replicate header_places 8) header) ≡ header_places = length-fields 40 (replicate header_places 8) header ∙ places_of 8 in
    same_number_lists _ _ (len ∙ sym (length-with_unused targets few.targets_few)) (λ k lt.
    let lt' : k < header_places = subst (λ (n : ℕ). k < n) len lt in
    field_at 40 8 header_places k header lt' ∙ f.targets_are k lt') in
    let F_is : fields 5472 (replicate header_places 4) header ≡ with_unused flags =
    let len : length (fields 5472 (replicate header_places 4) header) ≡ header_places = length-fields 5472 (replicate header_places 4) header ∙ places_of 4 in
    same_number_lists _ _ (len ∙ sym (length-with_unused flags few.flags_few)) (λ k lt.
    let lt' : k < header_places = subst (λ (n : ℕ). k < n) len lt in
    field_at 5472 4 header_places k header lt' ∙ f.flags_are k lt') in
    let rows : fields 0 header_widths header ≡ header_rows number count targets flags =
    header-parts header ∙ rw (f.magic, f.number_is, f.kind, f.reserved, f.count_is, T_is, F_is, f.last) refl in
    spelled-all header_widths header b.bytes_fit (b.length_is ∙ sym width_is) ∙ ap (spelled header_widths) rows ∙ sym (header-whole number count targets flags few)

-- the numbers of a header fit their widths
pub record FitWidths (number count : ℕ) (targets flags : List ℕ) : Type 0 where
  pub number_fits : number < 2 ^ 64
  pub count_fits : count < 2 ^ 64
  pub targets_fit : (i : ℕ) → get_or targets i 0 < 2 ^ 64
  pub flags_fit : (i : ℕ) → get_or flags i 0 < 2 ^ 32

below_with_unused : (bound : ℕ) (ns : List ℕ) (i : ℕ) → 0 < bound → ((k : ℕ) → get_or ns k 0 < bound) → i < header_places → get_or (with_unused ns) i 0 < bound
below_with_unused bound ns i some fit lt =
    elim (cases_lt i (length ns)) [
      | inl used ↦ subst (λ (n : ℕ). n < bound) (sym (used_at ns i used)) (fit i)
      | inr le ↦ subst (λ (n : ℕ). n < bound) (sym (unused_at ns i le lt)) some
    ]

rows-fit : (number count : ℕ) (targets flags : List ℕ) → FitHeader targets flags → FitWidths number count targets flags → AllFit header_widths (header_rows number count targets flags)
rows-fit number count targets flags few w =
    let R8 = replicate header_places 8 in
    let R4 = replicate header_places 4 in
    let T_fit : AllFit R8 (with_unused targets) = AllFit-replicate 8 header_places (with_unused targets) (length-with_unused targets few.targets_few) (λ i lt. below_with_unused (256 ^ 8) targets i (lit< tt) w.targets_fit lt) in
    let F_fit : AllFit R4 (with_unused flags) = AllFit-replicate 4 header_places (with_unused flags) (length-with_unused flags few.flags_few) (λ i lt. below_with_unused (256 ^ 4) flags i (lit< tt) w.flags_fit lt) in
    (lit< tt, (w.number_fits, (lit< tt, (lit< tt, (w.count_fits, AllFit-append (R8 ++ R4) (4 ∷ []) (with_unused targets ++ with_unused flags) (0 ∷ []) (AllFit-append R8 R4 (with_unused targets) (with_unused flags) T_fit F_fit) (lit< tt, tt))))))

pub header_block : (number count : ℕ) (targets flags : List ℕ) → FitHeader targets flags → FitWidths number count targets flags → IsBlock (header_of number count targets flags)
header_block number count targets flags few w =
    subst IsBlock (sym (header-whole number count targets flags few)) (record {
      length_is = length-spelled header_widths (header_rows number count targets flags) (rows-fit number count targets flags few w) ∙ width_is;
      bytes_fit = IsBytes-spelled header_widths (header_rows number count targets flags);
    })

-- the header has these fields
pub header_fields : (number count : ℕ) (targets flags : List ℕ) → FitHeader targets flags → FitWidths number count targets flags → HeaderFields (header_of number count targets flags) number count targets flags
header_fields number count targets flags few w =
    let header : List ℕ = header_of number count targets flags in
    let T : List ℕ = with_unused targets in
    let F : List ℕ = with_unused flags in
    let R8 : List ℕ = replicate header_places 8 in
    let R4 : List ℕ = replicate header_places 4 in
    let parts : fields 0 front_widths header ++ (fields 40 R8 header ++ fields 5472 R4 header ++ fields 8188 (4 ∷ []) header) ≡ header_rows number count targets flags =
    sym (header-parts header) ∙ ap (fields 0 header_widths) (header-whole number count targets flags few) ∙ fields-whole header_widths (header_rows number count targets flags) (rows-fit number count targets flags few w) in
    let row : (k : ℕ) → get_or (fields 0 front_widths header ++ (fields 40 R8 header ++ fields 5472 R4 header ++ fields 8188 (4 ∷ []) header)) k 0 ≡ get_or (header_rows number count targets flags) k 0 = λ k. ap (λ (ns : List ℕ). get_or ns k 0) parts in
    let tail : fields 40 R8 header ++ fields 5472 R4 header ++ fields 8188 (4 ∷ []) header ≡ T ++ F ++ (0 ∷ []) = ap (drop 5) parts in
    let t_len : length (fields 40 R8 header) ≡ header_places = length-fields 40 R8 header ∙ places_of 8 in
    let f_len : length (fields 5472 R4 header) ≡ header_places = length-fields 5472 R4 header ∙ places_of 4 in
    let T_len : length T ≡ header_places = length-with_unused targets few.targets_few in
    let F_len : length F ≡ header_places = length-with_unused flags few.flags_few in
    record {
      magic = row 0;
      number_is = row 1;
      kind = row 2;
      reserved = row 3;
      count_is = row 4;
      targets_are = λ i lt.
          sym (field_at 40 8 header_places i header lt)
          ∙ sym (nth_first (fields 40 R8 header) (fields 5472 R4 header) (fields 8188 (4 ∷ []) header) i (omega arith))
          ∙ ap (λ (ns : List ℕ). get_or ns i 0) tail
          ∙ nth_first T F (0 ∷ []) i (omega arith);
      flags_are = λ i lt.
          sym (field_at 5472 4 header_places i header lt)
          ∙ sym (nth_second (fields 40 R8 header) (fields 5472 R4 header) (fields 8188 (4 ∷ []) header) header_places i t_len (omega arith))
          ∙ ap (λ (ns : List ℕ). get_or ns (header_places + i) 0) tail
          ∙ nth_second T F (0 ∷ []) header_places i T_len (omega arith);
      last =
          sym (nth_third (fields 40 R8 header) (fields 5472 R4 header) (fields 8188 (4 ∷ []) header) (header_places + header_places) (omega arith))
          ∙ ap (λ (ns : List ℕ). get_or ns (header_places + header_places) 0) tail
          ∙ nth_third T F (0 ∷ []) (header_places + header_places) (omega arith);
    }

-- one place more
pub one_place_more : (test : ℕ → Bool) (start count rest : ℕ) → count ≡ suc rest → first_failing test start count ≡ cond (test start) (first_failing test (start + 1) rest) (Some start)
unfolding first_failing
one_place_more test start count rest e = ap (first_failing test start) e

-- no place left
pub no_place_more : (test : ℕ → Bool) (start count : ℕ) → count ≡ 0 → first_failing test start count ≡ None
unfolding first_failing
no_place_more test start count e = ap (first_failing test start) e

-- all places of the header
pub all_places : (test : ℕ → Bool) → first_failing test 0 679 ≡ first_failing test 0 header_places
all_places test = ap (first_failing test 0) (sym places_are)
