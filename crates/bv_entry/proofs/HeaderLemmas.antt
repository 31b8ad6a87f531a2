-- A header gets its targets and flags one place after another.
use Rattle.std.proofs.Common.{◌≡◌, ◌≢◌, ◌≤◌, ◌<◌, ◌⊎◌, ℕ, ◌+◌, ◌-◌, ◌*◌, ◌^◌, List, [], ◌∷◌, ◌++◌, length, take, map, get_or, ap, sym, ◌∙◌, subst, inl, inr, arith}
use Rattle.std.proofs.lemmas.Bool.{cases_eq, cases_lt}
use Rattle.std.proofs.lemmas.List.{get_or_append_left, get_or_push, length_push, length-map, length-take, take_more, map_push, take_all}
use Rattle.spec_record.specs.Field.{IsBlock, field, fields}
use Rattle.spec_record.specs.Places.{entry_magic, header_places}
use Rattle.spec_record.specs.EntryBlocks.{with_unused, flag_of, header_bytes}
use Rattle.spec_record.proofs.PlaceLemmas.{places_are, HeaderFields, used_at, unused_at, header_spelled}
use Rattle.spec_record.proofs.ZeroLemmas.{zero_bytes, zero_field}
use Rattle.spec_record.proofs.PayloadLemmas.{flag_of-below}
use Rattle.bv_bytes.specs.Rows.{with_field}
use Rattle.bv_bytes.proofs.RowLemmas.{field-with_same, field-with_other}
use Rattle.bv_entry.specs.Rows.{header_widths}
use Rattle.bv_entry.proofs.PartLemmas.{IsBytes-with_field, length-with_field}

-- a field within one that is 0
zero_part : (bytes : List ℕ) (offset width start n : ℕ) → field bytes offset width ≡ 0 → offset ≤ start → start + n ≤ offset + width → field bytes start n ≡ 0
zero_part bytes offset width start n e from to = zero_field bytes start n (λ i lt.
    let same : offset + (start - offset + i) ≡ start + i = omega (arith, from) in
    ap (λ (k : ℕ). get_or bytes k 0) (sym same) ∙ zero_bytes bytes offset width (start - offset + i) e (omega (arith, from, to, lt)))

-- a header with no places used
pub no_places : (header : List ℕ) (number count : ℕ) → fields 0 header_widths header ≡ entry_magic ∷ number ∷ 1 ∷ 0 ∷ count ∷ 0 ∷ [] → HeaderFields header number count [] []
no_places header number count rows =
    let row : (k : ℕ) → get_or (fields 0 header_widths header) k 0 ≡ get_or (entry_magic ∷ number ∷ 1 ∷ 0 ∷ count ∷ 0 ∷ []) k 0 = λ k. ap (λ (ns : List ℕ). get_or ns k 0) rows in
    let rest : field header 40 8152 ≡ 0 = row 5 in
    record {
      magic = row 0;
      number_is = row 1;
      kind = row 2;
      reserved = row 3;
      count_is = row 4;
      targets_are = λ i lt. zero_part header 40 8152 (40 + 8 * i) 8 rest (omega arith) (omega (arith, lt, places_are)) ∙ sym (unused_at [] i (omega arith) lt);
      flags_are = λ i lt. zero_part header 40 8152 (5472 + 4 * i) 4 rest (omega arith) (omega (arith, lt, places_are)) ∙ sym (unused_at [] i (omega arith) lt);
      last = zero_part header 40 8152 8188 4 rest (omega arith) (omega arith);
    }

-- the number that is put at the first unused place
here_used : (ns : List ℕ) (n i : ℕ) → length ns ≡ i → get_or (with_unused (ns ++ n ∷ [])) i 0 ≡ n
here_used ns n i len = used_at (ns ++ n ∷ []) i (omega (arith, length_push ns n, len)) ∙ get_or_push ns n 0 i len

-- the other places stay
others_stay : (ns : List ℕ) (n i j : ℕ) → length ns ≡ i → j ≢ i → j < header_places → get_or (with_unused ns) j 0 ≡ get_or (with_unused (ns ++ n ∷ [])) j 0
others_stay ns n i j len ne within =
    elim (cases_lt j i) [
      | inl lt ↦
          used_at ns j (omega (arith, len, lt)) ∙ sym (get_or_append_left ns (n ∷ []) 0 j (omega (arith, len, lt)))
          ∙ sym (used_at (ns ++ n ∷ []) j (omega (arith, length_push ns n, len, lt)))
      | inr le ↦
          unused_at ns j (omega (arith, len, le)) within
          ∙ sym (unused_at (ns ++ n ∷ []) j (omega (arith, length_push ns n, len, le, ne)) within)
    ]

-- a header after a place was put
abbrev pub with_place : List ℕ → ℕ → ℕ → ℕ → List ℕ
with_place header place target flag = with_field (with_field header (40 + 8 * place) 8 target) (5472 + 4 * place) 4 flag

-- target and flag fit their widths
pub record FitPlace (place target flag : ℕ) : Type 0 where
  pub within : place < header_places
  pub target_fits : target < 2 ^ 64
  pub flag_fits : flag < 2 ^ 32

-- a field apart from the place
apart : (header : List ℕ) (place target flag offset width : ℕ) → IsBlock header → place < header_places → (offset + width ≤ 40 + 8 * place) ⊎ (40 + 8 * place + 8 ≤ offset) → (offset + width ≤ 5472 + 4 * place) ⊎ (5472 + 4 * place + 4 ≤ offset) → field (with_place header place target flag) offset width ≡ field header offset width
apart header place target flag offset width b within t f =
    let first : List ℕ = with_field header (40 + 8 * place) 8 target in
    let len : length first ≡ length header = length-with_field header (40 + 8 * place) 8 target (omega (arith, within, places_are, b.length_is)) in
    field-with_other first (5472 + 4 * place) 4 flag offset width (omega (arith, within, places_are, b.length_is, len)) f
    ∙ field-with_other header (40 + 8 * place) 8 target offset width (omega (arith, within, places_are, b.length_is)) t

-- it is a block as before
pub place_block : (header : List ℕ) (place target flag : ℕ) → place < header_places → IsBlock header → IsBlock (with_place header place target flag)
place_block header place target flag within b =
    let first : List ℕ = with_field header (40 + 8 * place) 8 target in
    let len : length first ≡ length header = length-with_field header (40 + 8 * place) 8 target (omega (arith, within, places_are, b.length_is)) in
    record {
      length_is = length-with_field first (5472 + 4 * place) 4 flag (omega (arith, within, places_are, b.length_is, len)) ∙ len ∙ b.length_is;
      bytes_fit = IsBytes-with_field first (5472 + 4 * place) 4 flag (IsBytes-with_field header (40 + 8 * place) 8 target b.bytes_fit);
    }

-- one place more is used
pub place_more : (header : List ℕ) (number count place target flag : ℕ) (targets flags : List ℕ) → IsBlock header → HeaderFields header number count targets flags → length targets ≡ place → length flags ≡ place → FitPlace place target flag → HeaderFields (with_place header place target flag) number count (targets ++ target ∷ []) (flags ++ flag ∷ [])
place_more header number count place target flag targets flags b h t_len f_len fit =
    let within : place < 679 = omega (arith, fit.within, places_are) in
    let front : (offset width : ℕ) → offset + width ≤ 40 → field (with_place header place target flag) offset width ≡ field header offset width = λ offset width le.
    apart header place target flag offset width b fit.within (inl (omega (arith, le))) (inl (omega (arith, le))) in
    let first : List ℕ = with_field header (40 + 8 * place) 8 target in
    let len : length first ≡ 8192 = length-with_field header (40 + 8 * place) 8 target (omega (arith, within, b.length_is)) ∙ b.length_is in
    record {
      magic = front 0 8 (omega arith) ∙ h.magic;
      number_is = front 8 8 (omega arith) ∙ h.number_is;
      kind = front 16 8 (omega arith) ∙ h.kind;
      reserved = front 24 8 (omega arith) ∙ h.reserved;
      count_is = front 32 8 (omega arith) ∙ h.count_is;
      targets_are = λ j lt.
          elim (cases_eq j place) [
            | inl is ↦
                ap (λ (k : ℕ). field (with_place header place target flag) (40 + 8 * k) 8) is
                ∙ field-with_other first (5472 + 4 * place) 4 flag (40 + 8 * place) 8 (omega (arith, within, len)) (inl (omega (arith, within)))
                ∙ field-with_same header (40 + 8 * place) 8 target (omega (arith, within, b.length_is)) fit.target_fits
                ∙ sym (ap (λ (k : ℕ). get_or (with_unused (targets ++ target ∷ [])) k 0) is ∙ here_used targets target place t_len)
            | inr ne ↦
                apart header place target flag (40 + 8 * j) 8 b fit.within
                (elim (cases_lt j place) [ inl below ↦ inl (omega (arith, below)) | inr above ↦ inr (omega (arith, above, ne)) ])
                (inl (omega (arith, lt, places_are)))
                ∙ h.targets_are j lt ∙ others_stay targets target place j t_len ne lt
          ];
      flags_are = λ j lt.
          elim (cases_eq j place) [
            | inl is ↦
                ap (λ (k : ℕ). field (with_place header place target flag) (5472 + 4 * k) 4) is
                ∙ field-with_same first (5472 + 4 * place) 4 flag (omega (arith, within, len)) fit.flag_fits
                ∙ sym (ap (λ (k : ℕ). get_or (with_unused (flags ++ flag ∷ [])) k 0) is ∙ here_used flags flag place f_len)
            | inr ne ↦
                apart header place target flag (5472 + 4 * j) 4 b fit.within
                (inr (omega (arith, within)))
                (elim (cases_lt j place) [ inl below ↦ inl (omega (arith, below)) | inr above ↦ inr (omega (arith, above, ne)) ])
                ∙ h.flags_are j lt ∙ others_stay flags flag place j f_len ne lt
          ];
      last = apart header place target flag 8188 4 b fit.within (inr (omega (arith, within))) (inr (omega (arith, within))) ∙ h.last;
    }

abbrev target_of : ℕ × List ℕ → ℕ
target_of t = t.0

abbrev flag_at : ℕ × List ℕ → ℕ
flag_at t = flag_of t.1

-- the places of these targets are used, and no others
abbrev pub Used : List ℕ → ℕ → ℕ → List (ℕ × List ℕ) → Type 0
Used header number count targets = HeaderFields header number count (map target_of targets) (map flag_at targets)

-- the next target is put at the next place
pub next_place : (header : List ℕ) (number count : ℕ) (targets : List (ℕ × List ℕ)) (i : ℕ) (d : ℕ × List ℕ) → IsBlock header → Used header number count (take i targets) → i < length targets → length targets ≤ 679 → (get_or targets i d).0 < 2 ^ 64 → Used (with_place header i (get_or targets i d).0 (flag_of (get_or targets i d).1)) number count (take (i + 1) targets)
next_place header number count targets i d b h lt few fits =
    let t : ℕ × List ℕ = get_or targets i d in
    let new : List ℕ = with_place header i t.0 (flag_of t.1) in
    let taken : length (take i targets) ≡ i = omega (arith, length-take i targets, lt) in
    let targets_more : map target_of (take (i + 1) targets) ≡ map target_of (take i targets) ++ t.0 ∷ [] = ap (map target_of) (take_more targets i d lt) ∙ map_push target_of (take i targets) t in
    let flags_more : map flag_at (take (i + 1) targets) ≡ map flag_at (take i targets) ++ flag_of t.1 ∷ [] = ap (map flag_at) (take_more targets i d lt) ∙ map_push flag_at (take i targets) t in
    let fit : FitPlace i t.0 (flag_of t.1) = record {
      within = omega (arith, lt, few, places_are);
      target_fits = fits;
      flag_fits = flag_of-below t.1;
    } in
    let more : HeaderFields new number count (map target_of (take i targets) ++ t.0 ∷ []) (map flag_at (take i targets) ++ flag_of t.1 ∷ []) = place_more header number count i t.0 (flag_of t.1) (map target_of (take i targets)) (map flag_at (take i targets)) b h (length-map (take i targets) target_of ∙ taken) (length-map (take i targets) flag_at ∙ taken) fit in
    subst (λ (ts : List ℕ). HeaderFields new number count ts (map flag_at (take (i + 1) targets))) (sym targets_more)
    (subst (λ (fs : List ℕ). HeaderFields new number count (map target_of (take i targets) ++ t.0 ∷ []) fs) (sym flags_more) more)

-- all targets are put
pub all_placed : (header : List ℕ) (number i : ℕ) (targets : List (ℕ × List ℕ)) → IsBlock header → Used header number (length targets) (take i targets) → length targets ≤ i → length targets ≤ 679 → header ≡ header_bytes (record { number = number; targets = targets })
all_placed header number i targets b h done few =
    header_spelled header number (length targets) (map target_of targets) (map flag_at targets) b
    (record {
      targets_few = omega (arith, length-map targets target_of, few, places_are);
      flags_few = omega (arith, length-map targets flag_at, few, places_are);
    })
    (subst (λ (ts : List (ℕ × List ℕ)). Used header number (length targets) ts) (take_all i targets done) h)
