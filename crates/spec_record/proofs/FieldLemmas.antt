-- Fields and tables of them: what is spelled is read again, and what is read is spelled so.
use Rattle.std.proofs.Common.{◌≡◌, ◌<◌, ◌≤◌, ℕ, zero, suc, ◌+◌, ◌-◌, ◌*◌, ◌^◌, ◌%◌, ◌/◌, List, [], ◌∷◌, ◌++◌, length, take, drop, refl, ap, sym, ◌∙◌, subst, inl, inr, arith, append_assoc}
use Rattle.std.proofs.lemmas.List.{append-nil, get_or_append_left, get_or-append_right, take_at, drop_at, take_all, length-append, length-take, length-drop, drop-drop, get_or-take, get_or-drop, get_or_past, places, same_lists}
use Rattle.std.proofs.lemmas.Nat.{div_below}
use Rattle.std.proofs.Math.Nat.{pow-suc}
use Rattle.std.proofs.lemmas.Bool.{cases_lt}
use Rattle.spec_record.specs.Field.{number_of, bytes_of, field, fields, spelled, total_width, AllFit, IsBytes}

pub length-bytes_of : (width number : ℕ) → length (bytes_of width number) ≡ width
unfolding bytes_of
length-bytes_of zero number = refl
length-bytes_of (suc width) number = ap suc (length-bytes_of width (number / 256))

-- a number that fits is read again
pub number_of-bytes_of : (width number : ℕ) → number < 256 ^ width → number_of (bytes_of width number) ≡ number
unfolding bytes_of number_of
number_of-bytes_of zero number lt = omega (arith, lt)
number_of-bytes_of (suc width) number lt =
    let high : number / 256 < 256 ^ width = div_below number 256 (256 ^ width) (omega arith) (rw (← pow-suc 256 width) lt) in
    rw (number_of-bytes_of width (number / 256) high) (omega arith)

pub IsBytes-rest : (byte : ℕ) (bytes : List ℕ) → IsBytes (byte ∷ bytes) → IsBytes bytes
IsBytes-rest byte bytes fit i = fit (suc i)

-- bytes are spelled again from the number that they spell
pub bytes_of-number_of : (bytes : List ℕ) → IsBytes bytes → bytes_of (length bytes) (number_of bytes) ≡ bytes
unfolding bytes_of number_of
bytes_of-number_of [] fit = refl
bytes_of-number_of (byte ∷ bytes) fit =
    let lt : byte < 256 = fit 0 in
    let low : (byte + 256 * number_of bytes) % 256 ≡ byte = omega arith in
    let high : (byte + 256 * number_of bytes) / 256 ≡ number_of bytes = omega arith in
    rw (low, high, bytes_of-number_of bytes (IsBytes-rest byte bytes fit)) refl

pub number_of_below : (bytes : List ℕ) → IsBytes bytes → number_of bytes < 256 ^ length bytes
unfolding number_of
number_of_below [] fit = omega arith
number_of_below (byte ∷ bytes) fit =
    let lt : byte < 256 = fit 0 in
    let rest : number_of bytes < 256 ^ length bytes = number_of_below bytes (IsBytes-rest byte bytes fit) in
    rw (pow-suc 256 (length bytes)) (omega arith)

-- two texts of one length that spell one number are equal
pub same_numbers : (xs ys : List ℕ) → length xs ≡ length ys → IsBytes xs → IsBytes ys → number_of xs ≡ number_of ys → xs ≡ ys
same_numbers xs ys len xs_fit ys_fit e =
    sym (bytes_of-number_of xs xs_fit) ∙ ap (λ (n : ℕ). bytes_of n (number_of xs)) len ∙ ap (bytes_of (length ys)) e ∙ bytes_of-number_of ys ys_fit

pub IsBytes-part : (offset width : ℕ) (bytes : List ℕ) → IsBytes bytes → IsBytes (take width (drop offset bytes))
IsBytes-part offset width bytes fit i =
    elim (cases_lt i width) [
      | inl lt ↦ rw (get_or-take width (drop offset bytes) i 0 lt, get_or-drop offset bytes i 0) (fit (offset + i))
      | inr le ↦ rw (get_or_past (take width (drop offset bytes)) i 0 (omega (arith, length-take width (drop offset bytes)))) (omega arith)
    ]

pub length-part : (offset width : ℕ) (bytes : List ℕ) → offset + width ≤ length bytes → length (take width (drop offset bytes)) ≡ width
length-part offset width bytes fits = omega (arith, length-take width (drop offset bytes), length-drop offset bytes)

pub field_below : (bytes : List ℕ) (offset width : ℕ) → IsBytes bytes → offset + width ≤ length bytes → field bytes offset width < 256 ^ width
unfolding field
field_below bytes offset width fit fits =
    subst (λ (n : ℕ). number_of (take width (drop offset bytes)) < 256 ^ n) (length-part offset width bytes fits) (number_of_below (take width (drop offset bytes)) (IsBytes-part offset width bytes fit))

-- the bytes of a field, by its value
pub bytes_of-field : (bytes : List ℕ) (offset width : ℕ) → IsBytes bytes → offset + width ≤ length bytes → bytes_of width (field bytes offset width) ≡ take width (drop offset bytes)
unfolding field
bytes_of-field bytes offset width fit fits =
    subst (λ (n : ℕ). bytes_of n (number_of (take width (drop offset bytes))) ≡ take width (drop offset bytes)) (length-part offset width bytes fits) (bytes_of-number_of (take width (drop offset bytes)) (IsBytes-part offset width bytes fit))

-- a table of fields spells the bytes that it covers
pub spelled-fields : (offset : ℕ) (widths bytes : List ℕ) → IsBytes bytes → offset + total_width widths ≤ length bytes → spelled widths (fields offset widths bytes) ≡ take (total_width widths) (drop offset bytes)
spelled-fields offset [] bytes fit fits = refl
spelled-fields offset (width ∷ widths) bytes fit fits =
    let rest : spelled widths (fields (offset + width) widths bytes) ≡ take (total_width widths) (drop (offset + width) bytes) = spelled-fields (offset + width) widths bytes fit (omega arith) in
    rw (bytes_of-field bytes offset width fit (omega arith), rest) (same_lists _ _ (grind (arith, places)) (λ k d lt. grind (arith, places)))

-- a table that covers all bytes spells them
pub spelled-all : (widths bytes : List ℕ) → IsBytes bytes → length bytes ≡ total_width widths → bytes ≡ spelled widths (fields 0 widths bytes)
spelled-all widths bytes fit len =
    sym (spelled-fields 0 widths bytes fit (omega arith) ∙ take_all (total_width widths) bytes (omega arith))

-- a field behind other bytes
pub field-append : (front bytes : List ℕ) (offset start width : ℕ) → start ≡ length front + offset → field (front ++ bytes) start width ≡ field bytes offset width
unfolding field
field-append front bytes offset start width e =
    let whole : drop start (front ++ bytes) ≡ drop offset bytes =
    rw e (sym (drop-drop offset (length front) (front ++ bytes)) ∙ ap (drop offset) (drop_at front bytes (length front) refl)) in
    ap (λ (part : List ℕ). number_of (take width part)) whole

-- the first field of bytes that begin with a number
pub field-first : (width number : ℕ) (bytes : List ℕ) → number < 256 ^ width → field (bytes_of width number ++ bytes) 0 width ≡ number
unfolding field
field-first width number bytes lt =
    rw (take_at (bytes_of width number) bytes width (length-bytes_of width number)) (number_of-bytes_of width number lt)

-- numbers that fit are read again
pub fields-spelled : (front widths numbers more : List ℕ) (offset : ℕ) → offset ≡ length front → AllFit widths numbers → fields offset widths (front ++ (spelled widths numbers ++ more)) ≡ numbers
fields-spelled front [] [] more offset e fit = refl
fields-spelled front [] (number ∷ numbers) more offset e fit = absurd fit
fields-spelled front (width ∷ widths) [] more offset e fit = absurd fit
fields-spelled front (width ∷ widths) (number ∷ numbers) more offset e fit =
    let rest = spelled widths numbers ++ more in
    let here : front ++ ((bytes_of width number ++ spelled widths numbers) ++ more) ≡ front ++ (bytes_of width number ++ rest) =
    ap (λ (tail : List ℕ). front ++ tail) (append_assoc (bytes_of width number) (spelled widths numbers) more) in
    let next : front ++ (bytes_of width number ++ rest) ≡ (front ++ bytes_of width number) ++ rest =
    sym (append_assoc front (bytes_of width number) rest) in
    let first : field (front ++ (bytes_of width number ++ rest)) offset width ≡ number =
    field-append front (bytes_of width number ++ rest) 0 offset width (omega arith) ∙ field-first width number rest fit.0 in
    let others : fields (offset + width) widths ((front ++ bytes_of width number) ++ rest) ≡ numbers =
    fields-spelled (front ++ bytes_of width number) widths numbers more (offset + width) (omega (arith, length-append front (bytes_of width number), length-bytes_of width number)) fit.1 in
    rw (here, first, next, others) refl

-- the fields of a table, spelled alone
pub fields-whole : (widths numbers : List ℕ) → AllFit widths numbers → fields 0 widths (spelled widths numbers) ≡ numbers
fields-whole widths numbers fit =
    ap (fields 0 widths) (sym (append-nil (spelled widths numbers))) ∙ fields-spelled [] widths numbers [] 0 refl fit

pub length-spelled : (widths numbers : List ℕ) → AllFit widths numbers → length (spelled widths numbers) ≡ total_width widths
length-spelled [] [] fit = refl
length-spelled [] (number ∷ numbers) fit = absurd fit
length-spelled (width ∷ widths) [] fit = absurd fit
length-spelled (width ∷ widths) (number ∷ numbers) fit =
    omega (arith, length-append (bytes_of width number) (spelled widths numbers), length-bytes_of width number, length-spelled widths numbers fit.1)

pub IsBytes-append : (xs ys : List ℕ) → IsBytes xs → IsBytes ys → IsBytes (xs ++ ys)
IsBytes-append xs ys xs_fit ys_fit i =
    elim (cases_lt i (length xs)) [
      | inl lt ↦ rw (get_or_append_left xs ys 0 i lt) (xs_fit i)
      | inr le ↦ rw (get_or-append_right xs ys (length xs) i 0 refl le) (ys_fit (i - length xs))
    ]

pub IsBytes-nil : IsBytes []
IsBytes-nil i = omega arith

pub IsBytes-bytes_of : (width number : ℕ) → IsBytes (bytes_of width number)
unfolding bytes_of
IsBytes-bytes_of zero number i = omega arith
IsBytes-bytes_of (suc width) number zero = omega arith
IsBytes-bytes_of (suc width) number (suc i) = IsBytes-bytes_of width (number / 256) i

pub IsBytes-spelled : (widths numbers : List ℕ) → IsBytes (spelled widths numbers)
IsBytes-spelled [] numbers = IsBytes-nil
IsBytes-spelled (width ∷ widths) [] = IsBytes-nil
IsBytes-spelled (width ∷ widths) (number ∷ numbers) =
    IsBytes-append (bytes_of width number) (spelled widths numbers) (IsBytes-bytes_of width number) (IsBytes-spelled widths numbers)
