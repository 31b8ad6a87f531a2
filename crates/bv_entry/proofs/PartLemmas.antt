-- A field of the bytes from a place on.
use Rattle.std.proofs.Common.{◌≡◌, ◌≤◌, ℕ, ◌+◌, List, [], ◌++◌, length, take, drop, ap, sym, ◌∙◌, append_assoc, arith}
use Rattle.std.proofs.lemmas.List.{take-take, drop-drop, take_all, drop_all, length-take, length-drop, length-append, get_or-drop, append-nil}
use borrow.Rule.Slice.PartMut.{put_mid, mid_of}
use Rattle.spec_record.specs.Field.{IsBytes, number_of, field, bytes_of}
use Rattle.spec_record.proofs.FieldLemmas.{length-bytes_of, IsBytes-append, IsBytes-bytes_of, IsBytes-part}
use Rattle.bv_bytes.specs.Rows.{with_field}

-- it is the field at that place
pub field-from : (bytes : List ℕ) (start n width : ℕ) → width ≤ n → field (take n (drop start bytes)) 0 width ≡ field bytes start width
unfolding field
field-from bytes start n width le = ap number_of (take-take width n (drop start bytes) le)

with_field-from : (bytes : List ℕ) (start width number : ℕ) → take start bytes ++ with_field (drop start bytes) 0 width number ≡ with_field bytes start width number
unfolding with_field
with_field-from bytes start width number =
    let same : 0 + width ≡ width = omega arith in
    let rest : drop (0 + width) (drop start bytes) ≡ drop (start + width) bytes =
    ap (λ (n : ℕ). drop n (drop start bytes)) same ∙ drop-drop width start bytes in
    ap (λ (bs : List ℕ). take start bytes ++ (bytes_of width number ++ bs)) rest
    ∙ sym (append_assoc (take start bytes) (bytes_of width number) (drop (start + width) bytes))

-- it is written at that place
pub put_from : (bytes part : List ℕ) (start place n width number : ℕ) → start ≡ place → length bytes ≡ start + n → part ≡ with_field (mid_of start n bytes) 0 width number → put_mid start n bytes part ≡ with_field bytes place width number
put_from bytes part start place n width number at len is =
    let none : drop n (drop start bytes) ≡ [] = drop_all n (drop start bytes) (omega (arith, length-drop start bytes, len)) in
    let all : take n (drop start bytes) ≡ drop start bytes = take_all n (drop start bytes) (omega (arith, length-drop start bytes, len)) in
    ap (λ (rest : List ℕ). take start bytes ++ (part ++ rest)) none
    ∙ ap (λ (bs : List ℕ). take start bytes ++ bs) (append-nil part ∙ is ∙ ap (λ (bs : List ℕ). with_field bs 0 width number) all)
    ∙ with_field-from bytes start width number
    ∙ ap (λ (k : ℕ). with_field bytes k width number) at

-- bytes stay bytes
pub IsBytes-with_field : (bytes : List ℕ) (offset width number : ℕ) → IsBytes bytes → IsBytes (with_field bytes offset width number)
unfolding with_field
IsBytes-with_field bytes offset width number fit =
    IsBytes-append (take offset bytes ++ bytes_of width number) (drop (offset + width) bytes)
    (IsBytes-append (take offset bytes) (bytes_of width number) (IsBytes-part 0 offset bytes fit) (IsBytes-bytes_of width number))
    (λ i. rw (get_or-drop (offset + width) bytes i 0) (fit (offset + width + i)))

-- and as many
pub length-with_field : (bytes : List ℕ) (offset width number : ℕ) → offset + width ≤ length bytes → length (with_field bytes offset width number) ≡ length bytes
unfolding with_field
length-with_field bytes offset width number fits =
    omega (arith, length-append (take offset bytes ++ bytes_of width number) (drop (offset + width) bytes), length-append (take offset bytes) (bytes_of width number), length-take offset bytes, length-bytes_of width number, length-drop (offset + width) bytes)
