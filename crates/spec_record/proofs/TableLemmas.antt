-- Tables that are joined, and tables with one width in every row.
use Rattle.std.proofs.Common.{◌≡◌, ◌<◌, ℕ, zero, suc, ◌+◌, ◌*◌, ◌^◌, List, [], ◌∷◌, ◌++◌, length, get_or, replicate, refl, ap, sym, ◌∙◌, arith, append_assoc}
use Rattle.spec_record.specs.Field.{field, fields, bytes_of, spelled, total_width, AllFit}

pub length-fields : (offset : ℕ) (widths bytes : List ℕ) → length (fields offset widths bytes) ≡ length widths
length-fields offset [] bytes = refl
length-fields offset (width ∷ widths) bytes = ap suc (length-fields (offset + width) widths bytes)

pub fields-append : (offset : ℕ) (ws vs bytes : List ℕ) → fields offset (ws ++ vs) bytes ≡ fields offset ws bytes ++ fields (offset + total_width ws) vs bytes
fields-append offset [] vs bytes = ap (λ (o : ℕ). fields o vs bytes) (omega arith)
fields-append offset (w ∷ ws) vs bytes =
    let same : offset + w + total_width ws ≡ offset + (w + total_width ws) = omega arith in
    ap (λ (ns : List ℕ). field bytes offset w ∷ ns) (fields-append (offset + w) ws vs bytes ∙ ap (λ (o : ℕ). fields (offset + w) ws bytes ++ fields o vs bytes) same)

pub spelled-append : (ws vs ns ms : List ℕ) → length ws ≡ length ns → spelled (ws ++ vs) (ns ++ ms) ≡ spelled ws ns ++ spelled vs ms
spelled-append [] vs [] ms e = refl
spelled-append [] vs (n ∷ ns) ms e = absurd (omega (arith, e))
spelled-append (w ∷ ws) vs [] ms e = absurd (omega (arith, e))
spelled-append (w ∷ ws) vs (n ∷ ns) ms e =
    ap (λ (rest : List ℕ). bytes_of w n ++ rest) (spelled-append ws vs ns ms (omega (arith, e))) ∙ sym (append_assoc (bytes_of w n) (spelled ws ns) (spelled vs ms))

pub AllFit-append : (ws vs ns ms : List ℕ) → AllFit ws ns → AllFit vs ms → AllFit (ws ++ vs) (ns ++ ms)
AllFit-append [] vs [] ms a b = b
AllFit-append [] vs (n ∷ ns) ms a b = absurd a
AllFit-append (w ∷ ws) vs [] ms a b = absurd a
AllFit-append (w ∷ ws) vs (n ∷ ns) ms a b = (a.0, AllFit-append ws vs ns ms a.1 b)

pub AllFit-replicate : (width count : ℕ) (ns : List ℕ) → length ns ≡ count → ((i : ℕ) → i < count → get_or ns i 0 < 256 ^ width) → AllFit (replicate count width) ns
AllFit-replicate width zero [] len fit = tt
AllFit-replicate width zero (n ∷ ns) len fit = absurd (omega (arith, len))
AllFit-replicate width (suc count) [] len fit = absurd (omega (arith, len))
AllFit-replicate width (suc count) (n ∷ ns) len fit =
    (fit 0 (omega arith), AllFit-replicate width count ns (omega (arith, len)) (λ i lt. fit (suc i) (omega (arith, lt))))

pub total_width-append : (ws vs : List ℕ) → total_width (ws ++ vs) ≡ total_width ws + total_width vs
total_width-append [] vs = omega arith
total_width-append (w ∷ ws) vs = omega (arith, total_width-append ws vs)

pub total_width-replicate : (count width : ℕ) → total_width (replicate count width) ≡ width * count
total_width-replicate zero width = omega arith
total_width-replicate (suc count) width = omega (arith, total_width-replicate count width)

-- the number of a row, where all have one width
pub field_at : (offset width count i : ℕ) (bytes : List ℕ) → i < count → get_or (fields offset (replicate count width) bytes) i 0 ≡ field bytes (offset + width * i) width
field_at offset width zero i bytes lt = absurd (omega (arith, lt))
field_at offset width (suc count) zero bytes lt = ap (λ (o : ℕ). field bytes o width) (omega arith)
field_at offset width (suc count) (suc i) bytes lt =
    let same : offset + width + width * i ≡ offset + width * suc i = omega arith in
    field_at (offset + width) width count i bytes (omega (arith, lt)) ∙ ap (λ (o : ℕ). field bytes o width) same
