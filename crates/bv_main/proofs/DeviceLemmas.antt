-- Words that name devices, cut at their colons.
use Rattle.std.proofs.Common.{◌≡◌, ◌≢◌, ℕ, zero, suc, ◌<◌, ◌^◌, List, [], ◌∷◌, ◌++◌, length, get_or, drop, Option, None, Some, IfSome, IfNone, Bor, arith, ap, refl, sym, subst, ◌∙◌}
use Rattle.std.proofs.lemmas.Fmt.{digits_decimal}
use Rattle.std.proofs.lemmas.Str.Parse.{IsNumeralModel, numerals_by_value, tells_digits, not_in_digits}
use Rattle.std.specs.Prelude.{codes, decimal}
use Rattle.std.specs.Str.Parse.{AllDigits, digits_value}
use Rattle.std.specs.Option.{MatchOption}
use Rattle.spec_record.specs.Tests.{IsBetween}
use Rattle.bv_main.specs.Devices.{NamesNone, HasNoColon, IsCutAtColon}

-- what stands before the first colon, and what stands after it, is one thing
pub cut-once : (xs ys us vs : List ℕ) → xs ++ (58 ∷ ys) ≡ us ++ (58 ∷ vs) → HasNoColon xs → HasNoColon us → (xs ≡ us) × (ys ≡ vs)
cut-once [] ys [] vs e p q = (refl, cc e)
cut-once [] ys (u ∷ us) vs e p q = absurd (q 0 (omega arith) (cc e))
cut-once (x ∷ xs) ys [] vs e p q = absurd (p 0 (omega arith) (cc e))
cut-once (x ∷ xs) ys (u ∷ us) vs e p q =
    let rest : (xs ≡ us) × (ys ≡ vs) = cut-once xs ys us vs (cc e) (λ i l. p (suc i) (omega (arith, l))) (λ i l. q (suc i) (omega (arith, l))) in
    (cc (e, rest.0), rest.1)

-- a text with a colon has one
pub has-colon : (xs ys : List ℕ) → HasNoColon (xs ++ (58 ∷ ys)) → ⊥
has-colon [] ys none = none 0 (omega arith) refl
has-colon (x ∷ xs) ys none = has-colon xs ys (λ i l. none (suc i) (omega (arith, l)))

own : IsNumeralModel (AllDigits 10) (digits_value 10)
own = numerals_by_value (AllDigits 10) tells_digits

-- a number has no colon
pub decimal-no-colon : (n : ℕ) → n < 2 ^ 64 → HasNoColon (decimal n)
decimal-no-colon n small = λ i l. not_in_digits own (decimal n) 58 (digits_decimal own n small) (λ range. omega (arith, range.1)) i l

no-colon-nil : HasNoColon []
no-colon-nil i l = absurd (omega (arith, l))

no-colon-cons : (x : ℕ) (xs : List ℕ) → x ≢ 58 → HasNoColon xs → HasNoColon (x ∷ xs)
no-colon-cons x xs p q zero l = p
no-colon-cons x xs p q (suc i) l = q i (omega (arith, l))

pub mem-no-colon : HasNoColon (109 ∷ 101 ∷ 109 ∷ [])
mem-no-colon = no-colon-cons 109 (101 ∷ 109 ∷ []) (λ e. omega (arith, e)) (no-colon-cons 101 (109 ∷ []) (λ e. omega (arith, e)) (no-colon-cons 109 [] (λ e. omega (arith, e)) no-colon-nil))

pub new-no-colon : HasNoColon (110 ∷ 101 ∷ 119 ∷ [])
new-no-colon = no-colon-cons 110 (101 ∷ 119 ∷ []) (λ e. omega (arith, e)) (no-colon-cons 101 (119 ∷ []) (λ e. omega (arith, e)) (no-colon-cons 119 [] (λ e. omega (arith, e)) no-colon-nil))

pub file-no-colon : HasNoColon (102 ∷ 105 ∷ 108 ∷ 101 ∷ [])
file-no-colon = no-colon-cons 102 (105 ∷ 108 ∷ 101 ∷ []) (λ e. omega (arith, e)) (no-colon-cons 105 (108 ∷ 101 ∷ []) (λ e. omega (arith, e)) (no-colon-cons 108 (101 ∷ []) (λ e. omega (arith, e)) (no-colon-cons 101 [] (λ e. omega (arith, e)) no-colon-nil)))

-- a word without a colon names no device
pub names-none-uncut : (word : List ℕ) → HasNoColon word → NamesNone word
names-none-uncut word none = record {
  no_mem = λ blocks is. has-colon (codes "mem") (decimal blocks) (subst HasNoColon is.written none);
  no_new = λ blocks path is. has-colon (codes "new") (decimal blocks ++ (58 ∷ path)) (subst HasNoColon is.written none);
  no_file = λ path is. has-colon (codes "file") path (subst HasNoColon is none);
}

-- a word with another text before its first colon names no device
pub names-none-other : (word kind rest : List ℕ) → IsCutAtColon word kind rest → kind ≢ codes "mem" → kind ≢ codes "new" → kind ≢ codes "file" → NamesNone word
names-none-other word kind rest cut not_mem not_new not_file = record {
  no_mem = λ blocks is. not_mem (cut-once kind rest (codes "mem") (decimal blocks) (sym cut.joined ∙ is.written) cut.first mem-no-colon).0;
  no_new = λ blocks path is. not_new (cut-once kind rest (codes "new") (decimal blocks ++ (58 ∷ path)) (sym cut.joined ∙ is.written) cut.first new-no-colon).0;
  no_file = λ path is. not_file (cut-once kind rest (codes "file") path (sym cut.joined ∙ is) cut.first file-no-colon).0;
}

-- two words that begin unlike
unlike : (m n : ℕ) (xs ys : List ℕ) → m ≢ n → m ∷ xs ≡ n ∷ ys → ⊥
unlike m n xs ys p e = p (ap (λ t. get_or t 0 0) e)

-- after `mem:` no number of blocks follows
pub names-none-mem : (rest : List ℕ) → ((n : ℕ) → rest ≡ decimal n → IsBetween 1 n 65536 → ⊥) → NamesNone (109 ∷ 101 ∷ 109 ∷ 58 ∷ rest)
names-none-mem rest none = record {
  no_mem = λ blocks is. none blocks (ap (λ t. drop 4 t) is.written) is.within;
  no_new = λ blocks path is. unlike 109 110 _ _ (λ e. omega (arith, e)) is.written;
  no_file = λ path is. unlike 109 102 _ _ (λ e. omega (arith, e)) is;
}

-- after `new:` no number of blocks and path follow
pub names-none-new : (rest : List ℕ) → ((n : ℕ) (path : List ℕ) → rest ≡ decimal n ++ (58 ∷ path) → IsBetween 1 n 8388608 → ⊥)
    → NamesNone (110 ∷ 101 ∷ 119 ∷ 58 ∷ rest)
names-none-new rest none = record {
  no_mem = λ blocks is. unlike 110 109 _ _ (λ e. omega (arith, e)) is.written;
  no_new = λ blocks path is. none blocks path (ap (λ t. drop 4 t) is.written) is.within;
  no_file = λ path is. unlike 110 102 _ _ (λ e. omega (arith, e)) is;
}

-- a text without a colon is no number of blocks and a path
pub uncut-new : (rest : List ℕ) → HasNoColon rest → (n : ℕ) (path : List ℕ) → rest ≡ decimal n ++ (58 ∷ path) → IsBetween 1 n 8388608 → ⊥
uncut-new rest none n path e within = has-colon (decimal n) path (subst HasNoColon e none)

-- where it has one, the number stands before the first
pub cut-new : (rest number path : List ℕ) → IsCutAtColon rest number path → (n : ℕ) (other : List ℕ) → rest ≡ decimal n ++ (58 ∷ other) → IsBetween 1 n 8388608
    → number ≡ decimal n
cut-new rest number path cut n other e within =
    (cut-once number path (decimal n) other (sym cut.joined ∙ e) cut.first (decimal-no-colon n (omega (arith, within.to_high)))).0

-- what the cut of a text says of it, in the words of the two parts
pub cut-from-parts : (text : List ℕ) (r : Option (Bor (List ℕ) × Bor (List ℕ)))
    → MatchOption r ((i : ℕ) → i < length text → get_or text i 0 ≢ 58)
    (λ x. (text ≡ x.0.now ++ (58 ∷ x.1.now)) × ((i : ℕ) → i < length x.0.now → get_or x.0.now i 0 ≢ 58))
    → IfSome r (λ cut. IsCutAtColon text cut.0.now cut.1.now) × IfNone r (HasNoColon text)
cut-from-parts text None p = (tt, p)
cut-from-parts text (Some x) p = (record { joined = p.0; first = p.1 }, tt)
