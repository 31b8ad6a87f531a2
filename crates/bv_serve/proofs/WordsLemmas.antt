-- Words and the written forms.
use Rattle.std.proofs.Common.{◌≡◌, ℕ, zero, suc, ◌<◌, ◌≤◌, List, [], ◌∷◌, length, map, get_or, Result, Ok, arith, ap, refl, sym, ◌∙◌}
use Rattle.std.proofs.lemmas.Fmt.{parse-decimal, decimal_injective}
use Rattle.std.specs.Str.Parse.{ParsesUnsigned}
use Rattle.spec_record.specs.declared.geometry.Geometry.{Geometry}
use Rattle.spec_record.specs.Tests.{IsBetween}
use Rattle.bv_serve.specs.declared.command.Command.{Command}
use Rattle.bv_serve.specs.declared.command.Command.TheVariants.{Root, ListBlobs, Check, Recover, Upgrade, Format}
use Rattle.bv_serve.specs.Words.{IsNumber, IsFormatWord, IsForm, written_form, format_word}

-- a list of one word, by the function that reads it
pub map-one : {A : Type 0} (text_of : A → List ℕ) (words : List A) (word : A) (text : List ℕ) → 1 ≤ length words → length words < 2
    → word ≡ get_or words 0 word → text_of word ≡ text → map text_of words ≡ text ∷ []
map-one text_of [] word text some one is same = absurd (omega arith)
map-one text_of (x ∷ []) word text some one is same = ap (λ t. t ∷ []) (ap text_of (sym is) ∙ same)
map-one text_of (x ∷ y ∷ rest) word text some one is same = absurd (omega arith)

-- a list of four words
pub map-four : {A : Type 0} (text_of : A → List ℕ) (words : List A) (a b c d : A) → 4 ≤ length words → length words < 5
    → a ≡ get_or words 0 a → b ≡ get_or words 1 b → c ≡ get_or words 2 c → d ≡ get_or words 3 d
    → map text_of words ≡ text_of a ∷ text_of b ∷ text_of c ∷ text_of d ∷ []
map-four text_of [] a b c d some few p q r s = absurd (omega arith)
map-four text_of (x ∷ []) a b c d some few p q r s = absurd (omega arith)
map-four text_of (x ∷ y ∷ []) a b c d some few p q r s = absurd (omega arith)
map-four text_of (x ∷ y ∷ z ∷ []) a b c d some few p q r s = absurd (omega arith)
map-four text_of (x ∷ y ∷ z ∷ u ∷ []) a b c d some few p q r s = simp (p, q, r, s) refl
map-four text_of (x ∷ y ∷ z ∷ u ∷ v ∷ rest) a b c d some few p q r s = absurd (omega arith)

-- what `parse` reads of a number's word
pub number-parsed : {E : Type 0} (word : List ℕ) (n : ℕ) (r : Result ℕ E) → IsNumber word n → ParsesUnsigned 64 10 word r → r ≡ Ok n
number-parsed word n r is h = parse-decimal 64 n word r (omega (arith, is.short)) (omega (arith, is.short)) is.written h

-- four words write no other command than one that makes a volume, each word its part
pub record FourWords (a b c d : List ℕ) : Type 0 where
  pub geometry : Geometry
  pub name : IsFormatWord a geometry.version
  pub blocks : IsNumber b geometry.blocks
  pub nodes : IsNumber c geometry.nodes
  pub journal : IsNumber d geometry.journal

pub four_words : (a b c d : List ℕ) (command : Command) → IsForm (a ∷ b ∷ c ∷ d ∷ []) command → FourWords a b c d
four_words a b c d Root form = absurd (cc (form.written))
four_words a b c d ListBlobs form = absurd (cc (form.written))
four_words a b c d Check form = absurd (cc (form.written))
four_words a b c d Recover form = absurd (cc (form.written))
four_words a b c d Upgrade form = absurd (cc (form.written))
four_words a b c d (Format g) form = record {
  geometry = g;
  name = record { known = form.can.version; is = cc (form.written) };
  blocks = record { written = cc (form.written); short = form.can.blocks };
  nodes = record { written = cc (form.written); short = form.can.nodes };
  journal = record { written = cc (form.written); short = form.can.journal };
}

-- four words that write the parts of such a command write it
pub as_form : (a b c d : List ℕ) (g : Geometry) → IsFormatWord a g.version → IsNumber b g.blocks → IsNumber c g.nodes → IsNumber d g.journal
    → IsForm (a ∷ b ∷ c ∷ d ∷ []) (Format g)
as_form a b c d g name blocks nodes journal = record {
  written = simp (name.is, blocks.written, nodes.written, journal.written) refl;
  can = record { version = name.known; blocks = blocks.short; nodes = nodes.short; journal = journal.short };
}

-- a version has a word of its own
format_word-injective : (v w : ℕ) → IsBetween 1 v 2 → IsBetween 1 w 2 → format_word v ≡ format_word w → v ≡ w
format_word-injective zero w p q e = absurd (omega (arith, p.from_low))
format_word-injective (suc zero) zero p q e = absurd (omega (arith, q.from_low))
format_word-injective (suc zero) (suc zero) p q e = refl
format_word-injective (suc zero) (suc (suc zero)) p q e = absurd (cc e)
format_word-injective (suc zero) (suc (suc (suc w))) p q e = absurd (omega (arith, q.to_high))
format_word-injective (suc (suc zero)) zero p q e = absurd (omega (arith, q.from_low))
format_word-injective (suc (suc zero)) (suc zero) p q e = absurd (cc e)
format_word-injective (suc (suc zero)) (suc (suc zero)) p q e = refl
format_word-injective (suc (suc zero)) (suc (suc (suc w))) p q e = absurd (omega (arith, q.to_high))
format_word-injective (suc (suc (suc v))) w p q e = absurd (omega (arith, p.to_high))

-- words that make a volume say which counts it has
pub format-unique : (words : List (List ℕ)) (g h : Geometry) → IsForm words (Format g) → IsForm words (Format h) → g ≡ h
format-unique words g h p q =
    let same : written_form (Format g) ≡ written_form (Format h) = sym p.written ∙ q.written in
    let b : g.blocks ≡ h.blocks = decimal_injective _ _ (omega (arith, p.can.blocks)) (omega (arith, q.can.blocks)) (cc same) in
    let n : g.nodes ≡ h.nodes = decimal_injective _ _ (omega (arith, p.can.nodes)) (omega (arith, q.can.nodes)) (cc same) in
    let j : g.journal ≡ h.journal = decimal_injective _ _ (omega (arith, p.can.journal)) (omega (arith, q.can.journal)) (cc same) in
    let v : g.version ≡ h.version = format_word-injective _ _ p.can.version q.can.version (cc same) in
    λ i. record { blocks = b i; nodes = n i; journal = j i; version = v i }

-- the first byte of the first word
abbrev first_byte : List (List ℕ) → ℕ
first_byte [] = 0
first_byte ([] ∷ words) = 0
first_byte ((x ∷ xs) ∷ words) = x

-- how long the first word is
abbrev first_length : List (List ℕ) → ℕ
first_length [] = 0
first_length (word ∷ words) = length word

-- words write one command
pub one_form : (words : List (List ℕ)) (c d : Command) → IsForm words c → IsForm words d → c ≡ d
one_form words Root Root p q = refl
one_form words Root ListBlobs p q = let e : 114 ≡ 108 = ap first_byte (sym p.written ∙ q.written) in absurd (omega (arith, e))
one_form words Root Check p q = let e : 114 ≡ 99 = ap first_byte (sym p.written ∙ q.written) in absurd (omega (arith, e))
one_form words Root Recover p q = let e : 4 ≡ 7 = ap first_length (sym p.written ∙ q.written) in absurd (omega (arith, e))
one_form words Root Upgrade p q = let e : 114 ≡ 117 = ap first_byte (sym p.written ∙ q.written) in absurd (omega (arith, e))
one_form words Root (Format g) p q = absurd (cc (p.written, q.written))
one_form words ListBlobs Root p q = let e : 108 ≡ 114 = ap first_byte (sym p.written ∙ q.written) in absurd (omega (arith, e))
one_form words ListBlobs ListBlobs p q = refl
one_form words ListBlobs Check p q = let e : 108 ≡ 99 = ap first_byte (sym p.written ∙ q.written) in absurd (omega (arith, e))
one_form words ListBlobs Recover p q = let e : 108 ≡ 114 = ap first_byte (sym p.written ∙ q.written) in absurd (omega (arith, e))
one_form words ListBlobs Upgrade p q = let e : 108 ≡ 117 = ap first_byte (sym p.written ∙ q.written) in absurd (omega (arith, e))
one_form words ListBlobs (Format g) p q = absurd (cc (p.written, q.written))
one_form words Check Root p q = let e : 99 ≡ 114 = ap first_byte (sym p.written ∙ q.written) in absurd (omega (arith, e))
one_form words Check ListBlobs p q = let e : 99 ≡ 108 = ap first_byte (sym p.written ∙ q.written) in absurd (omega (arith, e))
one_form words Check Check p q = refl
one_form words Check Recover p q = let e : 99 ≡ 114 = ap first_byte (sym p.written ∙ q.written) in absurd (omega (arith, e))
one_form words Check Upgrade p q = let e : 99 ≡ 117 = ap first_byte (sym p.written ∙ q.written) in absurd (omega (arith, e))
one_form words Check (Format g) p q = absurd (cc (p.written, q.written))
one_form words Recover Root p q = let e : 7 ≡ 4 = ap first_length (sym p.written ∙ q.written) in absurd (omega (arith, e))
one_form words Recover ListBlobs p q = let e : 114 ≡ 108 = ap first_byte (sym p.written ∙ q.written) in absurd (omega (arith, e))
one_form words Recover Check p q = let e : 114 ≡ 99 = ap first_byte (sym p.written ∙ q.written) in absurd (omega (arith, e))
one_form words Recover Recover p q = refl
one_form words Recover Upgrade p q = let e : 114 ≡ 117 = ap first_byte (sym p.written ∙ q.written) in absurd (omega (arith, e))
one_form words Recover (Format g) p q = absurd (cc (p.written, q.written))
one_form words Upgrade Root p q = let e : 117 ≡ 114 = ap first_byte (sym p.written ∙ q.written) in absurd (omega (arith, e))
one_form words Upgrade ListBlobs p q = let e : 117 ≡ 108 = ap first_byte (sym p.written ∙ q.written) in absurd (omega (arith, e))
one_form words Upgrade Check p q = let e : 117 ≡ 99 = ap first_byte (sym p.written ∙ q.written) in absurd (omega (arith, e))
one_form words Upgrade Recover p q = let e : 117 ≡ 114 = ap first_byte (sym p.written ∙ q.written) in absurd (omega (arith, e))
one_form words Upgrade Upgrade p q = refl
one_form words Upgrade (Format g) p q = absurd (cc (p.written, q.written))
one_form words (Format g) Root p q = absurd (cc (p.written, q.written))
one_form words (Format g) ListBlobs p q = absurd (cc (p.written, q.written))
one_form words (Format g) Check p q = absurd (cc (p.written, q.written))
one_form words (Format g) Recover p q = absurd (cc (p.written, q.written))
one_form words (Format g) Upgrade p q = absurd (cc (p.written, q.written))
one_form words (Format g) (Format h) p q = ap (λ (x : Geometry). Format x) (format-unique words g h p q)
