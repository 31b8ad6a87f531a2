-- Words and the written forms of the commands that run sessions.
use Rattle.std.proofs.Common.{◌≡◌, ℕ, zero, suc, ◌<◌, ◌≤◌, List, [], ◌∷◌, length, map, get_or, arith, ap, refl, sym, ◌∙◌, codes}
use Rattle.std.proofs.lemmas.Fmt.{decimal_injective}
use Rattle.spec_record.specs.declared.geometry.Geometry.{Geometry}
use Rattle.spec_record.specs.Tests.{IsBetween}
use Rattle.bv_serve.specs.Words.{IsNumber, IsNoNumber}
use Rattle.bv_run.specs.declared.form.Form.{Form}
use Rattle.bv_run.specs.declared.form.Form.TheVariants.{Script, Fresh, Demo}
use Rattle.bv_run.specs.Words.{IsForm, IsNoForm, IsFreshWord, fresh_word, written_form}

-- a list of two words, by the function that reads them
pub map-two : {A : Type 0} (text_of : A → List ℕ) (words : List A) (a b : A) → 2 ≤ length words → length words < 3
    → a ≡ get_or words 0 a → b ≡ get_or words 1 b → map text_of words ≡ text_of a ∷ text_of b ∷ []
map-two text_of [] a b some few p q = absurd (omega arith)
map-two text_of (x ∷ []) a b some few p q = absurd (omega arith)
map-two text_of (x ∷ y ∷ []) a b some few p q = simp (p, q) refl
map-two text_of (x ∷ y ∷ z ∷ rest) a b some few p q = absurd (omega arith)

-- one word writes no command but the one without a number
pub one_is_script : (a : List ℕ) (form : Form) → IsForm (a ∷ []) form → a ≡ codes "script"
one_is_script a Script form = cc (form.written)
one_is_script a (Fresh g) form = absurd (cc (form.written))
one_is_script a (Demo rounds) form = absurd (cc (form.written))

-- two words write no other command than the demonstration, each word its part
pub record TwoWords (a b : List ℕ) : Type 0 where
  pub rounds : ℕ
  pub name : a ≡ codes "demo"
  pub number : IsNumber b rounds
  pub within : IsBetween 1 rounds 32

pub two_words : (a b : List ℕ) (form : Form) → IsForm (a ∷ b ∷ []) form → TwoWords a b
two_words a b Script form = absurd (cc (form.written))
two_words a b (Fresh g) form = absurd (cc (form.written))
two_words a b (Demo rounds) form = record {
  rounds = rounds;
  name = cc (form.written);
  number = record { written = cc (form.written); short = omega (arith, form.can.to_high) };
  within = form.can;
}

-- two words of another name write nothing
pub no_name : (a b : List ℕ) → (a ≡ codes "demo" → ⊥) → IsNoForm (a ∷ b ∷ [])
no_name a b other form is = other (two_words a b form is).name

-- nor do such whose second writes no number
pub no_number : (a b : List ℕ) → IsNoNumber b → IsNoForm (a ∷ b ∷ [])
no_number a b none form is = let w = two_words a b form is in none w.rounds w.number

-- the number is that of the second word
rounds_are : (a b : List ℕ) (n : ℕ) (form : Form) (is : IsForm (a ∷ b ∷ []) form) → IsNumber b n → (two_words a b form is).rounds ≡ n
rounds_are a b n form is number =
    let w = two_words a b form is in
    decimal_injective _ _ (omega (arith, w.number.short)) (omega (arith, number.short)) (sym w.number.written ∙ number.written)

-- nor do such whose number is too low, or too high
pub no_low : (a b : List ℕ) (n : ℕ) → IsNumber b n → n < 1 → IsNoForm (a ∷ b ∷ [])
no_low a b n number low form is = omega (arith, low, rounds_are a b n form is number, (two_words a b form is).within.from_low)

pub no_high : (a b : List ℕ) (n : ℕ) → IsNumber b n → 32 < n → IsNoForm (a ∷ b ∷ [])
no_high a b n number high form is = omega (arith, high, rounds_are a b n form is number, (two_words a b form is).within.to_high)

-- four words write no other command than one that makes a volume of stated counts, each word its part
pub record FourWords (a b c d : List ℕ) : Type 0 where
  pub geometry : Geometry
  pub name : IsFreshWord a geometry.version
  pub blocks : IsNumber b geometry.blocks
  pub nodes : IsNumber c geometry.nodes
  pub journal : IsNumber d geometry.journal

pub four_words : (a b c d : List ℕ) (form : Form) → IsForm (a ∷ b ∷ c ∷ d ∷ []) form → FourWords a b c d
four_words a b c d Script form = absurd (cc (form.written))
four_words a b c d (Demo rounds) form = absurd (cc (form.written))
four_words a b c d (Fresh g) form = record {
  geometry = g;
  name = record { known = form.can.version; is = cc (form.written) };
  blocks = record { written = cc (form.written); short = form.can.blocks };
  nodes = record { written = cc (form.written); short = form.can.nodes };
  journal = record { written = cc (form.written); short = form.can.journal };
}

-- four words that write the parts of such a command write it
pub as_fresh : (a b c d : List ℕ) (g : Geometry) → IsFreshWord a g.version → IsNumber b g.blocks → IsNumber c g.nodes → IsNumber d g.journal
    → IsForm (a ∷ b ∷ c ∷ d ∷ []) (Fresh g)
as_fresh a b c d g name blocks nodes journal = record {
  written = simp (name.is, blocks.written, nodes.written, journal.written) refl;
  can = record { version = name.known; blocks = blocks.short; nodes = nodes.short; journal = journal.short };
}

-- a version has a word of its own
fresh_word-injective : (v w : ℕ) → IsBetween 1 v 2 → IsBetween 1 w 2 → fresh_word v ≡ fresh_word w → v ≡ w
fresh_word-injective zero w p q e = absurd (omega (arith, p.from_low))
fresh_word-injective (suc zero) zero p q e = absurd (omega (arith, q.from_low))
fresh_word-injective (suc zero) (suc zero) p q e = refl
fresh_word-injective (suc zero) (suc (suc zero)) p q e = absurd (cc e)
fresh_word-injective (suc zero) (suc (suc (suc w))) p q e = absurd (omega (arith, q.to_high))
fresh_word-injective (suc (suc zero)) zero p q e = absurd (omega (arith, q.from_low))
fresh_word-injective (suc (suc zero)) (suc zero) p q e = absurd (cc e)
fresh_word-injective (suc (suc zero)) (suc (suc zero)) p q e = refl
fresh_word-injective (suc (suc zero)) (suc (suc (suc w))) p q e = absurd (omega (arith, q.to_high))
fresh_word-injective (suc (suc (suc v))) w p q e = absurd (omega (arith, p.to_high))

-- words that make a volume say which counts it has
fresh-unique : (words : List (List ℕ)) (g h : Geometry) → IsForm words (Fresh g) → IsForm words (Fresh h) → g ≡ h
fresh-unique words g h p q =
    let same : written_form (Fresh g) ≡ written_form (Fresh h) = sym p.written ∙ q.written in
    let b : g.blocks ≡ h.blocks = decimal_injective _ _ (omega (arith, p.can.blocks)) (omega (arith, q.can.blocks)) (cc same) in
    let n : g.nodes ≡ h.nodes = decimal_injective _ _ (omega (arith, p.can.nodes)) (omega (arith, q.can.nodes)) (cc same) in
    let j : g.journal ≡ h.journal = decimal_injective _ _ (omega (arith, p.can.journal)) (omega (arith, q.can.journal)) (cc same) in
    let v : g.version ≡ h.version = fresh_word-injective _ _ p.can.version q.can.version (cc same) in
    λ i. record { blocks = b i; nodes = n i; journal = j i; version = v i }

demo-unique : (words : List (List ℕ)) (m n : ℕ) → IsForm words (Demo m) → IsForm words (Demo n) → m ≡ n
demo-unique words m n p q =
    let same : written_form (Demo m) ≡ written_form (Demo n) = sym p.written ∙ q.written in
    decimal_injective _ _ (omega (arith, p.can.to_high)) (omega (arith, q.can.to_high)) (cc same)

-- words write one command
pub one_form : (words : List (List ℕ)) (c d : Form) → IsForm words c → IsForm words d → c ≡ d
one_form words Script Script p q = refl
one_form words Script (Fresh g) p q = absurd (cc (p.written, q.written))
one_form words Script (Demo n) p q = absurd (cc (p.written, q.written))
one_form words (Fresh g) Script p q = absurd (cc (p.written, q.written))
one_form words (Fresh g) (Fresh h) p q = ap (λ (x : Geometry). Fresh x) (fresh-unique words g h p q)
one_form words (Fresh g) (Demo n) p q = absurd (cc (p.written, q.written))
one_form words (Demo m) Script p q = absurd (cc (p.written, q.written))
one_form words (Demo m) (Fresh g) p q = absurd (cc (p.written, q.written))
one_form words (Demo m) (Demo n) p q = ap (λ (x : ℕ). Demo x) (demo-unique words m n p q)
