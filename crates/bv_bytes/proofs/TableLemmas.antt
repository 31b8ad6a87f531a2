-- The tables: each word is what its steps make of its byte, which a test shows of a whole table.
use Rattle.std.proofs.Common.{◌≡◌, ◌<◌, ℕ, zero, suc, ◌+◌, ◌*◌, List, [], ◌∷◌, length, Bool, true, false, ◌&&◌, IsTrue, eqb, get_or, refl, ◌∙◌, ap, arith}
use Rattle.bv_bytes.specs.Crc.{shifts}

-- these words are those of so many steps, of the bytes from this one on
abbrev pub words_are : ℕ → ℕ → List ℕ → Bool
words_are steps byte [] = true
words_are steps byte (word ∷ words) = eqb word (shifts steps byte) && words_are steps (byte + 1) words

first : (a b : Bool) → IsTrue (a && b) → IsTrue a
first true b h = refl
first false b h = absurd cc

second : (a b : Bool) → IsTrue (a && b) → IsTrue b
second true true h = refl
second true false h = absurd cc
second false b h = absurd cc

word_from : (steps byte : ℕ) (words : List ℕ) (i : ℕ) → IsTrue (words_are steps byte words) → i < length words → get_or words i 0 ≡ shifts steps (byte + i)
word_from steps byte [] i h lt = absurd (omega (arith, lt))
word_from steps byte (word ∷ words) zero h lt =
    let same : IsTrue (eqb word (shifts steps byte)) = first (eqb word (shifts steps byte)) (words_are steps (byte + 1) words) h in
    let e : word ≡ shifts steps byte = grind (arith, same) in
    e ∙ ap (shifts steps) (omega arith)
word_from steps byte (word ∷ words) (suc i) h lt =
    word_from steps (byte + 1) words i (second (eqb word (shifts steps byte)) (words_are steps (byte + 1) words) h) (omega (arith, lt)) ∙ ap (shifts steps) (omega arith)

-- these tables are of all bytes and of so many steps, and of eight more each
abbrev pub tables_are : ℕ → List (List ℕ) → Bool
tables_are steps [] = true
tables_are steps (table ∷ tables) = eqb (length table) 256 && (words_are steps 0 table && tables_are (steps + 8) tables)

-- the word of a byte in table k
pub word_at : (steps : ℕ) (tables : List (List ℕ)) (k byte : ℕ) → IsTrue (tables_are steps tables) → k < length tables → byte < 256 → get_or (get_or tables k []) byte 0 ≡ shifts (steps + 8 * k) byte
word_at steps [] k byte h lt fits = absurd (omega (arith, lt))
word_at steps (table ∷ tables) zero byte h lt fits =
    let long : IsTrue (eqb (length table) 256) = first (eqb (length table) 256) (words_are steps 0 table && tables_are (steps + 8) tables) h in
    let here : IsTrue (words_are steps 0 table) = first (words_are steps 0 table) (tables_are (steps + 8) tables) (second (eqb (length table) 256) (words_are steps 0 table && tables_are (steps + 8) tables) h) in
    let len : length table ≡ 256 = grind (arith, long) in
    word_from steps 0 table byte here (omega arith) ∙ ap (λ (n : ℕ). shifts n (0 + byte)) (omega arith) ∙ ap (shifts (steps + 8 * 0)) (omega arith)
word_at steps (table ∷ tables) (suc k) byte h lt fits =
    let rest : IsTrue (tables_are (steps + 8) tables) = second (words_are steps 0 table) (tables_are (steps + 8) tables) (second (eqb (length table) 256) (words_are steps 0 table && tables_are (steps + 8) tables) h) in
    word_at (steps + 8) tables k byte rest (omega (arith, lt)) fits ∙ ap (λ (n : ℕ). shifts n byte) (omega arith)
