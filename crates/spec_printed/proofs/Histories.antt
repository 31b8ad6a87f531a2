-- The printed history is read again, line by line.
use Rattle.std.proofs.Common.{◌≡◌, ℕ, ◌+◌, ◌≤◌, ◌^◌, Bool, true, false, not, eqb, ◌&&◌, List, [], ◌∷◌, ◌++◌, length, map, Option, Some, None, All, codes, refl, sym, ap, ◌∙◌, arith, append_assoc}
use Rattle.std.specs.List.{AllByRecursion, join_with_byte, list_all, slice_split}
use Rattle.std.proofs.lemmas.Bool.{and_parts}
use Rattle.std.proofs.lemmas.List.Elements.{All-from_recursion}
use Rattle.std.proofs.lemmas.List.Splits.{slice_split_at, slice_split_none}
use Rattle.spec_core.specs.History.{History}
use Rattle.spec_core.specs.declared.event.CoreEvent.{CoreEvent}
use Rattle.spec_script.proofs.WordsAgain.{join_pass, split_join}
use Rattle.spec_session.specs.Text.{event_text, events_text, history_text}
use Rattle.spec_printed.specs.Printed.{BeganAlike, IsEvent, IsShort, OfTheMachine}
use Rattle.spec_printed.specs.Reading.{Words, read_events, read_line, read_words, somes}
use Rattle.spec_printed.proofs.EventWords.{IsPlain, is_plain, event_again, event_joined, event_plain, event_words}

-- the line of an event, without its newline
abbrev line_of : ℕ → CoreEvent → List ℕ
line_of number e = join_with_byte 32 (event_words number e)

-- ---- words

no_space : (word : List ℕ) → IsPlain word → list_all (λ b. not (eqb b 32)) word ≡ true
no_space [] plain = refl
no_space (b ∷ word) plain =
    let h = and_parts (is_plain b) (list_all is_plain word) plain in
    let p = and_parts (not (eqb b 32)) (not (eqb b 10)) h.0 in
    ap (λ c. c && list_all (λ b. not (eqb b 32)) word) p.0 ∙ no_space word h.1

no_spaces : (words : Words) → AllByRecursion IsPlain words → AllByRecursion (λ w. list_all (λ b. not (eqb b 32)) w ≡ true) words
no_spaces [] plain = tt
no_spaces (w ∷ words) plain = (no_space w plain.0, no_spaces words plain.1)

no_newline : (word : List ℕ) → IsPlain word → list_all (λ b. not (eqb b 10)) word ≡ true
no_newline [] plain = refl
no_newline (b ∷ word) plain =
    let h = and_parts (is_plain b) (list_all is_plain word) plain in
    let p = and_parts (not (eqb b 32)) (not (eqb b 10)) h.0 in
    ap (λ c. c && list_all (λ b. not (eqb b 10)) word) p.1 ∙ no_newline word h.1

no_newlines : (words : Words) → AllByRecursion IsPlain words → AllByRecursion (λ w. list_all (λ b. not (eqb b 10)) w ≡ true) words
no_newlines [] plain = tt
no_newlines (w ∷ words) plain = (no_newline w plain.0, no_newlines words plain.1)

-- ---- lines

not_newline : (b : Bool) → not b ≡ true → b ≡ false
not_newline true e = absurd (cc e)
not_newline false e = refl

none_at : (xs : List ℕ) → list_all (λ b. not (eqb b 10)) xs ≡ true → AllByRecursion (λ b. eqb b 10 ≡ false) xs
none_at [] e = tt
none_at (x ∷ xs) e =
    let h = and_parts (not (eqb x 10)) (list_all (λ b. not (eqb b 10)) xs) e in
    (not_newline (eqb x 10) h.0, none_at xs h.1)

line_again : (number : ℕ) (e : CoreEvent) → IsShort number → IsEvent e → read_line (line_of number e) ≡ Some e
line_again number e short is =
    ap read_words (split_join 32 (event_words number e) (omega arith) (no_spaces (event_words number e) (event_plain number e short is)))
    ∙ event_again number e is

line_whole : (number : ℕ) (e : CoreEvent) → IsShort number → IsEvent e → All (λ b. eqb b 10 ≡ false) (line_of number e)
line_whole number e short is =
    All-from_recursion (λ b. eqb b 10 ≡ false) (line_of number e)
    (none_at (line_of number e) (join_pass (λ b. not (eqb b 10)) 32 (event_words number e) refl (no_newlines (event_words number e) (event_plain number e short is))))

-- the text behind the first line
event_first : (number : ℕ) (e : CoreEvent) (rest : List ℕ) → event_text number e ++ rest ≡ line_of number e ++ 10 ∷ rest
event_first number e rest = ap (λ (t : List ℕ). t ++ rest) (event_joined number e) ∙ append_assoc (line_of number e) (codes "\n") rest

-- what is read of a text
abbrev read_all : List (List ℕ) → List CoreEvent
read_all lines = somes (map read_line lines)

somes_some : (o : Option CoreEvent) (e : CoreEvent) (os : List (Option CoreEvent)) → o ≡ Some e → somes (o ∷ os) ≡ e ∷ somes os
somes_some (Some x) e os is = ap (λ (o : Option CoreEvent). somes (o ∷ os)) is
somes_some None e os is = absurd (cc is)

events_again : (number : ℕ) (es : List CoreEvent) → number + length es ≤ 2 ^ 64 → AllByRecursion IsEvent es → read_all (slice_split (λ b. eqb b 10) (events_text number es)) ≡ es
events_again number [] few each = refl
events_again number (e ∷ es) few each =
    let short : IsShort number = omega (arith, few) in
    let rest : List ℕ = events_text (number + 1) es in
    let cut : slice_split (λ b. eqb b 10) (events_text number (e ∷ es)) ≡ line_of number e ∷ slice_split (λ b. eqb b 10) rest =
    ap (slice_split (λ b. eqb b 10)) (event_first number e rest)
    ∙ slice_split_at (λ b. eqb b 10) (line_of number e) 10 rest (line_whole number e short each.0) refl in
    ap read_all cut
    ∙ (somes_some (read_line (line_of number e)) e (map read_line (slice_split (λ b. eqb b 10) rest)) (line_again number e short each.0)
    ∙ ap (λ (xs : List CoreEvent). e ∷ xs) (events_again (number + 1) es (omega (arith, few)) each.1))

-- the first line is no event's
abbrev head_line : List ℕ
head_line = codes "history"

head_whole : All (λ b. eqb b 10 ≡ false) head_line
head_whole = All-from_recursion (λ b. eqb b 10 ≡ false) head_line (refl, (refl, (refl, (refl, (refl, (refl, (refl, tt)))))))

head_none : read_line head_line ≡ None
head_none = ap read_words (slice_split_none (λ b. eqb b 32) head_line (All-from_recursion (λ b. eqb b 32 ≡ false) head_line (refl, (refl, (refl, (refl, (refl, (refl, (refl, tt)))))))))

pub printed_is_read : (events : List CoreEvent) → OfTheMachine events → read_events (history_text events) ≡ events
printed_is_read events is =
    let rest : List ℕ = events_text 1 events in
    let cut : slice_split (λ b. eqb b 10) (history_text events) ≡ head_line ∷ slice_split (λ b. eqb b 10) rest =
    slice_split_at (λ b. eqb b 10) head_line 10 rest head_whole refl in
    ap read_all cut
    ∙ (ap (λ (o : Option CoreEvent). somes (o ∷ map read_line (slice_split (λ b. eqb b 10) rest))) head_none
    ∙ events_again 1 events (omega (arith, is.few)) is.each)

pub print_fixes : (h g : History) → BeganAlike h g → OfTheMachine h.events → OfTheMachine g.events → history_text h.events ≡ history_text g.events → h ≡ g
print_fixes h g began is also same =
    let events : h.events ≡ g.events = sym (printed_is_read h.events is) ∙ (ap read_events same ∙ printed_is_read g.events also) in
    λ k. record { opening = began.opening k; blocks = began.blocks k; nodes = began.nodes k; version = began.version k; events = events k }
