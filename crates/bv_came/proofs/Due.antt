-- The lines of a session that are still to be done.
use Rattle.std.proofs.Common.{◌≡◌, ◌<◌, ℕ, ◌+◌, ◌==◌, ◌&&◌, Bool, true, false, cond, List, [], ◌∷◌, ◌++◌, map, refl, ap, ◌∙◌, arith, ne_eqb}
use Rattle.std.specs.Prelude.{filter}
use Rattle.std.proofs.lemmas.Bool.{eqb-true}
use Rattle.std.proofs.lemmas.List.Elements.{filter-append}
use Rattle.spec_core.specs.declared.event.CoreEvent.{CoreEvent}
use Rattle.spec_core.specs.declared.who.Who.{Who}
use Rattle.spec_script.specs.Lawful.{Rise}
use Rattle.spec_script.specs.declared.line.ScriptLine.{ScriptLine}
use Rattle.spec_session.specs.Conform.{Request, request_of, requests_of}
use Rattle.spec_session.specs.Lines.{Make, Move}
use Rattle.spec_session.specs.Told.{same_who, who_of}

-- the line has made none of these events
abbrev pub IsNew : Who → List CoreEvent → Type 0
IsNew who es = filter (λ x. same_who x.who who) es ≡ []

-- each of these requests is of another line
abbrev pub Apart : Who → List Request → Type 0
Apart who [] = Unit {0}
Apart who (t ∷ ts) = (same_who who t.0 ≡ false) × Apart who ts

-- these requests are of lines of a session, each of another, which have made none of these events
abbrev pub AreDue : ℕ → List CoreEvent → List Request → Type 0
AreDue s es [] = Unit {0}
AreDue s es (t ∷ ts) = (t.0.session ≡ s) × IsNew t.0 es × Apart t.0 ts × AreDue s es ts

-- another line makes none of a line's events
made_none : (who other : Who) (ms : List Move) (es : List CoreEvent) → same_who who other ≡ false → Make who ms es → IsNew other es
made_none who other [] [] apart make = refl
made_none who other [] (e ∷ es) apart make = absurd make
made_none who other (m ∷ ms) [] apart make = refl
made_none who other (m ∷ ms) (e ∷ es) apart make =
    ap (λ (b : Bool). cond b (e ∷ filter (λ x. same_who x.who other) es) (filter (λ x. same_who x.who other) es)) (ap (λ (w : Who). same_who w other) make.0 ∙ apart)
    ∙ made_none who other ms es apart make.3

pub due_after : (s : ℕ) (es more : List CoreEvent) (who : Who) (ms : List Move) (ts : List Request) → Apart who ts → Make who ms more → AreDue s es ts → AreDue s (es ++ more) ts
due_after s es more who ms [] apart make due = tt
due_after s es more who ms (t ∷ ts) apart make due =
    let p : CoreEvent → Bool = λ x. same_who x.who t.0 in
    (due.0, filter-append p es more ∙ (λ i. due.1 i ++ made_none who t.0 ms more apart.0 make i), due.2, due_after s es more who ms ts apart.1 make due.3)

apart_front : (who : Who) (ts us : List Request) → Apart who (ts ++ us) → Apart who ts
apart_front who [] us k = tt
apart_front who (t ∷ ts) us k = (k.0, apart_front who ts us k.1)

pub due_front : (s : ℕ) (es : List CoreEvent) (ts us : List Request) → AreDue s es (ts ++ us) → AreDue s es ts
due_front s es [] us due = tt
due_front s es (t ∷ ts) us due = (due.0, due.1, apart_front t.0 ts us due.2, due_front s es ts us due.3)

-- ---- all lines of a script

lines_apart : (l x : ScriptLine) → ¬ (l.number ≡ x.number) → same_who (who_of l) (who_of x) ≡ false
lines_apart l x other = by_test (l.session == x.session) (ne_eqb l.number x.number other) where
  by_test : (b : Bool) → (l.number == x.number) ≡ false → (b && (l.number == x.number)) ≡ false
  by_test true e = e
  by_test false e = refl

apart_above : (l : ScriptLine) (s n : ℕ) (ls : List ScriptLine) → l.number < n → Rise n ls → Apart (who_of l) (requests_of s ls)
apart_above l s n [] low r = tt
apart_above l s n (x ∷ ls) low r =
    by_test (x.session == s) (lines_apart l x (λ is. absurd (omega (arith, r.0, low, is)))) (apart_above l s (x.number + 1) ls (omega (arith, r.0, low)) r.2) where
      by_test : (c : Bool) → same_who (who_of l) (who_of x) ≡ false → Apart (who_of l) (requests_of s ls) → Apart (who_of l) (map request_of (cond c (x ∷ filter (λ y. y.session == s) ls) (filter (λ y. y.session == s) ls)))
      by_test true one rest = (one, rest)
      by_test false one rest = rest

pub all_due : (s n : ℕ) (ls : List ScriptLine) → Rise n ls → AreDue s [] (requests_of s ls)
all_due s n [] r = tt
all_due s n (l ∷ ls) r = by_test (l.session == s) refl (apart_above l s (l.number + 1) ls (omega arith) r.2) (all_due s (l.number + 1) ls r.2) where
  by_test : (c : Bool) → (l.session == s) ≡ c → Apart (who_of l) (requests_of s ls) → AreDue s [] (requests_of s ls) → AreDue s [] (map request_of (cond c (l ∷ filter (λ y. y.session == s) ls) (filter (λ y. y.session == s) ls)))
  by_test true is one rest = (eqb-true l.session s is, refl, one, rest)
  by_test false is one rest = rest
