-- A session's end, by its own events and by the history.
use Rattle.std.proofs.Common.{◌≡◌, ℕ, ◌==◌, List, [], ◌∷◌, refl, sym, ap, ◌∙◌}
use Rattle.std.specs.Prelude.{Bool, true, false, not}
use Rattle.std.proofs.lemmas.List.{append-nil}
use Rattle.spec_core.specs.History.{History}
use Rattle.spec_core.specs.declared.event.CoreEvent.{CoreEvent}
use Rattle.spec_script.specs.declared.line.ScriptLine.{ScriptLine}
use Rattle.spec_session.specs.Conform.{Request, requests_of, events_of, DoLines, CutLines}
use Rattle.spec_session.specs.declared.end.SessionEnd.{SessionEnd}
use Rattle.spec_session.specs.declared.result.LineResult.{LineResult}
use Rattle.spec_served.specs.Served.{ServeLines, ServeSome}
use Rattle.bv_turn.specs.Entries.{entries_of}
use Rattle.bv_came.specs.Sees.{own_entries}
use Rattle.bv_session.specs.declared.entry.Entry.{Entry}
use Rattle.bv_session.specs.Ends.{Does, Goes}
use Rattle.bv_session.specs.Events.{events_in}
use Rattle.bv_sessions.specs.Ends.{EndsAs}

-- a session's own events are the history's events that are its
pub own_events_are : (session : Entry → ℕ) → ((e : Entry) → session e ≡ e.event.who.session) → (s : ℕ) (es : List Entry)
    → events_in (entries_of session s es) ≡ events_of s (events_in es)
own_events_are session is s [] = refl
own_events_are session is s (e ∷ es) = by_test (e.event.who.session == s) refl (own_events_are session is s es) where
  by_test : (b : Bool) → (e.event.who.session == s) ≡ b → events_in (entries_of session s es) ≡ events_of s (events_in es)
      → events_in (entries_of session s (e ∷ es)) ≡ events_of s (events_in (e ∷ es))
  by_test true same rest = let here : (session e == s) ≡ true = ap (λ n. n == s) (is e) ∙ same in rw (here, same) (ap (λ xs. e.event ∷ xs) rest)
  by_test false other rest = let here : (session e == s) ≡ false = ap (λ n. n == s) (is e) ∙ other in rw (here, other) rest

-- a session's own entries
pub own_entries_are : (session : Entry → ℕ) → ((e : Entry) → session e ≡ e.event.who.session) → (s : ℕ) (es : List Entry)
    → entries_of session s es ≡ own_entries s es
own_entries_are session is s [] = refl
own_entries_are session is s (e ∷ es) = by_test (e.event.who.session == s) refl (own_entries_are session is s es) where
  by_test : (b : Bool) → (e.event.who.session == s) ≡ b → entries_of session s es ≡ own_entries s es
      → entries_of session s (e ∷ es) ≡ own_entries s (e ∷ es)
  by_test true same rest = let here : (session e == s) ≡ true = ap (λ n. n == s) (is e) ∙ same in rw (here, same) (ap (λ xs. e ∷ xs) rest)
  by_test false other rest = let here : (session e == s) ≡ false = ap (λ n. n == s) (is e) ∙ other in rw (here, other) rest

-- all lines are some first lines, and no next one began
all_are_some : (version : ℕ) (ts : List Request) (es : List CoreEvent) → DoLines version [] ts es → CutLines version [] ts es
all_are_some version ts es d = (ts, [], es, [], sym (append-nil ts), sym (append-nil es), d, refl)

-- the same with their results
serve_some : (version : ℕ) (ts : List Request) (es : List CoreEvent) (rs : List LineResult) → ServeLines version [] ts es rs → ServeSome version [] ts es rs
serve_some version ts es rs d = (ts, [], es, [], sym (append-nil ts), sym (append-nil es), d, refl)

does_some : (version : ℕ) (lines : List ScriptLine) (s : ℕ) (whole : Bool) (es : List CoreEvent) → Does version lines s whole es → CutLines version [] (requests_of s lines) es
does_some version lines s true es d = all_are_some version (requests_of s lines) es d
does_some version lines s false es d = d

goes_some : (version : ℕ) (lines : List ScriptLine) (s : ℕ) (whole : Bool) (es : List CoreEvent) (rs : List LineResult) → Goes version lines s whole es rs → ServeSome version [] (requests_of s lines) es rs
goes_some version lines s true es rs g = serve_some version (requests_of s lines) es rs g
goes_some version lines s false es rs g = g

does_all : (version : ℕ) (lines : List ScriptLine) (s : ℕ) (memory : Bool) (es : List CoreEvent) → memory ≡ false → Does version lines s (not memory) es → DoLines version [] (requests_of s lines) es
does_all version lines s true es is d = absurd (cc)
does_all version lines s false es is d = d

goes_all : (version : ℕ) (lines : List ScriptLine) (s : ℕ) (memory : Bool) (es : List CoreEvent) (rs : List LineResult) → memory ≡ false → Goes version lines s (not memory) es rs → ServeLines version [] (requests_of s lines) es rs
goes_all version lines s true es rs is g = absurd (cc)
goes_all version lines s false es rs is g = g

-- a session ended as its own events say
pub ends_as : (lines : List ScriptLine) (h : History) (s : ℕ) (end : SessionEnd) → Does h.version lines s (not end.memory) (events_of s h.events) → Goes h.version lines s (not end.memory) (events_of s h.events) end.results.items → EndsAs lines h s end
ends_as lines h s end d g = record {
  begins = does_some h.version lines s (not end.memory) (events_of s h.events) d;
  some = goes_some h.version lines s (not end.memory) (events_of s h.events) end.results.items g;
  conform = λ is. does_all h.version lines s end.memory (events_of s h.events) is d;
  served = λ is. goes_all h.version lines s end.memory (events_of s h.events) end.results.items is g;
}
