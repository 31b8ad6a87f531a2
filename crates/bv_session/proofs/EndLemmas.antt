-- The lines of a session, one after another.
use Rattle.std.proofs.Common.{◌≡◌, ℕ, suc, zero, ◌+◌, ◌<◌, ◌==◌, List, [], ◌∷◌, ◌++◌, length, map, take, drop, refl, sym, ap, ◌∙◌, subst, arith, append_assoc, get_or, eq-eqb, ne_eqb, inl, inr, ◌≤◌, take_all}
use Rattle.std.specs.Prelude.{Bool, true, false, not, Ok, Err}
use Rattle.std.proofs.lemmas.List.{take_more, take-append-drop, map-append}
use Rattle.std.proofs.lemmas.List.Elements.{filter-append}
use Rattle.spec_core.specs.declared.event.CoreEvent.{CoreEvent}
use Rattle.spec_script.specs.declared.line.ScriptLine.{ScriptLine}
use Rattle.spec_script.specs.Lawful.{AreLawful, IsLine}
use Rattle.spec_session.specs.Conform.{Request, request_of, requests_of, DoLines, CutsNext}
use Rattle.spec_session.specs.declared.result.LineResult.{LineResult}
use Rattle.spec_served.specs.Served.{ServesLine, ServeLines, ServeSome}
use Rattle.std.specs.declared.alloc.AllocError.{AllocError}
use Rattle.std.specs.List.{AllByRecursion}
use Rattle.bv_session.specs.Ends.{Does, EndsLine, Goes, GoesLine}
use Rattle.bv_session.specs.Sessions.{LineAnswer}
use Rattle.bv_session.proofs.LineLemmas.{cut_none}

append_nil : {A : Type 0} (xs : List A) → xs ≡ xs ++ []
append_nil [] = refl
append_nil (x ∷ xs) = ap (λ ys. x ∷ ys) (append_nil xs)

-- one line more
ServeLines-push : (version : ℕ) (own : List CoreEvent) (ts : List Request) (t : Request) (es xs : List CoreEvent) (rs : List LineResult) (r : LineResult)
    → ServeLines version own ts es rs → ServesLine version (own ++ es) t xs r → ServeLines version own (ts ++ t ∷ []) (es ++ xs) (rs ++ r ∷ [])
ServeLines-push version own [] t es xs rs r d l =
    let one : ServeLines version own (t ∷ []) (es ++ xs) (r ∷ []) =
    (xs, [], ap (λ ys. ys ++ xs) d.0 ∙ append_nil xs, subst (λ (o : List CoreEvent). ServesLine version o t xs r) (ap (λ ys. own ++ ys) d.0 ∙ sym (append_nil own)) l, (refl, refl)) in
    subst (λ (qs : List LineResult). ServeLines version own (t ∷ []) (es ++ xs) (qs ++ r ∷ [])) (sym d.1) one
ServeLines-push version own (u ∷ ts) t es xs [] r d l = absurd d
ServeLines-push version own (u ∷ ts) t es xs (q ∷ qs) r d l = (
  d.0,
  d.1 ++ xs,
  ap (λ ys. ys ++ xs) d.2 ∙ append_assoc d.0 d.1 xs,
  d.3,
  ServeLines-push version (own ++ d.0) ts t d.1 xs qs r d.4 (subst (λ (o : List CoreEvent). ServesLine version o t xs r) (ap (λ ys. own ++ ys) d.2 ∙ sym (append_assoc own d.0 d.1)) l),
)

-- lines that have results were done
serve_does : (version : ℕ) (own : List CoreEvent) (ts : List Request) (es : List CoreEvent) (rs : List LineResult) → ServeLines version own ts es rs → DoLines version own ts es
serve_does version own [] es rs d = d.0
serve_does version own (t ∷ ts) es [] d = absurd d
serve_does version own (t ∷ ts) es (r ∷ rs) d =
    (d.0, d.1, d.2, (d.3.0, d.3.1, d.3.2), serve_does version (own ++ d.0) ts d.1 rs d.4)

-- a session whose lines have their results did them
pub goes_does : (version : ℕ) (lines : List ScriptLine) (s : ℕ) (whole : Bool) (es : List CoreEvent) (rs : List LineResult) → Goes version lines s whole es rs → Does version lines s whole es
goes_does version lines s true es rs g = serve_does version [] (requests_of s lines) es rs g
goes_does version lines s false es rs g = (g.0, g.1, g.2, g.3, g.4, g.5, serve_does version [] g.0 g.2 rs g.6, g.7)

-- a session's requests, of two lists of lines
pub requests-append : (s : ℕ) (xs ys : List ScriptLine) → requests_of s (xs ++ ys) ≡ requests_of s xs ++ requests_of s ys
requests-append s xs ys = ap (λ ls. map request_of ls) (filter-append (λ (l : ScriptLine). l.session == s) xs ys) ∙ map-append request_of _ _

-- a line of this session is a request of it
pub request_yes : (s : ℕ) (l : ScriptLine) → l.session ≡ s → requests_of s (l ∷ []) ≡ request_of l ∷ []
request_yes s l is = let e : (l.session == s) ≡ true = eq-eqb l.session s is in rw e refl

-- a line of another session isn't
pub request_no : (s : ℕ) (l : ScriptLine) → ¬ (l.session ≡ s) → requests_of s (l ∷ []) ≡ []
request_no s l other = let e : (l.session == s) ≡ false = ne_eqb l.session s other in rw e refl

module _ (version s : ℕ) (lines : List ScriptLine) (i : ℕ) (d : ScriptLine) (low : i < length lines) where
  taken : take (i + 1) lines ≡ take i lines ++ get_or lines i d ∷ []
  taken = take_more lines i d low

  pub more_yes : (es now : List CoreEvent) (rs : List LineResult) (r : LineResult) → (get_or lines i d).session ≡ s → ServeLines version [] (requests_of s (take i lines)) es rs
      → EndsLine version (get_or lines i d) (Ok r) es now
      → ServeLines version [] (requests_of s (take (i + 1) lines)) now (rs ++ r ∷ [])
  more_yes es now rs r is done e =
      let t = request_of (get_or lines i d) in
      let all : requests_of s (take (i + 1) lines) ≡ requests_of s (take i lines) ++ t ∷ [] =
      ap (requests_of s) taken ∙ requests-append s (take i lines) (get_or lines i d ∷ []) ∙ ap (λ (ts : List Request). requests_of s (take i lines) ++ ts) (request_yes s (get_or lines i d) is) in
      subst (λ (x : List Request × List CoreEvent). ServeLines version [] x.0 x.1 (rs ++ r ∷ [])) (λ j. (sym all j, sym e.since.is j))
      (ServeLines-push version [] (requests_of s (take i lines)) t es e.since.part rs r done (e.moves, e.allowed.0, e.since.make, e.allowed.1))

  pub more_no : (es : List CoreEvent) (rs : List LineResult) → ¬ ((get_or lines i d).session ≡ s) → ServeLines version [] (requests_of s (take i lines)) es rs
      → ServeLines version [] (requests_of s (take (i + 1) lines)) es rs
  more_no es rs other done =
      let all : requests_of s (take (i + 1) lines) ≡ requests_of s (take i lines) =
      ap (requests_of s) taken ∙ requests-append s (take i lines) (get_or lines i d ∷ []) ∙ ap (λ (ts : List Request). requests_of s (take i lines) ++ ts) (request_no s (get_or lines i d) other) ∙ sym (append_nil _) in
      subst (λ (x : List Request). ServeLines version [] x es rs) (sym all) done

  -- the line was cut short
  pub cut_at : (es now : List CoreEvent) (rs : List LineResult) (x : AllocError) → (get_or lines i d).session ≡ s → ServeLines version [] (requests_of s (take i lines)) es rs
      → EndsLine version (get_or lines i d) (Err x) es now
      → ServeSome version [] (requests_of s lines) now rs
  cut_at es now rs x is done e =
      let l = get_or lines i d in let rest = requests_of s (drop (i + 1) lines) in
      let whole : requests_of s lines ≡ requests_of s (take i lines) ++ request_of l ∷ rest =
      ap (requests_of s) (sym (take-append-drop (i + 1) lines)) ∙ requests-append s (take (i + 1) lines) (drop (i + 1) lines)
      ∙ ap (λ (ts : List Request). ts ++ rest) (ap (requests_of s) taken ∙ requests-append s (take i lines) (l ∷ []) ∙ ap (λ (ts : List Request). requests_of s (take i lines) ++ ts) (request_yes s l is))
      ∙ append_assoc (requests_of s (take i lines)) (request_of l ∷ []) rest in
      (requests_of s (take i lines), request_of l ∷ rest, es, e.since.part, whole, e.since.is, done, (e.moves, e.allowed, e.since.make))

-- the next line, if there is one, made no event
cuts_none : (version : ℕ) (own : List CoreEvent) (ts : List Request) → CutsNext version own ts []
cuts_none version own [] = refl
cuts_none version own (t ∷ ts) = ([], cut_none version own t.1, tt)

-- some first lines were done, and no more
pub cut_after : (version s : ℕ) (lines : List ScriptLine) (n : ℕ) (es : List CoreEvent) (rs : List LineResult) → ServeLines version [] (requests_of s (take n lines)) es rs → ServeSome version [] (requests_of s lines) es rs
cut_after version s lines n es rs done =
    (requests_of s (take n lines), requests_of s (drop n lines), es, [], ap (requests_of s) (sym (take-append-drop n lines)) ∙ requests-append s (take n lines) (drop n lines), append_nil es, done, cuts_none version es (requests_of s (drop n lines)))

-- the same, for the item of a loop
module _ (version s : ℕ) (lines ls : List ScriptLine) (i : ℕ) (item : ScriptLine) (same : ls ≡ lines) (low : i < length ls) (is : item ≡ get_or ls i item)
    (es now : List CoreEvent) (rs qs : List LineResult) (done : ServeLines version [] (requests_of s (take i lines)) es rs) where
  at : item ≡ get_or lines i item
  at = is ∙ ap (λ (x : List ScriptLine). get_or x i item) same

  below : i < length lines
  below = subst (λ (x : List ScriptLine). i < length x) same low

  ends_at : (answer : LineAnswer) → EndsLine version item answer es now → EndsLine version (get_or lines i item) answer es now
  ends_at answer = subst (λ (x : ScriptLine). EndsLine version x answer es now) at

  session_at : item.session ≡ s → (get_or lines i item).session ≡ s
  session_at y = ap (λ (x : ScriptLine). x.session) (sym at) ∙ y

  pub goes_on : GoesLine version s item true es now rs qs → ServeLines version [] (requests_of s (take (i + 1) lines)) now qs
  goes_on (inl g) =
      subst (λ (x : List LineResult). ServeLines version [] (requests_of s (take (i + 1) lines)) now x) (sym g.1.1)
      (more_yes version s lines i item below es now rs g.1.0 (session_at g.0) done (ends_at (Ok g.1.0) g.1.2))
  goes_on (inr g) =
      subst (λ (x : List CoreEvent × List LineResult). ServeLines version [] (requests_of s (take (i + 1) lines)) x.0 x.1) (λ j. (sym g.1 j, sym g.2 j))
      (more_no version s lines i item below es rs (λ y. g.0 (ap (λ (x : ScriptLine). x.session) at ∙ y)) done)

  pub goes_out : GoesLine version s item false es now rs qs → ServeSome version [] (requests_of s lines) now qs
  goes_out (noted, inl g) =
      subst (λ (x : List LineResult). ServeSome version [] (requests_of s lines) now x) (sym noted)
      (cut_at version s lines i item below es now rs g.1.0 (session_at g.0) done (ends_at (Err g.1.0) g.1.1))
  goes_out (noted, inr none) =
      subst (λ (x : List CoreEvent × List LineResult). ServeSome version [] (requests_of s lines) x.0 x.1) (λ j. (sym none j, sym noted j))
      (cut_after version s lines i es rs done)

-- all lines were done
pub all_done : (version s : ℕ) (lines : List ScriptLine) (i : ℕ) (es : List CoreEvent) (rs : List LineResult) → length lines ≤ i → ServeLines version [] (requests_of s (take i lines)) es rs → ServeLines version [] (requests_of s lines) es rs
all_done version s lines i es rs low done = subst (λ (ls : List ScriptLine). ServeLines version [] (requests_of s ls) es rs) (take_all i lines low) done

-- the session of a share is what it was
pub session_is : (version s t : ℕ) (l : ScriptLine) (whole : Bool) (old now : List CoreEvent) (rs qs : List LineResult) → s ≡ t → GoesLine version s l whole old now rs qs → GoesLine version t l whole old now rs qs
session_is version s t l whole old now rs qs same = subst (λ (x : ℕ). GoesLine version x l whole old now rs qs) same

lawful_get : (lines : List ScriptLine) (i : ℕ) (d : ScriptLine) → AllByRecursion IsLine lines → i < length lines → IsLine (get_or lines i d)
lawful_get [] i d all low = absurd (omega arith)
lawful_get (x ∷ xs) zero d all low = all.0
lawful_get (x ∷ xs) (suc i) d all low = lawful_get xs i d all.1 (omega arith)

-- each line of a lawful script is lawful
pub lawful_at : (lines ls : List ScriptLine) (i : ℕ) (item : ScriptLine) → ls ≡ lines → i < length ls → item ≡ get_or ls i item → AreLawful lines → IsLine item
lawful_at lines ls i item same low is all =
    subst IsLine (sym is) (lawful_get ls i item (subst AreLawful (sym same) all).each low)

-- a flag that is turned round twice
pub goes_not_not : (version : ℕ) (lines : List ScriptLine) (s : ℕ) (whole : Bool) (es : List CoreEvent) (rs : List LineResult) → Goes version lines s whole es rs → Goes version lines s (not (not whole)) es rs
goes_not_not version lines s true es rs g = g
goes_not_not version lines s false es rs g = g
