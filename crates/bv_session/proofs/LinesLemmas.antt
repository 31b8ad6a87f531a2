-- The results of a session's lines, one after another, and what they came of.
use Rattle.std.proofs.Common.{◌≡◌, ℕ, ◌+◌, ◌<◌, List, [], ◌∷◌, ◌++◌, length, take, drop, get_or, refl, sym, ap, ◌∙◌, subst, inl, inr, append_assoc}
use Rattle.std.specs.Prelude.{Bool, true, false}
use Rattle.std.proofs.lemmas.List.{take_more, take-append-drop}
use Rattle.spec_core.specs.declared.event.CoreEvent.{CoreEvent}
use Rattle.spec_script.specs.declared.line.ScriptLine.{ScriptLine}
use Rattle.spec_session.specs.Conform.{Request, request_of, requests_of}
use Rattle.spec_session.specs.declared.result.LineResult.{LineResult}
use Rattle.spec_served.specs.Served.{ServesLine}
use Rattle.bv_session.specs.declared.entry.Basis.{Basis}
use Rattle.bv_session.specs.declared.entry.Entry.{Entry}
use Rattle.bv_session.specs.Events.{events_in}
use Rattle.bv_session.specs.Shown.{LineShows, ShowLines, ShowSome, ShowsLine}
use Rattle.bv_session.proofs.EndLemmas.{requests-append, request_no, request_yes}
use Rattle.bv_session.proofs.PageLemmas.{append_nil, behind}

-- one line more
ShowLines-push : (b : Basis) (version : ℕ) (old : List Entry) (ts : List Request) (t : Request) (es xs : List Entry) (rs : List LineResult) (r : LineResult)
    → ShowLines b version old ts es rs → ServesLine version (events_in (old ++ es)) t (events_in xs) r → LineShows b (old ++ es) t xs r → ShowLines b version old (ts ++ t ∷ []) (es ++ xs) (rs ++ r ∷ [])
ShowLines-push b version old [] t es xs rs r d l s =
    let same : old ++ es ≡ old = ap (λ ys. old ++ ys) d.0 ∙ sym (append_nil old) in
    let one : ShowLines b version old (t ∷ []) (es ++ xs) (r ∷ []) =
    (xs, [], ap (λ ys. ys ++ xs) d.0 ∙ append_nil xs, subst (λ (o : List Entry). ServesLine version (events_in o) t (events_in xs) r) same l, subst (λ (o : List Entry). LineShows b o t xs r) same s, (refl, refl)) in
    subst (λ (qs : List LineResult). ShowLines b version old (t ∷ []) (es ++ xs) (qs ++ r ∷ [])) (sym d.1) one
ShowLines-push b version old (u ∷ ts) t es xs [] r d l s = absurd d
ShowLines-push b version old (u ∷ ts) t es xs (q ∷ qs) r d l s =
    let same : old ++ es ≡ (old ++ d.0) ++ d.1 = ap (λ ys. old ++ ys) d.2 ∙ sym (append_assoc old d.0 d.1) in (
      d.0,
      d.1 ++ xs,
      ap (λ ys. ys ++ xs) d.2 ∙ append_assoc d.0 d.1 xs,
      d.3,
      d.4,
      ShowLines-push b version (old ++ d.0) ts t d.1 xs qs r d.5 (subst (λ (o : List Entry). ServesLine version (events_in o) t (events_in xs) r) same l) (subst (λ (o : List Entry). LineShows b o t xs r) same s),
    )

module _ (b : Basis) (version s : ℕ) (lines : List ScriptLine) where
  -- all lines before one
  abbrev pub ShownTo : ℕ → List Entry → List LineResult → Type 0
  ShownTo i es rs = ShowLines b version [] (requests_of s (take i lines)) es rs

  -- no line yet
  pub shown_none : (es : List Entry) (rs : List LineResult) → es ≡ [] → rs ≡ [] → ShownTo 0 es rs
  shown_none es rs none empty = (none, empty)

  -- some first lines, and entries behind them
  pub shown_some : (i : ℕ) (es now more : List Entry) (rs : List LineResult) → ShownTo i es rs → now ≡ es ++ more → ShowSome b version [] (requests_of s lines) now rs
  shown_some i es now more rs shown is =
      (requests_of s (take i lines), requests_of s (drop i lines), es, more, ap (requests_of s) (sym (take-append-drop i lines)) ∙ requests-append s (take i lines) (drop i lines), is, shown)

  pub shown_all : (i : ℕ) (es : List Entry) (rs : List LineResult) → ShownTo i es rs → ShowSome b version [] (requests_of s lines) es rs
  shown_all i es rs shown = shown_some i es es [] rs shown (append_nil es)

  module _ (i : ℕ) (item : ScriptLine) (low : i < length lines) (is : item ≡ get_or lines i item) where
    taken : take (i + 1) lines ≡ take i lines ++ item ∷ []
    taken = take_more lines i item low ∙ ap (λ (x : ScriptLine). take i lines ++ x ∷ []) (sym is)

    next_yes : item.session ≡ s → requests_of s (take (i + 1) lines) ≡ requests_of s (take i lines) ++ request_of item ∷ []
    next_yes y = ap (requests_of s) taken ∙ requests-append s (take i lines) (item ∷ []) ∙ ap (λ (ts : List Request). requests_of s (take i lines) ++ ts) (request_yes s item y)

    next_no : ¬ (item.session ≡ s) → requests_of s (take (i + 1) lines) ≡ requests_of s (take i lines)
    next_no n = ap (requests_of s) taken ∙ requests-append s (take i lines) (item ∷ []) ∙ ap (λ (ts : List Request). requests_of s (take i lines) ++ ts) (request_no s item n) ∙ sym (append_nil _)

    -- the next line was done
    pub shown_on : (es now : List Entry) (rs qs : List LineResult) → ShownTo i es rs → ShowsLine b version s item true es now rs qs → ShownTo (i + 1) now qs
    shown_on es now rs qs shown (inl g) =
        let r = g.1.0 in let ends = g.1.2 in let more = g.1.3.0 in
        let part : events_in more ≡ ends.since.part = behind es now more ends.since.part g.1.3.1 ends.since.is in
        let serves : ServesLine version (events_in es) (request_of item) (events_in more) r =
        subst (λ (x : List CoreEvent). ServesLine version (events_in es) (request_of item) x r) (sym part) (ends.moves, ends.allowed.0, ends.since.make, ends.allowed.1) in
        let next : ShowLines b version [] (requests_of s (take i lines) ++ request_of item ∷ []) (es ++ more) (rs ++ r ∷ []) =
        ShowLines-push b version [] (requests_of s (take i lines)) (request_of item) es more rs r shown serves g.1.3.2 in
        subst (λ (x : List Request × List Entry × List LineResult). ShowLines b version [] x.0 x.1 x.2) (λ j. (sym (next_yes g.0) j, sym g.1.3.1 j, sym g.1.1 j)) next
    shown_on es now rs qs shown (inr g) =
        subst (λ (x : List Request × List Entry × List LineResult). ShowLines b version [] x.0 x.1 x.2) (λ j. (sym (next_no g.0) j, sym g.1 j, sym g.2 j)) shown

    -- it was cut short
    pub shown_cut : (es now : List Entry) (rs qs : List LineResult) → ShownTo i es rs → ShowsLine b version s item false es now rs qs → ShowSome b version [] (requests_of s lines) now qs
    shown_cut es now rs qs shown g =
        subst (λ (x : List LineResult). ShowSome b version [] (requests_of s lines) now x) (sym g.0) (shown_some i es now g.1.0 rs shown g.1.1)

-- the session of a share is what it was
pub shows_session : (b : Basis) (version s t : ℕ) (l : ScriptLine) (whole : Bool) (es now : List Entry) (rs qs : List LineResult) → s ≡ t → ShowsLine b version s l whole es now rs qs → ShowsLine b version t l whole es now rs qs
shows_session b version s t l whole es now rs qs same = subst (λ (x : ℕ). ShowsLine b version x l whole es now rs qs) same
