-- Shares that came back, each at its place, and how their sessions ended.
use Rattle.std.proofs.Common.{◌≡◌, ℕ, zero, suc, ◌<◌, ◌⊎◌, List, [], ◌∷◌, ◌++◌, length, refl, sym, ap, ◌∙◌, subst, arith, slice_get, slice_index_or, Some}
use Rattle.std.specs.List.{All}
use Rattle.std.specs.Prelude.{IfSome}
use Rattle.std.proofs.lemmas.List.Elements.{All-cons, All-map}
use Rattle.spec_core.specs.declared.event.CoreEvent.{CoreEvent}
use Rattle.spec_headline.specs.Run.{HasNoUnmount}
use Rattle.spec_script.specs.declared.line.ScriptLine.{ScriptLine}
use Rattle.spec_session.specs.Conform.{events_of, requests_of}
use Rattle.spec_session.specs.Text.{results_in, results_of}
use Rattle.spec_session.specs.declared.end.SessionEnd.{SessionEnd}
use Rattle.spec_session.specs.declared.result.LineResult.{LineResult}
use Rattle.bv_came.specs.Sees.{SessionsShow, own_entries}
use Rattle.bv_claims.specs.declared.claims.Claims.{Claims}
use Rattle.bv_turn.specs.declared.keeps.Keeps.{Ghosts}
use Rattle.bv_turn.specs.declared.turn.Share.{Share}
use Rattle.bv_turn.specs.declared.turn.Turn.{Turn}
use Rattle.bv_turn.specs.Entries.{entries_of}
use Rattle.bv_turn.specs.Tokens.{IsOf, IsIdle, session_of, list_of, basis_of, KnowsEntries, KnowsBasis, HasShare, AreFresh}
use Rattle.bv_session.specs.declared.entry.Basis.{Basis}
use Rattle.bv_session.specs.declared.entry.Entry.{Entry}
use Rattle.bv_session.specs.declared.session.Ended.{Ended}
use Rattle.bv_session.specs.Ends.{IsReady, ComesBack, EndOf, Does, Goes}
use Rattle.bv_session.specs.Events.{events_in, history_of}
use Rattle.bv_session.specs.Sessions.{own}
use Rattle.bv_session.specs.Shown.{ShowSome}
use Rattle.std.specs.Prelude.{not}
use Rattle.bv_sessions.specs.Backs.{ComeBack}
use Rattle.bv_sessions.specs.Ends.{AllEnd}
use Rattle.bv_sessions.proofs.EndsLemmas.{own_entries_are, own_events_are, ends_as}

module _ {A : Type 0} where
  index_from_get : (xs : List A) (n : ℕ) (x d : A) → slice_get xs n ≡ Some x → slice_index_or xs n d ≡ x
  index_from_get [] n x d at = absurd (cc)
  index_from_get (y ∷ ys) zero x d at = cc
  index_from_get (y ∷ ys) (suc n) x d at = index_from_get ys n x d at

  -- a fact of all elements is a fact of the one at a place
  at_place : (P : A → Type 0) (xs : List A) (n : ℕ) (x : A) → All P xs → slice_get xs n ≡ Some x → n < length xs → P x
  at_place P xs n x all at low = subst P (index_from_get xs n x x at) (all n x low)

  below_length : (xs : List A) (n : ℕ) (x : A) → slice_get xs n ≡ Some x → n < length xs
  below_length [] n x at = absurd (cc)
  below_length (y ∷ ys) zero x at = omega arith
  below_length (y ∷ ys) (suc n) x at = let r = below_length ys n x at in omega arith

-- a promise or a closure that is given back speaks of the values that it was made of
pub moved : {T : Type 0} {k : Ghosts T Entry Basis} {t t' : Turn T Entry Basis} {lines lines' : List ScriptLine} {version version' : ℕ} {s s' : Share T Entry Basis k} {e e' : Ended T Entry Basis k}
    → t ≡ t' → lines ≡ lines' → version ≡ version' → s ≡ s' → e ≡ e' → EndOf t lines version s e → EndOf t' lines' version' s' e'
moved {T} {k} a b c d f = subst (λ (y : Turn T Entry Basis × List ScriptLine × ℕ × Share T Entry Basis k × Ended T Entry Basis k). EndOf y.0 y.1 y.2 y.3 y.4) (λ i. (a i, b i, c i, d i, f i))

module _ {T : Type 0} {k : Ghosts T Entry Basis} (t : Turn T Entry Basis) (lines : List ScriptLine) (version : ℕ) where
  pub back-length : (ss bs : List (Share T Entry Basis k)) (es : List SessionEnd) → ComeBack t lines version ss bs es → (length bs ≡ length ss) × (length es ≡ length ss)
  back-length [] [] [] h = (refl, refl)
  back-length [] [] (e ∷ es) h = absurd h
  back-length [] (b ∷ bs) es h = absurd h
  back-length (s ∷ ss) [] es h = absurd h
  back-length (s ∷ ss) (b ∷ bs) [] h = absurd h
  back-length (s ∷ ss) (b ∷ bs) (e ∷ es) h = let r = back-length ss bs es h.1 in (ap suc r.0, ap suc r.1)

  -- one share more comes back
  pub back-push : (ss bs : List (Share T Entry Basis k)) (es : List SessionEnd) (s b : Share T Entry Basis k) (e : SessionEnd) → ComeBack t lines version ss bs es → ComesBack t lines version s b e
      → ComeBack t lines version (ss ++ s ∷ []) (bs ++ b ∷ []) (es ++ e ∷ [])
  back-push [] [] [] s b e h one = (one, tt)
  back-push [] [] (f ∷ es) s b e h one = absurd h
  back-push [] (c ∷ bs) es s b e h one = absurd h
  back-push (r ∷ ss) [] es s b e h one = absurd h
  back-push (r ∷ ss) (c ∷ bs) [] s b e h one = absurd h
  back-push (r ∷ ss) (c ∷ bs) (f ∷ es) s b e h one = (h.0, back-push ss bs es s b e h.1 one)

  -- the share at each place
  pub back-at : (ss bs : List (Share T Entry Basis k)) (es : List SessionEnd) → ComeBack t lines version ss bs es → (n : ℕ) (s : Share T Entry Basis k) → slice_get ss n ≡ Some s
      → (b : Share T Entry Basis k) × (e : SessionEnd) × (slice_get bs n ≡ Some b) × (slice_get es n ≡ Some e) × ComesBack t lines version s b e
  back-at [] bs es h n s at = absurd (cc)
  back-at (r ∷ ss) [] es h n s at = absurd h
  back-at (r ∷ ss) (b ∷ bs) [] h n s at = absurd h
  back-at (r ∷ ss) (b ∷ bs) (e ∷ es) h zero s at = let same : r ≡ s = cc in (b, e, refl, refl, subst (λ x. ComesBack t lines version x b e) same h.0)
  back-at (r ∷ ss) (b ∷ bs) (e ∷ es) h (suc n) s at = back-at ss bs es h.1 n s at

  -- each comes back idle
  pub back-idle : (ss bs : List (Share T Entry Basis k)) (es : List SessionEnd) → ComeBack t lines version ss bs es → All (λ s. IsOf t s × IsIdle s) bs
  back-idle [] [] es h = λ n d low. absurd (omega arith)
  back-idle [] (b ∷ bs) es h = absurd h
  back-idle (s ∷ ss) [] es h = absurd h
  back-idle (s ∷ ss) (b ∷ bs) [] h = absurd h
  back-idle (s ∷ ss) (b ∷ bs) (e ∷ es) h = All-cons (λ x. IsOf t x × IsIdle x) b bs (h.0.stays.this, h.0.stays.idle) (back-idle ss bs es h.1)

  module _ (base : Basis) (shares : List (Share T Entry Basis k)) (fresh : AreFresh t base shares) where
    -- shares of a new turn are ready
    pub fresh_all : (claims : Claims) → base.claims ≡ claims → base.geometry.version ≡ version → (version ≡ 1) ⊎ (version ≡ 2) → All (IsReady t claims version) shares
    fresh_all claims c v known n d low = let f = fresh n low in
        subst (IsReady t claims version) (sym (index_from_get shares n f.0 d f.1)) (record {
          this = f.2;
          idle = f.3;
          empty = f.5;
          basis = subst (λ o. IfSome o (λ (b : Basis). (b.claims ≡ claims) × (b.geometry.version ≡ version))) (sym f.6) (c, v);
          known = known;
        })

    module _ (bs : List (Share T Entry Basis k)) (es : List SessionEnd) (back : ComeBack t lines version shares bs es) (x : T) where
      pub same_basis : 0 < length shares → All (λ s. KnowsBasis s x) bs → k.basis x ≡ base
      same_basis some known =
          let f = fresh 0 some in let b = back-at shares bs es back 0 f.0 f.1 in
          let knows = at_place (λ s. KnowsBasis s x) bs 0 b.0 known b.2 (below_length bs 0 b.0 b.2) in
          let z : Some (k.basis x) ≡ Some base = sym knows ∙ b.4.stays.basis ∙ f.6 in cc

      module _ (is : (e : Entry) → k.session e ≡ e.event.who.session) where
        -- how the session at each place ended
        pub all_end : (k.basis x).geometry.version ≡ version → length shares ≡ 16 → All (λ s. KnowsEntries s x) bs → AllEnd lines (history_of (k.basis x) (k.entries x)) es
        all_end v count known n low =
            let f = fresh n (subst (λ m. n < m) (sym count) low) in let b = back-at shares bs es back n f.0 f.1 in
            let knows : list_of b.0 ≡ entries_of k.session (session_of b.0) (k.entries x) = at_place (λ s. KnowsEntries s x) bs n b.0 known b.2 (below_length bs n b.0 b.2) in
            let mine : session_of b.0 ≡ n = b.4.stays.session ∙ f.4 in
            let events : own b.0 ≡ events_of n (events_in (k.entries x)) =
            ap events_in (knows ∙ ap (λ m. entries_of k.session m (k.entries x)) mine) ∙ own_events_are k.session is n (k.entries x) in (
              b.1,
              b.3,
              ends_as lines (history_of (k.basis x) (k.entries x)) n b.1
                  (subst (λ (y : ℕ × ℕ × List CoreEvent). Does y.0 lines y.1 (not b.1.memory) y.2) (λ i. (sym v i, f.4 i, events i)) b.4.does)
                  (subst (λ (y : ℕ × ℕ × List CoreEvent). Goes y.0 lines y.1 (not b.1.memory) y.2 b.1.results.items) (λ i. (sym v i, f.4 i, events i)) b.4.goes),
            )

        -- and of which pages its results came
        pub all_show : (k.basis x).geometry.version ≡ version → length shares ≡ 16 → All (λ s. KnowsEntries s x) bs → All (λ s. KnowsBasis s x) bs → SessionsShow (k.basis x) lines (k.entries x) (results_of es)
        all_show v count known stands n low =
            let f = fresh n (subst (λ m. n < m) (sym count) low) in let b = back-at shares bs es back n f.0 f.1 in
            let inside : n < length bs = below_length bs n b.0 b.2 in
            let knows : list_of b.0 ≡ entries_of k.session (session_of b.0) (k.entries x) = at_place (λ s. KnowsEntries s x) bs n b.0 known b.2 inside in
            let basis : basis_of b.0 ≡ Some (k.basis x) = at_place (λ s. KnowsBasis s x) bs n b.0 stands b.2 inside in
            let mine : session_of b.0 ≡ n = b.4.stays.session ∙ f.4 in
            let list : list_of b.0 ≡ own_entries n (k.entries x) = knows ∙ ap (λ m. entries_of k.session m (k.entries x)) mine ∙ own_entries_are k.session is n (k.entries x) in
            let results : b.1.results.items ≡ results_of es n = sym (ap results_in b.3) in
            subst (λ (y : ℕ × ℕ × List Entry × List LineResult). ShowSome (k.basis x) y.0 [] (requests_of y.1 lines) y.2 y.3) (λ i. (sym v i, f.4 i, list i, results i)) (b.4.shows (k.basis x) basis)

        -- no event is of another session
        pub no_others : length shares ≡ 16 → All (HasShare bs) (k.entries x) → HasNoUnmount (history_of (k.basis x) (k.entries x))
        no_others count has = All-map (λ (c : CoreEvent). c.who.session < 16) (λ (e : Entry). e.event) (k.entries x) (λ n d l. low (slice_index_or (k.entries x) n d) (has n d l)) where
          low : (e : Entry) → HasShare bs e → e.event.who.session < 16
          low e h =
              let same = (back-length shares bs es back).0 in
              let f = fresh h.0 (let l = h.2 in omega arith) in
              let b = back-at shares bs es back h.0 f.0 f.1 in
              let at : h.1 ≡ b.0 = sym h.3 ∙ index_from_get bs h.0 b.0 h.1 b.2 in
              let place = sym f.4 ∙ sym b.4.stays.session ∙ sym (ap session_of at) ∙ h.4 ∙ is e in
              let l = h.2 in omega arith
