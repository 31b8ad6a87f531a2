-- The entries of a history: what they are of, and one more.
use Rattle.std.proofs.Common.{◌≡◌, ◌≤◌, ℕ, suc, ◌==◌, Bool, true, false, cond, Option, Some, None, List, [], ◌∷◌, ◌++◌, length, refl, sym, ap, ◌∙◌, append_assoc}
use Rattle.std.proofs.lemmas.List.{append-nil, take-append-le}
use Rattle.spec_disk.specs.declared.event.Event.{Event}
use Rattle.spec_core.specs.State.{State}
use Rattle.spec_core.specs.Step.{after, state_after}
use Rattle.spec_core.specs.declared.event.CoreEvent.{CoreEvent}
use Rattle.spec_core.specs.declared.setting.Setting.{Setting}
use Rattle.spec_session.specs.Conform.{events_of}
use Rattle.bv_session.specs.declared.entry.Entry.{Entry}
use Rattle.bv_session.specs.declared.entry.Told.{Told}
use Rattle.bv_session.specs.Disk.{told_after}
use Rattle.bv_session.specs.Events.{events_in, own_events}
use Rattle.bv_shared.specs.Entries.{listed_by, entry_of, entries_from}
use Rattle.bv_turn.specs.Entries.{entries_of}
use Rattle.bv_shared.specs.Since.{EndBy}

module _ (told : Option Told) (g : Setting) where
  -- they are as many
  pub as_many : (device : List Event) (s : State) (past es : List CoreEvent) → length (entries_from told device g s past es) ≡ length es
  as_many device s past [] = refl
  as_many device s past (e ∷ es) = ap suc (as_many device (after g s e) (past ++ e ∷ []) es)

  -- one more event is one more entry
  pub one_more : (device : List Event) (s : State) (past es : List CoreEvent) (e : CoreEvent) → entries_from told device g s past (es ++ e ∷ []) ≡ entries_from told device g s past es ++ entry_of told device (state_after g s es) (past ++ es) e ∷ []
  one_more device s past [] e = ap (λ (xs : List CoreEvent). entry_of told device s xs e ∷ []) (sym (append-nil past))
  one_more device s past (x ∷ es) e =
      ap (λ (xs : List Entry). entry_of told device s past x ∷ xs) (one_more device (after g s x) (past ++ x ∷ []) es e
      ∙ ap (λ (xs : List CoreEvent). entries_from told device g (after g s x) (past ++ x ∷ []) es ++ entry_of told device (state_after g (after g s x) es) xs e ∷ []) (append_assoc past (x ∷ []) es))

  -- what was told by the end of an event stays as the device goes on
  pub told_stays : (o : Option Told) (device more : List Event) (calls : ℕ) → calls ≤ length device → told_after o (device ++ more) calls ≡ told_after o device calls
  told_stays None device more calls within = refl
  told_stays (Some d) device more calls within = ap (λ (xs : List Event). Some (record { base = d.base; trace = d.trace ++ xs })) (take-append-le calls device more within)

  pub stay : (device more : List Event) (s : State) (past es : List CoreEvent) → EndBy (length device) es → entries_from told (device ++ more) g s past es ≡ entries_from told device g s past es
  stay device more s past [] within = refl
  stay device more s past (e ∷ es) within =
      let same : entry_of told (device ++ more) s past e ≡ entry_of told device s past e = ap (λ (o : Option Told). record { event = e; told = o; listed = listed_by s e.act; before = past }) (told_stays told device more e.calls within.0) in
      ap (λ (x : Entry). x ∷ entries_from told (device ++ more) g (after g s e) (past ++ e ∷ []) es) same ∙ ap (λ (xs : List Entry). entry_of told device s past e ∷ xs) (stay device more (after g s e) (past ++ e ∷ []) es within.1)

  -- a session's own events, by its entries
  pub own_from : (t : ℕ) (device : List Event) (s : State) (past es : List CoreEvent) → own_events (λ e. e.event.who.session) t (entries_from told device g s past es) ≡ events_of t es
  own_from t device s past [] = refl
  own_from t device s past (e ∷ es) = by_test (e.who.session == t) (entries_of (λ x. x.event.who.session) t (entries_from told device g (after g s e) (past ++ e ∷ []) es)) (events_of t es) (own_from t device (after g s e) (past ++ e ∷ []) es) where
    by_test : (b : Bool) (xs : List Entry) (ys : List CoreEvent) → events_in xs ≡ ys → events_in (cond b (entry_of told device s past e ∷ xs) xs) ≡ cond b (e ∷ ys) ys
    by_test true xs ys same = ap (λ (zs : List CoreEvent). e ∷ zs) same
    by_test false xs ys same = same
