-- The ends of an open line.
use Rattle.std.proofs.Common.{◌≡◌, ℕ, List, [], ◌∷◌, ◌++◌, refl, sym, subst, inl, inr}
use Rattle.std.specs.Prelude.{Option, Some, None, IsSome, IfOk, IfSome, OnErr, Ok, Err}
use Rattle.std.specs.declared.alloc.AllocError.{AllocError}
use Rattle.spec_core.specs.declared.act.Act.TheVariants.{Open, Fetch, Close}
use Rattle.spec_core.specs.declared.reply.Reply.{Reply}
use Rattle.spec_core.specs.declared.reply.Reply.TheVariants.{Opened, Fetched, ReadFault, Closed}
use Rattle.spec_core.specs.declared.event.CoreEvent.{CoreEvent}
use Rattle.spec_core.specs.declared.who.Who.{Who}
use Rattle.spec_tree.specs.declared.Digest.{Digest}
use Rattle.spec_session.specs.Lines.{Move, last_window}
use Rattle.spec_session.specs.declared.result.LineResult.{LineResult}
use Rattle.spec_session.specs.declared.result.LineResult.TheVariants as results
use Rattle.spec_served.specs.Answers.{Answers, IsReply, Known, ShowsWindow}
use Rattle.spec_window.specs.declared.mismatch.Mismatch.{Mismatch}
use Rattle.bv_pager.specs.Reading.{IsReading, Reading, known_at}
use Rattle.bv_session.specs.declared.serves.Answer.{Answer}
use Rattle.bv_session.specs.declared.serves.Answer.TheVariants.{Done}
use Rattle.bv_session.specs.Events.{IfDone, IsRefusal}
use Rattle.bv_session.specs.Sessions.{LineAnswer, Gains, Since, Ends, EndsAfter}
use Rattle.bv_session.specs.Windows.{FailsBy, Finds, MayFetch, known_of}
use Rattle.bv_session.proofs.Moves.{since_none, since_one, since_join, not_opened}
use Rattle.bv_session.proofs.RangeLemmas.{finds_known, known_verifies}

module _ (version : ℕ) (who : Who) (slot : ℕ) (root : Digest) (n w : ℕ) (place : w ≡ last_window n) where
  -- the first move: the slot holds the blob
  abbrev opened : List Move
  opened = (Open slot root, Opened n) ∷ []

  at : (q : Reply) (old now : List CoreEvent) → Since who ((Fetch slot w, q) ∷ []) old now → Since who ((Fetch slot (last_window n), q) ∷ []) old now
  at q old now = subst (λ (k : ℕ). Since who ((Fetch slot k, q) ∷ []) old now) place

  -- for want of memory
  pub open_cut : (e : AllocError) (old now : List CoreEvent) → MayFetch who slot w old now → EndsAfter version [] who (Open slot root) opened (Err e) old now
  open_cut e old now (inl s) = record { moves = []; since = s; allowed = ([], inr (inl (n, inl refl))) }
  open_cut e old now (inr s) = record { moves = (Fetch slot (last_window n), Fetched) ∷ []; since = at Fetched old now s; allowed = ([], inr (inl (n, inr refl))) }

  -- the last window that a reader knows verifies
  open_known : (r : Reading) → IsReading r → r.root ≡ root → r.size ≡ n → IsSome (known_at r w) → (known : Known) × ShowsWindow (root, n) known (last_window n)
  open_known r reading is_root is_size some = (
    known_of r,
    subst (λ (x : Digest × ℕ × ℕ). ShowsWindow (x.0, x.1) (known_of r) x.2) (λ i. (is_root i, is_size i, place i)) (known_verifies r w reading some),
  )

  kept : (m : ℕ) (old now : List CoreEvent) → m ≡ n → ((known : Known) × ShowsWindow (root, n) known (last_window n)) → MayFetch who slot w old now
      → EndsAfter version [] who (Open slot root) opened (Ok (results.Opened m)) old now
  kept m old now is shows (inl s) = record {
    moves = [];
    since = s;
    allowed = (inr (inl (n, inl refl)), ((is, refl, shows), record { fault = λ f e. absurd (cc); cause = λ f e. absurd (cc); apart = λ k e. absurd (cc) }));
  }
  kept m old now is shows (inr s) = record {
    moves = (Fetch slot (last_window n), Fetched) ∷ [];
    since = at Fetched old now s;
    allowed = (inr (inl (n, inr refl)), ((is, refl, shows), record { fault = λ f e. absurd (cc); cause = λ f e. absurd (cc); apart = λ k e. absurd (cc) }));
  }

  -- the last window is known
  pub open_keeps : (m : ℕ) (r : Reading) (o : Option LineResult) (old now : List CoreEvent) → m ≡ n → IsReading r → r.root ≡ root → r.size ≡ n → Finds who slot w r (Ok o) old now → o ≡ None
      → EndsAfter version [] who (Open slot root) opened (Ok (results.Opened m)) old now
  open_keeps m r o old now is reading is_root is_size h none =
      let found = finds_known who slot w r o old now h none in
      kept m old now is (open_known r reading is_root is_size found.0) found.1

  answers : (q p : Reply) (r : LineResult) → FailsBy q r → Answers [] (Open slot root) (opened ++ (Fetch slot (last_window n), q) ∷ (Close slot, p) ∷ []) r
  answers (ReadFault f) p r h =
      subst (λ (x : LineResult). Answers [] (Open slot root) (opened ++ (Fetch slot (last_window n), ReadFault f) ∷ (Close slot, p) ∷ []) x) (sym h)
      (refl, record { fault = λ g e. cc; cause = λ g e. cc; apart = λ m e. absurd (cc) })
  answers Fetched p (results.Mismatch m) h = (refl, record { fault = λ f e. absurd (cc); cause = λ f e. absurd (cc); apart = λ k e. let same : m ≡ k = cc in subst (λ (x : Mismatch). ¬ (x.wanted ≡ x.found)) same h })
  answers Fetched p _ h = absurd h
  answers _ p r h = absurd h

  -- it isn't read or doesn't verify: the slot is closed again, or there is no memory to close it
  pub open_shuts : (answer : LineAnswer) (r : LineResult) (new : Reading) (o : Option LineResult) (old mid now : List CoreEvent) → Finds who slot w new (Ok o) old mid → o ≡ Some r
      → IfOk answer (λ x. (x ≡ r) × ((q : Reply) × Gains who (Close slot) q mid now)) → OnErr answer (now ≡ mid) → EndsAfter version [] who (Open slot root) opened answer old now
  open_shuts (Ok x) r new o old mid now h is ok err =
      let found : Finds who slot w new (Ok (Some r)) old mid = subst (λ (y : Option LineResult). Finds who slot w new (Ok y) old mid) is h in record {
        moves = (Fetch slot (last_window n), found.0) ∷ (Close slot, ok.1.0) ∷ [];
        since = since_join who ((Fetch slot (last_window n), found.0) ∷ []) ((Close slot, ok.1.0) ∷ []) old mid now (at found.0 old mid found.2) (since_one who (Close slot) ok.1.0 mid now ok.1.1);
        allowed = (
          inr (inr (n, found.0, ok.1.0, refl)),
          subst (λ (y : LineResult). Answers [] (Open slot root) (opened ++ (Fetch slot (last_window n), found.0) ∷ (Close slot, ok.1.0) ∷ []) y) (sym ok.0) (answers found.0 ok.1.0 r found.1),
        );
      }
  open_shuts (Err e) r new o old mid now h is ok err =
      let found : Finds who slot w new (Ok (Some r)) old mid = subst (λ (y : Option LineResult). Finds who slot w new (Ok y) old mid) is h in record {
        moves = (Fetch slot (last_window n), found.0) ∷ [];
        since = subst (λ (x : List CoreEvent). Since who ((Fetch slot (last_window n), found.0) ∷ []) old x) (sym err) (at found.0 old mid found.2);
        allowed = ((Close slot, Closed) ∷ [], inr (inr (n, found.0, Closed, refl)));
      }

-- what went on once the slot held the blob
pub open_goes_on : (version : ℕ) (who : Who) (slot : ℕ) (root : Digest) (n : ℕ) (answer : LineAnswer) (old mid now : List CoreEvent) → Gains who (Open slot root) (Opened n) old mid
    → EndsAfter version [] who (Open slot root) ((Open slot root, Opened n) ∷ []) answer mid now → Ends version who (Open slot root) answer old now
open_goes_on version who slot root n (Ok r) old mid now g e = record {
  moves = (Open slot root, Opened n) ∷ e.moves;
  since = since_join who ((Open slot root, Opened n) ∷ []) e.moves old mid now (since_one who (Open slot root) (Opened n) old mid g) e.since;
  allowed = e.allowed;
}
open_goes_on version who slot root n (Err x) old mid now g e = record {
  moves = (Open slot root, Opened n) ∷ e.moves;
  since = since_join who ((Open slot root, Opened n) ∷ []) e.moves old mid now (since_one who (Open slot root) (Opened n) old mid g) e.since;
  allowed = e.allowed;
}

-- the pages that were kept are of the blob
pub opened_kept : (root : Digest) (a : Answer (ℕ × Option Reading)) (x : ℕ × Option Reading) → IfDone a (λ x. IfSome x.1 (λ r. (r.root ≡ root) × (r.size ≡ x.0))) → a ≡ Done x
    → IfSome x.1 (λ r. (r.root ≡ root) × (r.size ≡ x.0))
opened_kept root a x h is = subst (λ (y : Answer (ℕ × Option Reading)). IfDone y (λ x. IfSome x.1 (λ r. (r.root ≡ root) × (r.size ≡ x.0)))) is h

-- there was no memory for a reader
pub open_unread : (version : ℕ) (who : Who) (slot : ℕ) (root : Digest) (n : ℕ) (e : AllocError) (old mid now : List CoreEvent) → now ≡ mid → Gains who (Open slot root) (Opened n) old mid
    → Ends version who (Open slot root) (Err e) old now
open_unread version who slot root n e old mid now same g =
    open_goes_on version who slot root n (Err e) old mid now g (open_cut version who slot root n (last_window n) refl e mid now (inl (since_none who mid now same)))

-- what went on with a reader of the blob
pub open_reads : (version : ℕ) (who : Who) (slot : ℕ) (root : Digest) (n : ℕ) (r : Reading) (answer : LineAnswer) (old mid now : List CoreEvent) → r.root ≡ root → r.size ≡ n
    → Gains who (Open slot root) (Opened n) old mid → EndsAfter version [] who (Open slot r.root) ((Open slot r.root, Opened r.size) ∷ []) answer mid now → Ends version who (Open slot root) answer old now
open_reads version who slot root n r answer old mid now is_root is_size g e =
    open_goes_on version who slot root n answer old mid now g
    (subst (λ (x : Digest × ℕ). EndsAfter version [] who (Open slot x.0) ((Open slot x.0, Opened x.1) ∷ []) answer mid now) (λ i. (is_root i, is_size i)) e)

-- an open was refused
pub open_refused : (version : ℕ) (who : Who) (slot : ℕ) (root : Digest) (q : Reply) (r : LineResult) (old now : List CoreEvent) → IsRefusal q → Gains who (Open slot root) q old now → IsReply q r
    → Ends version who (Open slot root) (Ok r) old now
open_refused version who slot root q r old now h g is = record {
  moves = (Open slot root, q) ∷ [];
  since = since_one who (Open slot root) q old now g;
  allowed = (inl (q, not_opened q h, refl), answers q h is);
} where
  answers : (q : Reply) → IsRefusal q → IsReply q r → Answers old (Open slot root) ((Open slot root, q) ∷ []) r
  answers (Opened n) h is = absurd h
  answers _ h is = is

-- what a shut answers
pub shut_result : (P : LineResult → Type 0) (answer : LineAnswer) (found : LineResult) → IfOk answer (λ x. (x ≡ found) × P x) → IfOk answer (λ x. x ≡ found)
shut_result P (Ok x) found h = h.0
shut_result P (Err e) found h = tt
