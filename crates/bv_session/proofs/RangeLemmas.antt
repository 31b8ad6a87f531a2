-- The windows of a range, one after another, and the ends of read and scan lines.
use Rattle.std.proofs.Common.{◌≡◌, ℕ, ◌+◌, ◌<◌, ◌≤◌, List, [], ◌∷◌, ◌++◌, refl, sym, ap, ◌∙◌, subst, inl, inr, arith}
use Rattle.std.specs.Prelude.{Option, Some, None, IsSome, IfOk, Ok, Err}
use Rattle.std.specs.declared.alloc.AllocError.{AllocError}
use Rattle.std.proofs.lemmas.Bool.{cases_lt}
use Rattle.std.proofs.lemmas.List.{append-nil, map-append}
use Rattle.spec_core.specs.declared.act.Act.{Act}
use Rattle.spec_core.specs.declared.act.Act.TheVariants.{Fetch, Read, Scan}
use Rattle.spec_core.specs.declared.reply.Reply.{Reply}
use Rattle.spec_core.specs.declared.reply.Reply.TheVariants.{Fetched, Reading as Begun, ReadFault}
use Rattle.spec_core.specs.declared.event.CoreEvent.{CoreEvent}
use Rattle.spec_core.specs.declared.who.Who.{Who}
use Rattle.spec_session.specs.Own.{Named, slot_holds}
use Rattle.spec_session.specs.Lines.{Move, Windows, LineMoves, RangeMoves, RiseFrom, all_windows, fetches, range_of, read_windows}
use Rattle.spec_session.specs.declared.result.LineResult.{LineResult}
use Rattle.spec_session.specs.declared.result.LineResult.TheVariants as results
use Rattle.spec_served.specs.Answers.{Answers, AnswersRead, AnswersScan, IfHeld, IsReply, Known, ShowsAll, ShowsWindow, last_fetch, read_of}
use Rattle.spec_served.specs.Device.{IsBytes}
use Rattle.spec_tree.specs.declared.Digest.{Digest}
use Rattle.spec_tree.specs.Tree.{windows_of}
use Rattle.spec_window.specs.declared.mismatch.Mismatch.{Mismatch}
use Rattle.spec_window.specs.Page.{Page}
use Rattle.spec_window.specs.Window.{Verifies}
use Rattle.bv_pager.specs.Range.{bytes_of}
use Rattle.bv_pager.specs.Reading.{IsReading, Reading, known_at}
use Rattle.bv_session.specs.Events.{IsRefusal}
use Rattle.bv_session.specs.Sessions.{Allowed, LineAnswer, Gains, Since, Ends}
use Rattle.bv_session.specs.Windows.{FailsBy, FetchesSome, Finds, FindsRange, KeepsKnown, KnowsBetween, MayFetch, known_of, path_of}
use Rattle.bv_session.proofs.Moves.{since_none, since_one, since_join, not_reading}

-- ---- rising windows

rise_weaken : (first past more : ℕ) (ws : List ℕ) → past ≤ more → RiseFrom first past ws → RiseFrom first more ws
rise_weaken first past more [] far h = tt
rise_weaken first past more (w ∷ ws) far h = (h.0, omega (arith, h.1), rise_weaken (w + 1) past more ws far h.2)

pub rise_push : (first w : ℕ) (ws : List ℕ) → first ≤ w → RiseFrom first w ws → RiseFrom first (w + 1) (ws ++ w ∷ [])
rise_push first w [] low h = (low, omega arith, tt)
rise_push first w (x ∷ xs) low h = (h.0, omega (arith, h.1), rise_push (x + 1) w xs (omega (arith, h.1)) h.2)

fetches-append : (slot w : ℕ) (ws : List ℕ) → fetches slot (ws ++ w ∷ []) ≡ fetches slot ws ++ (Fetch slot w, Fetched) ∷ []
fetches-append slot w ws = map-append (λ (k : ℕ). (Fetch slot k, Fetched)) ws (w ∷ [])

-- some windows were fetched, also of a longer range
pub some_weaken : (who : Who) (slot first past more : ℕ) (old now : List CoreEvent) → past ≤ more → FetchesSome who slot first past old now → FetchesSome who slot first more old now
some_weaken who slot first past more old now far f = (f.0, rise_weaken first past more f.0 far f.1, f.2)

-- no window yet
pub some_none : (who : Who) (slot first past : ℕ) (old now : List CoreEvent) → now ≡ old → FetchesSome who slot first past old now
some_none who slot first past old now same = ([], tt, since_none who old now same)

-- one window more
pub some_more : (who : Who) (slot first w : ℕ) (old mid now : List CoreEvent) → first ≤ w → FetchesSome who slot first w old mid → MayFetch who slot w mid now → FetchesSome who slot first (w + 1) old now
some_more who slot first w old mid now low f (inl s) = (
  f.0,
  rise_weaken first w (w + 1) f.0 (omega arith) f.1,
  subst (λ (ms : List Move). Since who ms old now) (append-nil (fetches slot f.0)) (since_join who (fetches slot f.0) [] old mid now f.2 s),
)
some_more who slot first w old mid now low f (inr s) = (
  f.0 ++ w ∷ [],
  rise_push first w f.0 low f.1,
  subst (λ (ms : List Move). Since who ms old now) (sym (fetches-append slot w f.0)) (since_join who (fetches slot f.0) ((Fetch slot w, Fetched) ∷ []) old mid now f.2 s),
)

-- what is known of a range, and of one window more
pub knows_more : (old new : Reading) (first w : ℕ) → KeepsKnown old new → KnowsBetween old first w → IsSome (known_at new w) → KnowsBetween new first (w + 1)
knows_more old new first w keeps known here k low high = elim (cases_lt k w) [
  | inl before ↦ keeps.known k (known k low before)
  | inr same ↦ let is : w ≡ k = omega (arith, same, high) in subst (λ (j : ℕ). IsSome (known_at new j)) is here
]

-- what a window made known
pub finds_known : (who : Who) (slot w : ℕ) (new : Reading) (o : Option LineResult) (old now : List CoreEvent) → Finds who slot w new (Ok o) old now → o ≡ None → IsSome (known_at new w) × MayFetch who slot w old now
finds_known who slot w new o old now h is = subst (λ (x : Option LineResult). Finds who slot w new (Ok x) old now) is h

-- what is known of a range once no line ended
pub range_found : (who : Who) (slot first begin past end : ℕ) (new : Reading) (o : Option LineResult) (old now : List CoreEvent) → first ≡ begin → past ≡ end → FindsRange who slot first past new (Ok o) old now → o ≡ None → KnowsBetween new begin end
range_found who slot first begin past end new o old now f p h is =
    let found : FindsRange who slot begin end new (Ok None) old now =
    subst (λ (x : ℕ × ℕ × Option LineResult). FindsRange who slot x.0 x.1 new (Ok x.2) old now) (λ i. (f i, p i, is i)) h in
    found.0

-- a window at which the line ends
pub range_failed : (who : Who) (slot first past w : ℕ) (new : Reading) (o : Option LineResult) (r : LineResult) (old mid now : List CoreEvent) → first ≤ w → w < past → FetchesSome who slot first w old mid
    → Finds who slot w new (Ok o) mid now → o ≡ Some r → FindsRange who slot first past new (Ok (Some r)) old now
range_failed who slot first past w new o r old mid now low high f h is =
    let found : Finds who slot w new (Ok (Some r)) mid now = subst (λ (x : Option LineResult). Finds who slot w new (Ok x) mid now) is h in (
      f.0,
      w,
      found.0,
      rise_weaken first (w + 1) past (f.0 ++ w ∷ []) (omega arith) (rise_push first w f.0 low f.1),
      found.1,
      since_join who (fetches slot f.0) ((Fetch slot w, found.0) ∷ []) old mid now f.2 found.2,
    )

-- a reader that keeps what it knows, and keeps it again
pub keeps_join : (old mid new : Reading) → KeepsKnown old mid → KeepsKnown mid new → KeepsKnown old new
keeps_join old mid new k n = record {
  root = n.root ∙ k.root;
  size = n.size ∙ k.size;
  known = λ w h. n.known w (k.known w h);
}

-- ---- what a line replies

-- a refused fetch, or a window that doesn't verify, is the answer of a line whose last fetch replied
-- this
pub record FailsAt (last : Option Reply) (r : LineResult) : Type 0 where
  pub fault : (f : ℕ) → last ≡ Some (ReadFault f) → r ≡ results.ReadFault f
  pub cause : (f : ℕ) → r ≡ results.ReadFault f → last ≡ Some (ReadFault f)
  pub apart : (m : Mismatch) → r ≡ results.Mismatch m → ¬ (m.wanted ≡ m.found)

-- the last of these moves replied this
last_fetch-end : (found : Option Reply) (slot w : ℕ) (q : Reply) (ws : List ℕ) → last_fetch found (fetches slot ws ++ (Fetch slot w, q) ∷ []) ≡ Some q
last_fetch-end found slot w q [] = refl
last_fetch-end found slot w q (k ∷ ws) = last_fetch-end (Some Fetched) slot w q ws

-- no window that was fetched replied a fault
last_fetches : (found : Option Reply) (slot f : ℕ) (ws : List ℕ) → ¬ (found ≡ Some (ReadFault f)) → ¬ (last_fetch found (fetches slot ws) ≡ Some (ReadFault f))
last_fetches found slot f [] none = none
last_fetches found slot f (w ∷ ws) none = last_fetches (Some Fetched) slot f ws (λ e. absurd (cc))

-- a fetch at which a line ends
fails_by : (last : Option Reply) (q : Reply) (r : LineResult) → last ≡ Some q → FailsBy q r → FailsAt last r
fails_by last (ReadFault f) r is h = record { fault = λ g e. cc; cause = λ g e. cc; apart = λ m e. absurd (cc) }
fails_by last Fetched (results.Mismatch m) is h = record {
  fault = λ f e. absurd (cc);
  cause = λ f e. absurd (cc);
  apart = λ k e. let same : m ≡ k = cc in subst (λ (x : Mismatch). ¬ (x.wanted ≡ x.found)) same h;
}
fails_by last Fetched _ is h = absurd h
fails_by last _ r is h = absurd h

-- the ends of a line over a range of windows: its moves, and what it answers where it goes well
module _ (version : ℕ) (own : List CoreEvent) (who : Who) (slot : ℕ) (act : Act) (range : Windows) (P : LineResult → Type 0)
    (line : (ms : List Move) → RangeMoves act slot range ms → LineMoves version own act ms)
    (cut : (ms : List Move) (e : AllocError) → LineMoves version own act ms → Allowed version own act (Err e) ms)
    (answers : (ms : List Move) (r : LineResult) → P r → FailsAt (last_fetch None ms) r → Answers own act ((act, Begun) ∷ ms) r)
    (faults : (f : ℕ) → P (results.ReadFault f))
    (mismatches : (m : Mismatch) → P (results.Mismatch m)) where
  -- for want of memory
  pub range_cut : (e : AllocError) (mid now : List CoreEvent) → Gains who act Begun own mid → FetchesSome who slot range.first range.past mid now → Ends version who act (Err e) own now
  range_cut e mid now g f = record {
    moves = (act, Begun) ∷ fetches slot f.0;
    since = since_join who ((act, Begun) ∷ []) (fetches slot f.0) own mid now (since_one who act Begun own mid g) f.2;
    allowed = cut _ e (line _ (inr (inl (f.0, f.1, refl))));
  }

  -- all windows are known
  pub range_known : (r : LineResult) (mid now : List CoreEvent) → Gains who act Begun own mid → FetchesSome who slot range.first range.past mid now → P r
      → ((f : ℕ) → ¬ (r ≡ results.ReadFault f)) → ((m : Mismatch) → ¬ (r ≡ results.Mismatch m)) → Ends version who act (Ok r) own now
  range_known r mid now g f p no_fault no_mismatch = record {
    moves = (act, Begun) ∷ fetches slot f.0;
    since = since_join who ((act, Begun) ∷ []) (fetches slot f.0) own mid now (since_one who act Begun own mid g) f.2;
    allowed = (
      line _ (inr (inl (f.0, f.1, refl))),
      answers (fetches slot f.0) r p (record {
        fault = λ n e. absurd (last_fetches None slot n f.0 (λ x. absurd (cc)) e);
        cause = λ n e. absurd (no_fault n e);
        apart = λ m e. absurd (no_mismatch m e);
      }),
    );
  }

  moves_of : (ws : List ℕ) (w : ℕ) (q : Reply) (r : LineResult) → RiseFrom range.first range.past (ws ++ w ∷ []) → FailsBy q r
      → RangeMoves act slot range ((act, Begun) ∷ (fetches slot ws ++ (Fetch slot w, q) ∷ []))
  moves_of ws w (ReadFault f) r rise h = inr (inr (ws, w, ReadFault f, rise, (λ e. absurd (cc)), refl))
  moves_of ws w Fetched r rise h = inr (inl (ws ++ w ∷ [], rise, ap (λ (ms : List Move). (act, Begun) ∷ ms) (sym (fetches-append slot w ws))))
  moves_of ws w _ r rise h = absurd h

  fails_has : (q : Reply) (r : LineResult) → FailsBy q r → P r
  fails_has (ReadFault f) r h = subst P (sym h) (faults f)
  fails_has Fetched (results.Mismatch m) h = mismatches m
  fails_has Fetched _ h = absurd h
  fails_has _ r h = absurd h

  -- a window isn't read or doesn't verify
  pub range_fails : (r : LineResult) (ws : List ℕ) (w : ℕ) (q : Reply) (mid now : List CoreEvent) → Gains who act Begun own mid → RiseFrom range.first range.past (ws ++ w ∷ []) → FailsBy q r
      → Since who (fetches slot ws ++ (Fetch slot w, q) ∷ []) mid now → Ends version who act (Ok r) own now
  range_fails r ws w q mid now g rise h s = record {
    moves = (act, Begun) ∷ (fetches slot ws ++ (Fetch slot w, q) ∷ []);
    since = since_join who ((act, Begun) ∷ []) _ own mid now (since_one who act Begun own mid g) s;
    allowed = (line _ (moves_of ws w q r rise h), answers _ r (fails_has q r h) (fails_by _ q r (last_fetch-end None slot w q ws) h));
  }

-- ---- what a reader knows of a range

-- each of them verifies
pub known_verifies : (r : Reading) (w : ℕ) → IsReading r → IsSome (known_at r w) → ShowsWindow (r.root, r.size) (known_of r) w
known_verifies r w reading some = by_page (known_at r w) refl some where
  by_page : (o : Option Page) → known_at r w ≡ o → IsSome o → Verifies r.root r.size w (bytes_of o) (path_of o)
  by_page None is h = absurd (cc)
  by_page (Some p) is h =
      let of = reading.pages w p is in
      subst (λ (x : Digest × ℕ × ℕ). Verifies x.0 x.1 x.2 p.bytes p.path) (λ i. (of.name i, of.of_size i, of.place i)) of.served.verified

-- ---- scan lines

module _ (version : ℕ) (own : List CoreEvent) (who : Who) (slot : ℕ) (blob : Named) (holds : slot_holds slot own ≡ Some blob) where
  scan_line : (ms : List Move) → RangeMoves (Scan slot) slot (all_windows blob.1) ms → LineMoves version own (Scan slot) ms
  scan_line ms = subst (λ (o : Option Named). RangeMoves (Scan slot) slot (range_of o all_windows) ms) (sym holds)

  scan_begins : (ms : List Move) (e : AllocError) → LineMoves version own (Scan slot) ms → Allowed version own (Scan slot) (Err e) ms
  scan_begins ms e l = ([], subst (λ (xs : List Move). LineMoves version own (Scan slot) xs) (sym (append-nil ms)) l)

  scan_answers : (ms : List Move) (r : LineResult) → AnswersScan blob r → FailsAt (last_fetch None ms) r → Answers own (Scan slot) ((Scan slot, Begun) ∷ ms) r
  scan_answers ms r p f = (subst (λ (o : Option Named). IfHeld o (λ b. AnswersScan b r)) (sym holds) p, record { fault = f.fault; cause = f.cause; apart = f.apart })

  pub scan_cut : (e : AllocError) (mid now : List CoreEvent) → Gains who (Scan slot) Begun own mid → FetchesSome who slot 0 (windows_of blob.1) mid now → Ends version who (Scan slot) (Err e) own now
  scan_cut = range_cut version own who slot (Scan slot) (all_windows blob.1) (AnswersScan blob) scan_line scan_begins scan_answers (λ f. tt) (λ m. tt)

  pub scan_known : (n : ℕ) (mid now : List CoreEvent) → Gains who (Scan slot) Begun own mid → FetchesSome who slot 0 (windows_of blob.1) mid now → AnswersScan blob (results.Whole n) → Ends version who (Scan slot) (Ok (results.Whole n)) own now
  scan_known n mid now g f p =
      range_known version own who slot (Scan slot) (all_windows blob.1) (AnswersScan blob) scan_line scan_begins scan_answers (λ f. tt) (λ m. tt) (results.Whole n) mid now g f p (λ k e. absurd (cc)) (λ m e. absurd (cc))

  pub scan_fails : (r : LineResult) (ws : List ℕ) (w : ℕ) (q : Reply) (mid now : List CoreEvent) → Gains who (Scan slot) Begun own mid → RiseFrom 0 (windows_of blob.1) (ws ++ w ∷ []) → FailsBy q r
      → Since who (fetches slot ws ++ (Fetch slot w, q) ∷ []) mid now → Ends version who (Scan slot) (Ok r) own now
  scan_fails = range_fails version own who slot (Scan slot) (all_windows blob.1) (AnswersScan blob) scan_line scan_begins scan_answers (λ f. tt) (λ m. tt)

  -- a window at which the scan ends
  pub scan_found : (past : ℕ) (new : Reading) (o : Option LineResult) (r : LineResult) (mid now : List CoreEvent) → past ≡ windows_of blob.1 → Gains who (Scan slot) Begun own mid
      → FindsRange who slot 0 past new (Ok o) mid now → o ≡ Some r → Ends version who (Scan slot) (Ok r) own now
  scan_found past new o r mid now end g h is =
      let found : FindsRange who slot 0 (windows_of blob.1) new (Ok (Some r)) mid now =
      subst (λ (x : ℕ × Option LineResult). FindsRange who slot 0 x.0 new (Ok x.1) mid now) (λ i. (end i, is i)) h in
      scan_fails r found.0 found.1 found.2 mid now g found.3 found.4 found.5

  -- all windows are known
  pub scan_whole : (n past : ℕ) (new : Reading) (o : Option LineResult) (mid now : List CoreEvent) → past ≡ windows_of blob.1 → Gains who (Scan slot) Begun own mid
      → FindsRange who slot 0 past new (Ok o) mid now → o ≡ None → IsReading new → new.root ≡ blob.0 → new.size ≡ blob.1 → n ≡ blob.1 → Ends version who (Scan slot) (Ok (results.Whole n)) own now
  scan_whole n past new o mid now end g h is reading is_root is_size whole =
      let found : FindsRange who slot 0 (windows_of blob.1) new (Ok None) mid now =
      subst (λ (x : ℕ × Option LineResult). FindsRange who slot 0 x.0 new (Ok x.1) mid now) (λ i. (end i, is i)) h in
      let shows : ShowsAll blob (known_of new) (all_windows blob.1) =
      λ w low high. subst (λ (x : Digest × ℕ). ShowsWindow x (known_of new) w) (λ i. (is_root i, is_size i)) (known_verifies new w reading (found.0 w low high)) in
      scan_known n mid now g found.1 (whole, (known_of new, shows))

  -- for want of memory
  pub scan_cut_at : (past : ℕ) (e : AllocError) (mid now : List CoreEvent) → past ≡ windows_of blob.1 → Gains who (Scan slot) Begun own mid → FetchesSome who slot 0 past mid now → Ends version who (Scan slot) (Err e) own now
  scan_cut_at past e mid now end g f = scan_cut e mid now g (subst (λ (n : ℕ). FetchesSome who slot 0 n mid now) end f)

  -- there was no memory for a reader
  pub scan_unread : (e : AllocError) (mid now : List CoreEvent) → Gains who (Scan slot) Begun own mid → now ≡ mid → Ends version who (Scan slot) (Err e) own now
  scan_unread e mid now g same = scan_cut e mid now g (some_none who slot 0 (windows_of blob.1) mid now same)

-- a scan that was refused
pub scan_refused : (version : ℕ) (who : Who) (slot : ℕ) (q : Reply) (r : LineResult) (old now : List CoreEvent) → IsRefusal q → Gains who (Scan slot) q old now → IsReply q r
    → Ends version who (Scan slot) (Ok r) old now
scan_refused version who slot q r old now h g is = record {
  moves = (Scan slot, q) ∷ [];
  since = since_one who (Scan slot) q old now g;
  allowed = (inl (q, not_reading q h, refl), answers q h is);
} where
  answers : (q : Reply) → IsRefusal q → IsReply q r → Answers old (Scan slot) ((Scan slot, q) ∷ []) r
  answers Begun h is = absurd h
  answers _ h is = is

-- ---- read lines

module _ (version : ℕ) (own : List CoreEvent) (who : Who) (slot off len : ℕ) (blob : Named) (holds : slot_holds slot own ≡ Some blob) where
  read_line : (ms : List Move) → RangeMoves (Read slot off len) slot (read_windows blob.1 off len) ms → LineMoves version own (Read slot off len) ms
  read_line ms = subst (λ (o : Option Named). RangeMoves (Read slot off len) slot (range_of o (λ size. read_windows size off len)) ms) (sym holds)

  read_begins : (ms : List Move) (e : AllocError) → LineMoves version own (Read slot off len) ms → Allowed version own (Read slot off len) (Err e) ms
  read_begins ms e l = ([], subst (λ (xs : List Move). LineMoves version own (Read slot off len) xs) (sym (append-nil ms)) l)

  read_answers : (ms : List Move) (r : LineResult) → AnswersRead blob off len r → FailsAt (last_fetch None ms) r → Answers own (Read slot off len) ((Read slot off len, Begun) ∷ ms) r
  read_answers ms r p f = (subst (λ (o : Option Named). IfHeld o (λ b. AnswersRead b off len r)) (sym holds) p, record { fault = f.fault; cause = f.cause; apart = f.apart })

  pub read_cut : (e : AllocError) (mid now : List CoreEvent) → Gains who (Read slot off len) Begun own mid → FetchesSome who slot (read_windows blob.1 off len).first (read_windows blob.1 off len).past mid now
      → Ends version who (Read slot off len) (Err e) own now
  read_cut = range_cut version own who slot (Read slot off len) (read_windows blob.1 off len) (AnswersRead blob off len) read_line read_begins read_answers (λ f. tt) (λ m. tt)

  -- all windows are known, and the bytes are given, or there is no memory for them
  pub read_given : (answer : LineAnswer) (known : Known) (mid now : List CoreEvent) → Gains who (Read slot off len) Begun own mid
      → FetchesSome who slot (read_windows blob.1 off len).first (read_windows blob.1 off len).past mid now
      → ShowsAll blob known (read_windows blob.1 off len) → IfOk answer (IsBytes (read_of blob.1 known off len)) → Ends version who (Read slot off len) answer own now
  read_given (Err e) known mid now g f shows is = read_cut e mid now g f
  read_given (Ok (results.Bytes bytes)) known mid now g f shows is =
      range_known version own who slot (Read slot off len) (read_windows blob.1 off len) (AnswersRead blob off len) read_line read_begins read_answers (λ n. tt) (λ m. tt)
      (results.Bytes bytes) mid now g f (known, shows, is) (λ k e. absurd (cc)) (λ m e. absurd (cc))
  read_given (Ok _) known mid now g f shows is = absurd is

  pub read_fails : (r : LineResult) (ws : List ℕ) (w : ℕ) (q : Reply) (mid now : List CoreEvent) → Gains who (Read slot off len) Begun own mid
      → RiseFrom (read_windows blob.1 off len).first (read_windows blob.1 off len).past (ws ++ w ∷ []) → FailsBy q r
      → Since who (fetches slot ws ++ (Fetch slot w, q) ∷ []) mid now → Ends version who (Read slot off len) (Ok r) own now
  read_fails = range_fails version own who slot (Read slot off len) (read_windows blob.1 off len) (AnswersRead blob off len) read_line read_begins read_answers (λ f. tt) (λ m. tt)

  -- a window at which the read ends
  pub read_found : (first past : ℕ) (new : Reading) (o : Option LineResult) (r : LineResult) (mid now : List CoreEvent) → first ≡ (read_windows blob.1 off len).first → past ≡ (read_windows blob.1 off len).past
      → Gains who (Read slot off len) Begun own mid → FindsRange who slot first past new (Ok o) mid now → o ≡ Some r → Ends version who (Read slot off len) (Ok r) own now
  read_found first past new o r mid now begin end g h is =
      let found : FindsRange who slot (read_windows blob.1 off len).first (read_windows blob.1 off len).past new (Ok (Some r)) mid now =
      subst (λ (x : ℕ × ℕ × Option LineResult). FindsRange who slot x.0 x.1 new (Ok x.2) mid now) (λ i. (begin i, end i, is i)) h in
      read_fails r found.0 found.1 found.2 mid now g found.3 found.4 found.5

  -- all windows are known, and the bytes are given, or there is no memory for them
  pub read_whole : (first past : ℕ) (new : Reading) (o : Option LineResult) (answer : LineAnswer) (mid now : List CoreEvent) → first ≡ (read_windows blob.1 off len).first → past ≡ (read_windows blob.1 off len).past
      → Gains who (Read slot off len) Begun own mid → FindsRange who slot first past new (Ok o) mid now → o ≡ None → IsReading new → new.root ≡ blob.0 → new.size ≡ blob.1
      → IfOk answer (IsBytes (read_of new.size (known_of new) off len)) → Ends version who (Read slot off len) answer own now
  read_whole first past new o answer mid now begin end g h is reading is_root is_size given =
      let found : FindsRange who slot (read_windows blob.1 off len).first (read_windows blob.1 off len).past new (Ok None) mid now =
      subst (λ (x : ℕ × ℕ × Option LineResult). FindsRange who slot x.0 x.1 new (Ok x.2) mid now) (λ i. (begin i, end i, is i)) h in
      let shows : ShowsAll blob (known_of new) (read_windows blob.1 off len) =
      λ w low high. subst (λ (x : Digest × ℕ). ShowsWindow x (known_of new) w) (λ i. (is_root i, is_size i)) (known_verifies new w reading (found.0 w low high)) in
      read_given answer (known_of new) mid now g found.1 shows (subst (λ (n : ℕ). IfOk answer (IsBytes (read_of n (known_of new) off len))) is_size given)

  -- for want of memory
  pub read_cut_at : (first past : ℕ) (e : AllocError) (mid now : List CoreEvent) → first ≡ (read_windows blob.1 off len).first → past ≡ (read_windows blob.1 off len).past
      → Gains who (Read slot off len) Begun own mid → FetchesSome who slot first past mid now → Ends version who (Read slot off len) (Err e) own now
  read_cut_at first past e mid now begin end g f =
      read_cut e mid now g (subst (λ (x : ℕ × ℕ). FetchesSome who slot x.0 x.1 mid now) (λ i. (begin i, end i)) f)

  -- there was no memory for a reader
  pub read_unread : (e : AllocError) (mid now : List CoreEvent) → Gains who (Read slot off len) Begun own mid → now ≡ mid → Ends version who (Read slot off len) (Err e) own now
  read_unread e mid now g same = read_cut e mid now g (some_none who slot _ _ mid now same)

-- a read that was refused
pub read_refused : (version : ℕ) (who : Who) (slot off len : ℕ) (q : Reply) (r : LineResult) (old now : List CoreEvent) → IsRefusal q → Gains who (Read slot off len) q old now → IsReply q r
    → Ends version who (Read slot off len) (Ok r) old now
read_refused version who slot off len q r old now h g is = record {
  moves = (Read slot off len, q) ∷ [];
  since = since_one who (Read slot off len) q old now g;
  allowed = (inl (q, not_reading q h, refl), answers q h is);
} where
  answers : (q : Reply) → IsRefusal q → IsReply q r → Answers old (Read slot off len) ((Read slot off len, q) ∷ []) r
  answers Begun h is = absurd h
  answers _ h is = is
