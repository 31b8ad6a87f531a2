-- The line whose result is a mismatch: its own event, in the history, and its blob.
use Rattle.std.proofs.Common.{◌≡◌, ℕ, ◌+◌, ◌/◌, ◌<◌, ◌≤◌, ◌==◌, ◌&&◌, min, Bool, true, false, cond, Option, None, Some, List, [], ◌∷◌, ◌++◌, map, filter, refl, ap, sym, ◌∙◌, subst, arith, append_assoc, ne_eqb}
use Rattle.std.specs.Prelude.{IsSomeAnd, if◌then◌else◌}
use Rattle.std.specs.List.{AllByRecursion}
use Rattle.std.proofs.lemmas.Bool.{eqb-true}
use Rattle.std.proofs.lemmas.List.Elements.{All-contains, All-from_recursion}
use Rattle.spec_tree.specs.Tree.{windows_of}
use Rattle.spec_disk.specs.declared.event.Event.{Event}
use Rattle.spec_disk.specs.Disk.{Blocks}
use Rattle.spec_window.specs.declared.mismatch.Mismatch.{Mismatch}
use Rattle.spec_core.specs.declared.act.Act.{Act}
use Rattle.spec_core.specs.declared.act.Act.TheVariants.{Begin, Open, Read, Scan}
use Rattle.spec_core.specs.declared.event.CoreEvent.{CoreEvent}
use Rattle.spec_core.specs.declared.reply.Reply.{Reply}
use Rattle.spec_core.specs.declared.reply.Reply.TheVariants as replies
use Rattle.spec_core.specs.declared.who.Who.{Who}
use Rattle.spec_core.specs.History.{History}
use Rattle.spec_script.specs.Lawful.{Rise}
use Rattle.spec_script.specs.declared.line.ScriptLine.{ScriptLine}
use Rattle.spec_session.specs.Conform.{Request, events_of, request_of, requests_of}
use Rattle.spec_session.specs.Lines.{LineMoves, Make, Move, all_windows, last_window, read_windows}
use Rattle.spec_session.specs.Own.{Named, slot_holds}
use Rattle.spec_session.specs.Told.{lines_of_session, same_who}
use Rattle.spec_session.specs.declared.result.LineResult.{LineResult}
use Rattle.spec_session.specs.declared.result.LineResult.TheVariants as results
use Rattle.spec_served.specs.Answers.{Answers, AnswersBy, IfHeld, IsReply, last_reply}
use Rattle.spec_served.specs.Device.{OwnEvent, Range, SeenAt, SeenBy, SeenByAll, blob_by, range_by}
use Rattle.spec_served.specs.Served.{ServeLines}
use Rattle.spec_complete.specs.Fit.{IsAbout, LinesFit, LinesThatFitMeetNone}
use Rattle.spec_complete.proofs.Results.{IsOwn, NoMismatch, first_act, first_own, requests_own, some_is}

-- ---- the own event of a session, among all events

-- an event that a session made, and those before it
pub record Split (s : ℕ) (es done : List CoreEvent) (e : CoreEvent) : Type 0 where
  pub before : List CoreEvent
  pub rest : List CoreEvent
  pub is : es ≡ before ++ e ∷ rest
  pub own : events_of s before ≡ done

split_own : (s : ℕ) (es done : List CoreEvent) (e : CoreEvent) (later : List CoreEvent) → events_of s es ≡ done ++ e ∷ later → Split s es done e
split_own s [] [] e later is = absurd cc
split_own s [] (d ∷ done) e later is = absurd cc
split_own s (x ∷ es) done e later is = by (x.who.session == s) refl done is (split_own s es) where
  by : (b : Bool) → (x.who.session == s) ≡ b → (done : List CoreEvent) → cond b (x ∷ events_of s es) (events_of s es) ≡ done ++ e ∷ later
      → ((done : List CoreEvent) (e : CoreEvent) (later : List CoreEvent) → events_of s es ≡ done ++ e ∷ later → Split s es done e) → Split s (x ∷ es) done e
  by true mine [] is later_split = record {
    before = [];
    rest = es;
    is = let same : x ≡ e = cc in ap (λ (y : CoreEvent). y ∷ es) same;
    own = refl;
  }
  by true mine (d ∷ done) is later_split =
      let same : x ≡ d = cc in
      let tail : events_of s es ≡ done ++ e ∷ later = cc in
      let split = later_split done e later tail in
      record {
        before = x ∷ split.before;
        rest = split.rest;
        is = ap (λ (ys : List CoreEvent). x ∷ ys) split.is;
        own = ap (λ (b : Bool). cond b (x ∷ events_of s split.before) (events_of s split.before)) mine ∙ ap (λ (ys : List CoreEvent). x ∷ ys) split.own ∙ ap (λ (y : CoreEvent). y ∷ done) same;
      }
  by false other done is later_split =
      let split = later_split done e later is in
      record {
        before = x ∷ split.before;
        rest = split.rest;
        is = ap (λ (ys : List CoreEvent). x ∷ ys) split.is;
        own = ap (λ (b : Bool). cond b (x ∷ events_of s split.before) (events_of s split.before)) other ∙ split.own;
      }

-- no event before is of the same line
none_same : (s : ℕ) (who : Who) (es : List CoreEvent) → who.session ≡ s → AllByRecursion (λ e. e.who.line < who.line) (events_of s es) → filter (λ x. same_who x.who who) es ≡ []
none_same s who [] of low = refl
none_same s who (e ∷ es) of low = by (e.who.session == s) refl low (none_same s who es of) where
  by : (b : Bool) → (e.who.session == s) ≡ b → AllByRecursion (λ x. x.who.line < who.line) (cond b (e ∷ events_of s es) (events_of s es))
      → (AllByRecursion (λ x. x.who.line < who.line) (events_of s es) → filter (λ x. same_who x.who who) es ≡ [])
      → cond (same_who e.who who) (e ∷ filter (λ x. same_who x.who who) es) (filter (λ x. same_who x.who who) es) ≡ []
  by true mine low rest =
      let apart : (e.who.line == who.line) ≡ false = ne_eqb e.who.line who.line (λ same. omega (arith, low.0, same)) in
      ap (λ (b : Bool). cond ((e.who.session == who.session) && b) (e ∷ filter (λ x. same_who x.who who) es) (filter (λ x. same_who x.who who) es)) apart
      ∙ and_false (e.who.session == who.session) (rest low.1)
    where
      and_false : (b : Bool) → filter (λ x. same_who x.who who) es ≡ [] → cond (b && false) (e ∷ filter (λ x. same_who x.who who) es) (filter (λ x. same_who x.who who) es) ≡ []
      and_false true none = none
      and_false false none = none
  by false other low rest =
      ap (λ (n : ℕ). cond ((e.who.session == n) && (e.who.line == who.line)) (e ∷ filter (λ x. same_who x.who who) es) (filter (λ x. same_who x.who who) es)) of
      ∙ ap (λ (b : Bool). cond (b && (e.who.line == who.line)) (e ∷ filter (λ x. same_who x.who who) es) (filter (λ x. same_who x.who who) es)) other
      ∙ rest low

-- ---- the line whose result is a mismatch

-- what a line is about
pub record About (own : List CoreEvent) (act : Act) (q : Reply) : Type 0 where
  pub blob : Named
  pub range : Range
  pub named : blob_by own act q ≡ Some blob
  pub ranged : range_by blob.1 act ≡ Some range

-- no reply is a mismatch
no_reply : (q : Reply) (m : Mismatch) → IsReply q (results.Mismatch m) → ⊥
no_reply replies.Published m is = cc
no_reply (replies.Stopped f) m is = cc
no_reply replies.Exists m is = cc
no_reply (replies.Leaving h) m is = cc
no_reply replies.InFlight m is = cc
no_reply (replies.NoSpace need room) m is = cc
no_reply (replies.NoNodes need free) m is = cc
no_reply replies.NumberEnd m is = cc
no_reply (replies.DeviceFault f) m is = cc
no_reply (replies.ReadFault f) m is = cc
no_reply replies.NotFound m is = cc
no_reply replies.SlotTaken m is = cc
no_reply replies.BadSlot m is = cc
no_reply replies.Closed m is = cc
no_reply replies.Unlinked m is = cc
no_reply replies.Synced m is = cc
no_reply q m is = absurd is

no_add : (o : Option Reply) (m : Mismatch) → IsSomeAnd o (λ q. IsReply q (results.Mismatch m)) → ⊥
no_add None m answers = absurd answers
no_add (Some q) m answers = no_reply q m answers

-- a line that met a mismatch opened a blob, or its slot holds one
mismatch_about : (own : List CoreEvent) (act : Act) (q : Reply) (ms : List Move) (m : Mismatch) → AnswersBy own act q ms (results.Mismatch m) → About own act q
mismatch_about own (Begin r n) q ms m answers = absurd (no_add (last_reply None ms) m answers)
mismatch_about own (Open slot r) (replies.Opened size) ms m answers = record {
  blob = (r, size);
  range = record { windows = record { first = last_window size; past = last_window size + 1 }; off = 0; len = 0 };
  named = refl;
  ranged = refl;
}
mismatch_about own (Read slot off len) replies.Reading ms m answers = by _ (slot_holds slot own) refl answers.0 where
  by : (P : Named → Type 0) (o : Option Named) → slot_holds slot own ≡ o → IfHeld o P → About own (Read slot off len) replies.Reading
  by P None is held = absurd held
  by P (Some blob) is held = record { blob = blob; range = record { windows = read_windows blob.1 off len; off = off; len = len }; named = is; ranged = refl }
mismatch_about own (Scan slot) replies.Reading ms m answers = by _ (slot_holds slot own) refl answers.0 where
  by : (P : Named → Type 0) (o : Option Named) → slot_holds slot own ≡ o → IfHeld o P → About own (Scan slot) replies.Reading
  by P None is held = absurd held
  by P (Some blob) is held = record { blob = blob; range = record { windows = all_windows blob.1; off = 0; len = 0 }; named = is; ranged = refl }
mismatch_about own act q ms m answers = absurd (no_reply q m answers)

-- the windows of a line are windows of its blob
between_past : (b : Bool) (from to size : ℕ) → from ≤ size → to ≤ size → (if b then from / 65536 else (to + 65535) / 65536) ≤ windows_of size
between_past true from to size low high = omega (arith, low)
between_past false from to size low high = omega (arith, high)

range_past : (size : ℕ) (act : Act) (range : Range) → range_by size act ≡ Some range → range.windows.past ≤ windows_of size
range_past size (Open slot r) range is =
    let same = some_is _ range is in
    subst (λ (x : Range). x.windows.past ≤ windows_of size) same (omega arith)
range_past size (Read slot off len) range is =
    let same = some_is _ range is in
    subst (λ (x : Range). x.windows.past ≤ windows_of size) same
    (between_past (min off size == min (off + len) size) (min off size) (min (off + len) size) size (omega arith) (omega arith))
range_past size (Scan slot) range is =
    let same = some_is _ range is in
    subst (λ (x : Range). x.windows.past ≤ windows_of size) same (omega arith)
range_past size act range is = absurd cc

-- the first move of a line that is about a blob is by its own act
first_is : (version : ℕ) (own : List CoreEvent) (act : Act) (q : Reply) (blob : Named) (ms : List Move) → IsOwn act → blob_by own act q ≡ Some blob → LineMoves version own act ms → first_act ms ≡ Some act
first_is version own (Begin r n) q blob ms mine named moves = absurd cc
first_is version own act q blob ms mine named moves = first_own version own act ms mine moves

-- ---- requests

-- requests of one session, whose lines rise from this one on
abbrev RisingFrom : ℕ → ℕ → List Request → Type 0
RisingFrom s n [] = Unit {0}
RisingFrom s n (t ∷ ts) = (t.0.session ≡ s) × (n ≤ t.0.line) × RisingFrom s (t.0.line + 1) ts

lower : (s m n : ℕ) (ts : List Request) → n ≤ m → RisingFrom s m ts → RisingFrom s n ts
lower s m n [] le rising = tt
lower s m n (t ∷ ts) le rising = (rising.0, omega (arith, le, rising.1), rising.2)

rising : (s n : ℕ) (lines : List ScriptLine) → Rise n lines → RisingFrom s n (requests_of s lines)
rising s n [] r = tt
rising s n (l ∷ lines) r = by (l.session == s) refl (rising s (l.number + 1) lines r.2) where
  by : (b : Bool) → (l.session == s) ≡ b → RisingFrom s (l.number + 1) (requests_of s lines)
      → RisingFrom s n (map request_of (cond b (l ∷ lines_of_session s lines) (lines_of_session s lines)))
  by true mine rest = (eqb-true l.session s mine, r.0, rest)
  by false other rest = lower s (l.number + 1) n (requests_of s lines) (omega (arith, r.0)) rest

-- events of lines below this one
abbrev AreBelow : ℕ → List CoreEvent → Type 0
AreBelow n es = AllByRecursion (λ e. e.who.line < n) es

raise : (m n : ℕ) (es : List CoreEvent) → m ≤ n → AreBelow m es → AreBelow n es
raise m n [] le low = tt
raise m n (e ∷ es) le low = (omega (arith, le, low.0), raise m n es le low.1)

join : (n : ℕ) (xs ys : List CoreEvent) → AreBelow n xs → AreBelow n ys → AreBelow n (xs ++ ys)
join n [] ys low more = more
join n (x ∷ xs) ys low more = (low.0, join n xs ys low.1 more)

made_below : (who : Who) (ms : List Move) (es : List CoreEvent) → Make who ms es → AreBelow (who.line + 1) es
made_below who [] [] m = tt
made_below who [] (e ∷ es) m = absurd m
made_below who (x ∷ ms) [] m = absurd m
made_below who (x ∷ ms) (e ∷ es) (by, act, reply, rest) =
    let same : e.who.line ≡ who.line = ap (λ (w : Who). w.line) by in
    (omega (arith, same), made_below who ms es rest)

-- ---- results

module _ (base : Blocks) (told : List Event) (h : History) (fits : LinesFit base told h) (s : ℕ) where
  line_fits : (version : ℕ) (own : List CoreEvent) (t : Request) (ms : List Move) (xs : List CoreEvent) (r : LineResult) (later : List CoreEvent)
      → events_of s h.events ≡ own ++ (xs ++ later) → t.0.session ≡ s → AreBelow t.0.line own → IsOwn t.1
      → LineMoves version own t.1 ms → Make t.0 ms xs → Answers own t.1 ms r → SeenBy base told h t r → NoMismatch r
  line_fits version own t [] xs r later at of low mine moves make answers seen = absurd answers
  line_fits version own t (m ∷ ms) [] r later at of low mine moves make answers seen = absurd make
  line_fits version own t (m ∷ ms) (e ∷ xs) r later at of low mine moves (who, act, reply, made) answers seen = λ mismatch is.
      let about = mismatch_about own t.1 m.1 (m ∷ ms) mismatch (subst (λ (x : LineResult). AnswersBy own t.1 m.1 (m ∷ ms) x) is answers) in
      let split = split_own s h.events own e (xs ++ later) at in
      let first : m.0 ≡ t.1 = some_is m.0 t.1 (first_is version own t.1 m.1 about.blob (m ∷ ms) mine about.named moves) in
      let asked : e.act ≡ t.1 = act ∙ first in
      let mine_before : events_of t.0.session split.before ≡ own = ap (λ (n : ℕ). events_of n split.before) of ∙ split.own in
      let its_before : events_of e.who.session split.before ≡ own = ap (λ (w : Who). events_of w.session split.before) who ∙ mine_before in
      let event : OwnEvent h t split.before e = record {
        rest = split.rest;
        is = split.is;
        who = who;
        act = asked;
        first = none_same s t.0 split.before of (subst (AreBelow t.0.line) (sym split.own) low);
      } in
      let tells : SeenAt base told h (record { before = split.before; own = e; blob = about.blob }) about.range.windows about.range.off about.range.len r =
      seen split.before e about.blob about.range event ((λ i. blob_by (mine_before i) t.1 (reply i)) ∙ about.named) about.ranged in
      let bad = tells.first mismatch is in
      let about_it : IsAbout h (record { before = split.before; own = e; blob = about.blob }) = record {
        rest = split.rest;
        is = split.is;
        blob = (λ i. blob_by (its_before i) (asked i) (reply i)) ∙ about.named;
      } in
      bad.1.bad (fits (record { before = split.before; own = e; blob = about.blob }) about_it bad.0 (omega (arith, bad.1.within.1, range_past about.blob.1 t.1 about.range about.ranged)))

  serve_fits : (version : ℕ) (own : List CoreEvent) (ts : List Request) (es : List CoreEvent) (rs : List LineResult) (n : ℕ)
      → ServeLines version own ts es rs → SeenByAll base told h ts rs → events_of s h.events ≡ own ++ es → AreBelow n own → RisingFrom s n ts
      → AllByRecursion (λ t. IsOwn t.1) ts → AllByRecursion NoMismatch rs
  serve_fits version own [] es [] n serves seen at low rise mine = tt
  serve_fits version own [] es (r ∷ rs) n serves seen at low rise mine = absurd seen
  serve_fits version own (t ∷ ts) es [] n serves seen at low rise mine = tt
  serve_fits version own (t ∷ ts) es (r ∷ rs) n (xs, ys, is, (ms, moves, make, answers), rest) seen at low rise mine =
      let here : events_of s h.events ≡ own ++ (xs ++ ys) = at ∙ ap (λ (zs : List CoreEvent). own ++ zs) is in (
        line_fits version own t ms xs r ys here rise.0 (raise n t.0.line own rise.1 low) mine.0 moves make answers seen.0,
        serve_fits version (own ++ xs) ts ys rs (t.0.line + 1) rest seen.1 (here ∙ sym (append_assoc own xs ys))
            (join (t.0.line + 1) own xs (raise n (t.0.line + 1) own (omega (arith, rise.1)) low) (made_below t.0 ms xs make)) rise.2 mine.1,
      )

pub meet_none : LinesThatFitMeetNone
meet_none base told run lawful served seen fits (s, r, m, lt, has, is) =
    let all = serve_fits base told run.history fits s run.history.version [] (requests_of s run.lines) (events_of s run.history.events) (run.results s) 1
    (served s lt) (seen s lt) refl tt (rising s 1 run.lines lawful.rise) (requests_own (lines_of_session s run.lines)) in
    All-contains NoMismatch (run.results s) r (All-from_recursion NoMismatch (run.results s) all) has m is
