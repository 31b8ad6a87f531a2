-- The results of lines whose events have replies that come where nothing fails.
use Rattle.std.proofs.Common.{◌≡◌, ℕ, ◌==◌, inl, inr, Bool, true, false, cond, Option, None, Some, List, [], ◌∷◌, ◌++◌, map, refl, ap, sym, subst}
use Rattle.std.specs.Prelude.{IsSomeAnd, if◌then◌else◌}
use Rattle.std.specs.List.{AllByRecursion}
use Rattle.std.proofs.lemmas.List.Elements.{All-contains_itself, recursion_from_All}
use Rattle.spec_tree.specs.declared.Digest.{Digest}
use Rattle.spec_tree.specs.Tree.{need_of}
use Rattle.spec_core.specs.declared.act.Act.{Act}
use Rattle.spec_core.specs.declared.act.Act.TheVariants.{Begin, Admit, Put, Settle, Retire, Open, Fetch, Read, Scan, Close, Unlink, Sync, List as ListAll, Unmount}
use Rattle.spec_core.specs.declared.event.CoreEvent.{CoreEvent}
use Rattle.spec_core.specs.declared.reply.Reply.{Reply}
use Rattle.spec_core.specs.declared.reply.Reply.TheVariants as replies
use Rattle.spec_core.specs.declared.who.Who.{Who}
use Rattle.spec_window.specs.declared.mismatch.Mismatch.{Mismatch}
use Rattle.spec_core.specs.History.{History}
use Rattle.spec_crash.specs.Timing.{LastHas}
use Rattle.spec_script.specs.Tasks.{task_of}
use Rattle.spec_script.specs.declared.line.ScriptLine.{ScriptLine}
use Rattle.spec_script.specs.declared.task.Task.{Task}
use Rattle.spec_script.specs.declared.task.Task.TheVariants as tasks
use Rattle.spec_session.specs.Conform.{Request, events_of, own_act, request_of, requests_of}
use Rattle.spec_session.specs.Lines.{AddMoves, LineMoves, Make, Move, admits, puts}
use Rattle.spec_session.specs.Own.{Named, slot_holds}
use Rattle.spec_session.specs.Told.{is_retire, lines_of_session}
use Rattle.spec_session.specs.declared.result.LineResult.{LineResult}
use Rattle.spec_session.specs.declared.result.LineResult.TheVariants as results
use Rattle.spec_served.specs.Answers.{Answers, AnswersAdd, AnswersBy, AnswersOpen, AnswersRead, AnswersScan, Fails, IfHeld, IsReply, last_fetch, last_reply}
use Rattle.spec_served.specs.Served.{ServeLines}
use Rattle.spec_headline.specs.Complete.{GoWell, GoesWell}
use Rattle.spec_headline.specs.Run.{EndsWithUnmount}
use Rattle.spec_complete.specs.Good.{IsGood, RunsGoWell}
use Rattle.spec_complete.proofs.Going.{events_good}

-- ---- lists

-- of two lists the second
pub behind : {A : Type 0} (P : A → Type 0) (xs ys : List A) → AllByRecursion P (xs ++ ys) → AllByRecursion P ys
behind P [] ys all = all
behind P (x ∷ xs) ys all = behind P xs ys all.1

-- and the first
pub in_front : {A : Type 0} (P : A → Type 0) (xs ys : List A) → AllByRecursion P (xs ++ ys) → AllByRecursion P xs
in_front P [] ys all = tt
in_front P (x ∷ xs) ys all = (all.0, in_front P xs ys all.1)

-- ---- the moves of a line

-- each of these moves has a reply that comes where nothing fails
abbrev pub GoodMoves : List Move → Type 0
GoodMoves ms = AllByRecursion (λ m. IsGood m.0 m.1) ms

abbrev pub GoodEvents : List CoreEvent → Type 0
GoodEvents es = AllByRecursion (λ e. IsGood e.act e.reply) es

made_good : (who : Who) (ms : List Move) (es : List CoreEvent) → Make who ms es → GoodEvents es → GoodMoves ms
made_good who [] [] m good = tt
made_good who [] (e ∷ es) m good = absurd m
made_good who (x ∷ ms) [] m good = absurd m
made_good who (x ∷ ms) (e ∷ es) (by, act, reply, rest) good =
    (subst (λ (p : Act × Reply). IsGood p.0 p.1) (λ k. (act k, reply k)) good.0, made_good who ms es rest good.1)

-- the act of the first move
abbrev pub first_act : List Move → Option Act
first_act [] = None
first_act (m ∷ ms) = Some m.0

-- ---- an add

module _ (r : Digest) (n : ℕ) (result : LineResult) where
  begin_result : (q : Reply) → IsGood (Begin r n) q → ¬ (q ≡ replies.Granted) → IsReply q result → GoesWell (Begin r n) result
  begin_result replies.Exists good other is = subst (GoesWell (Begin r n)) (sym is) tt
  begin_result (replies.Leaving h) good other is = subst (GoesWell (Begin r n)) (sym is) tt
  begin_result replies.InFlight good other is = subst (GoesWell (Begin r n)) (sym is) tt
  begin_result replies.Granted good other is = absurd (other refl)
  begin_result q good other is = absurd good

  settle_result : (q : Reply) → IsGood (Settle r) q → IsReply q result → GoesWell (Begin r n) result
  settle_result replies.Published good is = subst (GoesWell (Begin r n)) (sym is) tt
  settle_result q good is = absurd good

  admitted_alone : (q : Reply) → IsGood (Admit r) q → q ≡ replies.Admitted
  admitted_alone replies.Admitted good = refl
  admitted_alone q good = absurd good

  written_alone : (k : ℕ) (q : Reply) → IsGood (Put k) q → q ≡ replies.Written
  written_alone k replies.Written good = refl
  written_alone k q good = absurd good

  last_is : (found : Option Reply) (xs : List Move) (a : Act) (q : Reply) → is_retire a ≡ false → last_reply found (xs ++ (a, q) ∷ []) ≡ Some q
  last_is found [] a q ends = ap (λ (b : Bool). if b then found else Some q) ends
  last_is found (x ∷ xs) a q ends = last_is (if is_retire x.0 then found else Some x.1) xs a q ends

  answers_reply : (q : Reply) (o : Option Reply) → o ≡ Some q → IsSomeAnd o (λ reply. IsReply reply result) → IsReply q result
  answers_reply q o is answers = subst (λ (x : Option Reply). IsSomeAnd x (λ reply. IsReply reply result)) is answers

  add_goes : (version : ℕ) (ms : List Move) → AddMoves version r n ms → GoodMoves ms → AnswersAdd ms result → GoesWell (Begin r n) result
  add_goes version ms (inl (q, other, is)) good answers =
      let all : GoodMoves ((Begin r n, q) ∷ []) = subst GoodMoves is good in
      begin_result q all.0 other (subst (λ (xs : List Move). AnswersAdd xs result) is answers)
  add_goes version ms (inr (inl (q, other, is))) good answers =
      let all : GoodMoves ((Begin r n, replies.Granted) ∷ (Admit r, q) ∷ []) = subst GoodMoves is good in
      absurd (other (admitted_alone q all.1.0))
  add_goes version ms (inr (inr (inl (k, q, lt, other, is)))) good answers =
      let all : GoodMoves (admits r n ++ puts k ++ (Put k, q) ∷ (Retire r, replies.Retired) ∷ []) = subst GoodMoves is good in
      let last : GoodMoves ((Put k, q) ∷ (Retire r, replies.Retired) ∷ []) = behind (λ (m : Move). IsGood m.0 m.1) (puts k) ((Put k, q) ∷ (Retire r, replies.Retired) ∷ []) all.1.1 in
      absurd (other (written_alone k q last.0))
  add_goes version ms (inr (inr (inr (q, is)))) good answers =
      let k : ℕ = need_of version n in
      let all : GoodMoves (admits r n ++ puts k ++ (Settle r, q) ∷ []) = subst GoodMoves is good in
      let last : GoodMoves ((Settle r, q) ∷ []) = behind (λ (m : Move). IsGood m.0 m.1) (puts k) ((Settle r, q) ∷ []) all.1.1 in
      settle_result q last.0
      (answers_reply q (last_reply None (admits r n ++ puts k ++ (Settle r, q) ∷ [])) (last_is (Some replies.Admitted) (puts k) (Settle r) q refl)
      (subst (λ (xs : List Move). AnswersAdd xs result) is answers))

-- ---- other lines

-- no fetch of these moves was refused by the device
no_fault : (found : Option Reply) (ms : List Move) → ((f : ℕ) → ¬ (found ≡ Some (replies.ReadFault f))) → GoodMoves ms → (f : ℕ) → ¬ (last_fetch found ms ≡ Some (replies.ReadFault f))
no_fault found [] calm good f = calm f
no_fault found ((Fetch slot w, q) ∷ ms) calm good f = no_fault (Some q) ms (fetched q good.0) good.1 f where
  fetched : (q : Reply) → IsGood (Fetch slot w) q → (f : ℕ) → ¬ (Some q ≡ Some (replies.ReadFault f))
  fetched replies.Fetched good f is = cc
  fetched replies.BadSlot good f is = cc
  fetched q good f is = absurd good
no_fault found ((Begin r n, q) ∷ ms) calm good f = no_fault found ms calm good.1 f
no_fault found ((Admit r, q) ∷ ms) calm good f = no_fault found ms calm good.1 f
no_fault found ((Put i, q) ∷ ms) calm good f = no_fault found ms calm good.1 f
no_fault found ((Settle r, q) ∷ ms) calm good f = no_fault found ms calm good.1 f
no_fault found ((Retire r, q) ∷ ms) calm good f = no_fault found ms calm good.1 f
no_fault found ((Open slot r, q) ∷ ms) calm good f = no_fault found ms calm good.1 f
no_fault found ((Read slot off len, q) ∷ ms) calm good f = no_fault found ms calm good.1 f
no_fault found ((Scan slot, q) ∷ ms) calm good f = no_fault found ms calm good.1 f
no_fault found ((Close slot, q) ∷ ms) calm good f = no_fault found ms calm good.1 f
no_fault found ((Unlink r, q) ∷ ms) calm good f = no_fault found ms calm good.1 f
no_fault found ((Sync, q) ∷ ms) calm good f = no_fault found ms calm good.1 f
no_fault found ((ListAll, q) ∷ ms) calm good f = no_fault found ms calm good.1 f
no_fault found ((Unmount, q) ∷ ms) calm good f = no_fault found ms calm good.1 f

-- the own act of a line that is no add
abbrev pub IsOther : Act → Type 0
IsOther (Open slot r) = Unit {0}
IsOther (Read slot off len) = Unit {0}
IsOther (Scan slot) = Unit {0}
IsOther (Close slot) = Unit {0}
IsOther (Unlink r) = Unit {0}
IsOther Sync = Unit {0}
IsOther ListAll = Unit {0}
IsOther act = ⊥

-- the own act of a line
abbrev pub IsOwn : Act → Type 0
IsOwn (Begin r n) = Unit {0}
IsOwn act = IsOther act

own_is : (t : Task) → IsOwn (own_act t)
own_is (tasks.Add r n) = tt
own_is (tasks.Open slot r) = tt
own_is (tasks.Read slot off len) = tt
own_is (tasks.Scan slot) = tt
own_is (tasks.Close slot) = tt
own_is (tasks.Unlink r) = tt
own_is tasks.Sync = tt
own_is tasks.List = tt

pub requests_own : (lines : List ScriptLine) → AllByRecursion (λ t. IsOwn t.1) (map request_of lines)
requests_own [] = tt
requests_own (l ∷ lines) = (own_is (task_of l.command), requests_own lines)

-- the result is no mismatch
abbrev pub NoMismatch : LineResult → Type 0
NoMismatch r = (m : Mismatch) → ¬ (r ≡ results.Mismatch m)

-- the events before a line, its moves and its result
module _ (own : List CoreEvent) (ms : List Move) (r : LineResult) (calm : (f : ℕ) → ¬ (last_fetch None ms ≡ Some (replies.ReadFault f))) (fit : NoMismatch r) where
  open_result : (slot : ℕ) (root : Digest) (size : ℕ) (x : LineResult) → NoMismatch x → AnswersOpen (root, size) ms x → Fails ms x → GoesWell (Open slot root) x
  open_result slot root size (results.Opened n) fits answers fails = tt
  open_result slot root size (results.ReadFault f) fits answers fails = absurd (calm f (fails.cause f refl))
  open_result slot root size (results.Mismatch m) fits answers fails = absurd (fits m refl)
  open_result slot root size x fits answers fails = absurd answers

  read_result : (slot off len : ℕ) (o : Option Named) (x : LineResult) → NoMismatch x → IfHeld o (λ blob. AnswersRead blob off len x) → Fails ms x → GoesWell (Read slot off len) x
  read_result slot off len None x fits answers fails = absurd answers
  read_result slot off len (Some blob) (results.Bytes bytes) fits answers fails = tt
  read_result slot off len (Some blob) (results.ReadFault f) fits answers fails = absurd (calm f (fails.cause f refl))
  read_result slot off len (Some blob) (results.Mismatch m) fits answers fails = absurd (fits m refl)
  read_result slot off len (Some blob) x fits answers fails = absurd answers

  scan_result : (slot : ℕ) (o : Option Named) (x : LineResult) → NoMismatch x → IfHeld o (λ blob. AnswersScan blob x) → Fails ms x → GoesWell (Scan slot) x
  scan_result slot None x fits answers fails = absurd answers
  scan_result slot (Some blob) (results.Whole size) fits answers fails = tt
  scan_result slot (Some blob) (results.ReadFault f) fits answers fails = absurd (calm f (fails.cause f refl))
  scan_result slot (Some blob) (results.Mismatch m) fits answers fails = absurd (fits m refl)
  scan_result slot (Some blob) x fits answers fails = absurd answers

  -- a result that is the reply
  is_result : (act : Act) (x : LineResult) → GoesWell act x → r ≡ x → GoesWell act r
  is_result act x goes is = subst (GoesWell act) (sym is) goes

  listed_result : (count : ℕ) (x : LineResult) → IsReply (replies.Listed count) x → GoesWell ListAll x
  listed_result count (results.Listed blobs) answers = tt
  listed_result count x answers = absurd answers

  other_result : (act : Act) (q : Reply) → IsOther act → IsGood act q → AnswersBy own act q ms r → GoesWell act r
  other_result (Open slot root) (replies.Opened size) other good answers = open_result slot root size r fit answers.0 answers.1
  other_result (Open slot root) replies.NotFound other good answers = is_result (Open slot root) results.NotFound tt answers
  other_result (Open slot root) replies.SlotTaken other good answers = is_result (Open slot root) results.SlotTaken tt answers
  other_result (Read slot off len) replies.Reading other good answers = read_result slot off len (slot_holds slot own) r fit answers.0 answers.1
  other_result (Read slot off len) replies.BadSlot other good answers = is_result (Read slot off len) results.BadSlot tt answers
  other_result (Scan slot) replies.Reading other good answers = scan_result slot (slot_holds slot own) r fit answers.0 answers.1
  other_result (Scan slot) replies.BadSlot other good answers = is_result (Scan slot) results.BadSlot tt answers
  other_result (Close slot) replies.Closed other good answers = is_result (Close slot) results.Closed tt answers
  other_result (Close slot) replies.BadSlot other good answers = is_result (Close slot) results.BadSlot tt answers
  other_result (Unlink root) replies.Unlinked other good answers = is_result (Unlink root) results.Unlinked tt answers
  other_result (Unlink root) replies.NotFound other good answers = is_result (Unlink root) results.NotFound tt answers
  other_result Sync replies.Synced other good answers = is_result Sync results.Synced tt answers
  other_result ListAll (replies.Listed count) other good answers = listed_result count r answers
  other_result (Open slot root) q other good answers = absurd good
  other_result (Read slot off len) q other good answers = absurd good
  other_result (Scan slot) q other good answers = absurd good
  other_result (Close slot) q other good answers = absurd good
  other_result (Unlink root) q other good answers = absurd good
  other_result Sync q other good answers = absurd good
  other_result ListAll q other good answers = absurd good
  other_result act q other good answers = absurd other

-- a line's first move is by its own act
pub first_own : (version : ℕ) (own : List CoreEvent) (act : Act) (ms : List Move) → IsOther act → LineMoves version own act ms → first_act ms ≡ Some act
first_own version own (Begin r n) ms other moves = absurd other
first_own version own (Open slot r) ms other (inl (q, refused, is)) = ap first_act is
first_own version own (Open slot r) ms other (inr (inl (n, inl is))) = ap first_act is
first_own version own (Open slot r) ms other (inr (inl (n, inr is))) = ap first_act is
first_own version own (Open slot r) ms other (inr (inr (n, q, p, is))) = ap first_act is
first_own version own (Read slot off len) ms other (inl (q, refused, is)) = ap first_act is
first_own version own (Read slot off len) ms other (inr (inl (ws, rise, is))) = ap first_act is
first_own version own (Read slot off len) ms other (inr (inr (ws, w, q, rise, refused, is))) = ap first_act is
first_own version own (Scan slot) ms other (inl (q, refused, is)) = ap first_act is
first_own version own (Scan slot) ms other (inr (inl (ws, rise, is))) = ap first_act is
first_own version own (Scan slot) ms other (inr (inr (ws, w, q, rise, refused, is))) = ap first_act is
first_own version own (Admit r) ms other (q, is) = absurd other
first_own version own (Put i) ms other (q, is) = absurd other
first_own version own (Settle r) ms other (q, is) = absurd other
first_own version own (Retire r) ms other (q, is) = absurd other
first_own version own (Fetch slot w) ms other (q, is) = absurd other
first_own version own (Close slot) ms other (q, is) = ap first_act is
first_own version own (Unlink r) ms other (q, is) = ap first_act is
first_own version own Sync ms other (q, is) = ap first_act is
first_own version own ListAll ms other (q, is) = ap first_act is
first_own version own Unmount ms other (q, is) = absurd other

pub some_is : {A : Type 0} (x y : A) → Some x ≡ Some y → x ≡ y
some_is x y e = cc e

-- ---- any line

-- a request that a script may make
line_goes : (version : ℕ) (own : List CoreEvent) (act : Act) (ms : List Move) (r : LineResult) → IsOwn act → LineMoves version own act ms → GoodMoves ms → NoMismatch r → Answers own act ms r → GoesWell act r
line_goes version own act [] r mine moves good fit answers = absurd answers
line_goes version own (Begin root n) (m ∷ ms) r mine moves good fit answers = add_goes root n r version (m ∷ ms) moves good answers
line_goes version own act (m ∷ ms) r mine moves good fit answers =
    let first : Some m.0 ≡ Some act = first_own version own act (m ∷ ms) mine moves in
    other_result own (m ∷ ms) r (no_fault None (m ∷ ms) (λ f is. cc) good) fit act m.1 mine (subst (λ (a : Act). IsGood a m.1) (some_is m.0 act first) good.0) answers

-- ---- lines

serve_lines : (version : ℕ) (own : List CoreEvent) (ts : List Request) (es : List CoreEvent) (rs : List LineResult) → ServeLines version own ts es rs → AllByRecursion (λ t. IsOwn t.1) ts → GoodEvents es → AllByRecursion NoMismatch rs → GoWell ts rs
serve_lines version own [] es [] serves mine good fit = tt
serve_lines version own [] es (r ∷ rs) serves mine good fit = cc serves.1
serve_lines version own (t ∷ ts) es [] serves mine good fit = absurd serves
serve_lines version own (t ∷ ts) es (r ∷ rs) (xs, ys, is, (ms, moves, make, answers), rest) mine good fit =
    let all : GoodEvents (xs ++ ys) = subst GoodEvents is good in (
      line_goes version own t.1 ms r mine.0 moves (made_good t.0 ms xs make (in_front (λ (e : CoreEvent). IsGood e.act e.reply) xs ys all)) fit.0 answers,
      serve_lines version (own ++ xs) ts ys rs rest mine.1 (behind (λ (e : CoreEvent). IsGood e.act e.reply) xs ys all) fit.1,
    )

-- the events of a session are among all
of_session : (s : ℕ) (es : List CoreEvent) → GoodEvents es → GoodEvents (events_of s es)
of_session s [] good = tt
of_session s (e ∷ es) good = by (e.who.session == s) (of_session s es good.1) where
  by : (b : Bool) → GoodEvents (events_of s es) → GoodEvents (cond b (e ∷ events_of s es) (events_of s es))
  by true rest = (good.0, rest)
  by false rest = rest

last_unmounted : (es : List CoreEvent) (e : CoreEvent) → e.reply ≡ replies.Unmounted → LastHas (λ x. x.reply ≡ replies.Unmounted) (es ++ e ∷ [])
last_unmounted [] e is = is
last_unmounted (x ∷ []) e is = is
last_unmounted (x ∷ y ∷ es) e is = last_unmounted (y ∷ es) e is

unmounted_alone : (q : Reply) → IsGood Unmount q → q ≡ replies.Unmounted
unmounted_alone replies.Unmounted good = refl
unmounted_alone q good = absurd good

-- the unmount went well
pub unmount_goes : (h : History) → EndsWithUnmount h → GoodEvents h.events → LastHas (λ e. e.reply ≡ replies.Unmounted) h.events
unmount_goes h ends good =
    let last : GoodEvents (ends.unmount ∷ []) = behind (λ (e : CoreEvent). IsGood e.act e.reply) ends.sessions (ends.unmount ∷ []) (subst GoodEvents ends.is good) in
    let is : ends.unmount.reply ≡ replies.Unmounted = unmounted_alone ends.unmount.reply (subst (λ (a : Act). IsGood a ends.unmount.reply) ends.act last.0) in
    subst (λ (es : List CoreEvent). LastHas (λ e. e.reply ≡ replies.Unmounted) es) (sym ends.is) (last_unmounted ends.sessions ends.unmount is)

pub runs_go_well : RunsGoWell
runs_go_well run next first last ended calm enough fit =
    let good : GoodEvents run.history.events = events_good run next first last ended calm enough in
    record {
      lines = λ s lt.
          serve_lines run.history.version [] (requests_of s run.lines) (events_of s run.history.events) (run.results s) (ended.served s lt) (requests_own (lines_of_session s run.lines))
          (of_session s run.history.events good)
          (recursion_from_All NoMismatch (run.results s) (λ k d within m is. fit (s, _, m, lt, All-contains_itself (run.results s) k d within, is)));
      unmounted = unmount_goes run.history ended.unmount good;
    }
