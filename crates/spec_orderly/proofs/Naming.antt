-- The root that the events of a line name.
use Rattle.std.proofs.Common.{◌≡◌, ℕ, ◌+◌, ◌<◌, ◌≤◌, ◌==◌, Bool, true, false, cond, ◌&&◌, Option, Some, None, List, [], ◌∷◌, ◌++◌, map, refl, sym, ap, ◌∙◌, subst, arith, inl, inr, append_assoc, eq-eqb, ne_eqb}
use Rattle.std.specs.Prelude.{filter, fold}
use Rattle.std.specs.List.{AllByRecursion, range_with_len}
use Rattle.std.proofs.lemmas.Bool.{eqb-false}
use Rattle.std.proofs.lemmas.Grind.{fold-append}
use Rattle.std.proofs.lemmas.List.{map-append}
use Rattle.std.proofs.lemmas.List.Elements.{filter-append}
use Rattle.spec_tree.specs.Tree.{need_of}
use Rattle.spec_tree.specs.declared.Digest.{Digest}
use Rattle.spec_core.specs.History.{History}
use Rattle.spec_core.specs.declared.act.Act.{Act}
use Rattle.spec_core.specs.declared.act.Act.TheVariants.{Begin, Admit, Put, Settle, Retire, Open, Fetch, Read, Scan, Close, Unlink, Sync, List as ListAll, Unmount}
use Rattle.spec_core.specs.declared.event.CoreEvent.{CoreEvent}
use Rattle.spec_core.specs.declared.reply.Reply.TheVariants.{Retired, Written}
use Rattle.spec_core.specs.declared.who.Who.{Who}
use Rattle.spec_script.specs.Lawful.{AreLawful, IsLine, Rise}
use Rattle.spec_script.specs.Tasks.{task_of}
use Rattle.spec_script.specs.declared.line.ScriptLine.{ScriptLine}
use Rattle.spec_script.specs.declared.task.Task.{Task}
use Rattle.spec_script.specs.declared.task.Task.TheVariants as tasks
use Rattle.spec_session.specs.Conform.{Conform, DoLines, Request, events_of, own_act, request_of, requests_of}
use Rattle.spec_session.specs.Lines.{LineMoves, Make, Move, RangeMoves, Windows, fetches, puts}
use Rattle.spec_session.specs.Told.{TellsRoot, named_root, or_else, root_next, same_who, task_root, who_of}

-- ---- the moves of a line

-- the root after these moves, where it was this one before
abbrev root_by : Option Digest → List Move → Option Digest
root_by root [] = root
root_by root (m ∷ ms) = root_by (or_else (named_root m.0) root) ms

root_by-append : (root : Option Digest) (xs ys : List Move) → root_by root (xs ++ ys) ≡ root_by (root_by root xs) ys
root_by-append root [] ys = refl
root_by-append root (m ∷ xs) ys = root_by-append (or_else (named_root m.0) root) xs ys

quiet_puts : (root : Option Digest) (ns : List ℕ) → root_by root (map (λ i. (Put i, Written)) ns) ≡ root
quiet_puts root [] = refl
quiet_puts root (n ∷ ns) = quiet_puts root ns

quiet_fetches : (root : Option Digest) (slot : ℕ) (ws : List ℕ) → root_by root (fetches slot ws) ≡ root
quiet_fetches root slot [] = refl
quiet_fetches root slot (w ∷ ws) = quiet_fetches root slot ws

or_none : (o : Option Digest) → or_else o None ≡ o
or_none None = refl
or_none (Some r) = refl

begin_roots : (version : ℕ) (own : List CoreEvent) (r : Digest) (n : ℕ) (ms : List Move) → LineMoves version own (Begin r n) ms → root_by None ms ≡ Some r
begin_roots version own r n ms (inl m) = ap (root_by None) m.2
begin_roots version own r n ms (inr (inl m)) = ap (root_by None) m.2
begin_roots version own r n ms (inr (inr (inl m))) =
    ap (root_by None) m.4 ∙ root_by-append (Some r) (puts m.0) ((Put m.0, m.1) ∷ (Retire r, Retired) ∷ [])
    ∙ ap (λ (o : Option Digest). root_by o ((Put m.0, m.1) ∷ (Retire r, Retired) ∷ [])) (quiet_puts (Some r) (range_with_len 0 m.0))
begin_roots version own r n ms (inr (inr (inr m))) =
    ap (root_by None) m.1 ∙ root_by-append (Some r) (puts (need_of version n)) ((Settle r, m.0) ∷ [])
    ∙ ap (λ (o : Option Digest). root_by o ((Settle r, m.0) ∷ [])) (quiet_puts (Some r) (range_with_len 0 (need_of version n)))

open_roots : (version : ℕ) (own : List CoreEvent) (slot : ℕ) (r : Digest) (ms : List Move) → LineMoves version own (Open slot r) ms → root_by None ms ≡ Some r
open_roots version own slot r ms (inl m) = ap (root_by None) m.2
open_roots version own slot r ms (inr (inl (n, inl is))) = ap (root_by None) is
open_roots version own slot r ms (inr (inl (n, inr is))) = ap (root_by None) is
open_roots version own slot r ms (inr (inr m)) = ap (root_by None) m.3

range_roots : (act : Act) (slot : ℕ) (range : Windows) (ms : List Move) → named_root act ≡ None → RangeMoves act slot range ms → root_by None ms ≡ None
range_roots act slot range ms none (inl m) = ap (root_by None) m.2 ∙ ap (λ (o : Option Digest). or_else o None) none
range_roots act slot range ms none (inr (inl m)) =
    ap (root_by None) m.2 ∙ ap (λ (o : Option Digest). root_by (or_else o None) (fetches slot m.0)) none ∙ quiet_fetches None slot m.0
range_roots act slot range ms none (inr (inr m)) =
    ap (root_by None) m.5 ∙ ap (λ (o : Option Digest). root_by (or_else o None) (fetches slot m.0 ++ (Fetch slot m.1, m.2) ∷ [])) none
    ∙ root_by-append None (fetches slot m.0) ((Fetch slot m.1, m.2) ∷ []) ∙ ap (λ (o : Option Digest). root_by o ((Fetch slot m.1, m.2) ∷ [])) (quiet_fetches None slot m.0)

-- a line names the root of its own act
line_roots : (version : ℕ) (own : List CoreEvent) (act : Act) (ms : List Move) → LineMoves version own act ms → root_by None ms ≡ named_root act
line_roots version own (Begin r n) ms m = begin_roots version own r n ms m
line_roots version own (Open slot r) ms m = open_roots version own slot r ms m
line_roots version own (Read slot off len) ms m = range_roots (Read slot off len) slot _ ms refl m
line_roots version own (Scan slot) ms m = range_roots (Scan slot) slot _ ms refl m
line_roots version own (Unlink r) ms m = ap (root_by None) m.1
line_roots version own (Admit r) ms m = ap (root_by None) m.1
line_roots version own (Put index) ms m = ap (root_by None) m.1
line_roots version own (Settle r) ms m = ap (root_by None) m.1
line_roots version own (Retire r) ms m = ap (root_by None) m.1
line_roots version own (Fetch slot w) ms m = ap (root_by None) m.1
line_roots version own (Close slot) ms m = ap (root_by None) m.1
line_roots version own Sync ms m = ap (root_by None) m.1
line_roots version own ListAll ms m = ap (root_by None) m.1
line_roots version own Unmount ms m = ap (root_by None) m.1

-- ---- events

-- the root after these events
abbrev root_from : Who → Option Digest → List CoreEvent → Option Digest
root_from who root events = fold (root_next who) root events

who_same : (who : Who) → same_who who who ≡ true
who_same who = let s = eq-eqb who.session who.session refl in let l = eq-eqb who.line who.line refl in rw (s, l) refl

-- the line's own events
made_root : (who : Who) (root : Option Digest) (ms : List Move) (es : List CoreEvent) → Make who ms es → root_from who root es ≡ root_by root ms
made_root who root [] [] m = refl
made_root who root [] (e ∷ es) m = absurd m
made_root who root (x ∷ ms) [] m = absurd m
made_root who root (x ∷ ms) (e ∷ es) m =
    let mine : same_who who e.who ≡ true = ap (same_who who) m.0 ∙ who_same who in
    let one : root_next who root e ≡ or_else (named_root x.0) root = ap (λ (b : Bool). cond b (or_else (named_root e.act) root) root) mine ∙ ap (λ (a : Act). or_else (named_root a) root) m.1 in
    ap (λ (o : Option Digest). root_from who o es) one ∙ made_root who (or_else (named_root x.0) root) ms es m.3

-- another line's events
other_root : (who w : Who) (root : Option Digest) (ms : List Move) (es : List CoreEvent) → same_who who w ≡ false → Make w ms es → root_from who root es ≡ root
other_root who w root [] [] other m = refl
other_root who w root [] (e ∷ es) other m = absurd m
other_root who w root (x ∷ ms) [] other m = absurd m
other_root who w root (x ∷ ms) (e ∷ es) other m =
    let apart : same_who who e.who ≡ false = ap (same_who who) m.0 ∙ other in
    ap (λ (b : Bool). root_from who (cond b (or_else (named_root e.act) root) root) es) apart ∙ other_root who w root ms es other m.3

-- none of these requests is of this line
abbrev Apart : Who → List Request → Type 0
Apart who [] = Unit {0}
Apart who (t ∷ ts) = (same_who who t.0 ≡ false) × Apart who ts

others_root : (version : ℕ) (own : List CoreEvent) (who : Who) (root : Option Digest) (ts : List Request) (es : List CoreEvent) → Apart who ts → DoLines version own ts es → root_from who root es ≡ root
others_root version own who root [] es apart d = ap (root_from who root) d
others_root version own who root (t ∷ ts) es apart d =
    ap (root_from who root) d.2 ∙ fold-append (root_next who) root d.0 d.1
    ∙ ap (λ (o : Option Digest). root_from who o d.1) (other_root who t.0 root d.3.0 d.0 apart.0 d.3.2)
    ∙ others_root version (own ++ d.0) who root ts d.1 apart.1 d.4

-- a line between others
done_root : (version : ℕ) (own : List CoreEvent) (who : Who) (act : Act) (front back : List Request) (es : List CoreEvent) → Apart who front → Apart who back
    → DoLines version own (front ++ (who, act) ∷ back) es → root_from who None es ≡ named_root act
done_root version own who act [] back es before behind d =
    ap (root_from who None) d.2 ∙ fold-append (root_next who) None d.0 d.1
    ∙ ap (λ (o : Option Digest). root_from who o d.1) (made_root who None d.3.0 d.0 d.3.2 ∙ line_roots version own act d.3.0 d.3.1)
    ∙ others_root version (own ++ d.0) who (named_root act) back d.1 behind d.4
done_root version own who act (t ∷ front) back es before behind d =
    ap (root_from who None) d.2 ∙ fold-append (root_next who) None d.0 d.1
    ∙ ap (λ (o : Option Digest). root_from who o d.1) (other_root who t.0 None d.3.0 d.0 before.0 d.3.2)
    ∙ done_root version (own ++ d.0) who act front back d.1 before.1 behind d.4

-- the events of other sessions name none
session_root : (who : Who) (root : Option Digest) (es : List CoreEvent) → root_from who root es ≡ root_from who root (events_of who.session es)
session_root who root [] = refl
session_root who root (e ∷ es) = by_test (session_root who (root_next who root e) es) (session_root who root es) (e.who.session == who.session) refl where
  by_test : (root_from who (root_next who root e) es ≡ root_from who (root_next who root e) (events_of who.session es)) → (root_from who root es ≡ root_from who root (events_of who.session es))
      → (b : Bool) → (e.who.session == who.session) ≡ b → root_from who (root_next who root e) es ≡ root_from who root (cond b (e ∷ events_of who.session es) (events_of who.session es))
  by_test same skip true mine = same
  by_test same skip false other =
      let apart : (who.session == e.who.session) ≡ false = ne_eqb who.session e.who.session (λ is. eqb-false e.who.session who.session other (sym is)) in
      ap (λ (b : Bool). root_from who (cond (b && (who.line == e.who.line)) (or_else (named_root e.act) root) root) es) apart ∙ skip

-- ---- lines

-- the own act of a task names its root
task_named : (task : Task) → named_root (own_act task) ≡ task_root task
task_named (tasks.Add root size) = refl
task_named (tasks.Open slot root) = refl
task_named (tasks.Read slot off len) = refl
task_named (tasks.Scan slot) = refl
task_named (tasks.Close slot) = refl
task_named (tasks.Unlink root) = refl
task_named tasks.Sync = refl
task_named tasks.List = refl

-- the numbers of these lines are below this one
abbrev Below : ℕ → List ScriptLine → Type 0
Below number [] = Unit {0}
Below number (l ∷ ls) = (l.number < number) × Below number ls

below_more : (m n : ℕ) (ls : List ScriptLine) → m ≤ n → Below m ls → Below n ls
below_more m n [] far b = tt
below_more m n (l ∷ ls) far b = (omega (arith, b.0), below_more m n ls far b.1)

below_push : (n : ℕ) (ls : List ScriptLine) (l : ScriptLine) → Below n ls → l.number < n → Below n (ls ++ l ∷ [])
below_push n [] l b low = (low, tt)
below_push n (x ∷ ls) l b low = (b.0, below_push n ls l b.1 low)

who_apart : (l x : ScriptLine) → ¬ (l.number ≡ x.number) → same_who (who_of l) (who_of x) ≡ false
who_apart l x other = let e : (l.number == x.number) ≡ false = ne_eqb l.number x.number other in by_test (l.session == x.session) e where
  by_test : (b : Bool) → (l.number == x.number) ≡ false → (b && (l.number == x.number)) ≡ false
  by_test true e = e
  by_test false e = refl

apart_below : (l : ScriptLine) (s : ℕ) (ls : List ScriptLine) → Below l.number ls → Apart (who_of l) (requests_of s ls)
apart_below l s [] b = tt
apart_below l s (x ∷ ls) b = by_test (x.session == s) (who_apart l x (λ is. absurd (omega (arith, b.0, is)))) (apart_below l s ls b.1) where
  by_test : (c : Bool) → same_who (who_of l) (who_of x) ≡ false → Apart (who_of l) (requests_of s ls) → Apart (who_of l) (map request_of (cond c (x ∷ filter (λ y. y.session == s) ls) (filter (λ y. y.session == s) ls)))
  by_test true one rest = (one, rest)
  by_test false one rest = rest

apart_above : (l : ScriptLine) (s n : ℕ) (ls : List ScriptLine) → l.number < n → Rise n ls → Apart (who_of l) (requests_of s ls)
apart_above l s n [] low r = tt
apart_above l s n (x ∷ ls) low r =
    by_test (x.session == s) (who_apart l x (λ is. absurd (omega (arith, r.0, low, is)))) (apart_above l s (x.number + 1) ls (omega (arith, r.0, low)) r.2) where
      by_test : (c : Bool) → same_who (who_of l) (who_of x) ≡ false → Apart (who_of l) (requests_of s ls) → Apart (who_of l) (map request_of (cond c (x ∷ filter (λ y. y.session == s) ls) (filter (λ y. y.session == s) ls)))
      by_test true one rest = (one, rest)
      by_test false one rest = rest

-- the requests of a session, about one line of it
requests_split : (l : ScriptLine) (front back : List ScriptLine) → requests_of l.session (front ++ l ∷ back) ≡ requests_of l.session front ++ request_of l ∷ requests_of l.session back
requests_split l front back =
    let s = l.session in let p : ScriptLine → Bool = λ y. y.session == s in
    let mine : (l.session == s) ≡ true = eq-eqb s s refl in
    ap (map request_of) (filter-append p front (l ∷ back) ∙ ap (λ (b : Bool). filter p front ++ cond b (l ∷ filter p back) (filter p back)) mine)
    ∙ map-append request_of (filter p front) (l ∷ filter p back)

line_told : (h : History) (l : ScriptLine) (front back : List ScriptLine) → Below l.number front → Rise (l.number + 1) back → Conform (front ++ l ∷ back) h l.session → TellsRoot h.events l
line_told h l front back before behind c =
    session_root (who_of l) None h.events
    ∙ done_root h.version [] (who_of l) (own_act (task_of l.command)) (requests_of l.session front) (requests_of l.session back) (events_of l.session h.events)
    (apart_below l l.session front before) (apart_above l l.session (l.number + 1) back (omega arith) behind)
    (subst (λ (ts : List Request). DoLines h.version [] ts (events_of l.session h.events)) (requests_split l front back) c)
    ∙ task_named (task_of l.command)

all_told : (h : History) (front back : List ScriptLine) (n : ℕ) → Below n front → Rise n back → AllByRecursion IsLine back → ((s : ℕ) → s ≤ 15 → Conform (front ++ back) h s) → AllByRecursion (TellsRoot h.events) back
all_told h front [] n before rise each c = tt
all_told h front (l ∷ back) n before rise each c = (
  line_told h l front back (below_more n l.number front rise.0 before) rise.2 (c l.session each.0.session),
  all_told h (front ++ l ∷ []) back (l.number + 1) (below_push (l.number + 1) front l (below_more n (l.number + 1) front (omega (arith, rise.0)) before) (omega arith)) rise.2
      each.1 (λ s low. subst (λ (ls : List ScriptLine). Conform ls h s) (sym (append_assoc front (l ∷ []) back)) (c s low)),
)

-- of a lawful script
pub told_all : (lines : List ScriptLine) (h : History) → AreLawful lines → ((s : ℕ) → s ≤ 15 → Conform lines h s) → AllByRecursion (TellsRoot h.events) lines
told_all lines h lawful c = all_told h [] lines 1 tt lawful.rise lawful.each c
