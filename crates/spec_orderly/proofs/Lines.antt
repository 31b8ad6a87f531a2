-- The events of a session's lines are in order, and leave no add.
use Rattle.std.proofs.Common.{◌≡◌, ℕ, ◌==◌, Bool, true, false, cond, Option, Some, None, List, [], ◌∷◌, ◌++◌, map, refl, sym, ap, ◌∙◌, subst, inl, inr}
use Rattle.std.specs.Prelude.{filter}
use Rattle.std.specs.List.{range_with_len}
use Rattle.spec_tree.specs.Tree.{need_of}
use Rattle.spec_tree.specs.declared.Digest.{Digest}
use Rattle.spec_core.specs.declared.act.Act.{Act}
use Rattle.spec_core.specs.declared.act.Act.TheVariants.{Begin, Admit, Put, Settle, Retire, Open, Fetch, Read, Scan, Close, Unlink, Sync, List as ListAll, Unmount}
use Rattle.spec_core.specs.declared.event.CoreEvent.{CoreEvent}
use Rattle.spec_core.specs.declared.reply.Reply.{Reply}
use Rattle.spec_core.specs.declared.reply.Reply.TheVariants.{Granted, Admitted, Written}
use Rattle.spec_core.specs.declared.who.Who.{Who}
use Rattle.spec_script.specs.Tasks.{task_of}
use Rattle.spec_script.specs.declared.line.ScriptLine.{ScriptLine}
use Rattle.spec_script.specs.declared.task.Task.{Task}
use Rattle.spec_script.specs.declared.task.Task.TheVariants as tasks
use Rattle.spec_session.specs.Conform.{DoLines, CutLines, CutsNext, Request, own_act, request_of, requests_of}
use Rattle.spec_session.specs.Lines.{LineMoves, CutMoves, AddMoves, AddCut, RangeMoves, Make, Move, Windows, fetches, puts}
use Rattle.spec_session.specs.Own.{OwnAdd, add_after, add_from, admitted_add, new_add, put_add}
use Rattle.spec_orderly.specs.Orderly.{HasRoot, IsInOrder}

-- ---- moves

-- these moves are in order for a session that has this add before them
abbrev MovesOrder : Option OwnAdd → List Move → Type 0
MovesOrder add [] = Unit {0}
MovesOrder add (m ∷ ms) = IsInOrder add m.0 m.1 × MovesOrder (add_after add m.0 m.1) ms

-- the add after them
abbrev add_by : Option OwnAdd → List Move → Option OwnAdd
add_by add [] = add
add_by add (m ∷ ms) = add_by (add_after add m.0 m.1) ms

-- they are in order for a session that has no add, and leave none
abbrev AreWell : List Move → Type 0
AreWell ms = MovesOrder None ms × (add_by None ms ≡ None)

moves-append : (add : Option OwnAdd) (xs ys : List Move) → MovesOrder add xs → MovesOrder (add_by add xs) ys → MovesOrder add (xs ++ ys)
moves-append add [] ys a b = b
moves-append add (m ∷ xs) ys a b = (a.0, moves-append (add_after add m.0 m.1) xs ys a.1 b)

add_by-append : (add : Option OwnAdd) (xs ys : List Move) → add_by add (xs ++ ys) ≡ add_by (add_by add xs) ys
add_by-append add [] ys = refl
add_by-append add (m ∷ xs) ys = add_by-append (add_after add m.0 m.1) xs ys

-- ---- an add

put_order : (add : Option OwnAdd) (ns : List ℕ) → MovesOrder add (map (λ i. (Put i, Written)) ns)
put_order add [] = tt
put_order add (n ∷ ns) = (tt, put_order (add_after add (Put n) Written) ns)

put_root : (a : OwnAdd) (ns : List ℕ) → HasRoot (add_by (Some a) (map (λ i. (Put i, Written)) ns)) a.root
put_root a [] = refl
put_root a (n ∷ ns) = put_root (put_add a) ns

put_keeps : (add : Option OwnAdd) (k : ℕ) (q : Reply) (r : Digest) → HasRoot add r → HasRoot (add_after add (Put k) q) r
put_keeps None k q r h = absurd h
put_keeps (Some a) k Written r h = h
put_keeps (Some a) k _ r h = h

begin_order : (r : Digest) (n : ℕ) (q : Reply) → IsInOrder None (Begin r n) q
begin_order r n Granted = refl
begin_order r n _ = tt

begin_none : (r : Digest) (n : ℕ) (q : Reply) → ¬ (q ≡ Granted) → add_after None (Begin r n) q ≡ None
begin_none r n Granted other = absurd (other refl)
begin_none r n _ other = refl

admit_none : (add : Option OwnAdd) (r : Digest) (q : Reply) → ¬ (q ≡ Admitted) → add_after add (Admit r) q ≡ None
admit_none add r Admitted other = absurd (other refl)
admit_none add r _ other = refl

-- the add that was admitted and has so many blocks
abbrev with_puts : Digest → ℕ → ℕ → Option OwnAdd
with_puts r n k = add_by (Some (admitted_add (new_add r n))) (puts k)

has_root : (r : Digest) (n k : ℕ) → HasRoot (with_puts r n k) r
has_root r n k = put_root (admitted_add (new_add r n)) (range_with_len 0 k)

-- an add that was admitted, some blocks, and these moves
after_puts : (r : Digest) (n k : ℕ) (rest : List Move) → MovesOrder (with_puts r n k) rest → add_by (with_puts r n k) rest ≡ None → AreWell ((Begin r n, Granted) ∷ (Admit r, Admitted) ∷ puts k ++ rest)
after_puts r n k rest o none =
    let a = Some (admitted_add (new_add r n)) in
    ((refl, (refl, moves-append a (puts k) rest (put_order a (range_with_len 0 k)) o)), add_by-append a (puts k) rest ∙ none)

add_well : (version : ℕ) (r : Digest) (n : ℕ) (ms : List Move) → AddMoves version r n ms → AreWell ms
add_well version r n ms (inl m) = subst AreWell (sym m.2) ((begin_order r n m.0, tt), begin_none r n m.0 m.1)
add_well version r n ms (inr (inl m)) = subst AreWell (sym m.2) ((refl, (refl, tt)), admit_none (Some (new_add r n)) r m.0 m.1)
add_well version r n ms (inr (inr (inl m))) =
    subst AreWell (sym m.4) (after_puts r n m.0 _ (tt, (put_keeps (with_puts r n m.0) m.0 m.1 r (has_root r n m.0), tt)) refl)
add_well version r n ms (inr (inr (inr m))) =
    subst AreWell (sym m.1) (after_puts r n (need_of version n) _ (has_root r n (need_of version n), tt) refl)

add_cut_well : (version : ℕ) (r : Digest) (n : ℕ) (ms : List Move) → AddCut version r n ms → AreWell ms
add_cut_well version r n ms (inl is) = subst AreWell (sym is) (tt, refl)
add_cut_well version r n ms (inr (inl is)) = subst AreWell (sym is) ((refl, (refl, tt)), refl)
add_cut_well version r n ms (inr (inr m)) = subst AreWell (sym m.2) (after_puts r n m.0 _ (has_root r n m.0, tt) refl)

-- ---- other lines

-- an act that has nothing to do with adds
abbrev IsQuiet : Act → Type 0
IsQuiet (Begin r n) = ⊥
IsQuiet (Admit r) = ⊥
IsQuiet (Put index) = ⊥
IsQuiet (Settle r) = ⊥
IsQuiet (Retire r) = ⊥
IsQuiet act = Unit {0}

abbrev AllQuiet : List Move → Type 0
AllQuiet [] = Unit {0}
AllQuiet (m ∷ ms) = IsQuiet m.0 × AllQuiet ms

quiet_one : (act : Act) (q : Reply) → IsQuiet act → IsInOrder None act q × (add_after None act q ≡ None)
quiet_one (Begin r n) q h = absurd h
quiet_one (Admit r) q h = absurd h
quiet_one (Put index) q h = absurd h
quiet_one (Settle r) q h = absurd h
quiet_one (Retire r) q h = absurd h
quiet_one _ q h = (tt, refl)

quiet_well : (ms : List Move) → AllQuiet ms → AreWell ms
quiet_well [] h = (tt, refl)
quiet_well (m ∷ ms) h =
    let one = quiet_one m.0 m.1 h.0 in let rest = quiet_well ms h.1 in (
      (one.0, subst (λ (o : Option OwnAdd). MovesOrder o ms) (sym one.1) rest.0),
      ap (λ (o : Option OwnAdd). add_by o ms) one.1 ∙ rest.1,
    )

quiet_first : (ms rest : List Move) → AllQuiet (ms ++ rest) → AllQuiet ms
quiet_first [] rest h = tt
quiet_first (m ∷ ms) rest h = (h.0, quiet_first ms rest h.1)

quiet-append : (ms rest : List Move) → AllQuiet ms → AllQuiet rest → AllQuiet (ms ++ rest)
quiet-append [] rest a b = b
quiet-append (m ∷ ms) rest a b = (a.0, quiet-append ms rest a.1 b)

quiet_fetches : (slot : ℕ) (ws : List ℕ) → AllQuiet (fetches slot ws)
quiet_fetches slot [] = tt
quiet_fetches slot (w ∷ ws) = (tt, quiet_fetches slot ws)

range_quiet : (act : Act) (slot : ℕ) (range : Windows) (ms : List Move) → IsQuiet act → RangeMoves act slot range ms → AllQuiet ms
range_quiet act slot range ms h (inl m) = subst AllQuiet (sym m.2) (h, tt)
range_quiet act slot range ms h (inr (inl m)) = subst AllQuiet (sym m.2) (h, quiet_fetches slot m.0)
range_quiet act slot range ms h (inr (inr m)) = subst AllQuiet (sym m.5) (h, quiet-append (fetches slot m.0) _ (quiet_fetches slot m.0) (tt, tt))

open_quiet : (version : ℕ) (own : List CoreEvent) (slot : ℕ) (r : Digest) (ms : List Move) → LineMoves version own (Open slot r) ms → AllQuiet ms
open_quiet version own slot r ms (inl m) = subst AllQuiet (sym m.2) (tt, tt)
open_quiet version own slot r ms (inr (inl (n, inl is))) = subst AllQuiet (sym is) (tt, tt)
open_quiet version own slot r ms (inr (inl (n, inr is))) = subst AllQuiet (sym is) (tt, (tt, tt))
open_quiet version own slot r ms (inr (inr m)) = subst AllQuiet (sym m.3) (tt, (tt, (tt, tt)))

line_quiet : (version : ℕ) (own : List CoreEvent) (act : Act) (ms : List Move) → IsQuiet act → LineMoves version own act ms → AllQuiet ms
line_quiet version own (Begin r n) ms h m = absurd h
line_quiet version own (Admit r) ms h m = absurd h
line_quiet version own (Put index) ms h m = absurd h
line_quiet version own (Settle r) ms h m = absurd h
line_quiet version own (Retire r) ms h m = absurd h
line_quiet version own (Open slot r) ms h m = open_quiet version own slot r ms m
line_quiet version own (Read slot off len) ms h m = range_quiet (Read slot off len) slot _ ms tt m
line_quiet version own (Scan slot) ms h m = range_quiet (Scan slot) slot _ ms tt m
line_quiet version own (Fetch slot w) ms h m = subst AllQuiet (sym m.1) (tt, tt)
line_quiet version own (Close slot) ms h m = subst AllQuiet (sym m.1) (tt, tt)
line_quiet version own (Unlink r) ms h m = subst AllQuiet (sym m.1) (tt, tt)
line_quiet version own Sync ms h m = subst AllQuiet (sym m.1) (tt, tt)
line_quiet version own ListAll ms h m = subst AllQuiet (sym m.1) (tt, tt)
line_quiet version own Unmount ms h m = subst AllQuiet (sym m.1) (tt, tt)

-- the own act of a line
abbrev Starts : Act → Type 0
Starts (Begin r n) = Unit {0}
Starts act = IsQuiet act

line_well : (version : ℕ) (own : List CoreEvent) (act : Act) (ms : List Move) → Starts act → LineMoves version own act ms → AreWell ms
line_well version own (Begin r n) ms h m = add_well version r n ms m
line_well version own act ms h m = quiet_well ms (line_quiet version own act ms h m)

cut_well : (version : ℕ) (own : List CoreEvent) (act : Act) (ms : List Move) → Starts act → CutMoves version own act ms → AreWell ms
cut_well version own (Begin r n) ms h m = add_cut_well version r n ms m
cut_well version own act ms h m = quiet_well ms (quiet_first ms m.0 (line_quiet version own act (ms ++ m.0) h m.1))

-- ---- events

-- the same of a session's events
abbrev pub OwnOrder : Option OwnAdd → List CoreEvent → Type 0
OwnOrder add [] = Unit {0}
OwnOrder add (e ∷ es) = IsInOrder add e.act e.reply × OwnOrder (add_after add e.act e.reply) es

abbrev pub IsWell : List CoreEvent → Type 0
IsWell es = OwnOrder None es × (add_from None es ≡ None)

own-append : (add : Option OwnAdd) (xs ys : List CoreEvent) → OwnOrder add xs → OwnOrder (add_from add xs) ys → OwnOrder add (xs ++ ys)
own-append add [] ys a b = b
own-append add (e ∷ xs) ys a b = (a.0, own-append (add_after add e.act e.reply) xs ys a.1 b)

from-append : (add : Option OwnAdd) (xs ys : List CoreEvent) → add_from add (xs ++ ys) ≡ add_from (add_from add xs) ys
from-append add [] ys = refl
from-append add (e ∷ xs) ys = from-append (add_after add e.act e.reply) xs ys

well-append : (es xs ys : List CoreEvent) → es ≡ xs ++ ys → IsWell xs → IsWell ys → IsWell es
well-append es xs ys is a b = subst IsWell (sym is) (
  own-append None xs ys a.0 (subst (λ (o : Option OwnAdd). OwnOrder o ys) (sym a.1) b.0),
  from-append None xs ys ∙ ap (λ (o : Option OwnAdd). add_from o ys) a.1 ∙ b.1,
)

made_order : (who : Who) (add : Option OwnAdd) (ms : List Move) (es : List CoreEvent) → Make who ms es → MovesOrder add ms → OwnOrder add es
made_order who add [] [] made o = tt
made_order who add [] (e ∷ es) made o = absurd made
made_order who add (m ∷ ms) [] made o = absurd made
made_order who add (m ∷ ms) (e ∷ es) made o =
    subst (λ (x : Act × Reply). IsInOrder add x.0 x.1 × OwnOrder (add_after add x.0 x.1) es) (λ i. (sym made.1 i, sym made.2 i))
    (o.0, made_order who (add_after add m.0 m.1) ms es made.3 o.1)

made_add : (who : Who) (add : Option OwnAdd) (ms : List Move) (es : List CoreEvent) → Make who ms es → add_from add es ≡ add_by add ms
made_add who add [] [] made = refl
made_add who add [] (e ∷ es) made = absurd made
made_add who add (m ∷ ms) [] made = absurd made
made_add who add (m ∷ ms) (e ∷ es) made =
    ap (λ (x : Act × Reply). add_from (add_after add x.0 x.1) es) (λ i. (made.1 i, made.2 i)) ∙ made_add who (add_after add m.0 m.1) ms es made.3

made_well : (who : Who) (ms : List Move) (es : List CoreEvent) → Make who ms es → AreWell ms → IsWell es
made_well who ms es made w = (made_order who None ms es made w.0, made_add who None ms es made ∙ w.1)

-- ---- all lines

abbrev AllStart : List Request → Type 0
AllStart [] = Unit {0}
AllStart (t ∷ ts) = Starts t.1 × AllStart ts

start_split : (xs ys : List Request) → AllStart (xs ++ ys) → AllStart xs × AllStart ys
start_split [] ys h = (tt, h)
start_split (x ∷ xs) ys h = let r = start_split xs ys h.1 in ((h.0, r.0), r.1)

task_starts : (task : Task) → Starts (own_act task)
task_starts (tasks.Add root size) = tt
task_starts (tasks.Open slot root) = tt
task_starts (tasks.Read slot off len) = tt
task_starts (tasks.Scan slot) = tt
task_starts (tasks.Close slot) = tt
task_starts (tasks.Unlink root) = tt
task_starts tasks.Sync = tt
task_starts tasks.List = tt

requests_start : (s : ℕ) (lines : List ScriptLine) → AllStart (requests_of s lines)
requests_start s [] = tt
requests_start s (l ∷ lines) = by_test (l.session == s) (requests_start s lines) where
  by_test : (b : Bool) → AllStart (requests_of s lines) → AllStart (map request_of (cond b (l ∷ filter (λ y. y.session == s) lines) (filter (λ y. y.session == s) lines)))
  by_test true rest = (task_starts (task_of l.command), rest)
  by_test false rest = rest

done_well : (version : ℕ) (own : List CoreEvent) (ts : List Request) (es : List CoreEvent) → AllStart ts → DoLines version own ts es → IsWell es
done_well version own [] es h d = subst IsWell (sym d) (tt, refl)
done_well version own (t ∷ ts) es h d =
    well-append es d.0 d.1 d.2 (made_well t.0 d.3.0 d.0 d.3.2 (line_well version own t.1 d.3.0 h.0 d.3.1)) (done_well version (own ++ d.0) ts d.1 h.1 d.4)

next_well : (version : ℕ) (own : List CoreEvent) (ts : List Request) (es : List CoreEvent) → AllStart ts → CutsNext version own ts es → IsWell es
next_well version own [] es h d = subst IsWell (sym d) (tt, refl)
next_well version own (t ∷ ts) es h d = made_well t.0 d.0 es d.2 (cut_well version own t.1 d.0 h.0 d.1)

-- a session's lines are in order, and leave no add
pub cut_lines_well : (version s : ℕ) (lines : List ScriptLine) (es : List CoreEvent) → CutLines version [] (requests_of s lines) es → IsWell es
cut_lines_well version s lines es c =
    let h = start_split c.0 c.1 (subst AllStart c.4 (requests_start s lines)) in
    well-append es c.2 c.3 c.5 (done_well version [] c.0 c.2 h.0 c.6) (next_well version c.2 c.1 c.3 h.1 c.7)

-- an event between others
pub order_at : (add : Option OwnAdd) (xs : List CoreEvent) (e : CoreEvent) (ys : List CoreEvent) → OwnOrder add (xs ++ e ∷ ys) → IsInOrder (add_from add xs) e.act e.reply
order_at add [] e ys h = h.0
order_at add (x ∷ xs) e ys h = order_at (add_after add x.act x.reply) xs e ys h.1
