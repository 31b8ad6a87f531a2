-- What a line puts and publishes, event by event.
use Rattle.std.proofs.Common.{◌≡◌, ◌≤◌, ◌<◌, ◌⊎◌, inl, inr, ℕ, ◌+◌, ◌==◌, ◌&&◌, Bool, true, false, cond, List, [], ◌∷◌, ◌++◌, map, refl, ap, sym, ◌∙◌, subst, arith, append_assoc, eq-eqb, ne_eqb}
use Rattle.std.specs.Prelude.{filter}
use Rattle.std.specs.List.{range_with_len}
use Rattle.std.proofs.lemmas.Bool.{cases_lt, eqb-true}
use Rattle.std.proofs.lemmas.List.{append-nil, map-append}
use Rattle.std.proofs.lemmas.List.Elements.{All-head, All-tail, filter-append}
use Rattle.spec_tree.specs.declared.Digest.{Digest}
use Rattle.spec_tree.specs.Tree.{need_of}
use Rattle.spec_core.specs.History.{History}
use Rattle.spec_core.specs.declared.act.Act.{Act}
use Rattle.spec_core.specs.declared.act.Act.TheVariants.{Begin, Admit, Put, Settle, Retire, Open, Fetch, Read, Scan, Close, Unlink, Sync, List as ListAll, Unmount}
use Rattle.spec_core.specs.declared.event.CoreEvent.{CoreEvent}
use Rattle.spec_core.specs.declared.reply.Reply.{Reply}
use Rattle.spec_core.specs.declared.reply.Reply.TheVariants.{Published, Retired, Written}
use Rattle.spec_core.specs.declared.who.Who.{Who}
use Rattle.spec_script.specs.Lawful.{AreLawful, Rise}
use Rattle.spec_script.specs.Tasks.{task_of}
use Rattle.spec_script.specs.declared.line.ScriptLine.{ScriptLine}
use Rattle.spec_script.specs.declared.task.Task.{Task}
use Rattle.spec_script.specs.declared.task.Task.TheVariants as tasks
use Rattle.spec_session.specs.Conform.{Begins, CutLines, CutsNext, DoLines, Request, events_of, own_act, request_of, requests_of}
use Rattle.spec_session.specs.Lines.{CutMoves, LineMoves, Make, Move, RangeMoves, Windows, fetches}
use Rattle.spec_session.specs.Told.{same_who, who_of}
use Rattle.spec_served.specs.Adds.{AreByLine, IsByLine, line_puts, published_by, puts_after, puts_from, puts_of, was_published}
use Rattle.spec_served.specs.Places.{was_written}
use Rattle.spec_seen.specs.ByLine.{AreOfSessions, LinesAddOnce}

-- ---- one event more

same_self : (who : Who) → same_who who who ≡ true
same_self who = let s = eq-eqb who.session who.session refl in let l = eq-eqb who.line who.line refl in rw (s, l) refl

-- a session's own events
abbrev own_of : Who → List CoreEvent → List CoreEvent
own_of who events = events_of who.session events

-- an event of this session and line
abbrev event_of : Who → Act → Reply → ℕ → CoreEvent
event_of who act reply calls = record { who = who; act = act; reply = reply; calls = calls }

own_push : (who : Who) (cur : List CoreEvent) (act : Act) (q : Reply) (c : ℕ) → own_of who (cur ++ event_of who act q c ∷ []) ≡ own_of who cur ++ event_of who act q c ∷ []
own_push who cur act q c =
    filter-append (λ (x : CoreEvent). x.who.session == who.session) cur (event_of who act q c ∷ [])
    ∙ ap (λ (b : Bool). own_of who cur ++ cond b (event_of who act q c ∷ []) []) (eq-eqb who.session who.session refl)

puts_push : (who : Who) (xs : List CoreEvent) (e : CoreEvent) → line_puts who (xs ++ e ∷ []) ≡ line_puts who xs ++ cond (same_who e.who who && was_written e.act e.reply) (e.calls ∷ []) []
puts_push who xs e =
    ap (map (λ (x : CoreEvent). x.calls)) (filter-append (λ (x : CoreEvent). same_who x.who who && was_written x.act x.reply) xs (e ∷ []))
    ∙ map-append (λ (x : CoreEvent). x.calls) (filter (λ x. same_who x.who who && was_written x.act x.reply) xs) (cond (same_who e.who who && was_written e.act e.reply) (e ∷ []) [])
    ∙ ap (λ (l : List ℕ). line_puts who xs ++ l) (go (same_who e.who who && was_written e.act e.reply)) where
      go : (b : Bool) → map (λ (x : CoreEvent). x.calls) (cond b (e ∷ []) []) ≡ cond b (e.calls ∷ []) []
      go true = refl
      go false = refl

published_push : (who : Who) (xs : List CoreEvent) (e : CoreEvent) → published_by who (xs ++ e ∷ []) ≡ published_by who xs ++ cond (same_who e.who who && was_published e.act e.reply) (e ∷ []) []
published_push who xs e = filter-append (λ (x : CoreEvent). same_who x.who who && was_published x.act x.reply) xs (e ∷ [])

puts_from-append : (ps : List ℕ) (es fs : List CoreEvent) → puts_from ps (es ++ fs) ≡ puts_from (puts_from ps es) fs
puts_from-append ps [] fs = refl
puts_from-append ps (e ∷ es) fs = puts_from-append (puts_after ps e.act e.reply e.calls) es fs

-- another line's event
other_puts : (who : Who) (xs : List CoreEvent) (e : CoreEvent) → same_who e.who who ≡ false → line_puts who (xs ++ e ∷ []) ≡ line_puts who xs
other_puts who xs e other = puts_push who xs e ∙ ap (λ (b : Bool). line_puts who xs ++ cond (b && was_written e.act e.reply) (e.calls ∷ []) []) other ∙ append-nil (line_puts who xs)

other_published : (who : Who) (xs : List CoreEvent) (e : CoreEvent) → same_who e.who who ≡ false → published_by who (xs ++ e ∷ []) ≡ published_by who xs
other_published who xs e other = published_push who xs e ∙ ap (λ (b : Bool). published_by who xs ++ cond (b && was_published e.act e.reply) (e ∷ []) []) other ∙ append-nil (published_by who xs)

-- an event of the line that puts nothing, or publishes nothing
quiet_puts : (who : Who) (xs : List CoreEvent) (act : Act) (q : Reply) (c : ℕ) → was_written act q ≡ false → line_puts who (xs ++ event_of who act q c ∷ []) ≡ line_puts who xs
quiet_puts who xs act q c none =
    puts_push who xs (event_of who act q c) ∙ ap (λ (b : Bool). line_puts who xs ++ cond (same_who who who && b) (c ∷ []) []) none
    ∙ ap (λ (b : Bool). line_puts who xs ++ cond (b && false) (c ∷ []) []) (same_self who) ∙ append-nil (line_puts who xs)

quiet_published : (who : Who) (xs : List CoreEvent) (act : Act) (q : Reply) (c : ℕ) → was_published act q ≡ false → published_by who (xs ++ event_of who act q c ∷ []) ≡ published_by who xs
quiet_published who xs act q c none =
    published_push who xs (event_of who act q c) ∙ ap (λ (b : Bool). published_by who xs ++ cond (same_who who who && b) (event_of who act q c ∷ []) []) none
    ∙ ap (λ (b : Bool). published_by who xs ++ cond (b && false) (event_of who act q c ∷ []) []) (same_self who) ∙ append-nil (published_by who xs)

-- ---- how far a line is with its add

-- it has put nothing and published nothing
record Before (who : Who) (cur : List CoreEvent) : Type 0 where
  puts : line_puts who (own_of who cur) ≡ []
  published : published_by who (own_of who cur) ≡ []

-- what it has put is what its session's add has, and it has published nothing
record Under (who : Who) (cur : List CoreEvent) : Type 0 where
  even : line_puts who (own_of who cur) ≡ puts_of (own_of who cur)
  published : published_by who (own_of who cur) ≡ []

before_begin : (who : Who) (cur : List CoreEvent) (r : Digest) (n : ℕ) (q : Reply) (c : ℕ) → Before who cur → Before who (cur ++ event_of who (Begin r n) q c ∷ [])
before_begin who cur r n q c k = record {
  puts = ap (line_puts who) (own_push who cur (Begin r n) q c) ∙ quiet_puts who (own_of who cur) (Begin r n) q c refl ∙ k.puts;
  published = ap (published_by who) (own_push who cur (Begin r n) q c) ∙ quiet_published who (own_of who cur) (Begin r n) q c refl ∙ k.published;
}

under_admit : (who : Who) (cur : List CoreEvent) (r : Digest) (q : Reply) (c : ℕ) → Before who cur → Under who (cur ++ event_of who (Admit r) q c ∷ [])
under_admit who cur r q c k = record {
  even =
      ap (line_puts who) (own_push who cur (Admit r) q c) ∙ quiet_puts who (own_of who cur) (Admit r) q c refl ∙ k.puts
      ∙ sym (ap puts_of (own_push who cur (Admit r) q c) ∙ puts_from-append [] (own_of who cur) (event_of who (Admit r) q c ∷ []));
  published = ap (published_by who) (own_push who cur (Admit r) q c) ∙ quiet_published who (own_of who cur) (Admit r) q c refl ∙ k.published;
}

even_put : (who : Who) (xs : List CoreEvent) (i : ℕ) (q : Reply) (c : ℕ) → line_puts who xs ≡ puts_of xs → line_puts who (xs ++ event_of who (Put i) q c ∷ []) ≡ puts_after (puts_of xs) (Put i) q c
even_put who xs i Written c is =
    puts_push who xs (event_of who (Put i) Written c) ∙ ap (λ (b : Bool). line_puts who xs ++ cond (b && true) (c ∷ []) []) (same_self who) ∙ ap (λ (ps : List ℕ). ps ++ c ∷ []) is
even_put who xs i q c is = quiet_puts who xs (Put i) q c refl ∙ is

under_put : (who : Who) (cur : List CoreEvent) (i : ℕ) (q : Reply) (c : ℕ) → Under who cur → Under who (cur ++ event_of who (Put i) q c ∷ [])
under_put who cur i q c k = record {
  even =
      ap (line_puts who) (own_push who cur (Put i) q c) ∙ even_put who (own_of who cur) i q c k.even
      ∙ sym (ap puts_of (own_push who cur (Put i) q c) ∙ puts_from-append [] (own_of who cur) (event_of who (Put i) q c ∷ []));
  published = ap (published_by who) (own_push who cur (Put i) q c) ∙ quiet_published who (own_of who cur) (Put i) q c refl ∙ k.published;
}

-- ---- the moves of a line

-- neither puts nor publishes
abbrev IsQuiet : Act → Type 0
IsQuiet (Put i) = ⊥
IsQuiet (Settle r) = ⊥
IsQuiet a = Unit {0}

abbrev AreQuiet : List Move → Type 0
AreQuiet [] = Unit {0}
AreQuiet (m ∷ ms) = IsQuiet m.0 × AreQuiet ms

-- the moves of an add that is admitted
abbrev AreWorks : List Move → Type 0
AreWorks [] = Unit {0}
AreWorks ((Put i, q) ∷ ms) = AreWorks ms
AreWorks ((Settle r, q) ∷ ms) = ms ≡ []
AreWorks ((Retire r, q) ∷ ms) = ms ≡ []
AreWorks (m ∷ ms) = ⊥

-- the moves of an add
abbrev AreAdd : List Move → Type 0
AreAdd [] = Unit {0}
AreAdd ((Begin r n, q) ∷ ms) = AreAdd ms
AreAdd ((Admit r, q) ∷ ms) = AreWorks ms
AreAdd ((Retire r, q) ∷ ms) = ms ≡ []
AreAdd (m ∷ ms) = ⊥

quiet_one : (cur : List CoreEvent) (who : Who) (act : Act) (q : Reply) → IsQuiet act → IsByLine cur who act q
quiet_one cur who (Put i) q quiet = absurd quiet
quiet_one cur who (Settle r) q quiet = absurd quiet
quiet_one cur who a q quiet = tt

quiet_by : (who : Who) (ms : List Move) (es cur : List CoreEvent) → AreQuiet ms → Make who ms es → AreByLine cur es
quiet_by who [] [] cur quiet make = tt
quiet_by who [] (e ∷ es) cur quiet make = absurd make
quiet_by who (m ∷ ms) [] cur quiet make = tt
quiet_by who (m ∷ ms) (e ∷ es) cur quiet make =
    (quiet_one cur e.who e.act e.reply (subst (λ (a : Act). IsQuiet a) (sym make.1) quiet.0), quiet_by who ms es (cur ++ e ∷ []) quiet.1 make.3)

-- nothing comes after the last move
ended_by : (who : Who) (ms : List Move) (es cur : List CoreEvent) → ms ≡ [] → Make who ms es → AreByLine cur es
ended_by who ms es cur none make = quiet_by who [] es cur tt (subst (λ (l : List Move). Make who l es) none make)

-- an event is the one that a move makes
made_is : (who : Who) (act : Act) (q : Reply) (e : CoreEvent) → e.who ≡ who → e.act ≡ act → e.reply ≡ q → event_of who act q e.calls ≡ e
made_is who act q e w a r = λ i. record { who = sym w i; act = sym a i; reply = sym r i; calls = e.calls }

put_one : (cur : List CoreEvent) (who : Who) (i : ℕ) (q : Reply) → published_by who (own_of who cur) ≡ [] → IsByLine cur who (Put i) q
put_one cur who i Written none = none
put_one cur who i q none = tt

settle_one : (cur : List CoreEvent) (who : Who) (r : Digest) (q : Reply) → line_puts who (own_of who cur) ≡ puts_of (own_of who cur) → IsByLine cur who (Settle r) q
settle_one cur who r Published even = even
settle_one cur who r q even = tt

works_by : (who : Who) (ms : List Move) (es cur : List CoreEvent) → AreWorks ms → Make who ms es → Under who cur → AreByLine cur es
works_by who [] es cur works make k = ended_by who [] es cur refl make
works_by who (m ∷ ms) [] cur works make k = tt
works_by who ((Put i, q) ∷ ms) (e ∷ es) cur works make k =
    let is = made_is who (Put i) q e make.0 make.1 make.2 in (
      subst (λ (x : CoreEvent). IsByLine cur x.who x.act x.reply) is (put_one cur who i q k.published),
      works_by who ms es (cur ++ e ∷ []) works make.3 (subst (λ (x : CoreEvent). Under who (cur ++ x ∷ [])) is (under_put who cur i q e.calls k)),
    )
works_by who ((Settle r, q) ∷ ms) (e ∷ es) cur works make k =
    let is = made_is who (Settle r) q e make.0 make.1 make.2 in
    (subst (λ (x : CoreEvent). IsByLine cur x.who x.act x.reply) is (settle_one cur who r q k.even), ended_by who ms es (cur ++ e ∷ []) works make.3)
works_by who ((Retire r, q) ∷ ms) (e ∷ es) cur works make k =
    let is = made_is who (Retire r) q e make.0 make.1 make.2 in
    (subst (λ (x : CoreEvent). IsByLine cur x.who x.act x.reply) is tt, ended_by who ms es (cur ++ e ∷ []) works make.3)
works_by who (m ∷ ms) (e ∷ es) cur works make k = absurd works

add_by : (who : Who) (ms : List Move) (es cur : List CoreEvent) → AreAdd ms → Make who ms es → Before who cur → AreByLine cur es
add_by who [] es cur add make k = ended_by who [] es cur refl make
add_by who (m ∷ ms) [] cur add make k = tt
add_by who ((Begin r n, q) ∷ ms) (e ∷ es) cur add make k =
    let is = made_is who (Begin r n) q e make.0 make.1 make.2 in (
      subst (λ (x : CoreEvent). IsByLine cur x.who x.act x.reply) is tt,
      add_by who ms es (cur ++ e ∷ []) add make.3 (subst (λ (x : CoreEvent). Before who (cur ++ x ∷ [])) is (before_begin who cur r n q e.calls k)),
    )
add_by who ((Admit r, q) ∷ ms) (e ∷ es) cur add make k =
    let is = made_is who (Admit r) q e make.0 make.1 make.2 in (
      subst (λ (x : CoreEvent). IsByLine cur x.who x.act x.reply) is tt,
      works_by who ms es (cur ++ e ∷ []) add make.3 (subst (λ (x : CoreEvent). Under who (cur ++ x ∷ [])) is (under_admit who cur r q e.calls k)),
    )
add_by who ((Retire r, q) ∷ ms) (e ∷ es) cur add make k =
    let is = made_is who (Retire r) q e make.0 make.1 make.2 in
    (subst (λ (x : CoreEvent). IsByLine cur x.who x.act x.reply) is tt, ended_by who ms es (cur ++ e ∷ []) add make.3)
add_by who (m ∷ ms) (e ∷ es) cur add make k = absurd add

-- ---- the moves that a line may make

puts_works : (ns : List ℕ) (rest : List Move) → AreWorks rest → AreWorks (map (λ i. (Put i, Written)) ns ++ rest)
puts_works [] rest works = works
puts_works (n ∷ ns) rest works = puts_works ns rest works

add_moves : (version : ℕ) (own : List CoreEvent) (r : Digest) (n : ℕ) (ms : List Move) → LineMoves version own (Begin r n) ms → AreAdd ms
add_moves version own r n ms (inl m) = subst (λ (l : List Move). AreAdd l) (sym m.2) tt
add_moves version own r n ms (inr (inl m)) = subst (λ (l : List Move). AreAdd l) (sym m.2) tt
add_moves version own r n ms (inr (inr (inl m))) = subst (λ (l : List Move). AreAdd l) (sym m.4) (puts_works (range_with_len 0 m.0) ((Put m.0, m.1) ∷ (Retire r, Retired) ∷ []) refl)
add_moves version own r n ms (inr (inr (inr m))) = subst (λ (l : List Move). AreAdd l) (sym m.1) (puts_works (range_with_len 0 (need_of version n)) ((Settle r, m.0) ∷ []) refl)

add_cut : (version : ℕ) (own : List CoreEvent) (r : Digest) (n : ℕ) (ms : List Move) → CutMoves version own (Begin r n) ms → AreAdd ms
add_cut version own r n ms (inl m) = subst (λ (l : List Move). AreAdd l) (sym m) tt
add_cut version own r n ms (inr (inl m)) = subst (λ (l : List Move). AreAdd l) (sym m) refl
add_cut version own r n ms (inr (inr m)) = subst (λ (l : List Move). AreAdd l) (sym m.2) (puts_works (range_with_len 0 m.0) ((Retire r, Retired) ∷ []) refl)

quiet_fetches : (slot : ℕ) (ws : List ℕ) (rest : List Move) → AreQuiet rest → AreQuiet (fetches slot ws ++ rest)
quiet_fetches slot [] rest quiet = quiet
quiet_fetches slot (w ∷ ws) rest quiet = (tt, quiet_fetches slot ws rest quiet)

open_quiet : (version : ℕ) (own : List CoreEvent) (slot : ℕ) (r : Digest) (ms : List Move) → LineMoves version own (Open slot r) ms → AreQuiet ms
open_quiet version own slot r ms (inl m) = subst (λ (l : List Move). AreQuiet l) (sym m.2) (tt, tt)
open_quiet version own slot r ms (inr (inl (n, inl is))) = subst (λ (l : List Move). AreQuiet l) (sym is) (tt, tt)
open_quiet version own slot r ms (inr (inl (n, inr is))) = subst (λ (l : List Move). AreQuiet l) (sym is) (tt, (tt, tt))
open_quiet version own slot r ms (inr (inr m)) = subst (λ (l : List Move). AreQuiet l) (sym m.3) (tt, (tt, (tt, tt)))

range_quiet : (act : Act) (slot : ℕ) (range : Windows) (ms : List Move) → IsQuiet act → RangeMoves act slot range ms → AreQuiet ms
range_quiet act slot range ms quiet (inl m) = subst (λ (l : List Move). AreQuiet l) (sym m.2) (quiet, tt)
range_quiet act slot range ms quiet (inr (inl m)) =
    subst (λ (l : List Move). AreQuiet l) (sym m.2) (quiet, subst (λ (l : List Move). AreQuiet l) (append-nil (fetches slot m.0)) (quiet_fetches slot m.0 [] tt))
range_quiet act slot range ms quiet (inr (inr m)) =
    subst (λ (l : List Move). AreQuiet l) (sym m.5) (quiet, quiet_fetches slot m.0 ((Fetch slot m.1, m.2) ∷ []) (tt, tt))

-- neither an add, nor one of its moves alone
abbrev IsOther : Act → Type 0
IsOther (Begin r n) = ⊥
IsOther (Put i) = ⊥
IsOther (Settle r) = ⊥
IsOther a = Unit {0}

alone_quiet : (act : Act) (ms : List Move) → IsQuiet act → (q : Reply) × (ms ≡ (act, q) ∷ []) → AreQuiet ms
alone_quiet act ms quiet m = subst (λ (l : List Move). AreQuiet l) (sym m.1) (quiet, tt)

other_quiet : (version : ℕ) (own : List CoreEvent) (act : Act) (ms : List Move) → IsOther act → LineMoves version own act ms → AreQuiet ms
other_quiet version own (Begin r n) ms other m = absurd other
other_quiet version own (Put i) ms other m = absurd other
other_quiet version own (Settle r) ms other m = absurd other
other_quiet version own (Open slot r) ms other m = open_quiet version own slot r ms m
other_quiet version own (Read slot off len) ms other m = range_quiet (Read slot off len) slot _ ms tt m
other_quiet version own (Scan slot) ms other m = range_quiet (Scan slot) slot _ ms tt m
other_quiet version own (Admit r) ms other m = alone_quiet (Admit r) ms tt m
other_quiet version own (Retire r) ms other m = alone_quiet (Retire r) ms tt m
other_quiet version own (Fetch slot w) ms other m = alone_quiet (Fetch slot w) ms tt m
other_quiet version own (Close slot) ms other m = alone_quiet (Close slot) ms tt m
other_quiet version own (Unlink r) ms other m = alone_quiet (Unlink r) ms tt m
other_quiet version own Sync ms other m = alone_quiet Sync ms tt m
other_quiet version own ListAll ms other m = alone_quiet ListAll ms tt m
other_quiet version own Unmount ms other m = alone_quiet Unmount ms tt m

quiet_front : (ms rest : List Move) → AreQuiet (ms ++ rest) → AreQuiet ms
quiet_front [] rest quiet = tt
quiet_front (m ∷ ms) rest quiet = (quiet.0, quiet_front ms rest quiet.1)

-- ---- one line

line_by : (version : ℕ) (own : List CoreEvent) (who : Who) (act : Act) (ms : List Move) (es cur : List CoreEvent) → IsQuiet act → LineMoves version own act ms → Make who ms es → Before who cur → AreByLine cur es
line_by version own who (Begin r n) ms es cur quiet m make k = add_by who ms es cur (add_moves version own r n ms m) make k
line_by version own who (Put i) ms es cur quiet m make k = absurd quiet
line_by version own who (Settle r) ms es cur quiet m make k = absurd quiet
line_by version own who act ms es cur quiet m make k = quiet_by who ms es cur (other_quiet version own act ms tt m) make

cut_by : (version : ℕ) (own : List CoreEvent) (who : Who) (act : Act) (ms : List Move) (es cur : List CoreEvent) → IsQuiet act → CutMoves version own act ms → Make who ms es → Before who cur → AreByLine cur es
cut_by version own who (Begin r n) ms es cur quiet m make k = add_by who ms es cur (add_cut version own r n ms m) make k
cut_by version own who (Put i) ms es cur quiet m make k = absurd quiet
cut_by version own who (Settle r) ms es cur quiet m make k = absurd quiet
cut_by version own who act ms es cur quiet m make k = quiet_by who ms es cur (quiet_front ms m.0 (other_quiet version own act (ms ++ m.0) tt m.1)) make

-- ---- lines one after another

-- another line's events leave a line where it was
before_other : (who w : Who) (ms : List Move) (es cur : List CoreEvent) → same_who w who ≡ false → Make w ms es → Before who cur → Before who (cur ++ es)
before_other who w [] [] cur other make k = subst (λ (l : List CoreEvent). Before who l) (sym (append-nil cur)) k
before_other who w [] (e ∷ es) cur other make k = absurd make
before_other who w (m ∷ ms) [] cur other make k = absurd make
before_other who w (m ∷ ms) (e ∷ es) cur other make k =
    subst (λ (l : List CoreEvent). Before who l) (append_assoc cur (e ∷ []) es) (before_other who w ms es (cur ++ e ∷ []) other make.3 (one (e.who.session == who.session) refl)) where
      apart : same_who e.who who ≡ false
      apart = ap (λ (x : Who). same_who x who) make.0 ∙ other

      pushed : own_of who (cur ++ e ∷ []) ≡ own_of who cur ++ cond (e.who.session == who.session) (e ∷ []) []
      pushed = filter-append (λ (x : CoreEvent). x.who.session == who.session) cur (e ∷ [])

      one : (b : Bool) → (e.who.session == who.session) ≡ b → Before who (cur ++ e ∷ [])
      one true is =
          let own : own_of who (cur ++ e ∷ []) ≡ own_of who cur ++ e ∷ [] = pushed ∙ ap (λ (b : Bool). own_of who cur ++ cond b (e ∷ []) []) is in
          record {
            puts = ap (line_puts who) own ∙ other_puts who (own_of who cur) e apart ∙ k.puts;
            published = ap (published_by who) own ∙ other_published who (own_of who cur) e apart ∙ k.published;
          }
      one false is =
          let own : own_of who (cur ++ e ∷ []) ≡ own_of who cur = pushed ∙ ap (λ (b : Bool). own_of who cur ++ cond b (e ∷ []) []) is ∙ append-nil (own_of who cur) in
          record { puts = ap (line_puts who) own ∙ k.puts; published = ap (published_by who) own ∙ k.published }

-- each of these requests is of another line
abbrev Apart : Who → List Request → Type 0
Apart who [] = Unit {0}
Apart who (t ∷ ts) = (same_who who t.0 ≡ false) × Apart who ts

abbrev AreApart : List Request → Type 0
AreApart [] = Unit {0}
AreApart (t ∷ ts) = Apart t.0 ts × AreApart ts

-- the requests of lines, of which none has done anything
abbrev AreDue : List Request → List CoreEvent → Type 0
AreDue [] cur = Unit {0}
AreDue (t ∷ ts) cur = IsQuiet t.1 × Before t.0 cur × AreDue ts cur

due_after : (who : Who) (ms : List Move) (es cur : List CoreEvent) (ts : List Request) → Apart who ts → Make who ms es → AreDue ts cur → AreDue ts (cur ++ es)
due_after who ms es cur [] apart make due = tt
due_after who ms es cur (t ∷ ts) apart make due = (due.0, before_other t.0 who ms es cur apart.0 make due.1, due_after who ms es cur ts apart.1 make due.2)

join_by : (cur xs ys : List CoreEvent) → AreByLine cur xs → AreByLine (cur ++ xs) ys → AreByLine cur (xs ++ ys)
join_by cur [] ys first rest = subst (λ (l : List CoreEvent). AreByLine l ys) (append-nil cur) rest
join_by cur (e ∷ xs) ys first rest = (first.0, join_by (cur ++ e ∷ []) xs ys first.1 (subst (λ (l : List CoreEvent). AreByLine l ys) (sym (append_assoc cur (e ∷ []) xs)) rest))

-- the same of the first of these events
pub front_by : (cur xs ys : List CoreEvent) → AreByLine cur (xs ++ ys) → AreByLine cur xs
front_by cur [] ys by = tt
front_by cur (x ∷ xs) ys by = (by.0, front_by (cur ++ x ∷ []) xs ys by.1)

-- lines that were done, before these others
done_by : (version : ℕ) (own : List CoreEvent) (ts rest : List Request) (es : List CoreEvent) → AreApart (ts ++ rest) → AreDue (ts ++ rest) own → DoLines version own ts es → AreByLine own es × AreDue rest (own ++ es)
done_by version own [] rest es apart due d =
    (subst (λ (l : List CoreEvent). AreByLine own l) (sym d) tt, subst (λ (l : List CoreEvent). AreDue rest l) (sym (append-nil own) ∙ ap (λ (l : List CoreEvent). own ++ l) (sym d)) due)
done_by version own (t ∷ ts) rest es apart due d =
    let line = line_by version own t.0 t.1 d.3.0 d.0 own due.0 d.3.1 d.3.2 due.1 in
    let later = done_by version (own ++ d.0) ts rest d.1 apart.1 (due_after t.0 d.3.0 d.0 own (ts ++ rest) apart.0 d.3.2 due.2) d.4 in (
      subst (λ (l : List CoreEvent). AreByLine own l) (sym d.2) (join_by own d.0 d.1 line later.0),
      subst (λ (l : List CoreEvent). AreDue rest l) (append_assoc own d.0 d.1 ∙ ap (λ (l : List CoreEvent). own ++ l) (sym d.2)) later.1,
    )

next_by : (version : ℕ) (own : List CoreEvent) (rest : List Request) (es : List CoreEvent) → AreDue rest own → CutsNext version own rest es → AreByLine own es
next_by version own [] es due c = subst (λ (l : List CoreEvent). AreByLine own l) (sym c) tt
next_by version own (t ∷ ts) es due c = cut_by version own t.0 t.1 c.0 es own due.0 c.1 c.2 due.1

some_by : (version : ℕ) (ts : List Request) (es : List CoreEvent) → AreApart ts → AreDue ts [] → CutLines version [] ts es → AreByLine [] es
some_by version ts es apart due c =
    let done : List Request = c.0 in
    let rest : List Request = c.1 in
    let first = done_by version [] done rest c.2 (subst (λ (l : List Request). AreApart l) c.4 apart) (subst (λ (l : List Request). AreDue l []) c.4 due) c.6 in
    subst (λ (l : List CoreEvent). AreByLine [] l) (sym c.5) (join_by [] c.2 c.3 first.0 (next_by version c.2 rest c.3 first.1 c.7))

-- ---- a session's lines

who_apart : (l x : ScriptLine) → ¬ (l.number ≡ x.number) → same_who (who_of l) (who_of x) ≡ false
who_apart l x other = by_test (l.session == x.session) (ne_eqb l.number x.number other) where
  by_test : (b : Bool) → (l.number == x.number) ≡ false → (b && (l.number == x.number)) ≡ false
  by_test true e = e
  by_test false e = refl

apart_above : (l : ScriptLine) (s n : ℕ) (ls : List ScriptLine) → l.number < n → Rise n ls → Apart (who_of l) (requests_of s ls)
apart_above l s n [] low r = tt
apart_above l s n (x ∷ ls) low r =
    by_test (x.session == s) (who_apart l x (λ is. absurd (omega (arith, r.0, low, is)))) (apart_above l s (x.number + 1) ls (omega (arith, r.0, low)) r.2) where
      by_test : (c : Bool) → same_who (who_of l) (who_of x) ≡ false → Apart (who_of l) (requests_of s ls) → Apart (who_of l) (map request_of (cond c (x ∷ filter (λ y. y.session == s) ls) (filter (λ y. y.session == s) ls)))
      by_test true one rest = (one, rest)
      by_test false one rest = rest

all_apart : (s n : ℕ) (ls : List ScriptLine) → Rise n ls → AreApart (requests_of s ls)
all_apart s n [] r = tt
all_apart s n (l ∷ ls) r = by_test (l.session == s) (apart_above l s (l.number + 1) ls (omega arith) r.2) (all_apart s (l.number + 1) ls r.2) where
  by_test : (c : Bool) → Apart (who_of l) (requests_of s ls) → AreApart (requests_of s ls) → AreApart (map request_of (cond c (l ∷ filter (λ y. y.session == s) ls) (filter (λ y. y.session == s) ls)))
  by_test true one rest = (one, rest)
  by_test false one rest = rest

task_quiet : (t : Task) → IsQuiet (own_act t)
task_quiet (tasks.Add root size) = tt
task_quiet (tasks.Open slot root) = tt
task_quiet (tasks.Read slot off len) = tt
task_quiet (tasks.Scan slot) = tt
task_quiet (tasks.Close slot) = tt
task_quiet (tasks.Unlink root) = tt
task_quiet tasks.Sync = tt
task_quiet tasks.List = tt

all_due : (ls : List ScriptLine) → AreDue (map request_of ls) []
all_due [] = tt
all_due (l ∷ ls) = (task_quiet (task_of l.command), record { puts = refl; published = refl }, all_due ls)

session_by : (lines : List ScriptLine) (h : History) (s : ℕ) → AreLawful lines → Begins lines h s → AreByLine [] (events_of s h.events)
session_by lines h s lawful c = some_by h.version (requests_of s lines) (events_of s h.events) (all_apart s 1 lines lawful.rise) (all_due (filter (λ y. y.session == s) lines)) c

-- the events of none of the sessions
outside_by : (s : ℕ) (es cur : List CoreEvent) → 15 < s → AreOfSessions es → AreByLine cur (events_of s es)
outside_by s [] cur high all = tt
outside_by s (e ∷ es) cur high all = by_test (e.who.session == s) refl (λ more. outside_by s es more high later) where
  later : AreOfSessions es
  later = All-tail (λ x. (x.who.session ≤ 15) ⊎ (x.act ≡ Unmount)) e es all

  of : (e.who.session == s) ≡ true → (e.who.session ≤ 15) ⊎ (e.act ≡ Unmount) → IsByLine cur e.who e.act e.reply
  of is (inl low) = absurd (omega (arith, high, low, eqb-true e.who.session s is))
  of is (inr act) = subst (λ (a : Act). IsByLine cur e.who a e.reply) (sym act) tt

  by_test : (b : Bool) → (e.who.session == s) ≡ b → ((more : List CoreEvent) → AreByLine more (events_of s es)) → AreByLine cur (cond b (e ∷ events_of s es) (events_of s es))
  by_test true is rest = (of is (All-head (λ x. (x.who.session ≤ 15) ⊎ (x.act ≡ Unmount)) e es all), rest (cur ++ e ∷ []))
  by_test false is rest = rest cur

-- ---- all sessions

-- an event is by its line, whatever other sessions did
same_own : (a b : List CoreEvent) (who : Who) (act : Act) (q : Reply) → own_of who a ≡ own_of who b → IsByLine a who act q → IsByLine b who act q
same_own a b who (Put i) Written same h = ap (published_by who) (sym same) ∙ h
same_own a b who (Settle r) Published same h = ap (line_puts who) (sym same) ∙ h ∙ ap puts_of same
same_own a b who (Put i) q same h = tt
same_own a b who (Settle r) q same h = tt
same_own a b who act q same h = tt

own_twice : (s : ℕ) (xs : List CoreEvent) → events_of s (events_of s xs) ≡ events_of s xs
own_twice s [] = refl
own_twice s (x ∷ xs) = by_test (x.who.session == s) refl (own_twice s xs) where
  by_test : (b : Bool) → (x.who.session == s) ≡ b → events_of s (events_of s xs) ≡ events_of s xs → events_of s (cond b (x ∷ events_of s xs) (events_of s xs)) ≡ cond b (x ∷ events_of s xs) (events_of s xs)
  by_test true is rest = ap (λ (b : Bool). cond b (x ∷ events_of s (events_of s xs)) (events_of s (events_of s xs))) is ∙ ap (λ (l : List CoreEvent). x ∷ l) rest
  by_test false is rest = rest

all_by : (es cur : List CoreEvent) → ((s : ℕ) → AreByLine (events_of s cur) (events_of s es)) → AreByLine cur es
all_by [] cur each = tt
all_by (e ∷ es) cur each = (
  same_own (events_of e.who.session cur) cur e.who e.act e.reply (own_twice e.who.session cur) mine.0,
  all_by es (cur ++ e ∷ []) (λ s. rest s (e.who.session == s) refl (each s)),
) where
  mine : AreByLine (events_of e.who.session cur) (e ∷ events_of e.who.session es)
  mine = subst (λ (b : Bool). AreByLine (events_of e.who.session cur) (cond b (e ∷ events_of e.who.session es) (events_of e.who.session es))) (eq-eqb e.who.session e.who.session refl) (each e.who.session)

  rest : (s : ℕ) (b : Bool) → (e.who.session == s) ≡ b → AreByLine (events_of s cur) (cond b (e ∷ events_of s es) (events_of s es)) → AreByLine (events_of s (cur ++ e ∷ [])) (events_of s es)
  rest s true is h =
      subst (λ (l : List CoreEvent). AreByLine l (events_of s es))
      (sym (filter-append (λ (x : CoreEvent). x.who.session == s) cur (e ∷ []) ∙ ap (λ (b : Bool). events_of s cur ++ cond b (e ∷ []) []) is)) h.1
  rest s false is h =
      subst (λ (l : List CoreEvent). AreByLine l (events_of s es))
      (sym (filter-append (λ (x : CoreEvent). x.who.session == s) cur (e ∷ []) ∙ ap (λ (b : Bool). events_of s cur ++ cond b (e ∷ []) []) is ∙ append-nil (events_of s cur))) h

pub lines_add_once : LinesAddOnce
lines_add_once lines h lawful begins of = all_by h.events [] (λ s. elim (cases_lt 15 s) [
  | inl high ↦ outside_by s h.events [] high of
  | inr low ↦ session_by lines h s lawful (begins s low)
])
