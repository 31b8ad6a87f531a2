-- A weight of the acts: the events of a run weigh no more than its lines may.
use Rattle.std.proofs.Common.{◌≡◌, ℕ, zero, suc, ◌+◌, ◌<◌, ◌≤◌, ◌==◌, ◌⊎◌, inl, inr, Bool, true, false, cond, List, [], ◌∷◌, ◌++◌, map, filter, All, refl, ap, ◌∙◌, arith}
use Rattle.std.specs.List.{range_with_len, sum_by}
use Rattle.std.proofs.lemmas.Bool.{cases_lt, eqb-true, eqb-false}
use Rattle.std.proofs.lemmas.List.Elements.{All-head, All-tail, filter-append}
use Rattle.std.proofs.lemmas.List.Sums.{sum_by-append, sum_by-cons, sum_by_push}
use Rattle.spec_tree.specs.declared.Digest.{Digest}
use Rattle.spec_tree.specs.Tree.{need_of}
use Rattle.spec_core.specs.declared.act.Act.{Act}
use Rattle.spec_core.specs.declared.act.Act.TheVariants.{Begin, Admit, Put, Settle, Retire, Open, Fetch, Read, Scan, Close, Unlink, Sync, List as ListAll, Unmount}
use Rattle.spec_core.specs.declared.reply.Reply.TheVariants.{Written, Retired, Fetched, Reading}
use Rattle.spec_core.specs.declared.event.CoreEvent.{CoreEvent}
use Rattle.spec_core.specs.declared.who.Who.{Who}
use Rattle.spec_core.specs.History.{History}
use Rattle.spec_script.specs.declared.line.ScriptLine.{ScriptLine}
use Rattle.spec_script.specs.Tasks.{task_of}
use Rattle.spec_session.specs.Conform.{Conform, DoLines, Request, events_of, own_act, request_of, requests_of}
use Rattle.spec_session.specs.Lines.{AddMoves, LineMoves, Make, Move, OpenMoves, RangeMoves, Windows, admits, all_windows, fetches, puts, range_of, read_windows}
use Rattle.spec_session.specs.Own.{slot_holds}
use Rattle.spec_session.specs.Told.{lines_of_session}
use Rattle.spec_headline.specs.Run.{EndsWithUnmount}

-- ---- by sessions

module _ {X : Type 0} (key : X → ℕ) (f : X → ℕ) where
  -- the weights of what sessions below n have
  abbrev pub below : ℕ → List X → ℕ
  below zero xs = 0
  below (suc n) xs = below n xs + sum_by f (filter (λ x. key x == n) xs)

  -- one more of a session past these, or of one of these
  past : (n : ℕ) (x : X) (xs : List X) → n ≤ key x → below n (x ∷ xs) ≡ below n xs
  past zero x xs le = refl
  past (suc n) x xs le = by (key x == n) refl (past n x xs (omega (arith, le))) where
    by : (b : Bool) → (key x == n) ≡ b → below n (x ∷ xs) ≡ below n xs → below n (x ∷ xs) + sum_by f (cond b (x ∷ filter (λ y. key y == n) xs) (filter (λ y. key y == n) xs)) ≡ below n xs + sum_by f (filter (λ y. key y == n) xs)
    by true is later = absurd (omega (arith, le, eqb-true (key x) n is))
    by false is later = ap (λ (k : ℕ). k + sum_by f (filter (λ y. key y == n) xs)) later

  among : (n : ℕ) (x : X) (xs : List X) → key x < n → below n (x ∷ xs) ≡ f x + below n xs
  among zero x xs lt = absurd (omega (arith, lt))
  among (suc n) x xs lt = by (key x == n) refl (λ le. past n x xs le) (λ less. among n x xs less) where
    by : (b : Bool) → (key x == n) ≡ b → (n ≤ key x → below n (x ∷ xs) ≡ below n xs) → (key x < n → below n (x ∷ xs) ≡ f x + below n xs) → below n (x ∷ xs) + sum_by f (cond b (x ∷ filter (λ y. key y == n) xs) (filter (λ y. key y == n) xs)) ≡ f x + (below n xs + sum_by f (filter (λ y. key y == n) xs))
    by true is later less = omega (arith, later (omega (arith, eqb-true (key x) n is)), sum_by-cons f x (filter (λ y. key y == n) xs))
    by false is later less = let other : ¬ (key x ≡ n) = eqb-false (key x) n is in omega (arith, less (omega (arith, lt, other)))

  none : (n : ℕ) → below n [] ≡ 0
  none zero = refl
  none (suc n) = omega (arith, none n)

  -- sessions below n have no more than all have
  pub below-le : (n : ℕ) (xs : List X) → below n xs ≤ sum_by f xs
  below-le n [] = omega (arith, none n)
  below-le n (x ∷ xs) = by (cases_lt (key x) n) (below-le n xs) where
    by : ((key x < n) ⊎ (n ≤ key x)) → below n xs ≤ sum_by f xs → below n (x ∷ xs) ≤ sum_by f (x ∷ xs)
    by (inl lt) later = omega (arith, later, among n x xs lt, sum_by-cons f x xs)
    by (inr le) later = omega (arith, later, past n x xs le, sum_by-cons f x xs)

  -- and where the others weigh nothing, no less
  pub le-below : (n : ℕ) (xs : List X) → All (λ x. (key x < n) ⊎ (f x ≡ 0)) xs → sum_by f xs ≤ below n xs
  le-below n [] each = omega (arith, none n)
  le-below n (x ∷ xs) each = by (cases_lt (key x) n) (All-head (λ (y : X). (key y < n) ⊎ (f y ≡ 0)) x xs each) (le-below n xs (All-tail (λ (y : X). (key y < n) ⊎ (f y ≡ 0)) x xs each)) where
    by : ((key x < n) ⊎ (n ≤ key x)) → ((key x < n) ⊎ (f x ≡ 0)) → sum_by f xs ≤ below n xs → sum_by f (x ∷ xs) ≤ below n (x ∷ xs)
    by (inl lt) either later = omega (arith, later, among n x xs lt, sum_by-cons f x xs)
    by (inr le) (inl lt) later = absurd (omega (arith, le, lt))
    by (inr le) (inr free) later = omega (arith, later, free, past n x xs le, sum_by-cons f x xs)

-- session by session
pub each_session : {X Y : Type 0} (key : X → ℕ) (f : X → ℕ) (of : Y → ℕ) (g : Y → ℕ) (xs : List X) (ys : List Y) (n : ℕ)
    → ((s : ℕ) → s < n → sum_by f (filter (λ x. key x == s) xs) ≤ sum_by g (filter (λ y. of y == s) ys))
    → below key f n xs ≤ below of g n ys
each_session key f of g xs ys zero each = omega arith
each_session key f of g xs ys (suc n) each =
    omega (arith, each n (omega arith), each_session key f of g xs ys n (λ s lt. each s (omega (arith, lt))))

-- ---- by lines

-- a weight of the acts: that of a begin is by its add, and of each act that writes an entry this one
module _ (add : ℕ → ℕ) (entry : ℕ) where
  abbrev pub weight : Act → ℕ
  weight (Begin root size) = add size
  weight (Settle root) = entry
  weight Sync = entry
  weight Unmount = entry
  weight act = 0

  -- the most that a line weighs, by its own act
  abbrev pub most : Act → ℕ
  most (Begin root size) = add size + entry
  most (Settle root) = entry
  most Sync = entry
  most Unmount = entry
  most act = 0

  abbrev moved : List Move → ℕ
  moved ms = sum_by (λ m. weight m.0) ms

  joined : (ms ns : List Move) → moved (ms ++ ns) ≡ moved ms + moved ns
  joined ms ns = sum_by-append (λ (m : Move). weight m.0) ms ns

  light : (f : ℕ → Move) → ((i : ℕ) → weight (f i).0 ≡ 0) → (is : List ℕ) → moved (map f is) ≡ 0
  light f free [] = refl
  light f free (i ∷ is) = omega (arith, free i, light f free is, sum_by-cons (λ (m : Move). weight m.0) (f i) (map f is))

  add_moves : (version : ℕ) (r : Digest) (n : ℕ) (ms : List Move) → AddMoves version r n ms → moved ms ≤ add n + entry
  add_moves version r n ms (inl (q, other, is)) = omega (arith, ap moved is)
  add_moves version r n ms (inr (inl (q, other, is))) = omega (arith, ap moved is)
  add_moves version r n ms (inr (inr (inl (k, q, lt, other, is)))) =
      omega (arith, ap moved is, joined (admits r n) (puts k ++ (Put k, q) ∷ (Retire r, Retired) ∷ []), joined (puts k) ((Put k, q) ∷ (Retire r, Retired) ∷ []), light (λ i. (Put i, Written)) (λ i. refl) (range_with_len 0 k))
  add_moves version r n ms (inr (inr (inr (q, is)))) =
      let k = need_of version n in
      omega (arith, ap moved is, joined (admits r n) (puts k ++ (Settle r, q) ∷ []), joined (puts k) ((Settle r, q) ∷ []), light (λ i. (Put i, Written)) (λ i. refl) (range_with_len 0 k))

  open_moves : (slot : ℕ) (r : Digest) (ms : List Move) → OpenMoves slot r ms → moved ms ≤ 0
  open_moves slot r ms (inl (q, other, is)) = omega (arith, ap moved is)
  open_moves slot r ms (inr (inl (n, inl is))) = omega (arith, ap moved is)
  open_moves slot r ms (inr (inl (n, inr is))) = omega (arith, ap moved is)
  open_moves slot r ms (inr (inr (n, q, p, is))) = omega (arith, ap moved is)

  range_moves : (act : Act) (slot : ℕ) (range : Windows) (ms : List Move) → weight act ≡ 0 → RangeMoves act slot range ms → moved ms ≤ 0
  range_moves act slot range ms free (inl (q, other, is)) = omega (arith, free, ap moved is)
  range_moves act slot range ms free (inr (inl (ws, rise, is))) =
      omega (arith, free, ap moved is, sum_by-cons (λ (m : Move). weight m.0) (act, Reading) (fetches slot ws), light (λ w. (Fetch slot w, Fetched)) (λ w. refl) ws)
  range_moves act slot range ms free (inr (inr (ws, w, q, rise, other, is))) =
      omega (arith, free, ap moved is, sum_by-cons (λ (m : Move). weight m.0) (act, Reading) (fetches slot ws ++ (Fetch slot w, q) ∷ []), joined (fetches slot ws) ((Fetch slot w, q) ∷ []), light (λ v. (Fetch slot v, Fetched)) (λ v. refl) ws)

  -- the moves of a line
  line_moves : (version : ℕ) (own : List CoreEvent) (act : Act) (ms : List Move) → LineMoves version own act ms → moved ms ≤ most act
  line_moves version own (Begin r n) ms m = add_moves version r n ms m
  line_moves version own (Open slot r) ms m = open_moves slot r ms m
  line_moves version own (Read slot off len) ms m = range_moves (Read slot off len) slot (range_of (slot_holds slot own) (λ size. read_windows size off len)) ms refl m
  line_moves version own (Scan slot) ms m = range_moves (Scan slot) slot (range_of (slot_holds slot own) all_windows) ms refl m
  line_moves version own (Admit r) ms (q, is) = omega (arith, ap moved is)
  line_moves version own (Put i) ms (q, is) = omega (arith, ap moved is)
  line_moves version own (Settle r) ms (q, is) = omega (arith, ap moved is)
  line_moves version own (Retire r) ms (q, is) = omega (arith, ap moved is)
  line_moves version own (Fetch slot w) ms (q, is) = omega (arith, ap moved is)
  line_moves version own (Close slot) ms (q, is) = omega (arith, ap moved is)
  line_moves version own (Unlink r) ms (q, is) = omega (arith, ap moved is)
  line_moves version own Sync ms (q, is) = omega (arith, ap moved is)
  line_moves version own ListAll ms (q, is) = omega (arith, ap moved is)
  line_moves version own Unmount ms (q, is) = omega (arith, ap moved is)

  abbrev happened : List CoreEvent → ℕ
  happened es = sum_by (λ e. weight e.act) es

  made : (who : Who) (ms : List Move) (es : List CoreEvent) → Make who ms es → happened es ≡ moved ms
  made who [] [] m = refl
  made who [] (e ∷ es) m = absurd m
  made who (x ∷ ms) [] m = absurd m
  made who (x ∷ ms) (e ∷ es) (by, act, reply, rest) =
      omega (arith, made who ms es rest, ap weight act, sum_by-cons (λ (y : CoreEvent). weight y.act) e es, sum_by-cons (λ (y : Move). weight y.0) x ms)

  -- the events of some requests
  do_lines : (version : ℕ) (own : List CoreEvent) (ts : List Request) (es : List CoreEvent) → DoLines version own ts es → happened es ≤ sum_by (λ t. most t.1) ts
  do_lines version own [] es is = omega (arith, ap happened is)
  do_lines version own (t ∷ ts) es (xs, ys, is, (ms, moves, make), rest) =
      omega (arith, ap happened is, sum_by-append (λ (e : CoreEvent). weight e.act) xs ys, made t.0 ms xs make, line_moves version own t.1 ms moves, do_lines version (own ++ xs) ts ys rest, sum_by-cons (λ (x : Request). most x.1) t ts)

  abbrev asked : List ScriptLine → ℕ
  asked lines = sum_by (λ l. most (own_act (task_of l.command))) lines

  as_requests : (lines : List ScriptLine) → sum_by (λ t. most t.1) (map request_of lines) ≡ asked lines
  as_requests [] = refl
  as_requests (l ∷ lines) =
      omega (arith, as_requests lines, sum_by-cons (λ (t : Request). most t.1) (request_of l) (map request_of lines), sum_by-cons (λ (x : ScriptLine). most (own_act (task_of x.command))) l lines)

  one_session : (lines : List ScriptLine) (h : History) (s : ℕ) → Conform lines h s → happened (events_of s h.events) ≤ asked (lines_of_session s lines)
  one_session lines h s conform = omega (arith, do_lines h.version [] (requests_of s lines) (events_of s h.events) conform, as_requests (lines_of_session s lines))

  -- what comes last takes nothing from what a session did before
  without_last : (s : ℕ) (es : List CoreEvent) (e : CoreEvent) → happened (events_of s es) ≤ happened (events_of s (es ++ e ∷ []))
  without_last s es e =
      let mine : CoreEvent → Bool = λ x. x.who.session == s in
      omega (arith, ap happened (filter-append mine es (e ∷ [])), sum_by-append (λ (x : CoreEvent). weight x.act) (events_of s es) (events_of s (e ∷ [])))

  -- all events of a run weigh no more than its lines may, and the unmount
  pub all_lines : (lines : List ScriptLine) (h : History) → ((s : ℕ) → s < 16 → Conform lines h s) → EndsWithUnmount h
      → sum_by (λ e. weight e.act) h.events ≤ sum_by (λ l. most (own_act (task_of l.command))) lines + entry
  all_lines lines h conform ends =
      let of : CoreEvent → ℕ = λ e. e.who.session in
      let on : ScriptLine → ℕ = λ l. l.session in
      let f : CoreEvent → ℕ = λ e. weight e.act in
      let g : ScriptLine → ℕ = λ l. most (own_act (task_of l.command)) in
      let all : sum_by f h.events ≡ sum_by f ends.sessions + weight ends.unmount.act = ap (sum_by f) ends.is ∙ sum_by_push f ends.sessions ends.unmount in
      let one : (s : ℕ) → s < 16 → happened (events_of s ends.sessions) ≤ asked (lines_of_session s lines) =
      λ s lt. omega (arith, without_last s ends.sessions ends.unmount, ap (λ (es : List CoreEvent). happened (events_of s es)) ends.is, one_session lines h s (conform s lt)) in
      omega (arith, all, ap weight ends.act, le-below of f 16 ends.sessions (λ k d lt. inl (ends.others k d lt)), each_session of f on g ends.sessions lines 16 one, below-le on g 16 lines)
