-- The rows of all lines, event by event.
use Rattle.std.proofs.Common.{◌≡◌, ℕ, inl, inr, ◌+◌, ◌-◌, ◌<◌, ◌≤◌, Bool, true, false, cond, not, ◌&&◌, ◌||◌, eqb, List, [], ◌∷◌, ◌++◌, length, get_or, set, take, drop, take_while, Option, Some, None, All, option_map, replicate, refl, sym, ap, subst, ◌∙◌, arith, length-append}
use Rattle.std.specs.List.{AllByRecursion, list_any}
use Rattle.std.proofs.lemmas.Bool.{cases_Bool, cases_eq, ne_eqb}
use Rattle.std.proofs.lemmas.Grind.{common_steps, take_at_read}
use Rattle.std.proofs.lemmas.List.{drop_more, get_or_append_left, get_or_push, length-replicate}
use Rattle.std.proofs.lemmas.List.Elements.{All-append, All-from_recursion, All-push, All-replicate}
use Rattle.std.proofs.lemmas.List.Folds.{list_any-append}
use Rattle.std.proofs.lemmas.List.Sums.{fold-append, take_while-cons}
use Rattle.spec_core.specs.History.{History, first_state, opening_map, setting_of}
use Rattle.spec_core.specs.Order.{place_cmp}
use Rattle.spec_core.specs.State.{State, among, find, held, is_held}
use Rattle.spec_tree.specs.Order.{digest_cmp}
use Rattle.std.specs.BTreeMap.{is_at}
use Rattle.std.specs.BTreeSet.{insert_key}
use Rattle.std.specs.Map.{remove_entry}
use Rattle.std.specs.Set.{remove_key}
use Rattle.spec_core.specs.Change.{blob_of, change, emptied, let_go, settled, slots_emptied, sync_done, unmount_done}
use Rattle.spec_core.specs.Choice.{is_empty, place_of}
use Rattle.spec_core.specs.Step.{after, state_after}
use Rattle.spec_core.specs.declared.act.Act.{Act}
use Rattle.spec_core.specs.declared.act.Act.TheVariants as acts
use Rattle.spec_core.specs.declared.place.Place.{Place}
use Rattle.spec_core.specs.declared.reply.Reply.{Reply}
use Rattle.spec_core.specs.declared.reply.Reply.TheVariants.{Granted, Admitted, Published, Opened, Closed, Unlinked, Synced, Unmounted, DeviceFault}
use Rattle.spec_core.specs.declared.setting.Setting.{Setting}
use Rattle.spec_tree.specs.declared.blob.Blob.{Blob}
use Rattle.spec_core.specs.declared.event.CoreEvent.{CoreEvent}
use Rattle.spec_core.specs.declared.who.Who.{Who}
use Rattle.spec_script.specs.Lawful.{Rise}
use Rattle.spec_script.specs.declared.line.ScriptLine.{ScriptLine}
use Rattle.spec_session.specs.Text.{TellsRoots}
use Rattle.spec_session.specs.Told.{TellsRoot, answer_next, answer_of, events_before, is_retire, listed_at, named_root, or_else, present_blobs, root_next, root_told, same_who, who_of}
use Rattle.spec_tree.specs.declared.Digest.{Digest}
use Rattle.bv_text.specs.Rows.{AreRows, HasRow, HaveRows, IsRow, Notes, NotesAll, ShowAll, Shows, blobs_in, is_list, listed_by, listing_next, no_row, who_in}
use Rattle.bv_text.specs.declared.row.Row.{Row}

-- ---- one event in a row

and_false : (b : Bool) → (b && false) ≡ false
and_false true = refl
and_false false = refl

-- other lines are made by others
others : (a b : Who) → eqb a.line b.line ≡ false → same_who a b ≡ false
others a b apart = ap (λ c. eqb a.session b.session && c) apart ∙ and_false (eqb a.session b.session)

-- an event of another is none of a row's
pub not_noted : (s : State) (e : CoreEvent) (n : ℕ) (row : Row) → same_who (who_in n row) e.who ≡ false → Notes s e n row row
not_noted s e n row apart = record {
  session = refl;
  lists = refl;
  root = sym (ap (λ b. cond b (or_else (named_root e.act) row.root) row.root) apart);
  answer = sym (ap (λ b. cond (b && not (is_retire e.act)) (Some e.reply) row.answer) apart);
  listing = λ lists. sym (ap (λ b. cond b (or_else (blobs_in row) (Some (present_blobs s))) (blobs_in row)) apart);
}

-- an event of a line that has no row
pub none_noted : (s : State) (e : CoreEvent) (rows : List Row) → length rows ≤ e.who.line → NotesAll s e rows rows
none_noted s e rows past = record {
  len = refl;
  each = λ n short. not_noted s e n (get_or rows n no_row) (others (who_in n (get_or rows n no_row)) e.who (ne_eqb n e.who.line (λ is. omega (arith, is, short, past))));
}

-- an event of a line that has one
pub one_noted : (s : State) (e : CoreEvent) (rows : List Row) (new : Row) → e.who.line < length rows → Notes s e e.who.line (get_or rows e.who.line no_row) new → NotesAll s e rows (set rows e.who.line new)
one_noted s e rows new short noted = record {
  len = grind (arith, common_steps);
  each = λ n within. elim (cases_eq n e.who.line) [
    | inl is ↦
        let at : get_or (set rows e.who.line new) n no_row ≡ new = grind (arith, common_steps) in
        let P : ℕ → Type 0 = λ k. Notes s e k (get_or rows k no_row) new in
        subst (Notes s e n (get_or rows n no_row)) (sym at) (subst P (sym is) noted)
    | inr ne ↦
        let at : get_or (set rows e.who.line new) n no_row ≡ get_or rows n no_row = grind (arith, common_steps) in
        subst (Notes s e n (get_or rows n no_row)) (sym at) (not_noted s e n (get_or rows n no_row) (others (who_in n (get_or rows n no_row)) e.who (ne_eqb n e.who.line ne)))
  ];
}

-- ---- one event more

-- the state after these events of a history
abbrev pub state_by : History → List CoreEvent → State
state_by h es = state_after (setting_of h) (first_state (opening_map h) 0) es

state_more : (h : History) (s : State) (es : List CoreEvent) (e : CoreEvent) → state_after (setting_of h) s (es ++ e ∷ []) ≡ after (setting_of h) (state_after (setting_of h) s es) e
state_more h s [] e = refl
state_more h s (x ∷ es) e = state_more h (after (setting_of h) s x) es e

pub state_next : (h : History) (es : List CoreEvent) (e : CoreEvent) → state_by h (es ++ e ∷ []) ≡ after (setting_of h) (state_by h es) e
state_next h es e = state_more h (first_state (opening_map h) 0) es e

-- the events before the first that passes a test
abbrev before : (CoreEvent → Bool) → List CoreEvent → List CoreEvent
before test es = take_while (λ e. not (test e)) es

before_step : (test : CoreEvent → Bool) (x : CoreEvent) (es : List CoreEvent) (b : Bool) → test x ≡ b → before test (x ∷ es) ≡ cond (not b) (x ∷ before test es) []
before_step test x es b is = take_while-cons (λ e. not (test e)) x es ∙ ap (λ c. cond (not c) (x ∷ before test es) []) is

or_false : (a b : Bool) → (a || b) ≡ false → (a ≡ false) × (b ≡ false)
or_false true b h = absurd (cc h)
or_false false b h = (refl, h)

-- where some event passed, an event more changes nothing
before_met : (test : CoreEvent → Bool) (es : List CoreEvent) (e : CoreEvent) → list_any test es ≡ true → before test (es ++ e ∷ []) ≡ before test es
before_met test [] e met = absurd (cc met)
before_met test (x ∷ es) e met = elim (cases_Bool (test x)) [
  | inl is ↦ before_step test x (es ++ e ∷ []) true is ∙ sym (before_step test x es true is)
  | inr is ↦
      let rest : list_any test es ≡ true = sym (ap (λ b. b || list_any test es) is) ∙ met in
      before_step test x (es ++ e ∷ []) false is ∙ (ap (λ ys. x ∷ ys) (before_met test es e rest) ∙ sym (before_step test x es false is))
]

-- where none passed, all events are before
before_unmet : (test : CoreEvent → Bool) (es : List CoreEvent) → list_any test es ≡ false → before test es ≡ es
before_unmet test [] unmet = refl
before_unmet test (x ∷ es) unmet =
    let parts = or_false (test x) (list_any test es) unmet in
    before_step test x es false parts.0 ∙ ap (λ ys. x ∷ ys) (before_unmet test es parts.1)

before_first : (test : CoreEvent → Bool) (es : List CoreEvent) (e : CoreEvent) → list_any test es ≡ false → test e ≡ true → before test (es ++ e ∷ []) ≡ es
before_first test [] e unmet is = before_step test e [] true is
before_first test (x ∷ es) e unmet is =
    let parts = or_false (test x) (list_any test es) unmet in
    before_step test x (es ++ e ∷ []) false parts.0 ∙ ap (λ ys. x ∷ ys) (before_first test es e parts.1 is)

-- whether an event is a line's
abbrev is_of : Who → CoreEvent → Bool
is_of who e = same_who who e.who

-- a listing is taken at the first event, and stays
taken : {X : Type 0} (a b : Bool) (x y z : X) → (a ≡ true → x ≡ z) → (a ≡ false → b ≡ true → y ≡ z)
    → cond b (or_else (cond a (Some x) None) (Some y)) (cond a (Some x) None) ≡ cond (a || (b || false)) (Some z) None
taken true true x y z stays first = ap (λ v. Some v) (stays refl)
taken true false x y z stays first = ap (λ v. Some v) (stays refl)
taken false true x y z stays first = ap (λ v. Some v) (first refl refl)
taken false false x y z stays first = refl

listed_more : (h : History) (who : Who) (es : List CoreEvent) (e : CoreEvent) → listing_next (state_by h es) who (listed_by h who es) e ≡ listed_by h who (es ++ e ∷ [])
listed_more h who es e =
    let here : List (Digest × ℕ) = present_blobs (state_by h (before (is_of who) (es ++ e ∷ []))) in
    taken (list_any (is_of who) es) (same_who who e.who) (present_blobs (state_by h (before (is_of who) es))) (present_blobs (state_by h es)) here
    (λ met. ap (λ xs. present_blobs (state_by h xs)) (sym (before_met (is_of who) es e met)))
    (λ unmet is. ap (λ xs. present_blobs (state_by h xs)) (sym (before_first (is_of who) es e unmet is)))
    ∙ ap (λ c. cond c (Some here) None) (sym (list_any-append (is_of who) es (e ∷ [])))

-- who makes the events of a line of this number
abbrev whose : ℕ → ℕ → Who
whose line session = record { session = session; line = line }

-- a row, one event later
row_more : (h : History) (es : List CoreEvent) (e : CoreEvent) (n : ℕ) (old new : Row) → IsRow h es n old → Notes (state_by h es) e n old new → IsRow h (es ++ e ∷ []) n new
row_more h es e n old new row noted =
    let who : Who = who_in n old in
    let same : who_in n new ≡ who = ap (whose n) noted.session in
    let root : new.root ≡ root_told who (es ++ e ∷ []) = noted.root ∙ (ap (λ r. root_next who r e) row.root ∙ sym (fold-append (root_next who) None es (e ∷ []))) in
    let answer : new.answer ≡ answer_of who (es ++ e ∷ []) = noted.answer ∙ (ap (λ r. answer_next who r e) row.answer ∙ sym (fold-append (answer_next who) None es (e ∷ []))) in
    record {
      root = root ∙ ap (λ w. root_told w (es ++ e ∷ [])) (sym same);
      answer = answer ∙ ap (λ w. answer_of w (es ++ e ∷ [])) (sym same);
      listing = λ lists.
          let listed = sym noted.lists ∙ lists in
          noted.listing listed ∙ (ap (λ l. listing_next (state_by h es) who l e) (row.listing listed) ∙ (listed_more h who es e ∙ ap (λ w. listed_by h w (es ++ e ∷ [])) (sym same)));
    }

-- all rows, one event later
pub rows_more : (h : History) (es : List CoreEvent) (e : CoreEvent) (old new : List Row) → AreRows h es old → NotesAll (state_by h es) e old new → AreRows h (es ++ e ∷ []) new
rows_more h es e old new rows noted n short =
    let within : n < length old = omega (arith, noted.len, short) in
    row_more h es e n (get_or old n no_row) (get_or new n no_row) (rows n within) (noted.each n within)

pub have_more : (s : State) (e : CoreEvent) (old new : List Row) (lines : List ScriptLine) → NotesAll s e old new → HaveRows old lines → HaveRows new lines
have_more s e old new [] noted have = tt
have_more s e old new (line ∷ lines) noted have =
    let each = noted.each line.number have.0.within in (
      record {
        within = omega (arith, noted.len, have.0.within);
        session = each.session ∙ have.0.session;
        lists = each.lists ∙ have.0.lists;
      },
      have_more s e old new lines noted have.1,
    )

-- ---- the rows before any event

-- nothing is told of a line
abbrev pub IsNew : Row → Type 0
IsNew row = (row.root ≡ None) × (row.answer ≡ None) × (blobs_in row ≡ None)

pub all_new : (h : History) (rows : List Row) → All IsNew rows → AreRows h [] rows
all_new h rows new n short =
    let row = new n no_row short in
    record {
      root = row.0;
      answer = row.1;
      listing = λ lists. row.2;
    }

have_behind : (rows more : List Row) (lines : List ScriptLine) → HaveRows rows lines → HaveRows (rows ++ more) lines
have_behind rows more [] have = tt
have_behind rows more (line ∷ lines) have =
    let at : get_or (rows ++ more) line.number no_row ≡ get_or rows line.number no_row = get_or_append_left rows more no_row line.number have.0.within in (
      record {
        within = omega (arith, length-append rows more, have.0.within);
        session = ap (λ (row : Row). row.session) at ∙ have.0.session;
        lists = ap (λ (row : Row). row.lists) at ∙ have.0.lists;
      },
      have_behind rows more lines have.1,
    )

have_push : (rows : List Row) (lines : List ScriptLine) (line : ScriptLine) → HaveRows rows lines → HasRow rows line → HaveRows rows (lines ++ line ∷ [])
have_push rows [] line have row = (row, tt)
have_push rows (l ∷ lines) line have row = (have.0, have_push rows lines line have.1 row)

-- the rows of the first lines
pub record Built (rows : List Row) (i : ℕ) (lines : List ScriptLine) : Type 0 where
  -- the lines that are left come behind
  pub rise : Rise (length rows) (drop i lines)
  pub new : All IsNew rows
  pub have : HaveRows rows (take i lines)

pub built_first : (lines : List ScriptLine) → Rise 1 lines → Built (no_row ∷ []) 0 lines
built_first lines rise = record {
  rise = rise;
  new = All-from_recursion IsNew (no_row ∷ []) ((refl, refl, refl), tt);
  have = tt;
}

-- the row of the next line, behind rows that are no line's
pub built_next : (rows padded : List Row) (i : ℕ) (lines : List ScriptLine) (line : ScriptLine) → Built rows i lines → i < length lines → line ≡ get_or lines i line
    → padded ≡ rows ++ replicate (line.number - length rows) no_row → Built (padded ++ record no_row { session = line.session; lists = is_list line.command } ∷ []) (i + 1) lines
built_next rows padded i lines line built lt is pad =
    let row : Row = record no_row { session = line.session; lists = is_list line.command } in
    let gap : List Row = replicate (line.number - length rows) no_row in
    let rest : List ScriptLine = drop (i + 1) lines in
    let cut : drop i lines ≡ line ∷ rest = drop_more lines i line lt ∙ ap (λ (l : ScriptLine). l ∷ rest) (sym is) in
    let rise : Rise (length rows) (line ∷ rest) = subst (Rise (length rows)) cut built.rise in
    let long : length padded ≡ line.number = ap length pad ∙ omega (arith, rise.0, length-append rows gap, length-replicate (line.number - length rows) no_row) in
    let longer : length (padded ++ row ∷ []) ≡ line.number + 1 = omega (arith, long, length-append padded (row ∷ [])) in
    let at : get_or (padded ++ row ∷ []) line.number no_row ≡ row = get_or_push padded row no_row line.number long in
    let HaveAll : List Row → Type 0 = λ xs. HaveRows xs (take i lines) in
    let have : HaveRows (padded ++ row ∷ []) (take i lines) = have_behind padded (row ∷ []) (take i lines) (subst HaveAll (sym pad) (have_behind rows gap (take i lines) built.have)) in
    let all : take (i + 1) lines ≡ take i lines ++ line ∷ [] = (take_at_read lines i line lt).1 ∙ ap (λ (l : ScriptLine). take i lines ++ l ∷ []) (sym is) in
    let From : ℕ → Type 0 = λ n. Rise n rest in
    let new : All IsNew padded = subst (All IsNew) (sym pad) (All-append IsNew rows gap built.new (All-replicate IsNew (line.number - length rows) no_row (refl, refl, refl))) in
    record {
      rise = subst From (sym longer) rise.2;
      new = All-push IsNew padded row new (refl, refl, refl);
      have = subst (HaveRows (padded ++ row ∷ [])) (sym all)
          (have_push (padded ++ row ∷ []) (take i lines) line have (record {
            within = omega (arith, longer);
            session = ap (λ (r : Row). r.session) at;
            lists = ap (λ (r : Row). r.lists) at;
          }));
    }

pub built_all : (rows : List Row) (i : ℕ) (lines : List ScriptLine) → Built rows i lines → length lines ≤ i → HaveRows rows lines
built_all rows i lines built all =
    let whole : take i lines ≡ lines = grind (arith, common_steps) in
    subst (HaveRows rows) whole built.have

-- ---- the rows after all events

-- a listing that wasn't taken is that of the end
at_end : {X : Type 0} (a : Bool) (x y z : X) → (a ≡ true → x ≡ z) → (a ≡ false → y ≡ z) → or_else (cond a (Some x) None) (Some y) ≡ Some z
at_end true x y z met unmet = ap (λ v. Some v) (met refl)
at_end false x y z met unmet = ap (λ v. Some v) (unmet refl)

shows : (h : History) (rows : List Row) (last : State) (line : ScriptLine) → AreRows h h.events rows → HasRow rows line → TellsRoot h.events line → last ≡ state_by h h.events → Shows h (get_or rows line.number no_row) last line
shows h rows last line all has told is =
    let row : Row = get_or rows line.number no_row in
    let here : IsRow h h.events line.number row = all line.number has.within in
    let same : who_in line.number row ≡ who_of line = ap (whose line.number) has.session in
    let who : Who = who_of line in
    let whole : List (Digest × ℕ) = listed_at h who in
    record {
      root = here.root ∙ (ap (λ w. root_told w h.events) same ∙ told);
      answer = here.answer ∙ ap (λ w. answer_of w h.events) same;
      listing = λ lists.
          ap (λ (l : Option (List (Digest × ℕ))). or_else l (Some (present_blobs last))) (here.listing (has.lists ∙ lists) ∙ ap (λ w. listed_by h w h.events) same)
          ∙ at_end (list_any (is_of who) h.events) (present_blobs (state_by h (before (is_of who) h.events))) (present_blobs last) whole (λ met. refl)
          (λ unmet. ap present_blobs is ∙ ap (λ xs. present_blobs (state_by h xs)) (sym (before_unmet (is_of who) h.events unmet)));
    }

pub show_all : (h : History) (rows : List Row) (last : State) (lines : List ScriptLine) → AreRows h h.events rows → HaveRows rows lines → TellsRoots lines h → last ≡ state_by h h.events → ShowAll h rows last lines
show_all h rows last [] all have told is = tt
show_all h rows last (line ∷ lines) all have told is =
    ((have.0.within, shows h rows last line all have.0 told.0 is), show_all h rows last lines all have.1 told.1 is)

-- ---- one pass

either : (b : Bool) (s t : State) (n : ℕ) → s.next ≤ n → t.next ≤ n → (cond b s t).next ≤ n
either true s t n p q = p
either false s t n p q = q

let_go_next : (s : State) (r : Digest) → (let_go s r).next ≤ s.next + 1
let_go_next s r =
    either (among s.leaving r && not (is_held s.slots r)) (record s { leaving = remove_key (is_at (digest_cmp r)) s.leaving; queue = s.queue ++ r ∷ [] }) s (s.next + 1) (omega arith) (omega arith)

emptied_next : (s : State) (p : Place) (o : Option Digest) → (emptied s p o).next ≤ s.next + 1
emptied_next s p (Some r) = let_go_next (record s { slots = remove_entry (is_at (place_cmp p)) s.slots }) r
emptied_next s p None = omega arith

durable_next : (b : Bool) (n : ℕ) → cond b n (n + 1) ≤ n + 1
durable_next true n = omega arith
durable_next false n = omega arith

settled_next : (s : State) (r : Digest) (blob : Blob) (reply : Reply) → (settled s r blob reply).next ≤ s.next + 1
settled_next s r blob Published = omega arith
settled_next s r blob (DeviceFault f) = omega arith
settled_next s r blob _ = omega arith

sync_next : (s : State) (reply : Reply) → (sync_done s reply).next ≤ s.next + 1
sync_next s Synced = durable_next (is_empty s.queue) s.next
sync_next s (DeviceFault f) = omega arith
sync_next s _ = omega arith

unmount_next : (s : State) (reply : Reply) → (unmount_done s reply).next ≤ s.next + 1
unmount_next s Unmounted = durable_next (is_empty s.queue) s.next
unmount_next s (DeviceFault f) = omega arith
unmount_next s _ = omega arith

-- an event takes one number at most
next_more : (g : Setting) (s : State) (who : Who) (act : Act) (reply : Reply) → (change g s who act reply).next ≤ s.next + 1
next_more g s who (acts.Begin r n) Granted = omega arith
next_more g s who (acts.Begin r n) _ = omega arith
next_more g s who (acts.Admit r) Admitted = omega arith
next_more g s who (acts.Admit r) _ = omega arith
next_more g s who (acts.Put index) (DeviceFault f) = omega arith
next_more g s who (acts.Put index) _ = omega arith
next_more g s who (acts.Settle r) reply = settled_next s r (blob_of g (find s.adds r)) reply
next_more g s who (acts.Retire r) reply = omega arith
next_more g s who (acts.Open slot r) (Opened n) = omega arith
next_more g s who (acts.Open slot r) _ = omega arith
next_more g s who (acts.Close slot) Closed = emptied_next s (place_of who slot) (held s.slots (place_of who slot))
next_more g s who (acts.Close slot) _ = omega arith
next_more g s who (acts.Unlink r) Unlinked = either (is_held s.slots r) (record s { leaving = insert_key digest_cmp s.leaving r }) (record s { queue = s.queue ++ r ∷ [] }) (s.next + 1) (omega arith) (omega arith)
next_more g s who (acts.Unlink r) _ = omega arith
next_more g s who acts.Sync reply = sync_next s reply
next_more g s who acts.Unmount reply = unmount_next (slots_emptied s) reply
next_more g s who act reply = omega arith

-- the rows say what the first events tell, and these led to the state
pub record Passed (h : History) (i : ℕ) (rows : List Row) (g : Setting) (s : State) (lines : List ScriptLine) : Type 0 where
  pub next : s.next ≤ i
  pub setting : g ≡ setting_of h
  pub state : s ≡ state_by h (take i h.events)
  pub told : AreRows h (take i h.events) rows
  pub have : HaveRows rows lines

pub passed_next : (h : History) (i : ℕ) (e : CoreEvent) (old new : List Row) (g g' : Setting) (s t : State) (lines : List ScriptLine) → i < length h.events → Passed h i old g s lines → NotesAll s (get_or h.events i e) old new
    → g' ≡ g → t ≡ change g s (get_or h.events i e).who (get_or h.events i e).act (get_or h.events i e).reply → Passed h (i + 1) new g' t lines
passed_next h i d old new g g' s t lines lt passed noted same is =
    let e : CoreEvent = get_or h.events i d in
    let es : List CoreEvent = take i h.events in
    let more : take (i + 1) h.events ≡ es ++ e ∷ [] = (take_at_read h.events i d lt).1 in
    let Noted : State → Type 0 = λ u. NotesAll u e old new in
    let rows : AreRows h (es ++ e ∷ []) new = rows_more h es e old new passed.told (subst Noted passed.state noted) in
    let Are : List CoreEvent → Type 0 = λ xs. AreRows h xs new in
    record {
      next = omega (arith, ap (λ (u : State). u.next) is, next_more g s e.who e.act e.reply, passed.next);
      setting = same ∙ passed.setting;
      state = is ∙ (ap (λ k. change k s e.who e.act e.reply) passed.setting ∙ (ap (λ u. change (setting_of h) u e.who e.act e.reply) passed.state ∙ (sym (state_next h es e) ∙ ap (state_by h) (sym more))));
      told = subst Are (sym more) rows;
      have = have_more s e old new lines noted passed.have;
    }

pub passed_all : (h : History) (i : ℕ) (rows : List Row) (g : Setting) (s : State) (lines : List ScriptLine) → Passed h i rows g s lines → length h.events ≤ i → TellsRoots lines h → ShowAll h rows s lines
passed_all h i rows g s lines passed all told =
    let whole : take i h.events ≡ h.events = grind (arith, common_steps) in
    let Are : List CoreEvent → Type 0 = λ xs. AreRows h xs rows in
    show_all h rows s lines (subst Are whole passed.told) passed.have told (passed.state ∙ ap (state_by h) whole)

pub passed_first : (h : History) (rows : List Row) (g : Setting) (s : State) (lines : List ScriptLine) → g ≡ setting_of h → s ≡ first_state (opening_map h) 0 → AreRows h [] rows → HaveRows rows lines → Passed h 0 rows g s lines
passed_first h rows g s lines same is all have = record {
  next = omega (arith, ap (λ (u : State). u.next) is);
  setting = same;
  state = is;
  told = all;
  have = have;
}
