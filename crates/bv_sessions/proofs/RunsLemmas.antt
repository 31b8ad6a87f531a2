-- What a run gave, by what its sessions left and by how its volume was closed.
use Rattle.std.proofs.Common.{◌≡◌, ℕ, suc, zero, ◌<◌, ◌≤◌, ◌⊎◌, ◌==◌, inl, Bool, true, false, not, ◌&&◌, List, [], ◌∷◌, ◌++◌, length, refl, sym, ap, ◌∙◌, subst, arith, slice_get, ne_eqb, Option, Some, None}
use Rattle.std.specs.Prelude.{IfSome, IsSomeAnd, cond}
use Rattle.std.proofs.lemmas.List.{append-nil}
use Rattle.std.proofs.lemmas.List.Elements.{filter-append}
use Rattle.spec_disk.specs.Images.{IsSettled}
use Rattle.spec_disk.specs.declared.event.Event.{Event}
use Rattle.spec_core.specs.History.{History, Legal, first_state, last_state, opening_map, setting_of, with_event}
use Rattle.spec_core.specs.Synced.{Caused}
use Rattle.spec_core.specs.declared.act.Act.TheVariants.{Unmount}
use Rattle.spec_core.specs.declared.event.CoreEvent.{CoreEvent}
use Rattle.spec_core.specs.declared.reply.Reply.TheVariants.{Unmounted}
use Rattle.spec_crash.specs.Crash.{HoldsWhole}
use Rattle.spec_crash.specs.Timing.{LastHas, MayCall}
use Rattle.spec_headline.specs.Headline.{IsUnmounted}
use Rattle.spec_headline.specs.Run.{Ended, CutShort, HasNoUnmount, Seen, program, run_of}
use Rattle.spec_orderly.proofs.Covered.{no_add_left}
use Rattle.spec_orderly.specs.Slots.{AreMounted}
use Rattle.spec_script.specs.Lawful.{AreLawful}
use Rattle.spec_seen.proofs.ByLineLemmas.{lines_add_once}
use Rattle.spec_served.specs.Adds.{AreByLine}
use Rattle.spec_served.specs.Device.{SeenByAll}
use Rattle.spec_script.specs.declared.line.ScriptLine.{ScriptLine}
use Rattle.spec_session.specs.Conform.{Begins, DoLines, events_of, requests_of}
use Rattle.spec_session.specs.Text.{results_in, results_of}
use Rattle.spec_session.specs.declared.end.SessionEnd.{SessionEnd}
use Rattle.spec_session.specs.declared.result.LineResult.{LineResult}
use Rattle.spec_served.specs.Served.{ServeLines, Served, ServedSome}
use Rattle.bv_device.specs.Told.{Disk, disk_with, now_of}
use Rattle.bv_came.proofs.Sees.{sessions_see_all}
use Rattle.bv_came.specs.Sees.{RanOver, SessionsShow}
use Rattle.bv_session.specs.Events.{history_of}
use Rattle.bv_session.specs.declared.entry.Basis.{Basis}
use Rattle.bv_session.specs.declared.entry.Told.{Told}
use Rattle.bv_session.proofs.EndLemmas.{cut_after, goes_does}
use Rattle.bv_shared.proofs.CallerLemmas.{caused_more, history_is, one_disk_more}
use Rattle.bv_shared.specs.Entries.{basis_of, device_events, entries_from, entries_in, told_of}
use Rattle.bv_shared.specs.Moments.{BeganWhole, Moment, Moments}
use Rattle.bv_shared.specs.Since.{AreOfOneDisk, AreWithin}
use Rattle.bv_store.specs.Stored.{Grows, Stored}
use Rattle.bv_volume.specs.Events.{event_of}
use Rattle.bv_volume.specs.Seen.{Seen as Volume}
use Rattle.bv_sessions.specs.Closes.{are_whole, Closes, GivesUp, Unmounts, with_room}
use Rattle.bv_sessions.specs.Ends.{AllEnd}
use Rattle.bv_sessions.specs.Runs.{IsLater, Runs, SeesBy, SessionsHad}
use Rattle.bv_sessions.proofs.MomentLemmas.{ends_within, front_split, later_moment}

-- a value of a volume with no event has no entry
pub no_entries : (v w : Volume) → w ≡ v → v.history.events ≡ [] → entries_in w ≡ []
no_entries v w is fresh =
    ap entries_in is
    ∙ ap (entries_from (told_of v.store.began) (device_events v.store.told) (setting_of v.history) (first_state (opening_map v.history) v.next) []) fresh

-- ---- a volume later in its mount

-- what the device tells since is of the disk that it told of then
pub told_of_disk : (b d : Option Disk) → AreOfOneDisk b d → IfSome b (λ x. IsSomeAnd d (λ y. y.base ≡ now_of x))
told_of_disk None d k = tt
told_of_disk (Some b) None k = absurd k
told_of_disk (Some b) (Some d) k = k

-- it is later than itself
pub later_self : (v : Volume) → AreOfOneDisk v.store.began v.store.told → IsLater v v
later_self v disk = record {
  opening = refl;
  blocks = refl;
  nodes = refl;
  version = refl;
  next = refl;
  began = refl;
  disk = told_of_disk v.store.began v.store.told disk;
}

-- what a run's sessions left of its volume
pub record Left (lines : List ScriptLine) (first : Volume) (ends : List SessionEnd) (v : Volume) : Type 0 where
  pub opening : v.history.opening ≡ first.history.opening
  pub blocks : v.history.blocks ≡ first.history.blocks
  pub nodes : v.history.nodes ≡ first.history.nodes
  pub version : v.history.version ≡ first.history.version
  pub next : v.next ≡ first.next
  pub began : v.store.began ≡ first.store.began
  pub disk : AreOfOneDisk v.store.began v.store.told
  pub ended : AllEnd lines v.history ends
  pub others : HasNoUnmount v.history
  pub caused : Caused v.history first.store.faults v.store.faults
  pub rose : first.store.faults ≤ v.store.faults
  pub count : length ends ≡ 16
  pub over : RanOver v first.store.faults lines (results_of ends)

-- what was told then is one
abbrev disk_in : Option Told → Option Disk
disk_in None = None
disk_in (Some t) = Some (record { base = t.base; trace = t.trace })

same_disk : (d : Option Disk) → disk_in (told_of d) ≡ d
same_disk None = refl
same_disk (Some d) = refl

told_one : (a b : Option Disk) → told_of a ≡ told_of b → a ≡ b
told_one a b e = sym (same_disk a) ∙ ap disk_in e ∙ same_disk b

module _ (lines : List ScriptLine) (first v : Volume) (faults : ℕ) (ends : List SessionEnd) where
  -- lines made the events
  lined_by : AreLawful lines → AllEnd lines v.history ends → HasNoUnmount v.history → AreByLine [] v.history.events
  lined_by lawful ended others = lines_add_once lines v.history lawful (λ s le. (ended s (omega (arith, le))).2.begins) (λ n d lt. let low = others n d lt in inl (omega (arith, low)))

  -- by what sessions say of the value that they ran over
  pub left_of : basis_of v faults ≡ basis_of first first.store.faults → AllEnd lines (history_of (basis_of v faults) (entries_in v)) ends → SessionsShow (basis_of v faults) lines (entries_in v) (results_of ends)
      → HasNoUnmount (history_of (basis_of v faults) (entries_in v)) → Caused v.history faults v.store.faults → faults ≤ v.store.faults → AreOfOneDisk v.store.began v.store.told → length ends ≡ 16
      → AreLawful lines → Legal v.history v.next → AreMounted v.history.events → AreWithin v → Moments v → Left lines first ends v
  left_of basis ended shows others caused rose disk count lawful legal mounted within moments =
      let same : faults ≡ first.store.faults = ap (λ (b : Basis). b.faults) basis in
      let ends_so : AllEnd lines v.history ends = subst (λ (h : History). AllEnd lines h ends) (history_is v faults) ended in
      let no_others : HasNoUnmount v.history = subst HasNoUnmount (history_is v faults) others in
      record {
        opening = ap (λ (b : Basis). b.opening) basis;
        blocks = ap (λ (b : Basis). b.geometry.blocks) basis;
        nodes = ap (λ (b : Basis). b.geometry.nodes) basis;
        version = ap (λ (b : Basis). b.geometry.version) basis;
        next = ap (λ (b : Basis). b.next) basis;
        began = told_one v.store.began first.store.began (ap (λ (b : Basis). b.told) basis);
        disk = disk;
        ended = ends_so;
        others = no_others;
        caused = subst (λ (f : ℕ). Caused v.history f v.store.faults) same caused;
        rose = subst (λ (f : ℕ). f ≤ v.store.faults) same rose;
        count = count;
        over = record {
          lawful = lawful;
          lined = lined_by lawful ends_so no_others;
          legal = legal;
          mounted = mounted;
          within = within;
          moments = moments;
          shows = subst (λ (f : ℕ). SessionsShow (basis_of v f) lines (entries_in v) (results_of ends)) same shows;
        };
      }

-- by what they say of the shared value, which was made of the first volume
pub left_shared : (lines : List ScriptLine) (first shared opened u v : Volume) (faults : ℕ) (ends : List SessionEnd) → shared ≡ first → opened ≡ first → v ≡ u
    → basis_of u faults ≡ basis_of shared opened.store.faults → AllEnd lines (history_of (basis_of u faults) (entries_in u)) ends → SessionsShow (basis_of u faults) lines (entries_in u) (results_of ends)
    → HasNoUnmount (history_of (basis_of u faults) (entries_in u))
    → Caused v.history faults v.store.faults → faults ≤ v.store.faults → AreOfOneDisk v.store.began v.store.told → length ends ≡ 16
    → AreLawful lines → Legal v.history v.next → AreMounted v.history.events → AreWithin v → Moments v → Left lines first ends v
left_shared lines first shared opened u v faults ends whole at is basis ended shows others caused rose disk count lawful legal mounted within moments =
    left_of lines first v faults ends
    (ap (λ (x : Volume). basis_of x faults) is ∙ basis ∙ (λ i. basis_of (whole i) (at i).store.faults))
    (subst (λ (x : Volume). AllEnd lines (history_of (basis_of x faults) (entries_in x)) ends) (sym is) ended)
    (subst (λ (x : Volume). SessionsShow (basis_of x faults) lines (entries_in x) (results_of ends)) (sym is) shows)
    (subst (λ (x : Volume). HasNoUnmount (history_of (basis_of x faults) (entries_in x))) (sym is) others)
    caused rose disk count lawful legal mounted within moments

-- no add is under way then
pub none_left : (lines : List ScriptLine) (first v : Volume) (ends : List SessionEnd) → Left lines first ends v → Legal v.history v.next → (last_state v.history v.next).adds ≡ []
none_left lines first v ends left legal = no_add_left lines v.history v.next legal left.others (λ s low. (left.ended s low).2.begins)

-- what is there, if anything is, has P
some_if : {A : Type 0} (P : A → Type 0) (o : Option A) → ((x : A) → o ≡ Some x → P x) → IfSome o P
some_if P None k = tt
some_if P (Some x) k = k x refl

-- ---- the ends at their places

-- the end at a place says what a session's results are
at_place : (ends : List SessionEnd) (s : ℕ) (end : SessionEnd) (P : List LineResult → Type 0) → slice_get ends s ≡ Some end → P end.results.items → P (results_of ends s)
at_place ends s end P at = subst (λ (o : Option SessionEnd). P (results_in o)) (sym at)

-- where all had memory, the one at a place had
had_memory : (ends : List SessionEnd) (s : ℕ) (end : SessionEnd) → are_whole ends ≡ true → slice_get ends s ≡ Some end → end.memory ≡ false
had_memory [] s end all at = absurd (cc)
had_memory (e ∷ ends) s end all at = by_memory e.memory refl s all at (λ t x all at. had_memory ends t x all at) where
  rest : (b : Bool) → (not b && are_whole ends) ≡ true → (b ≡ false) × (are_whole ends ≡ true)
  rest true k = absurd (cc)
  rest false k = (refl, k)

  by_memory : (b : Bool) → e.memory ≡ b → (s : ℕ) → (not e.memory && are_whole ends) ≡ true → slice_get (e ∷ ends) s ≡ Some end
      → ((t : ℕ) (x : SessionEnd) → are_whole ends ≡ true → slice_get ends t ≡ Some x → x.memory ≡ false) → end.memory ≡ false
  by_memory b is zero all at other = let same : e ≡ end = cc in subst (λ (x : SessionEnd). x.memory ≡ false) same (rest e.memory all).0
  by_memory b is (suc t) all at other = other t end (rest e.memory all).1 at

-- ---- the event of the program

not_own : (s : ℕ) (es : List CoreEvent) (e : CoreEvent) → e.who.session ≡ 16 → s < 16 → events_of s (es ++ e ∷ []) ≡ events_of s es
not_own s es e is low =
    let p : CoreEvent → Bool = λ x. x.who.session == s in
    let other : (e.who.session == s) ≡ false = ne_eqb e.who.session s (λ same. absurd (omega (arith, same, is, low))) in
    filter-append p es (e ∷ []) ∙ ap (λ (b : Bool). events_of s es ++ cond b (e ∷ []) []) other ∙ append-nil (events_of s es)

last_is : (P : CoreEvent → Type 0) (es : List CoreEvent) (e : CoreEvent) → LastHas P (es ++ e ∷ []) → P e
last_is P [] e k = k
last_is P (x ∷ []) e k = k
last_is P (x ∷ y ∷ es) e k = last_is P (y ∷ es) e k

-- ---- the whole run

module _ (lines : List ScriptLine) (first : Volume) where
  -- no session began
  pub none_began : (h : History) (store : Stored) (whole : Bool) → first.history.events ≡ [] → AreOfOneDisk first.store.began first.store.told → whole ≡ false → GivesUp first h store → Runs lines first h [] whole store
  none_began h store whole fresh disk cut g = record {
    count = λ is. absurd (cc);
    ended = λ is. absurd (cc);
    cut = λ is. subst (λ (x : History). CutShort (run_of lines x []) first.next first.store.faults store.faults) (sym g.history_is) (record {
      legal = g.legal;
      begins = λ s low. subst (λ (es : List CoreEvent). Begins lines (record first.history { events = es }) s) (sym fresh)
          (goes_does first.history.version lines s false [] [] (served s));
      served = λ s low. subst (λ (es : List CoreEvent). ServedSome lines (record first.history { events = es }) s []) (sym fresh) (served s);
      unmount = inl (subst (λ (es : List CoreEvent). HasNoUnmount (record first.history { events = es })) (sym fresh) (λ n d low. absurd (omega arith)));
      caused = subst (λ (es : List CoreEvent). Caused (record first.history { events = es }) first.store.faults store.faults) (sym fresh) tt;
    });
    last = first;
    history_is = g.history_is;
    store_is = g.store_is;
    later = later_self first disk;
    safe = g.safe;
    published = λ is. absurd (cc);
    found = λ is. absurd (cc);
    had = λ is. absurd (cc);
    seen = λ is. absurd (cc);
    settled = λ is. absurd (cc);
  } where
    served : (s : ℕ) → ServedSome lines (record first.history { events = [] }) s []
    served s = cut_after first.history.version s lines 0 [] [] (refl, refl)

  module _ (ends : List SessionEnd) (v : Volume) (left : Left lines first ends v) (h : History) (store : Stored) where
    begins_all : (s : ℕ) → s < 16 → Begins lines v.history s
    begins_all s low = (left.ended s low).2.begins

    later_v : IsLater first v
    later_v = record {
      opening = left.opening;
      blocks = left.blocks;
      nodes = left.nodes;
      version = left.version;
      next = left.next;
      began = left.began;
      disk = told_of_disk v.store.began v.store.told left.disk;
    }

    -- the volume was given up
    cut_short : GivesUp v h store → CutShort (run_of lines h ends) first.next first.store.faults store.faults
    cut_short g =
        let faults : store.faults ≡ v.store.faults = ap (λ (x : Stored). x.faults) g.store_is in
        subst (λ (x : History × ℕ × ℕ). CutShort (run_of lines x.0 ends) x.1 first.store.faults x.2) (λ i. (sym g.history_is i, left.next i, sym faults i)) (record {
          legal = g.legal;
          begins = begins_all;
          served = λ s low. let e = left.ended s low in at_place ends s e.0 (ServedSome lines v.history s) e.1 e.2.some;
          unmount = inl left.others;
          caused = left.caused;
        })

    -- it was unmounted
    module _ (u : Unmounts v h store) (whole : are_whole ends ≡ true) where
      abbrev event : CoreEvent
      event = event_of program Unmount u.reply u.last.store.calls

      is_event : h ≡ with_event v.history event
      is_event = u.history_is ∙ u.happens.history

      same_events : (s : ℕ) → s < 16 → events_of s (with_event v.history event).events ≡ events_of s v.history.events
      same_events s low = not_own s v.history.events event refl low

      ended : Ended (run_of lines h ends) first.next first.store.faults store.faults
      ended =
          let faults : store.faults ≡ u.last.store.faults = ap (λ (x : Stored). x.faults) u.store_is in
          subst (λ (x : History × ℕ × ℕ). Ended (run_of lines x.0 ends) x.1 first.store.faults x.2) (λ i. (sym is_event i, (u.happens.next ∙ left.next) i, sym faults i)) (record {
            legal = subst (λ (x : History). Legal x u.last.next) u.happens.history u.legal;
            conform = λ s low. let e = left.ended s low in
                subst (λ (es : List CoreEvent). DoLines v.history.version [] (requests_of s lines) es) (sym (same_events s low)) (e.2.conform (had_memory ends s e.0 whole e.1));
            served = λ s low. let e = left.ended s low in
                at_place ends s e.0 (Served lines (with_event v.history event) s) e.1
                (subst (λ (es : List CoreEvent). ServeLines v.history.version [] (requests_of s lines) es e.0.results.items) (sym (same_events s low)) (e.2.served (had_memory ends s e.0 whole e.1)));
            unmount = record { sessions = v.history.events; unmount = event; is = refl; by = refl; act = refl; others = left.others };
            caused = subst (λ (x : History). Caused x first.store.faults u.last.store.faults) u.happens.history
                (caused_more (with_room v u.room) u.last program Unmount u.reply u.happens first.store.faults left.rose left.caused);
          })

      later_last : IsLater first u.last
      later_last = record {
        opening = ap (λ (x : History). x.opening) u.happens.history ∙ left.opening;
        blocks = ap (λ (x : History). x.blocks) u.happens.history ∙ left.blocks;
        nodes = ap (λ (x : History). x.nodes) u.happens.history ∙ left.nodes;
        version = ap (λ (x : History). x.version) u.happens.history ∙ left.version;
        next = u.happens.next ∙ left.next;
        began = u.happens.began ∙ left.began;
        disk = told_of_disk u.last.store.began u.last.store.told (one_disk_more (with_room v u.room) u.last program Unmount u.reply u.happens left.disk);
      }

      -- what the device then tells has grown by the unmount's events
      grown : (b d : Disk) (more : List Event) → v.store.began ≡ Some b → v.store.told ≡ Some d → IsSettled b.trace → HoldsWhole (now_of b) (opening_map h)
          → Seen (now_of b) (d.trace ++ more) (run_of lines h ends)
      grown b d more began told settled whole s low =
          subst (λ (x : History). SeenByAll (now_of b) (d.trace ++ more) x (requests_of s lines) (results_of ends s)) (sym is_event)
          (sessions_see_all v first.store.faults lines (results_of ends) b d more (event ∷ []) began told left.over
          (subst (λ (o : Option Disk). BeganWhole o v.history) (sym began) (settled, subst (λ (x : History). HoldsWhole (now_of b) (opening_map x)) is_event whole)) s low)

      by_told : (b e : Disk) (o : Option Disk) → v.store.began ≡ Some b → u.last.store.told ≡ Some e → v.store.told ≡ o → Grows o u.last.store.told (λ d more. (more ≡ []) ⊎ MayCall Unmount)
          → IsSettled b.trace → HoldsWhole (now_of b) (opening_map h) → Seen (now_of b) e.trace (run_of lines h ends)
      by_told b e None began now told grows settled whole = absurd (none_some (sym grows ∙ now)) where
        none_some : None ≡ Some e → ⊥
        none_some k = cc
      by_told b e (Some d) began now told grows settled whole =
          let same : disk_with d grows.0 ≡ e = let k : Some (disk_with d grows.0) ≡ Some e = sym grows.1 ∙ now in cc in
          subst (λ (x : Disk). Seen (now_of b) x.trace (run_of lines h ends)) same
          (grown b d grows.0 began told settled whole)

      sees : SeesBy (run_of lines h ends) u.last
      sees =
          some_if (λ (b : Disk). IfSome u.last.store.told (λ d. IsSettled b.trace → HoldsWhole (now_of b) (opening_map h) → Seen (now_of b) d.trace (run_of lines h ends)))
          u.last.store.began (λ b is_b.
          some_if (λ (d : Disk). IsSettled b.trace → HoldsWhole (now_of b) (opening_map h) → Seen (now_of b) d.trace (run_of lines h ends))
          u.last.store.told (λ d is_d.
          by_told b d v.store.told (sym u.happens.began ∙ is_b) is_d refl u.happens.told))

      -- what the disk had as each event of the sessions ended
      had : SessionsHad u.last
      had before e rest is other =
          let split : v.history.events ++ event ∷ [] ≡ before ++ e ∷ rest = sym (ap (λ (x : History). x.events) u.happens.history) ∙ is in
          let front = front_split v.history.events event before e rest split (λ same. other (ap (λ (x : CoreEvent). x.act) same)) in
          let within = ends_within v.store.told v.history.events before e front.0 front.1 left.over.within in
          let then = later_moment v.store.began v.store.told u.last.store.told (λ d more. (more ≡ []) ⊎ MayCall Unmount) v.history v.next (before ++ e ∷ []) e.calls u.happens.told within
          (left.over.moments before e front.0 front.1) in
          subst (λ (x : Option Disk × History × ℕ). Moment x.0 u.last.store.told x.1 x.2 (before ++ e ∷ []) e.calls)
          (λ i. (sym u.happens.began i, sym u.happens.history i, sym u.happens.next i)) then

      settles : IsUnmounted h → IfSome store.told (λ d. IsSettled d.trace)
      settles k = u.settled (last_is (λ e. e.reply ≡ Unmounted) v.history.events event (subst IsUnmounted is_event k))

    -- either
    pub closed_runs : (whole : Bool) → Closes v ends h whole store → Runs lines first h ends whole store
    closed_runs true c = let u = c.unmounts refl in let all = c.whole_is refl in record {
      count = λ is. left.count;
      ended = λ is. ended u all;
      cut = λ is. absurd (cc);
      last = u.last;
      history_is = u.history_is;
      store_is = u.store_is;
      later = later_last u all;
      safe = u.safe;
      published = λ is. u.published;
      found = λ is. u.found;
      had = λ is. had u all;
      seen = λ is. sees u all;
      settled = λ is. settles u all;
    }
    closed_runs false c = let g = c.gives refl in record {
      count = λ is. absurd (cc);
      ended = λ is. absurd (cc);
      cut = λ is. cut_short g;
      last = v;
      history_is = g.history_is;
      store_is = g.store_is;
      later = later_v;
      safe = g.safe;
      published = λ is. absurd (cc);
      found = λ is. absurd (cc);
      had = λ is. absurd (cc);
      seen = λ is. absurd (cc);
      settled = λ is. absurd (cc);
    }

-- no session began, and the volume came back
pub gave_none : (lines : List ScriptLine) (first v : Volume) (h : History) (store : Stored) (whole : Bool) (ends none : List SessionEnd) → v ≡ first → ends ≡ none → none ≡ []
    → first.history.events ≡ [] → AreOfOneDisk first.store.began first.store.told → whole ≡ false → GivesUp v h store → Runs lines first h ends whole store
gave_none lines first v h store whole ends none is same empty fresh disk cut g =
    subst (λ (es : List SessionEnd). Runs lines first h es whole store) (sym (same ∙ empty))
    (none_began lines first h store whole fresh disk cut (subst (λ (x : Volume). GivesUp x h store) is g))
