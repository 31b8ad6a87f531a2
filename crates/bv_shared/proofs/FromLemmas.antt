-- The pages that a session's slot has, by the entries of which they came.
use Rattle.std.proofs.Common.{◌≡◌, ℕ, ◌==◌, Bool, true, false, cond, Option, Some, None, List, [], ◌∷◌, ◌++◌, length, take, refl, sym, ap, ◌∙◌, subst, append_assoc, eq-eqb, inr}
use Rattle.std.specs.Prelude.{All, IfSome, IsSomeAnd}
use Rattle.std.proofs.lemmas.List.{drop_at}
use Rattle.std.proofs.lemmas.List.Elements.{All-cons, All-head, All-nil, All-tail, filter-append}
use Rattle.spec_disk.specs.Disk.{now_after}
use Rattle.spec_disk.specs.Images.{IsSettled}
use Rattle.spec_disk.specs.declared.event.Event.{Event}
use Rattle.spec_tree.specs.declared.Digest.{Digest}
use Rattle.spec_tree.specs.declared.blob.Blob.{Blob}
use Rattle.spec_window.specs.Page.{Page}
use Rattle.spec_core.specs.History.{History, Legal, last_state, opening_map}
use Rattle.spec_core.specs.Laws.{Empties}
use Rattle.spec_core.specs.State.{find}
use Rattle.spec_core.specs.declared.act.Act.{Act}
use Rattle.spec_core.specs.declared.act.Act.TheVariants as acts
use Rattle.spec_core.specs.declared.event.CoreEvent.{CoreEvent}
use Rattle.spec_core.specs.declared.place.Place.{Place}
use Rattle.spec_core.specs.declared.who.Who.{Who}
use Rattle.spec_crash.specs.Crash.{HoldsWhole}
use Rattle.spec_orderly.specs.Slots.{AreMounted, is_unmount, slot_of}
use Rattle.spec_seen.proofs.ByLineLemmas.{front_by}
use Rattle.spec_seen.specs.Held.{up_to}
use Rattle.spec_served.specs.Adds.{AreByLine}
use Rattle.spec_session.specs.Conform.{events_of}
use Rattle.spec_session.specs.Own.{slot_holds}
use Rattle.bv_device.specs.Told.{Disk, now_of}
use Rattle.bv_pager.specs.Reading.{Reading, known_at}
use Rattle.bv_session.specs.declared.entry.Basis.{Basis}
use Rattle.bv_session.specs.declared.entry.Entry.{Entry}
use Rattle.bv_session.specs.declared.entry.Told.{Told}
use Rattle.bv_session.specs.Disk.{EachTells, HasPage, events_since, told_after}
use Rattle.bv_session.specs.Events.{events_in}
use Rattle.bv_session.specs.Pages.{Closes, From, SlotFrom, StaysOpen}
use Rattle.bv_turn.specs.Entries.{entries_of}
use Rattle.bv_volume.specs.Seen.{Seen}
use Rattle.bv_shared.specs.Entries.{basis_of, device_events, entries_in, told_of}
use Rattle.bv_shared.specs.KeptPages.{HasIts, ReaderHas}
use Rattle.bv_shared.specs.Moments.{BeganWhole, HasItsBlob, IsSure, there_at}
use Rattle.bv_shared.specs.ServeLaws.{afters, history_is, tells}
use Rattle.bv_shared.specs.Since.{Since}
use Rattle.bv_shared.proofs.HeldLemmas.{GivenBy, HeldAt, held_at, page_held}
use Rattle.bv_shared.proofs.StayLemmas.{legal_then}

-- ---- a session's entries among all

abbrev pub session_of : Entry → ℕ
session_of e = e.event.who.session

record Among (s : ℕ) (es before : List Entry) (x : Entry) (rest : List Entry) : Type 0 where
  first : List Entry
  last : List Entry
  is : es ≡ first ++ x ∷ last
  own_first : entries_of session_of s first ≡ before
  own_last : entries_of session_of s last ≡ rest
  own : (session_of x == s) ≡ true

-- where one of the session's entries stands
among : (s : ℕ) (es before : List Entry) (x : Entry) (rest : List Entry) → entries_of session_of s es ≡ before ++ x ∷ rest → Among s es before x rest
among s [] [] x rest is = absurd (cc)
among s [] (b ∷ before) x rest is = absurd (cc)
among s (y ∷ es) before x rest is = go (session_of y == s) refl before is (λ xs. among s es xs x rest) where
  go : (b : Bool) → (session_of y == s) ≡ b → (before : List Entry) → cond b (y ∷ entries_of session_of s es) (entries_of session_of s es) ≡ before ++ x ∷ rest
      → ((xs : List Entry) → entries_of session_of s es ≡ xs ++ x ∷ rest → Among s es xs x rest) → Among s (y ∷ es) before x rest
  go false test before is later =
      let k = later before is in
      record {
        first = y ∷ k.first;
        last = k.last;
        is = ap (λ (xs : List Entry). y ∷ xs) k.is;
        own_first = subst (λ (b : Bool). cond b (y ∷ entries_of session_of s k.first) (entries_of session_of s k.first) ≡ before) (sym test) k.own_first;
        own_last = k.own_last;
        own = k.own;
      }
  go true test [] is later =
      let head : y ≡ x = cc in
      let tail : entries_of session_of s es ≡ rest = cc in
      record { first = []; last = es; is = ap (λ (z : Entry). z ∷ es) head; own_first = refl; own_last = tail; own = subst (λ (z : Entry). (session_of z == s) ≡ true) head test }
  go true test (b ∷ before) is later =
      let head : y ≡ b = cc in
      let tail : entries_of session_of s es ≡ before ++ x ∷ rest = cc in
      let k = later before tail in
      record {
        first = y ∷ k.first;
        last = k.last;
        is = ap (λ (xs : List Entry). y ∷ xs) k.is;
        own_first = subst (λ (c : Bool). cond c (y ∷ entries_of session_of s k.first) (entries_of session_of s k.first) ≡ b ∷ before) (sym test) (λ i. head i ∷ k.own_first i);
        own_last = k.own_last;
        own = k.own;
      }

-- a session's events are those of its entries
own_in : (s : ℕ) (es : List Entry) → events_of s (events_in es) ≡ events_in (entries_of session_of s es)
own_in s [] = refl
own_in s (e ∷ es) = go (session_of e == s) (own_in s es) where
  go : (b : Bool) → events_of s (events_in es) ≡ events_in (entries_of session_of s es) → cond b (e.event ∷ events_of s (events_in es)) (events_of s (events_in es)) ≡ events_in (cond b (e ∷ entries_of session_of s es) (entries_of session_of s es))
  go true k = ap (λ (xs : List CoreEvent). e.event ∷ xs) k
  go false k = k

events_both : (xs ys : List Entry) → events_in (xs ++ ys) ≡ events_in xs ++ events_in ys
events_both [] ys = refl
events_both (x ∷ xs) ys = ap (λ (es : List CoreEvent). x.event ∷ es) (events_both xs ys)

-- one of all
at : (P : Entry → Type 0) (xs : List Entry) (x : Entry) (ys : List Entry) → All P (xs ++ x ∷ ys) → P x
at P [] x ys all = All-head P x ys all
at P (z ∷ xs) x ys all = at P xs x ys (All-tail P z (xs ++ x ∷ ys) all)

-- ---- a slot that stays open

mounted_both : (xs ys : List CoreEvent) → AreMounted (xs ++ ys) → AreMounted xs × AreMounted ys
mounted_both [] ys k = (tt, k)
mounted_both (x ∷ xs) ys k = let rest = mounted_both xs ys k.1 in ((k.0, rest.0), rest.1)

-- another session closes other places
no_close : (s slot : ℕ) (who : Who) (act : Act) → is_unmount act ≡ false → ((who.session == s) ≡ true → ¬ Closes slot act) → ¬ Empties (slot_of s slot) who act
no_close s slot who (acts.Close i) mounted stays is =
    stays (eq-eqb who.session s (ap (λ (p : Place). p.session) is)) (ap (λ (p : Place). p.slot) is)
no_close s slot who acts.Unmount mounted stays is = absurd (cc)
no_close s slot who act mounted stays is = is

abbrev Leaves : ℕ → ℕ → CoreEvent → Type 0
Leaves s slot x = ¬ Empties (slot_of s slot) x.who x.act

none_empties : (s slot : ℕ) (es : List Entry) → AreMounted (events_in es) → StaysOpen slot (entries_of session_of s es) → All (Leaves s slot) (events_in es)
none_empties s slot [] mounted stays = All-nil (Leaves s slot)
none_empties s slot (e ∷ es) mounted stays = go (session_of e == s) refl stays (none_empties s slot es mounted.1) where
  go : (b : Bool) → (session_of e == s) ≡ b → StaysOpen slot (cond b (e ∷ entries_of session_of s es) (entries_of session_of s es)) → (StaysOpen slot (entries_of session_of s es) → All (Leaves s slot) (events_in es)) → All (Leaves s slot) (events_in (e ∷ es))
  go true test stays later = All-cons (Leaves s slot) e.event (events_in es) (no_close s slot e.event.who e.event.act mounted.0 (λ is. stays.0)) (later stays.1)
  go false test stays later =
      All-cons (Leaves s slot) e.event (events_in es) (no_close s slot e.event.who e.event.act mounted.0 (λ is. let never : true ≡ false = sym is ∙ test in absurd (cc))) (later stays)

-- ---- what is told

if_some : {T : Type 0} (o : Option T) (P : T → Type 0) → ((x : T) → o ≡ Some x → P x) → IfSome o P
if_some None P k = tt
if_some (Some x) P k = k x refl

some_of : {T : Type 0} (o : Option T) (x : T) (P : T → Type 0) → o ≡ Some x → IfSome o P → P x
some_of o x P is k = subst (λ y. IfSome y P) is k

some_and : {T : Type 0} (o : Option T) (x : T) (P : T → Type 0) → o ≡ Some x → IsSomeAnd o P → P x
some_and o x P is k = subst (λ y. IsSomeAnd y P) is k

-- what a told disk began with
abbrev pub began_as : Disk → Told
began_as b = record { base = b.base; trace = b.trace }

-- with what was told by then
abbrev pub told_by : Disk → List Event → Told
told_by b events = record { base = b.base; trace = b.trace ++ events }

pub since_is : (b : Disk) (events : List Event) → events_since (began_as b) (told_by b events) ≡ events
since_is b events = drop_at b.trace events (length b.trace) refl

module _ (o v : Seen) (since : Since o v) (legal : Legal v.history v.next) (faults : ℕ) (s slot : ℕ) where
  abbrev basis : Basis
  basis = basis_of v faults

  abbrev h : History
  h = v.history

  module _ (root : Digest) (size : ℕ) (p : Page) (f : From basis slot (root, size) (entries_of session_of s (entries_in v)) p) where
    place : Among s (entries_in v) f.before f.entry f.rest
    place = among s (entries_in v) f.before f.entry f.rest f.is

    -- the events up to the entry's, and those after
    abbrev past : List CoreEvent
    past = f.entry.before ++ f.entry.event ∷ []

    abbrev more : List CoreEvent
    more = events_in place.last

    before_is : f.entry.before ≡ events_in place.first
    before_is = afters v place.first f.entry place.last place.is

    all_events : h.events ≡ f.entry.before ++ f.entry.event ∷ more
    all_events =
        sym (ap (λ (k : History). k.events) (history_is v faults)) ∙ ap events_in place.is ∙ events_both place.first (f.entry ∷ place.last)
        ∙ ap (λ (es : List CoreEvent). es ++ f.entry.event ∷ more) (sym before_is)

    parts : h.events ≡ past ++ more
    parts = all_events ∙ sym (append_assoc f.entry.before (f.entry.event ∷ []) more)

    own_past : events_of s past ≡ events_in (f.before ++ f.entry ∷ [])
    own_past =
        ap (λ (es : List CoreEvent). events_of s (es ++ f.entry.event ∷ [])) before_is
        ∙ ap (events_of s) (sym (events_both place.first (f.entry ∷ [])))
        ∙ own_in s (place.first ++ f.entry ∷ [])
        ∙ ap events_in (filter-append (λ (e : Entry). session_of e == s) place.first (f.entry ∷ [])
        ∙ ap (λ (xs : List Entry). xs ++ entries_of session_of s (f.entry ∷ [])) place.own_first
        ∙ ap (λ (b : Bool). f.before ++ cond b (f.entry ∷ []) []) place.own)

    told_then : (b d : Disk) → v.store.began ≡ Some b → v.store.told ≡ Some d → f.entry.told ≡ Some (told_by b (take f.entry.event.calls d.trace))
    told_then b d is_b is_d =
        at (λ (e : Entry). e.told ≡ told_after basis.told (device_events v.store.told) e.event.calls) place.first f.entry place.last (subst (EachTells basis.told (device_events v.store.told)) place.is (tells v faults))
        ∙ ap (λ (x : Option Disk). told_after (told_of x) (device_events v.store.told) f.entry.event.calls) is_b
        ∙ ap (λ (x : Option Disk). told_after (told_of (Some b)) (device_events x) f.entry.event.calls) is_d

    -- what the disk had of blobs as the entry ended
    abbrev Had : Disk → Disk → ℕ → Type 0
    Had z y calls = (r : Digest) (x : Blob) → find (last_state (up_to h past) v.next).map r ≡ Some x → IsSure (last_state (up_to h past) v.next) r → HasItsBlob (now_of z) (take calls y.trace) past r x

    -- the page has what its blob's blocks are to hold now
    from_has : (b d : Disk) → v.store.began ≡ Some b → v.store.told ≡ Some d → IsSettled b.trace → HoldsWhole (now_of b) (opening_map h)
        → AreByLine [] h.events → HasIts (now_of b) d.trace h h.events root size p
    from_has b d is_b is_d settled whole lined =
        let calls : ℕ = f.entry.event.calls in
        let now : Legal (up_to h (past ++ more)) v.next = subst (λ (es : List CoreEvent). Legal (up_to h es) v.next) parts legal in
        let then_legal : Legal (up_to h past) v.next = legal_then h v.next past more now in
        let by : AreByLine [] (past ++ more) = subst (AreByLine []) parts lined in
        let by_past : AreByLine [] past = front_by [] past more by in
        let mounted = mounted_both past more (subst AreMounted parts since.2) in
        let has : HeldAt (now_of b) h v.next past s slot root size = held_at (now_of b) h v.next past s slot root size then_legal mounted.0 whole.is (ap (slot_holds slot) own_past ∙ f.held) in
        let began : BeganWhole v.store.began h = subst (λ (x : Option Disk). BeganWhole x h) (sym is_b) (settled, whole) in
        let its : HasItsBlob (now_of b) (take calls d.trace) past root has.blob =
        some_of v.store.told d (λ y. Had b y calls) is_d (some_of v.store.began b (λ z. IfSome v.store.told (λ y. Had z y calls)) is_b (since.4 f.entry.before f.entry.event more all_events began by_past))
        root has.blob has.found (inr has.unqueued) in
        let page : GivenBy h v.next f.entry.before root (there_at (now_of b) (take calls d.trace) f.entry.before root) p =
        subst (λ (ts : List Event). GivenBy h v.next f.entry.before root (there_at (now_of b) ts f.entry.before root) p) (since_is b (take calls d.trace))
        (some_and f.entry.told (told_by b (take calls d.trace)) (λ t. IsSettled b.trace → HoldsWhole (now_of b) (opening_map h) → AreByLine [] f.entry.before → HasPage basis (began_as b) t (root, size) f.entry.before p) (told_then b d is_b is_d)
        (some_of (told_of v.store.began) (began_as b) (λ x. IsSomeAnd f.entry.told (λ t. IsSettled x.trace → HoldsWhole (now_after x.base x.trace) (opening_map h) → AreByLine [] f.entry.before → HasPage basis x t (root, size) f.entry.before p)) (ap told_of is_b) f.there)
        settled whole (front_by [] f.entry.before (f.entry.event ∷ []) by_past)) in
        subst (λ (es : List CoreEvent). HasIts (now_of b) d.trace h es root size p) (sym parts)
        (page_held (now_of b) d.trace h v.next f.entry.before f.entry.event s slot root size f.brings then_legal has its more now by (none_empties s slot place.last mounted.1 (subst (StaysOpen slot) (sym place.own_last) f.stays)) p page)

  -- what a reader of the slot knows are pages that its blob is to have
  pub reader_has : (r : Reading) → SlotFrom basis slot r (entries_of session_of s (entries_in v)) → ReaderHas v r
  reader_has r pages =
      if_some v.store.began (λ b. IfSome v.store.told (λ d. IsSettled b.trace → HoldsWhole (now_of b) (opening_map h) → AreByLine [] h.events
      → (w : ℕ) (p : Page) → known_at r w ≡ Some p → HasIts (now_of b) d.trace h h.events r.root r.size p))
      (λ b is_b. if_some v.store.told (λ d. IsSettled b.trace → HoldsWhole (now_of b) (opening_map h) → AreByLine [] h.events
      → (w : ℕ) (p : Page) → known_at r w ≡ Some p → HasIts (now_of b) d.trace h h.events r.root r.size p)
      (λ d is_d settled whole lined w p known. from_has r.root r.size p (pages w p known) b d is_b is_d settled whole lined))
