-- What an open hands out of what is kept.
use Rattle.std.proofs.Common.{◌≡◌, ℕ, ◌==◌, Bool, cond, Option, Some, None, List, [], ◌∷◌, ◌++◌, length, take, take_all, refl, sym, ap, ◌∙◌, subst, arith, append_assoc, eq-eqb, inr}
use Rattle.std.specs.Prelude.{IfSome, IsSomeAnd, Result, Ok, Err}
use Rattle.std.proofs.lemmas.List.Elements.{filter-append}
use Rattle.std.proofs.lemmas.List.{append-nil}
use Rattle.spec_disk.specs.Disk.{now_after}
use Rattle.spec_disk.specs.Images.{IsSettled}
use Rattle.spec_disk.specs.declared.event.Event.{Event}
use Rattle.spec_tree.specs.declared.Digest.{Digest}
use Rattle.spec_window.specs.Page.{Page}
use Rattle.spec_core.specs.History.{History, Legal, opening_map, with_event}
use Rattle.spec_core.specs.declared.act.Act.{Act}
use Rattle.spec_core.specs.declared.act.Act.TheVariants as acts
use Rattle.spec_core.specs.declared.event.CoreEvent.{CoreEvent}
use Rattle.spec_core.specs.declared.reply.Reply.TheVariants as replies
use Rattle.spec_core.specs.declared.who.Who.{Who}
use Rattle.spec_crash.specs.Crash.{HoldsWhole}
use Rattle.spec_orderly.specs.Slots.{AreMounted}
use Rattle.spec_seen.specs.Held.{up_to}
use Rattle.spec_served.specs.Adds.{AreByLine, IsByLine}
use Rattle.spec_session.specs.Conform.{events_of}
use Rattle.spec_session.specs.Own.{Named, slot_after, slot_from, slot_holds}
use Rattle.bv_device.specs.Told.{Disk, now_of}
use Rattle.bv_ledger.specs.Answers as A
use Rattle.bv_ledger.specs.declared.opening.OpenFault.{OpenFault}
use Rattle.bv_ledger.specs.declared.opening.OpenFault.TheVariants as opening
use Rattle.bv_pager.specs.Reading.{Reading, known_at}
use Rattle.bv_session.specs.declared.entry.Told.{Told}
use Rattle.bv_session.specs.Disk.{AreThere, HasPage, events_since, told_after}
use Rattle.bv_volume.specs.Events.{Does, Happens, event_of}
use Rattle.bv_volume.specs.Seen.{Seen}
use Rattle.bv_shared.specs.Entries.{GainsAs, basis_of, device_events, entries_in, told_of}
use Rattle.bv_shared.specs.KeptPages.{HasIts, OpensKept, ReaderHas, ReaderHasBy}
use Rattle.bv_shared.specs.Moments.{EachMoment, HasItsBlob, there_at}
use Rattle.bv_shared.specs.Since.{AreOfOneDisk, AreWithin, Since}
use Rattle.bv_shared.proofs.FromLemmas.{began_as, since_is, told_by}
use Rattle.bv_shared.proofs.GainLemmas.{entry, gains_entry}
use Rattle.bv_shared.proofs.HeldLemmas.{GivenBy, HeldAt, held_at, page_there}

-- one event more that lines may make
by_line_push : (before es : List CoreEvent) (e : CoreEvent) → AreByLine before es → IsByLine (before ++ es) e.who e.act e.reply → AreByLine before (es ++ e ∷ [])
by_line_push before [] e all one = (subst (λ (xs : List CoreEvent). IsByLine xs e.who e.act e.reply) (append-nil before) one, tt)
by_line_push before (x ∷ es) e all one =
    (all.0, by_line_push (before ++ x ∷ []) es e all.1 (subst (λ (xs : List CoreEvent). IsByLine xs e.who e.act e.reply) (sym (append_assoc before (x ∷ []) es)) one))

-- what the slot then holds by its session's own events
from_push : (slot : ℕ) (o : Option Named) (es : List CoreEvent) (e : CoreEvent) → slot_from slot o (es ++ e ∷ []) ≡ slot_after slot (slot_from slot o es) e.act e.reply
from_push slot o [] e = refl
from_push slot o (x ∷ es) e = from_push slot (slot_after slot o x.act x.reply) es e

module _ (who : Who) (slot : ℕ) (root : Digest) (n calls : ℕ) where
  abbrev event : CoreEvent
  event = event_of who (acts.Open slot root) (replies.Opened n) calls

  holds_opened : (es : List CoreEvent) → slot_holds slot (events_of who.session (es ++ event ∷ [])) ≡ Some (root, n)
  holds_opened es =
      let own : events_of who.session (es ++ event ∷ []) ≡ events_of who.session es ++ event ∷ [] =
      filter-append (λ (e : CoreEvent). e.who.session == who.session) es (event ∷ [])
      ∙ ap (λ (b : Bool). events_of who.session es ++ cond b (event ∷ []) []) (eq-eqb who.session who.session refl) in
      ap (slot_holds slot) own ∙ from_push slot None (events_of who.session es) event
      ∙ ap (λ (b : Bool). cond b (Some (root, n)) (slot_holds slot (events_of who.session es))) (eq-eqb slot slot refl)

  -- each page that a reader of this blob knows is there
  module _ (h : History) (next : ℕ) where
    abbrev events : List CoreEvent
    events = h.events ++ event ∷ []

    page_here : (b d : Disk) (r : Reading) → r.root ≡ root → r.size ≡ n → Legal (up_to h events) next → AreMounted events → EachMoment (Some b) (Some d) (with_event h event) next → ReaderHasBy (Some b) (Some d) (with_event h event) r
        → IsSettled b.trace → HoldsWhole (now_of b) (opening_map h) → length d.trace ≡ calls → AreByLine [] h.events
        → (w : ℕ) (p : Page) → known_at r w ≡ Some p → GivenBy h next h.events root (there_at (now_of b) (take calls d.trace) h.events root) p
    page_here b d r is_root is_size legal mounted moments reader settled whole counted lined w p known =
        let by : AreByLine [] events = by_line_push [] h.events event lined tt in
        let has : HeldAt (now_of b) h next events who.session slot root n = held_at (now_of b) h next events who.session slot root n legal mounted whole.is (holds_opened h.events) in
        let its : HasItsBlob (now_of b) (take calls d.trace) events root has.blob = moments h.events event [] refl (settled, whole) by root has.blob has.found (inr has.unqueued) in
        let given : HasIts (now_of b) d.trace h events r.root r.size p = reader settled whole by w p known in
        page_there (now_of b) d.trace h next h.events event who.session slot root n refl legal has its p
        (subst (λ (k : ℕ). HasIts (now_of b) d.trace h events root k p) is_size (subst (λ (y : Digest). HasIts (now_of b) d.trace h events y r.size p) is_root given))

-- ---- the entry of an open

there_when : (o : Option Disk) (device : List Event) (calls : ℕ) (F : Told → Told → Type 0) → ((b : Disk) → o ≡ Some b → F (began_as b) (told_by b (take calls device))) → IfSome (told_of o) (λ d. IsSomeAnd (told_after (told_of o) device calls) (λ t. F d t))
there_when None device calls F k = tt
there_when (Some b) device calls F k = k b refl

told_is : (o : Option Disk) (b : Disk) → AreOfOneDisk (Some b) o → (d : Disk) × (o ≡ Some d)
told_is None b disk = absurd disk
told_is (Some d) b disk = (d, refl)

module _ (o v w : Seen) (since : Since o w) (within : AreWithin v) (legal : Legal w.history w.next) (counted : IfSome w.store.told (λ d. length d.trace ≡ w.store.calls)) (faults : ℕ) (who : Who) (slot : ℕ) (root : Digest) where
  abbrev act : Act
  act = acts.Open slot root

  abbrev calls : ℕ
  calls = w.store.calls

  abbrev h : History
  h = v.history

  module _ (n : ℕ) (happens : Happens v w who act (replies.Opened n)) (r : Reading) (has : ReaderHas w r) (is_root : r.root ≡ root) (is_size : r.size ≡ n) where
    abbrev noted : History
    noted = with_event h (event_of who act (replies.Opened n) calls)

    given : (b d : Disk) → w.store.began ≡ Some b → w.store.told ≡ Some d → IsSettled b.trace → HoldsWhole (now_of b) (opening_map h) → AreByLine [] h.events
        → (k : ℕ) (p : Page) → known_at r k ≡ Some p → GivenBy h v.next h.events root (there_at (now_of b) (take calls d.trace) h.events root) p
    given b d is_b is_d =
        let legal_now : Legal noted v.next = subst (λ (x : History). Legal x v.next) happens.history (subst (λ (m : ℕ). Legal w.history m) happens.next legal) in
        let mounted : AreMounted noted.events = subst (λ (x : History). AreMounted x.events) happens.history since.2 in
        let moments : EachMoment (Some b) (Some d) noted v.next =
        subst (λ (x : History). EachMoment (Some b) (Some d) x v.next) happens.history
        (subst (λ (m : ℕ). EachMoment (Some b) (Some d) w.history m) happens.next
        (subst (λ (t : Option Disk). EachMoment (Some b) t w.history w.next) is_d
        (subst (λ (t : Option Disk). EachMoment t w.store.told w.history w.next) is_b since.4))) in
        let reader : ReaderHasBy (Some b) (Some d) noted r =
        subst (λ (x : History). ReaderHasBy (Some b) (Some d) x r) happens.history
        (subst (λ (t : Option Disk). ReaderHasBy (Some b) t w.history r) is_d
        (subst (λ (t : Option Disk). ReaderHasBy t w.store.told w.history r) is_b has)) in
        let count : length d.trace ≡ calls = subst (λ (t : Option Disk). IfSome t (λ d. length d.trace ≡ calls)) is_d counted in
        λ settled whole lined k p known.
        page_here who slot root n calls h v.next b d r is_root is_size legal_now mounted moments reader settled whole count lined k p known

    there : AreThere (basis_of v faults) (entry v w within who act (replies.Opened n) happens) r
    there k p known =
        there_when v.store.began (device_events w.store.told) calls
        (λ d t. IsSettled d.trace → HoldsWhole (now_after d.base d.trace) (opening_map h) → AreByLine [] h.events
        → HasPage (basis_of v faults) d t (r.root, r.size) h.events p)
        (λ b began settled whole lined.
        let is_b : w.store.began ≡ Some b = happens.began ∙ began in
        let told = told_is w.store.told b (subst (λ (x : Option Disk). AreOfOneDisk x w.store.told) is_b since.3) in
        let d : Disk = told.0 in
        let count : length d.trace ≡ calls = subst (λ (t : Option Disk). IfSome t (λ d. length d.trace ≡ calls)) told.1 counted in
        let since_now : events_since (began_as b) (told_by b (take calls (device_events w.store.told))) ≡ take calls d.trace = since_is b (take calls (device_events w.store.told)) ∙ ap (λ (t : Option Disk). take calls (device_events t)) told.1 in
        let all : take calls d.trace ≡ d.trace = take_all calls d.trace (omega (arith, count)) in
        let page = given b d is_b told.1 settled whole lined k p known in
        subst (λ (ts : List Event). GivenBy h v.next h.events r.root (there_at (now_of b) ts h.events r.root) p) (sym since_now)
        (subst (λ (y : Digest). GivenBy h v.next h.events y (there_at (now_of b) (take calls d.trace) h.events y) p) (sym is_root) page))

  -- an open's entry, and what it says of readers that are handed out
  pub opens_kept : (answer : Result ℕ OpenFault) → Does v w who act (A.open_reply answer) → GainsAs (entries_in v) (entries_in w) who act (A.open_reply answer) (OpensKept w (basis_of v faults) root answer)
  opens_kept (Ok n) does = (entry v w within who act (replies.Opened n) does, gains_entry v w within who act (replies.Opened n) does, refl, refl, refl, λ r has is_root is_size. there n does r has is_root is_size)
  opens_kept (Err opening.NotFound) does = (entry v w within who act replies.NotFound does, gains_entry v w within who act replies.NotFound does, refl, refl, refl, tt)
  opens_kept (Err opening.SlotTaken) does = (entry v w within who act replies.SlotTaken does, gains_entry v w within who act replies.SlotTaken does, refl, refl, refl, tt)
  opens_kept (Err opening.NoMemory) does = ap entries_in does
