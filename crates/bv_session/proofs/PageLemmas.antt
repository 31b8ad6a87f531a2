-- Pages that came of entries, while more entries are made.
use Rattle.std.proofs.Common.{◌≡◌, ℕ, ◌<◌, List, [], ◌∷◌, ◌++◌, length, drop, set, refl, sym, ap, ◌∙◌, subst, inl, inr, arith, append_assoc}
use Rattle.std.specs.Prelude.{Option, Some, None, IfSome, IsSomeAnd, replicate, slice_index_or}
use Rattle.std.proofs.lemmas.Bool.{cases_eq, cases_lt}
use Rattle.std.proofs.lemmas.List.{append-nil, drop_at, map-append, get_or-replicate, get_or-set_same, get_or-set_other, get_or_past, length-replicate}
use Rattle.spec_core.specs.declared.act.Act.{Act}
use Rattle.spec_core.specs.declared.event.CoreEvent.{CoreEvent}
use Rattle.spec_core.specs.declared.reply.Reply.{Reply}
use Rattle.spec_core.specs.declared.who.Who.{Who}
use Rattle.spec_session.specs.Lines.{Move, Make}
use Rattle.spec_session.specs.Own.{Named, slot_holds}
use Rattle.spec_window.specs.Page.{Page}
use Rattle.bv_pager.specs.Reading.{Reading, known_at, with_page}
use Rattle.bv_session.specs.declared.entry.Basis.{Basis}
use Rattle.bv_session.specs.declared.entry.Entry.{Entry}
use Rattle.bv_session.specs.declared.entry.Told.{Told}
use Rattle.bv_session.specs.Disk.{IsPageOnDisk, IsPageThere}
use Rattle.bv_session.specs.Events.{events_in}
use Rattle.bv_session.specs.Pages.{Brings, Closes, From, GrowsOpen, IsKept, SameBut, SlotFrom, StaysOpen}
use Rattle.bv_session.specs.Sessions.{Gains, Grows, Since}

-- ---- entries and their events

pub events-append : (xs ys : List Entry) → events_in (xs ++ ys) ≡ events_in xs ++ events_in ys
events-append xs ys = map-append (λ (e : Entry). e.event) xs ys

-- what comes behind is known by the events
pub behind : (old new more : List Entry) (part : List CoreEvent) → new ≡ old ++ more → events_in new ≡ events_in old ++ part → events_in more ≡ part
behind old new more part is events =
    let both : events_in old ++ events_in more ≡ events_in old ++ part = sym (ap events_in is ∙ events-append old more) ∙ events in
    sym (drop_at (events_in old) (events_in more) (length (events_in old)) refl) ∙ ap (λ (xs : List CoreEvent). drop (length (events_in old)) xs) both ∙ drop_at (events_in old) part (length (events_in old)) refl

pub entries_behind : (old new : List Entry) (part : List CoreEvent) → Grows old new → events_in new ≡ events_in old ++ part → (more : List Entry) × (new ≡ old ++ more) × (events_in more ≡ part)
entries_behind old new part grows events = (grows.0, grows.1, behind old new grows.0 part grows.1 events)

-- an entry by its event
pub entry_event : (old new : List Entry) (e : Entry) (x : CoreEvent) → new ≡ old ++ e ∷ [] → events_in new ≡ events_in old ++ x ∷ [] → e.event ≡ x
entry_event old new e x is events =
    let same : e.event ∷ [] ≡ x ∷ [] = behind old new (e ∷ []) (x ∷ []) is events in cc

-- the entry of one event more
pub one_entry : (old new : List Entry) (x : CoreEvent) → Grows old new → events_in new ≡ events_in old ++ x ∷ [] → (e : Entry) × (new ≡ old ++ e ∷ []) × (e.event ≡ x)
one_entry old new x grows events = by_more grows.0 grows.1 (behind old new grows.0 (x ∷ []) grows.1 events) where
  by_more : (more : List Entry) → new ≡ old ++ more → events_in more ≡ x ∷ [] → (e : Entry) × (new ≡ old ++ e ∷ []) × (e.event ≡ x)
  by_more [] is same = absurd (cc)
  by_more (e ∷ []) is same = (e, is, cc)
  by_more (e ∷ f ∷ more) is same = absurd (cc)

-- ---- entries that close no slot

pub StaysOpen-append : (slot : ℕ) (xs ys : List Entry) → StaysOpen slot xs → StaysOpen slot ys → StaysOpen slot (xs ++ ys)
StaysOpen-append slot [] ys x y = y
StaysOpen-append slot (e ∷ xs) ys x y = (x.0, StaysOpen-append slot xs ys x.1 y)

-- none of these moves closes the slot
abbrev pub NoCloses : ℕ → List Move → Type 0
NoCloses slot [] = Unit {0}
NoCloses slot (m ∷ ms) = ¬ (Closes slot m.0) × NoCloses slot ms

-- nor do the entries of such moves
made_open : (slot : ℕ) (who : Who) (ms : List Move) (es : List Entry) → Make who ms (events_in es) → NoCloses slot ms → StaysOpen slot es
made_open slot who [] [] make none = tt
made_open slot who [] (e ∷ es) make none = absurd make
made_open slot who (m ∷ ms) [] make none = absurd make
made_open slot who (m ∷ ms) (e ∷ es) make none =
    (subst (λ (a : Act). ¬ (Closes slot a)) (sym make.1) none.0, made_open slot who ms es make.3 none.1)

pub grows_open : (slot : ℕ) (who : Who) (ms : List Move) (old new : List Entry) → Grows old new → Since who ms (events_in old) (events_in new) → NoCloses slot ms → GrowsOpen slot old new
grows_open slot who ms old new grows since none =
    let more = entries_behind old new since.part grows since.is in record {
      more = more.0;
      is = more.1;
      stays = made_open slot who ms more.0 (subst (λ (xs : List CoreEvent). Make who ms xs) (sym more.2) since.make) none;
    }

-- one event that closes no slot
pub grows_one : (slot : ℕ) (who : Who) (act : Act) (q : Reply) (old new : List Entry) → Grows old new → Gains who act q (events_in old) (events_in new) → ¬ (Closes slot act) → GrowsOpen slot old new
grows_one slot who act q old new grows gain none =
    let one = one_entry old new _ grows gain.1 in record {
      more = one.0 ∷ [];
      is = one.1;
      stays = (subst (λ (a : Act). ¬ (Closes slot a)) (sym (ap (λ (x : CoreEvent). x.act) one.2)) none, tt);
    }

pub append_nil : {A : Type 0} (xs : List A) → xs ≡ xs ++ []
append_nil xs = sym (append-nil xs)

-- no entry
pub grows_none : (slot : ℕ) (old new : List Entry) → new ≡ old → GrowsOpen slot old new
grows_none slot old new same = record { more = []; is = same ∙ append_nil old; stays = tt }

pub grows_join : (slot : ℕ) (old mid new : List Entry) → GrowsOpen slot old mid → GrowsOpen slot mid new → GrowsOpen slot old new
grows_join slot old mid new a b = record {
  more = a.more ++ b.more;
  is = b.is ∙ ap (λ (xs : List Entry). xs ++ b.more) a.is ∙ append_assoc old a.more b.more;
  stays = StaysOpen-append slot a.more b.more a.stays b.stays;
}

-- ---- pages

-- a page that is on the disk at a fetch is there
with_told : (o x : Option Told) (P Q : Told → Told → Type 0) → ((d t : Told) → P d t → Q d t) → IfSome o (λ d. IsSomeAnd x (λ t. P d t)) → IfSome o (λ d. IsSomeAnd x (λ t. Q d t))
with_told None x P Q f h = tt
with_told (Some d) None P Q f h = h
with_told (Some d) (Some t) P Q f h = f d t h

pub disk_there : (b : Basis) (blob : Named) (e : Entry) (p : Page) → IsPageOnDisk b blob e p → IsPageThere b blob e p
disk_there b blob e p h =
    with_told b.told e.told _ _ (λ d t on settled whole lines. on settled lines) h

module _ (b : Basis) (slot : ℕ) where
  -- a page keeps having come of the entries
  pub from_grows : (blob : Named) (es more : List Entry) (p : Page) → From b slot blob es p → StaysOpen slot more → From b slot blob (es ++ more) p
  from_grows blob es more p f kept = record {
    before = f.before;
    entry = f.entry;
    rest = f.rest ++ more;
    is = ap (λ (xs : List Entry). xs ++ more) f.is ∙ append_assoc f.before (f.entry ∷ f.rest) more;
    brings = f.brings;
    held = f.held;
    stays = StaysOpen-append slot f.rest more f.stays kept;
    there = f.there;
  }

  -- a page of the last entry
  pub from_last : (blob : Named) (es new : List Entry) (e : Entry) (p : Page) → new ≡ es ++ e ∷ [] → Brings slot e.event.act → slot_holds slot (events_in new) ≡ Some blob → IsPageThere b blob e p → From b slot blob new p
  from_last blob es new e p is brings held there = record {
    before = es;
    entry = e;
    rest = [];
    is = is;
    brings = brings;
    held = ap (λ (xs : List Entry). slot_holds slot (events_in xs)) (sym is) ∙ held;
    stays = tt;
    there = there;
  }

  pub slot_grows : (r : Reading) (old new : List Entry) → GrowsOpen slot old new → SlotFrom b slot r old → SlotFrom b slot r new
  slot_grows r old new grows from w p known =
      subst (λ (xs : List Entry). From b slot (r.root, r.size) xs p) (sym grows.is) (from_grows (r.root, r.size) old grows.more p (from w p known) grows.stays)

  -- a reader that takes in such a page
  pub slot_loads : (old new : Reading) (w : ℕ) (page : Page) (es : List Entry) → w < length old.known → new ≡ with_page old w page → SlotFrom b slot old es → From b slot (old.root, old.size) es page → SlotFrom b slot new es
  slot_loads old new w page es low is from came =
      subst (λ (r : Reading). SlotFrom b slot r es) (sym is) (λ k p known. elim (cases_eq k w) [
        | inl same ↦
            let there : known_at (with_page old w page) w ≡ Some page = get_or-set_same old.known w (Some page) None low in
            let here : known_at (with_page old w page) w ≡ Some p = ap (λ (j : ℕ). known_at (with_page old w page) j) (sym same) ∙ known in
            let is_page : page ≡ p = some_is (sym there ∙ here) in
            subst (λ (x : Page). From b slot (old.root, old.size) es x) is_page came
        | inr other ↦ from k p (sym (get_or-set_other old.known w k (Some page) None other) ∙ known)
      ]) where
        some_is : {x y : Page} → Some x ≡ Some y → x ≡ y
        some_is {x} {y} e = cc

  -- a reader that knows a page only if it is the slot's
  pub slot_kept : (there : Option Reading) (r : Reading) (es : List Entry) → IsKept there r → ((k : Reading) → there ≡ Some k → SlotFrom b slot k es) → SlotFrom b slot r es
  slot_kept there r es kept from w p known = from r (kept w p known) w p known

-- ---- readers

-- a reader that knows nothing
abbrev pub nones : (A : Type 0) → ℕ → List (Option A)
nones A n = replicate n None

pub replicated : (A : Type 0) (n w : ℕ) → slice_index_or (nones A n) w None ≡ None
replicated A n w = elim (cases_lt w n) [
  | inl low ↦ get_or-replicate n w None None low
  | inr high ↦
      let long : length (nones A n) ≡ n = length-replicate n None in
      get_or_past (nones A n) w None (omega (arith, long, high))
]

pub knows_none : (r : Reading) (n : ℕ) (there : Option Reading) → r.known ≡ replicate n None → IsKept there r
knows_none r n there none w p known =
    let empty : known_at r w ≡ None = ap (λ (ks : List (Option Page)). slice_index_or ks w None) none ∙ replicated Page n w in
    absurd (cc)

-- a slot that is put in or taken out leaves the others as they are
pub others_same : (slot : ℕ) (readers : List (Option Reading)) (o : Option Reading) → SameBut slot readers (set readers slot o)
others_same slot readers o t other = get_or-set_other readers slot t o None other
