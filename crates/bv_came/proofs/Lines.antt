-- What the results of a session's lines say of the device, composed.
use Rattle.std.proofs.Common.{◌≡◌, ◌≤◌, ◌<◌, ℕ, ◌==◌, ◌&&◌, Bool, true, false, cond, Option, None, Some, List, [], ◌∷◌, ◌++◌, take, refl, sym, ap, ◌∙◌, subst, append_assoc, eq-eqb}
use Rattle.std.specs.Prelude.{IsSomeAnd, filter}
use Rattle.std.proofs.lemmas.List.{map-append}
use Rattle.std.proofs.lemmas.List.Elements.{filter-append}
use Rattle.spec_tree.specs.declared.blob.Blob.{Blob}
use Rattle.spec_disk.specs.Disk.{Blocks}
use Rattle.spec_disk.specs.declared.event.Event.{Event}
use Rattle.spec_image.specs.Volume.{blobs}
use Rattle.spec_window.proofs.MismatchLemmas.{verified_none}
use Rattle.spec_window.specs.Mismatch.{first_mismatch}
use Rattle.spec_window.specs.Page.{IsVerified, Page}
use Rattle.spec_core.specs.History.{History, Legal, last_state, opening_map}
use Rattle.spec_core.specs.State.{find}
use Rattle.spec_core.specs.declared.act.Act.{Act}
use Rattle.spec_core.specs.declared.event.CoreEvent.{CoreEvent}
use Rattle.spec_core.specs.declared.reply.Reply.{Reply}
use Rattle.spec_core.specs.declared.who.Who.{Who}
use Rattle.spec_orderly.specs.Slots.{AreMounted}
use Rattle.spec_seen.proofs.PageLemmas.{pages_show}
use Rattle.spec_seen.specs.Held.{up_to}
use Rattle.spec_seen.specs.Pages.{CameOf, HasThere}
use Rattle.spec_served.specs.Adds.{AreByLine}
use Rattle.spec_served.specs.Answers.{Answers, AnswersBy}
use Rattle.spec_served.specs.Device.{At, FitsAt, OwnEvent, Range, SeenAt, SeenBy, SeenByAll, blob_by, bytes_at, page_at, path_at, range_by}
use Rattle.spec_served.specs.Places.{publisher, version_by}
use Rattle.spec_served.specs.Served.{ServesLine}
use Rattle.spec_session.specs.Conform.{Request, events_of}
use Rattle.spec_session.specs.Lines.{Make, Move, read_windows}
use Rattle.spec_session.specs.Own.{Named, slot_holds}
use Rattle.spec_session.specs.Told.{same_who}
use Rattle.spec_session.specs.declared.result.LineResult.{LineResult}
use Rattle.spec_session.specs.declared.result.LineResult.TheVariants as results
use Rattle.bv_came.proofs.Due.{AreDue, IsNew, due_after, due_front}
use Rattle.bv_came.proofs.Firsts.{Same, firsts, joined, none_within, split}
use Rattle.spec_window.specs.declared.mismatch.Mismatch.{Mismatch}
use Rattle.bv_came.proofs.Fits.{AreBytes, looks_by, range_is_read}
use Rattle.bv_came.proofs.Fronts.{mounted_back, mounted_front}
use Rattle.bv_came.proofs.Owned.{own_is, still_open}
use Rattle.bv_came.proofs.Quiet.{IsLooking}
use Rattle.bv_came.proofs.There.{has_there, map_at, page_there}
use Rattle.bv_shared.specs.Moments.{held_by}
use Rattle.bv_came.specs.Sees.{own_entries}
use Rattle.bv_came.specs.There.{BlobsAreThere}
use Rattle.bv_session.specs.declared.entry.Basis.{Basis}
use Rattle.bv_session.specs.declared.entry.Entry.{Entry}
use Rattle.bv_session.specs.Events.{events_in}
use Rattle.bv_shared.specs.KeptPages.{IsGiven}
use Rattle.bv_session.specs.Pages.{From, StaysOpen}
use Rattle.bv_session.specs.Shown.{AllGot, CameFrom, Got, LineCame, LineShows, ShowLines, ShowSome, slot_by}

-- ---- small facts

same_self : (w : Who) → same_who w w ≡ true
same_self w = let s = eq-eqb w.session w.session refl in let l = eq-eqb w.line w.line refl in rw (s, l) refl

first_true : (a b : Bool) → (a && b) ≡ true → a ≡ true
first_true true b is = refl
first_true false b is = absurd (cc)

-- a line that made no event has no result
none_made : (own : List CoreEvent) (who : Who) (act : Act) (ms : List Move) (r : LineResult) → Make who ms [] → Answers own act ms r → ⊥
none_made own who act [] r make answers = answers
none_made own who act (m ∷ ms) r make answers = make

-- further requests have no result yet
seen_more : (base : Blocks) (told : List Event) (h : History) (ts us : List Request) (rs : List LineResult) → SeenByAll base told h ts rs → SeenByAll base told h (ts ++ us) rs
seen_more base told h ts us [] k = tt
seen_more base told h [] us (r ∷ rs) k = absurd k
seen_more base told h (t ∷ ts) us (r ∷ rs) k = (k.0, seen_more base told h ts us rs k.1)

-- ---- by what pages have

module _ (b : Basis) (slot : ℕ) (entries : List Entry) (base : Blocks) (told : List Event) (h : History) (at : At)
    (gives : (p : Page) → From b slot at.blob entries p → (p.bytes ≡ bytes_at base told h at p.window) × (p.path ≡ path_at base told h at p.window)) where
  -- a window's page is the one that is there
  page_is : (w : ℕ) (p : Page) → Got b slot at.blob entries w p → p ≡ page_at base told h at w
  page_is w p g =
      let k = gives p g.from in
      let bytes : p.bytes ≡ bytes_at base told h at w = k.0 ∙ ap (bytes_at base told h at) g.place in
      let path : p.path ≡ path_at base told h at w = k.1 ∙ ap (path_at base told h at) g.place in
      λ i. record { name = g.name i; size = g.size i; window = g.place i; bytes = bytes i; path = path i }

  fits_there : (w : ℕ) (p : Page) → Got b slot at.blob entries w p → IsVerified p → FitsAt base told h at w
  fits_there w p g fits = subst IsVerified (page_is w p g) fits

  all_fit : (first past : ℕ) → AllGot b slot at.blob entries first past → (w : ℕ) → first ≤ w → w < past → FitsAt base told h at w
  all_fit first past got w low high = let g = got w low high in fits_there w g.0 g.1 g.2

  -- a page whose verification fails doesn't verify
  fails_there : (p : Page) (m : Mismatch) → first_mismatch p ≡ Some m → ¬ (IsVerified p)
  fails_there p m failed fits = let none : first_mismatch p ≡ None = verified_none p fits in differ (sym none ∙ failed) where
    differ : None ≡ Some m → ⊥
    differ same = cc

  module _ (range : Range) (there : HasThere base told h at) where
    -- a result that came of the session's pages came of those that are there
    pub came_of : (r : LineResult) → (AreBytes r → range.windows ≡ read_windows at.blob.1 range.off range.len) → CameFrom b slot at.blob entries range r → CameOf base told h at range.windows range.off range.len r
    came_of (results.Bytes v) reads c = record {
      range = reads tt;
      fit = λ w low high. let p = c.pages w low high in fits_there w p.0 p.1 p.2;
      there = there;
      known = c.known;
      pages = λ w low high. let p = c.pages w low high in p.3 ∙ ap (λ (x : Page). x.bytes) (page_is w p.0 p.1);
      cut = c.cut;
    }
    came_of (results.Mismatch m) reads c = record {
      window = c.window;
      bad = record {
        within = (c.low, c.high);
        bad = λ fits. fails_there c.page m c.failed (subst IsVerified (sym (page_is c.window c.page c.got)) fits);
        before = all_fit range.windows.first c.window c.before;
      };
      first = ap first_mismatch (sym (page_is c.window c.page c.got)) ∙ c.failed;
    }
    came_of (results.ReadFault f) reads c = tt
    came_of r reads c = all_fit range.windows.first range.windows.past c

-- ---- one line

-- the page of a session's slot has what the blob is to hold, by the history up to then
abbrev pub PagesAreGiven : Basis → Blocks → List Event → History → ℕ → List Entry → Type 0
PagesAreGiven b base told h s entries =
    (front rest : List Entry) (slot : ℕ) (blob : Named) (p : Page)
    → entries ≡ front ++ rest → From b slot blob (own_entries s front) p
    → IsGiven blob.0 blob.1 (version_by base h blob.0 (publisher blob.0 None (events_in front)))
    (held_by base told (events_in front) blob.0 (publisher blob.0 None (events_in front))) p

-- each event ended within what is told
abbrev pub EndWithin : List Event → List Event → History → Type 0
EndWithin told more h =
    (before : List CoreEvent) (e : CoreEvent) (rest : List CoreEvent)
    → h.events ≡ before ++ e ∷ rest → take e.calls (told ++ more) ≡ take e.calls told

module _ (b : Basis) (base : Blocks) (told more : List Event) (h : History) (next : ℕ) (late : List CoreEvent)
    (legal : Legal h next) (mounted : AreMounted h.events) (lined : AreByLine [] h.events)
    (opening : blobs base ≡ Some (opening_map h)) (there : BlobsAreThere base told h next) (within : EndWithin told more h)
    (entries : List Entry) (are : events_in entries ≡ h.events) (s : ℕ) (given : PagesAreGiven b base told h s entries) where
  abbrev after : History
  after = record h { events = h.events ++ late }

  -- the events of entries that are joined
  events_join : (front : List Entry) (own : Entry) (behind : List Entry) → events_in (front ++ own ∷ behind) ≡ events_in front ++ own.event ∷ events_in behind
  events_join front own behind = map-append (λ (e : Entry). e.event) front (own ∷ behind)

  module _ (t : Request) (session : t.0.session ≡ s) (old : List Entry) (own : Entry) (es tail : List Entry) (r : LineResult)
      (part : own_entries s entries ≡ old ++ own ∷ (es ++ tail)) (who : own.event.who ≡ t.0) (new : IsNew t.0 (events_in old))
      (ms : List Move) (answers : AnswersBy (events_in old) t.1 own.event.reply ms r) (shows : LineShows b old t (own ∷ es) r) where
    -- what came of the line's own event, which stands between these entries
    module _ (front behind : List Entry) (is : entries ≡ front ++ own ∷ behind) (first : own_entries s front ≡ old) (rest : own_entries s behind ≡ es ++ tail)
        (act : own.event.act ≡ t.1) (blob : Named) (range : Range) (blob_is : blob_by (events_in old) t.1 own.event.reply ≡ Some blob) (range_is : range_by blob.1 t.1 ≡ Some range) where
      abbrev slot : ℕ
      slot = slot_by t.1

      abbrev before : List CoreEvent
      before = events_in front

      abbrev at : At
      at = record { before = before; own = own.event; blob = blob }

      looks : IsLooking own.event.act
      looks = subst IsLooking (sym act) (looks_by (events_in old) t.1 own.event.reply blob blob_is)

      events_are : h.events ≡ before ++ own.event ∷ events_in behind
      events_are = sym are ∙ ap events_in is ∙ events_join front own behind

      is_own : (own.event.who.session == s) ≡ true
      is_own = eq-eqb own.event.who.session s (ap (λ (w : Who). w.session) who ∙ session)

      mine_join : (more : List Entry) → own_entries s (front ++ own ∷ more) ≡ old ++ own ∷ own_entries s more
      mine_join more =
          filter-append (λ (e : Entry). e.event.who.session == s) front (own ∷ more)
          ∙ (λ i. first i ++ cond (is_own i) (own ∷ own_entries s more) (own_entries s more))

      came : LineCame b slot blob range old own es r
      came = shows blob range blob_is range_is

      holds : slot_holds slot (events_of s (before ++ own.event ∷ [])) ≡ Some blob
      holds =
          ap (slot_holds slot) (ap (events_of s) (sym (events_join front own [])) ∙ sym (own_is s (front ++ own ∷ [])) ∙ ap events_in (mine_join []))
          ∙ came.held

      -- the entries behind it during which the slot stays open stand between these
      module _ (mid end : List Entry) (behind_is : behind ≡ mid ++ end) (mid_is : own_entries s mid ≡ came.mid) where
        abbrev to : List Entry
        to = front ++ own ∷ mid

        entries_are : entries ≡ to ++ end
        entries_are = is ∙ ap (λ (l : List Entry). front ++ own ∷ l) behind_is ∙ sym (append_assoc front (own ∷ mid) end)

        mine_to : own_entries s to ≡ old ++ own ∷ came.mid
        mine_to = mine_join mid ∙ ap (λ (l : List Entry). old ++ own ∷ l) mid_is

        events_to : events_in to ≡ (before ++ own.event ∷ []) ++ events_in mid
        events_to = events_join front own mid ∙ sym (append_assoc before (own.event ∷ []) (events_in mid))

        events_behind : events_in behind ≡ events_in mid ++ events_in end
        events_behind = ap events_in behind_is ∙ map-append (λ (e : Entry). e.event) mid end

        mounted_mid : AreMounted (events_in mid)
        mounted_mid =
            mounted_front (events_in mid) (events_in end)
            (subst AreMounted events_behind (mounted_back (own.event ∷ []) (events_in behind) (mounted_back before (own.event ∷ events_in behind) (subst AreMounted events_are mounted))))

        module _ (blob_there : Blob) (found : find (last_state (up_to h (before ++ own.event ∷ [])) next).map blob.0 ≡ Some blob_there) (size : blob_there.size ≡ blob.1) where
          gives : (p : Page) → From b slot blob (old ++ own ∷ came.mid) p
              → (p.bytes ≡ bytes_at base (told ++ more) after at p.window) × (p.path ≡ path_at base (told ++ more) after at p.window)
          gives p from =
              page_there base told more h next late legal mounted lined opening there before own.event (events_in behind) events_are looks (within before own.event (events_in behind) events_are) s slot blob holds
              (events_in mid) (events_in end) (events_in to) events_behind events_to
              (still_open s slot mid (subst (StaysOpen slot) (sym mid_is) came.stays) mounted_mid)
              blob_there found size p
              (given to end slot blob p entries_are (subst (λ (l : List Entry). From b slot blob l p) (sym mine_to) from))

          is_there : HasThere base (told ++ more) after at
          is_there = has_there base told more h next late legal mounted lined opening there before own.event (events_in behind) events_are looks (within before own.event (events_in behind) events_are) s slot blob holds blob_there found size

          line_came : CameOf base (told ++ more) after at range.windows range.off range.len r
          line_came =
              came_of b slot (old ++ own ∷ came.mid) base (told ++ more) after at gives range is_there r
              (λ bytes. range_is_read (events_in old) ms blob range t.1 own.event.reply r bytes blob_is range_is answers) came.came

        by_map : (o : Option Blob) → find (last_state (up_to h (before ++ own.event ∷ [])) next).map blob.0 ≡ o → IsSomeAnd o (λ x. x.size ≡ blob.1) → CameOf base (told ++ more) after at range.windows range.off range.len r
        by_map None found size = absurd size
        by_map (Some x) found size = line_came x found size

        came_there : CameOf base (told ++ more) after at range.windows range.off range.len r
        came_there =
            by_map (find (last_state (up_to h (before ++ own.event ∷ [])) next).map blob.0) refl
            (map_at h next legal mounted (before ++ own.event ∷ []) (events_in behind) s slot blob (events_are ∙ sym (append_assoc before (own.event ∷ []) (events_in behind))) holds)

      seen_there : SeenAt base (told ++ more) after at range.windows range.off range.len r
      seen_there =
          let parts = joined (λ (e : Entry). e.event.who.session == s) behind came.mid (came.rest ++ tail) (rest ∙ ap (λ (l : List Entry). l ++ tail) came.is ∙ append_assoc came.mid came.rest tail) in
          pages_show base (told ++ more) after at range.windows range.off range.len r (came_there parts.before parts.behind parts.is parts.first)

    -- the line's own event is the first of its line
    passes : (x : CoreEvent) → x.who ≡ t.0 → same_who x.who t.0 ≡ true
    passes x is = ap (λ (w : Who). same_who w t.0) is ∙ same_self t.0

    wide : (x : CoreEvent) → same_who x.who t.0 ≡ true → (x.who.session == s) ≡ true
    wide x is = ap (λ (n : ℕ). x.who.session == n) (sym session) ∙ first_true (x.who.session == t.0.session) (x.who.line == t.0.line) is

    module _ (front behind : List Entry) (is : entries ≡ front ++ own ∷ behind) (first : own_entries s front ≡ old) (rest : own_entries s behind ≡ es ++ tail)
        (before : List CoreEvent) (e : CoreEvent) (oe : OwnEvent after t before e) where
      own_before : events_of s (events_in front) ≡ events_in old
      own_before = sym (own_is s front) ∙ ap events_in first

      same : Same (λ (x : CoreEvent). same_who x.who t.0) before (events_in front) e own.event oe.rest (events_in behind ++ late)
      same =
          firsts (λ (x : CoreEvent). same_who x.who t.0) before (events_in front) e own.event oe.rest (events_in behind ++ late)
          (sym oe.is ∙ ap (λ (l : List CoreEvent). l ++ late) (sym are ∙ ap events_in is ∙ events_join front own behind) ∙ append_assoc (events_in front) (own.event ∷ events_in behind) late)
          (passes e oe.who) (passes own.event who) oe.first
          (none_within (λ (x : CoreEvent). same_who x.who t.0) (λ (x : CoreEvent). x.who.session == s) wide (events_in front) (ap (filter (λ (x : CoreEvent). same_who x.who t.0)) own_before ∙ new))

      own_is_old : events_of t.0.session before ≡ events_in old
      own_is_old = (λ i. events_of (session i) (same.before i)) ∙ own_before

      seen_first : (blob : Named) (range : Range) → blob_by (events_of t.0.session before) t.1 e.reply ≡ Some blob → range_by blob.1 t.1 ≡ Some range
          → SeenAt base (told ++ more) after (record { before = before; own = e; blob = blob }) range.windows range.off range.len r
      seen_first blob range blob_is range_is =
          subst (λ (x : List CoreEvent × CoreEvent). SeenAt base (told ++ more) after (record { before = x.0; own = x.1; blob = blob }) range.windows range.off range.len r) (λ i. (sym same.before i, sym same.one i))
          (seen_there front behind is first rest (ap (λ (x : CoreEvent). x.act) (sym same.one) ∙ oe.act) blob range
          (sym (λ i. blob_by (own_is_old i) t.1 (same.one i).reply) ∙ blob_is) range_is)

    line_sees : SeenBy base (told ++ more) after t r
    line_sees before e blob range oe blob_is range_is =
        let at = split (λ (x : Entry). x.event.who.session == s) entries old own (es ++ tail) part in
        seen_first at.before at.behind at.is at.first at.rest before e oe blob range blob_is range_is

  -- ---- the lines one after another

  module _ (version : ℕ) where
    by_moves : (t : Request) → t.0.session ≡ s → (old : List Entry) (own : Entry) (es tail : List Entry) (r : LineResult) → own_entries s entries ≡ old ++ own ∷ (es ++ tail) → IsNew t.0 (events_in old)
        → LineShows b old t (own ∷ es) r → (ms : List Move) → Make t.0 ms (own.event ∷ events_in es) → Answers (events_in old) t.1 ms r → SeenBy base (told ++ more) after t r
    by_moves t session old own es tail r part new shows [] make answers = absurd make
    by_moves t session old own es tail r part new shows (m ∷ ms) make answers =
        line_sees t session old own es tail r part make.0 new (m ∷ ms) (subst (λ (q : Reply). AnswersBy (events_in old) t.1 q (m ∷ ms) r) (sym make.2) answers) shows

    one_sees : (t : Request) → t.0.session ≡ s → (old xs tail : List Entry) (r : LineResult) → own_entries s entries ≡ old ++ (xs ++ tail) → IsNew t.0 (events_in old)
        → ServesLine version (events_in old) t (events_in xs) r → LineShows b old t xs r → SeenBy base (told ++ more) after t r
    one_sees t session old [] tail r part new serves shows = absurd (none_made (events_in old) t.0 t.1 serves.0 r serves.2 serves.3)
    one_sees t session old (own ∷ es) tail r part new serves shows = by_moves t session old own es tail r part new shows serves.0 serves.2 serves.3

    all_see : (ts : List Request) (rs : List LineResult) (old es tail : List Entry) → own_entries s entries ≡ old ++ (es ++ tail) → AreDue s (events_in old) ts
        → ShowLines b version old ts es rs → SeenByAll base (told ++ more) after ts rs
    all_see [] rs old es tail part due k = subst (λ (l : List LineResult). SeenByAll base (told ++ more) after [] l) (sym k.1) tt
    all_see (t ∷ ts) [] old es tail part due k = absurd k
    all_see (t ∷ ts) (r ∷ rs) old es tail part due k =
        let xs : List Entry = k.0 in
        let ys : List Entry = k.1 in
        let here : own_entries s entries ≡ old ++ (xs ++ (ys ++ tail)) = part ∙ ap (λ (l : List Entry). old ++ (l ++ tail)) k.2 ∙ ap (λ (l : List Entry). old ++ l) (append_assoc xs ys tail) in
        let later : AreDue s (events_in old ++ events_in xs) ts = due_after s (events_in old) (events_in xs) t.0 k.3.0 ts due.2 k.3.2 due.3 in (
          one_sees t due.0 old xs (ys ++ tail) r here due.1 k.3 k.4,
          all_see ts rs (old ++ xs) ys tail (here ∙ sym (append_assoc old xs (ys ++ tail)))
              (subst (λ (l : List CoreEvent). AreDue s l ts) (sym (map-append (λ (x : Entry). x.event) old xs)) later) k.5,
        )

    -- the results of a session's lines say of the device what they should
    pub session_sees : (ts : List Request) (rs : List LineResult) → AreDue s [] ts → ShowSome b version [] ts (own_entries s entries) rs → SeenByAll base (told ++ more) after ts rs
    session_sees ts rs due k =
        subst (λ (l : List Request). SeenByAll base (told ++ more) after l rs) (sym k.4)
        (seen_more base (told ++ more) after k.0 k.1 rs
        (all_see k.0 rs [] k.2 k.3 k.5 (due_front s [] k.0 k.1 (subst (λ (l : List Request). AreDue s [] l) k.4 due)) k.6))
