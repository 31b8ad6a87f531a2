-- What a share's lines show of the pages of its slots.
use Rattle.std.proofs.Common.{◌≡◌, ℕ, ◌+◌, ◌<◌, ◌≤◌, List, [], ◌∷◌, ◌++◌, refl, sym, ap, ◌∙◌, subst, inl, inr, arith}
use Rattle.std.specs.Prelude.{Option, Some, None, IsSome, IfOk, IfSome, Result, Ok, Err}
use Rattle.std.specs.declared.alloc.AllocError.{AllocError}
use Rattle.spec_core.specs.declared.act.Act.{Act}
use Rattle.spec_core.specs.declared.act.Act.TheVariants.{Fetch}
use Rattle.spec_core.specs.declared.event.CoreEvent.{CoreEvent}
use Rattle.spec_core.specs.declared.reply.Reply.{Reply}
use Rattle.spec_core.specs.declared.reply.Reply.TheVariants.{Fetched, ReadFault}
use Rattle.spec_core.specs.declared.who.Who.{Who}
use Rattle.spec_session.specs.Lines.{fetches}
use Rattle.spec_session.specs.Own.{Named, slot_holds}
use Rattle.spec_session.specs.declared.result.LineResult.{LineResult}
use Rattle.spec_session.specs.declared.result.LineResult.TheVariants as results
use Rattle.spec_served.specs.Answers.{IsReply, read_of}
use Rattle.spec_served.specs.Device.{IsBytes, Range, blob_by, range_by}
use Rattle.bv_pager.specs.Reading.{IsReading, Reading, known_at, page_in}
use Rattle.bv_proof.specs.declared.raw.RawWindow.{RawWindow}
use Rattle.bv_turn.specs.declared.keeps.Keeps.{Ghosts}
use Rattle.bv_turn.specs.declared.turn.Share.{Share}
use Rattle.bv_turn.specs.declared.turn.Turn.{Turn}
use Rattle.bv_turn.specs.Tokens.{basis_of, list_of}
use Rattle.bv_session.specs.declared.entry.Basis.{Basis}
use Rattle.bv_session.specs.declared.entry.Entry.{Entry}
use Rattle.bv_session.specs.Disk.{AreThere, IsOnDisk}
use Rattle.bv_session.specs.Events.{IsReadFault, IsRefusal}
use Rattle.bv_session.specs.Pages.{Brought, From, GrowsOpen, IsKept, ReaderKnows, SlotFrom}
use Rattle.bv_session.specs.Sessions.{Gains, LineAnswer, Stays, own}
use Rattle.bv_session.specs.Shown.{CameFrom, EndsAt, EndsWithin, FailedBy, Shows, SlotShows, slot_by}
use Rattle.bv_session.specs.Windows.{FetchesSome, Finds, FindsRange, IsFirst, KnowsBetween, Made, MayFetch, known_of}
use Rattle.bv_session.proofs.PageLemmas.{disk_there, from_last, one_entry, slot_loads}
use Rattle.bv_session.proofs.ShownLemmas.{bytes_came, came_behind, came_open, failed_came, line_shows, none_shows, opened_came, refused_shows, whole_came}
use Rattle.bv_session.proofs.SlotLemmas.{failed_open, fetches_open, reader_stays, share_moves, share_one}
use Rattle.bv_session.proofs.WindowLemmas.{slot_gains}

-- ---- one window

-- a fetch that was refused
pub read_failed : (b : Basis) (slot : ℕ) (blob : Named) (es : List Entry) (w : ℕ) (q : Reply) (r : LineResult) → IsReadFault q → IsReply q r → FailedBy b slot blob es w r
read_failed b slot blob es w (ReadFault f) r h is = subst (λ (x : LineResult). FailedBy b slot blob es w x) (sym is) tt
read_failed b slot blob es w _ r h is = absurd h

-- a window that was fetched is taken in
module _ {T : Type 0} {k : Ghosts T Entry Basis} (t : Turn T Entry Basis) (old new : Share T Entry Basis k) (stays : Stays t old new)
    (who : Who) (slot w : ℕ) (reader made : Reading) (raw : RawWindow) (place : raw.window ≡ w) (holds : slot_holds slot (own old) ≡ Some (reader.root, reader.size))
    (gain : Gains who (Fetch slot w) Fetched (own old) (own new)) (knows : ReaderKnows slot old reader)
    (brought : Brought slot old new (λ b e. IfSome (slot_holds slot (own old)) (λ blob. IsOnDisk b blob e raw))) where
  came : (b : Basis) → basis_of new ≡ Some b → From b slot (reader.root, reader.size) (list_of new) (page_in reader raw)
  came b has =
      let e = brought.0 in
      let disk : IsOnDisk b (reader.root, reader.size) e raw = subst (λ (o : Option Named). IfSome o (λ blob. IsOnDisk b blob e raw)) holds (brought.3 b (sym stays.basis ∙ has)) in
      let held : slot_holds slot (own new) ≡ Some (reader.root, reader.size) = slot_gains slot who (Fetch slot w) Fetched (own old) (own new) gain ∙ holds in
      from_last b slot (reader.root, reader.size) (list_of old) (list_of new) e (page_in reader raw) brought.1 brought.2 held (disk_there b (reader.root, reader.size) e (page_in reader raw) disk)

  stayed : ReaderKnows slot new reader
  stayed = reader_stays t old new stays slot reader (share_one t old new stays slot who (Fetch slot w) Fetched gain (λ x. x)) knows

  pub load_pages : (result : Result (Option LineResult) AllocError) → Made reader raw made result → ReaderKnows slot new made
  load_pages (Ok None) is b has = slot_loads b slot reader made raw.window (page_in reader raw) (list_of new) is.0 is.1 (stayed b has) (came b has)
  load_pages (Ok (Some r)) is b has = subst (λ (x : Reading). SlotFrom b slot x (list_of new)) (sym is.0) (stayed b has)
  load_pages (Err e) is b has = subst (λ (x : Reading). SlotFrom b slot x (list_of new)) (sym is) (stayed b has)

  first_failed : (b : Basis) (r : LineResult) → IsFirst (page_in reader raw) r → From b slot (reader.root, reader.size) (list_of new) (page_in reader raw) → FailedBy b slot (reader.root, reader.size) (list_of new) w r
  first_failed b (results.Mismatch m) first from = (page_in reader raw, record { name = refl; size = refl; place = place; from = from }, first)
  first_failed b _ first from = absurd first

  pub load_shows : (result : Result (Option LineResult) AllocError) → Made reader raw made result → EndsAt slot new made w result
  load_shows (Ok None) is = tt
  load_shows (Ok (Some r)) is = λ b has. subst (λ (x : Reading). FailedBy b slot (x.root, x.size) (list_of new) w r) (sym is.0) (first_failed b r is.1 (came b has))
  load_shows (Err e) is = tt

-- a reader whose pages were kept, where it has some
pub opened_knows : {T : Type 0} {k : Ghosts T Entry Basis} (t : Turn T Entry Basis) (old new : Share T Entry Basis k) → Stays t old new → (slot : ℕ) (there : Option Reading) (r : Reading)
    → Brought slot old new (λ b e. IfSome there (AreThere b e)) → IsKept there r → slot_holds slot (own new) ≡ Some (r.root, r.size) → ReaderKnows slot new r
opened_knows t old new stays slot there r brought kept holds b has w p known =
    let at : AreThere b brought.0 r = subst (λ (o : Option Reading). IfSome o (AreThere b brought.0)) (kept w p known) (brought.3 b (sym stays.basis ∙ has)) in
    from_last b slot (r.root, r.size) (list_of old) (list_of new) brought.0 p brought.1 brought.2 holds (at w p known)

-- ---- a range of windows

module _ {T : Type 0} {k : Ghosts T Entry Basis} (t : Turn T Entry Basis) (old new : Share T Entry Basis k) (stays : Stays t old new) (who : Who) (slot : ℕ) where
  some_grow : (first past : ℕ) → FetchesSome who slot first past (own old) (own new) → GrowsOpen slot (list_of old) (list_of new)
  some_grow first past f = share_moves t old new stays slot who (fetches slot f.0) f.2 (fetches_open slot slot f.0)

  pub range_grows : (first past : ℕ) (r : Reading) (result : Result (Option LineResult) AllocError) → FindsRange who slot first past r result (own old) (own new) → GrowsOpen slot (list_of old) (list_of new)
  range_grows first past r (Ok None) f = some_grow first past f.1
  range_grows first past r (Ok (Some q)) f = share_moves t old new stays slot who (fetches slot f.0 ++ (Fetch slot f.1, f.2) ∷ []) f.5 (failed_open slot slot f.1 f.2 f.0)
  range_grows first past r (Err e) f = some_grow first past f

  may_grow : (w : ℕ) → MayFetch who slot w (own old) (own new) → GrowsOpen slot (list_of old) (list_of new)
  may_grow w (inl s) = share_moves t old new stays slot who [] s tt
  may_grow w (inr s) = share_moves t old new stays slot who ((Fetch slot w, Fetched) ∷ []) s ((λ x. x), tt)

  pub window_grows : (w : ℕ) (r : Reading) (result : Result (Option LineResult) AllocError) → Finds who slot w r result (own old) (own new) → GrowsOpen slot (list_of old) (list_of new)
  window_grows w r (Ok None) f = may_grow w f.1
  window_grows w r (Ok (Some q)) f = share_moves t old new stays slot who ((Fetch slot w, f.0) ∷ []) f.2 ((λ x. x), tt)
  window_grows w r (Err e) f = may_grow w f

  module _ (r : Reading) (blob : Named) (is_root : r.root ≡ blob.0) (is_size : r.size ≡ blob.1) (pages : ReaderKnows slot new r) (reading : IsReading r)
      (grows : GrowsOpen slot (list_of old) (list_of new)) (range : Range) where
    from : (b : Basis) → basis_of old ≡ Some b → SlotFrom b slot r (list_of new)
    from b has = pages b (stays.basis ∙ has)

    -- all windows are known
    pub whole_shows : (n : ℕ) → KnowsBetween r range.windows.first range.windows.past → SlotShows slot blob range old new (Ok (results.Whole n))
    whole_shows n known b has = came_open b slot blob range (list_of old) (list_of new) (results.Whole n) grows (whole_came b slot r blob is_root is_size (list_of new) (from b has) reading range n known)

    pub opened_shows : (n : ℕ) → KnowsBetween r range.windows.first range.windows.past → SlotShows slot blob range old new (Ok (results.Opened n))
    opened_shows n known b has = came_open b slot blob range (list_of old) (list_of new) (results.Opened n) grows (opened_came b slot r blob is_root is_size (list_of new) (from b has) reading range n known)

    pub bytes_shows : (answer : LineAnswer) → KnowsBetween r range.windows.first range.windows.past → IfOk answer (IsBytes (read_of blob.1 (known_of r) range.off range.len)) → SlotShows slot blob range old new answer
    bytes_shows (Ok q) known is b has = came_open b slot blob range (list_of old) (list_of new) q grows (bytes_came b slot r blob is_root is_size (list_of new) (from b has) reading range q known is)
    bytes_shows (Err e) known is b has = tt

    -- the line ends at a window
    at_window : (b : Basis) → basis_of old ≡ Some b → (q : LineResult) (w : ℕ) → range.windows.first ≤ w → w < range.windows.past → KnowsBetween r range.windows.first w → EndsAt slot new r w (Ok (Some q)) → CameFrom b slot blob (list_of new) range q
    at_window b has q w low high known ends =
        failed_came b slot r blob is_root is_size (list_of new) (from b has) reading range q w low high known
        (subst (λ (x : Named). FailedBy b slot x (list_of new) w q) (λ i. (is_root i, is_size i)) (ends b (stays.basis ∙ has)))

    pub failed_shows : (q : LineResult) → EndsWithin slot new r range.windows.first range.windows.past (Ok (Some q)) → SlotShows slot blob range old new (Ok q)
    failed_shows q f b has = came_open b slot blob range (list_of old) (list_of new) q grows (at_window b has q f.0 f.1 f.2 f.3 f.4)

    -- and the slot is closed again
    pub shut_shows : (end : Share T Entry Basis k) → Stays t new end → (answer : LineAnswer) (q : LineResult) (w : ℕ) → range.windows.first ≤ w → w < range.windows.past → KnowsBetween r range.windows.first w → EndsAt slot new r w (Ok (Some q))
        → IfOk answer (λ x. x ≡ q) → SlotShows slot blob range old end answer
    shut_shows end shut (Ok x) q w low high known ends is b has =
        came_behind b slot blob range (list_of old) (list_of new) (list_of end) shut.grows.0 x grows shut.grows.1
        (subst (λ (y : LineResult). CameFrom b slot blob (list_of new) range y) (sym is) (at_window b has q w low high known ends))
    shut_shows end shut (Err e) q w low high known ends is b has = tt

-- the one window of an open
pub one_known : (r : Reading) (w last : ℕ) → w ≡ last → IsSome (known_at r w) → KnowsBetween r last (last + 1)
one_known r w last is some v low high = let same : w ≡ v = omega (arith, is, low, high) in subst (λ (n : ℕ). IsSome (known_at r n)) same some

pub none_known : (r : Reading) (w last : ℕ) → w ≡ last → KnowsBetween r last w
none_known r w last is v low high = absurd (omega (arith, is, low, high))

-- ---- lines

module _ {T : Type 0} {k : Ghosts T Entry Basis} (t : Turn T Entry Basis) (old mid : Share T Entry Basis k) (stays : Stays t old mid) (who : Who) (act : Act) where
  -- a line whose own event went well
  pub shows_line : (reply : Reply) → Gains who act reply (own old) (own mid) → (blob : Named) (range : Range) → blob_by (own old) act reply ≡ Some blob → range_by blob.1 act ≡ Some range
      → slot_holds (slot_by act) (own mid) ≡ Some blob → (new : Share T Entry Basis k) (answer : LineAnswer) → SlotShows (slot_by act) blob range mid new answer → Shows old new (who, act) answer
  shows_line reply gain blob range is_blob is_range held new answer shows b has =
      let one = one_entry (list_of old) (list_of mid) _ stays.grows gain.1 in
      line_shows b (list_of old) (list_of mid) (list_of new) (who, act) one.0 reply answer blob range one.1 (ap (λ (x : CoreEvent). x.reply) one.2) is_blob is_range held (shows b (stays.basis ∙ has))

  -- one whose own event was refused
  pub shows_refused : (q : Reply) (r : LineResult) → Gains who act q (own old) (own mid) → IsRefusal q → Shows old mid (who, act) (Ok r)
  shows_refused q r gain h b has =
      let one = one_entry (list_of old) (list_of mid) _ stays.grows gain.1 in
      refused_shows b (list_of old) (list_of mid) (who, act) one.0 q r one.1 (ap (λ (x : CoreEvent). x.reply) one.2) h

  -- one that is about no blob
  pub shows_none : (answer : LineAnswer) → ((es : List CoreEvent) (reply : Reply) → blob_by es act reply ≡ None) → Shows old mid (who, act) answer
  shows_none (Ok r) none b has = (stays.grows.0, stays.grows.1, none_shows b (list_of old) (who, act) stays.grows.0 r (none (own old)))
  shows_none (Err e) none b has = tt

-- the act of a line's request is what it computes to
pub shows_as : {T : Type 0} {k : Ghosts T Entry Basis} (old new : Share T Entry Basis k) (who : Who) (act own_one : Act) (answer : LineAnswer) → own_one ≡ act → Shows old new (who, act) answer → Shows old new (who, own_one) answer
shows_as old new who act own_one answer is = subst (λ (a : Act). Shows old new (who, a) answer) (sym is)
