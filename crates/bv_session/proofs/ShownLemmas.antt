-- Results that came of pages.
use Rattle.std.proofs.Common.{◌≡◌, ℕ, ◌<◌, ◌≤◌, List, [], ◌∷◌, ◌++◌, refl, sym, ap, ◌∙◌, subst, append_assoc}
use Rattle.std.specs.Prelude.{Option, Some, None, IsSome, IfOk, Ok, Err}
use Rattle.spec_core.specs.declared.act.Act.{Act}
use Rattle.spec_core.specs.declared.act.Act.TheVariants as acts
use Rattle.spec_core.specs.declared.event.CoreEvent.{CoreEvent}
use Rattle.spec_core.specs.declared.reply.Reply.{Reply}
use Rattle.spec_core.specs.declared.reply.Reply.TheVariants as replies
use Rattle.spec_session.specs.Conform.{Request}
use Rattle.spec_session.specs.Own.{Named, slot_holds}
use Rattle.spec_session.specs.declared.result.LineResult.{LineResult}
use Rattle.spec_session.specs.declared.result.LineResult.TheVariants as results
use Rattle.spec_served.specs.Answers.{read_of}
use Rattle.spec_served.specs.Device.{IsBytes, Range, blob_by, range_by}
use Rattle.spec_window.specs.Page.{Page, IsVerified}
use Rattle.bv_pager.specs.Range.{bytes_of, bytes_at}
use Rattle.bv_pager.specs.Reading.{IsReading, Reading, known_at}
use Rattle.bv_session.specs.declared.entry.Basis.{Basis}
use Rattle.bv_session.specs.declared.entry.Entry.{Entry}
use Rattle.bv_session.specs.Events.{IsRefusal, events_in}
use Rattle.bv_session.specs.Pages.{From, GrowsOpen, SlotFrom}
use Rattle.bv_session.specs.Sessions.{LineAnswer}
use Rattle.bv_session.specs.Shown.{AllGot, Came, CameFrom, FailedBy, Got, LineCame, LineShows, slot_by}
use Rattle.bv_session.specs.Windows.{KnowsBetween, known_of}
use Rattle.bv_session.proofs.PageLemmas.{append_nil}

some_is : {A : Type 0} {x y : A} → Some x ≡ Some y → x ≡ y
some_is {A} {x} {y} e = cc

-- ---- what a reader of the slot shows

module _ (b : Basis) (slot : ℕ) (r : Reading) (blob : Named) (is_root : r.root ≡ blob.0) (is_size : r.size ≡ blob.1) (es : List Entry)
    (from : SlotFrom b slot r es) (reading : IsReading r) where
  -- a page that it knows
  pub known_got : (w : ℕ) → IsSome (known_at r w) → (page : Page) × Got b slot blob es w page × IsVerified page × (bytes_at r w ≡ page.bytes)
  known_got w some = by_page (known_at r w) refl some where
    by_page : (o : Option Page) → known_at r w ≡ o → IsSome o → (page : Page) × Got b slot blob es w page × IsVerified page × (bytes_at r w ≡ page.bytes)
    by_page None is h = absurd (cc)
    by_page (Some p) is h =
        let of = reading.pages w p is in (
          p,
          record {
            name = of.name ∙ is_root;
            size = of.of_size ∙ is_size;
            place = of.place;
            from = subst (λ (x : Named). From b slot x es p) (λ i. (is_root i, is_size i)) (from w p is);
          },
          of.served.verified,
          ap bytes_of is,
        )

  pub all_got : (first past : ℕ) → KnowsBetween r first past → AllGot b slot blob es first past
  all_got first past known w low high = let got = known_got w (known w low high) in (got.0, got.1, got.2)

  -- the windows of a range are known
  pub whole_came : (range : Range) (n : ℕ) → KnowsBetween r range.windows.first range.windows.past → CameFrom b slot blob es range (results.Whole n)
  whole_came range n known = all_got range.windows.first range.windows.past known

  pub opened_came : (range : Range) (n : ℕ) → KnowsBetween r range.windows.first range.windows.past → CameFrom b slot blob es range (results.Opened n)
  opened_came range n known = all_got range.windows.first range.windows.past known

  -- the bytes of a read are cut out of them
  pub bytes_came : (range : Range) (q : LineResult) → KnowsBetween r range.windows.first range.windows.past → IsBytes (read_of blob.1 (known_of r) range.off range.len) q → CameFrom b slot blob es range q
  bytes_came range (results.Bytes bytes) known is = record {
    known = known_of r;
    pages = λ w low high. known_got w (known w low high);
    cut = is;
  }
  bytes_came range _ known is = absurd is

  -- a window at which the line ends, where those before it are known
  pub failed_came : (range : Range) (q : LineResult) (w : ℕ) → range.windows.first ≤ w → w < range.windows.past → KnowsBetween r range.windows.first w → FailedBy b slot blob es w q → CameFrom b slot blob es range q
  failed_came range (results.Mismatch m) w low high known f = record {
    window = w;
    low = low;
    high = high;
    page = f.0;
    got = f.1;
    failed = f.2;
    before = all_got range.windows.first w known;
  }
  failed_came range (results.ReadFault f) w low high known h = tt
  failed_came range _ w low high known h = absurd h

-- ---- lines

module _ (b : Basis) (slot : ℕ) (blob : Named) (range : Range) where
  -- a result that came of the entries while the slot stayed open
  pub came_open : (old new : List Entry) (q : LineResult) → GrowsOpen slot old new → CameFrom b slot blob new range q → Came b slot blob range old new q
  came_open old new q grows came = record {
    mid = grows.more;
    rest = [];
    is = grows.is ∙ ap (λ (xs : List Entry). old ++ xs) (append_nil grows.more);
    stays = grows.stays;
    came = subst (λ (xs : List Entry). CameFrom b slot blob xs range q) grows.is came;
  }

  -- and others were made behind
  pub came_behind : (old mid new more : List Entry) (q : LineResult) → GrowsOpen slot old mid → new ≡ mid ++ more → CameFrom b slot blob mid range q → Came b slot blob range old new q
  came_behind old mid new more q grows is came = record {
    mid = grows.more;
    rest = more;
    is = is ∙ ap (λ (xs : List Entry). xs ++ more) grows.is ∙ append_assoc old grows.more more;
    stays = grows.stays;
    came = subst (λ (xs : List Entry). CameFrom b slot blob xs range q) grows.is came;
  }

  -- of the entries after a line's own one
  line_came : (old mid new : List Entry) (own : Entry) (q : LineResult) → mid ≡ old ++ own ∷ [] → slot_holds slot (events_in mid) ≡ Some blob → (c : Came b slot blob range mid new q)
      → (new ≡ old ++ own ∷ (c.mid ++ c.rest)) × LineCame b slot blob range old own (c.mid ++ c.rest) q
  line_came old mid new own q is held c = (
    c.is ∙ ap (λ (xs : List Entry). xs ++ (c.mid ++ c.rest)) is ∙ append_assoc old (own ∷ []) (c.mid ++ c.rest),
    record {
      mid = c.mid;
      rest = c.rest;
      is = refl;
      held = ap (λ (xs : List Entry). slot_holds slot (events_in xs)) (sym is) ∙ held;
      stays = c.stays;
      came = subst (λ (xs : List Entry). CameFrom b slot blob xs range q) (ap (λ (xs : List Entry). xs ++ c.mid) is ∙ append_assoc old (own ∷ []) c.mid) c.came;
    },
  )

-- the line is about this blob and range
shows_by : (b : Basis) (old : List Entry) (t : Request) (own : Entry) (es : List Entry) (q : LineResult) (blob : Named) (range : Range)
    → blob_by (events_in old) t.1 own.event.reply ≡ Some blob → range_by blob.1 t.1 ≡ Some range → LineCame b (slot_by t.1) blob range old own es q → LineShows b old t (own ∷ es) q
shows_by b old t own es q blob range is_blob is_range came other ranged has_blob has_range =
    let same : blob ≡ other = some_is (sym is_blob ∙ has_blob) in
    let ranges : range ≡ ranged = some_is (sym is_range ∙ ap (λ (x : Named). range_by x.1 t.1) same ∙ has_range) in
    subst (λ (x : Named × Range). LineCame b (slot_by t.1) x.0 x.1 old own es q) (λ i. (same i, ranges i)) came

-- what was shown of a line that made its own entry and then others
pub line_shows : (b : Basis) (old mid new : List Entry) (t : Request) (own : Entry) (reply : Reply) (answer : LineAnswer) (blob : Named) (range : Range) → mid ≡ old ++ own ∷ [] → own.event.reply ≡ reply
    → blob_by (events_in old) t.1 reply ≡ Some blob → range_by blob.1 t.1 ≡ Some range → slot_holds (slot_by t.1) (events_in mid) ≡ Some blob
    → IfOk answer (λ q. Came b (slot_by t.1) blob range mid new q) → IfOk answer (λ q. (more : List Entry) × (new ≡ old ++ more) × LineShows b old t more q)
line_shows b old mid new t own reply (Ok q) blob range is replied is_blob is_range held c =
    let came = line_came b (slot_by t.1) blob range old mid new own q is held c in
    (own ∷ (c.mid ++ c.rest), came.0, shows_by b old t own (c.mid ++ c.rest) q blob range (ap (λ (x : Reply). blob_by (events_in old) t.1 x) replied ∙ is_blob) is_range came.1)
line_shows b old mid new t own reply (Err e) blob range is replied is_blob is_range held c = tt

-- a line that is about no blob
pub none_shows : (b : Basis) (old : List Entry) (t : Request) (es : List Entry) (q : LineResult) → ((reply : Reply) → blob_by (events_in old) t.1 reply ≡ None) → LineShows b old t es q
none_shows b old t [] q none = tt
none_shows b old t (own ∷ es) q none = λ blob range has ranged. let nothing = none own.event.reply in absurd (cc)

-- an own event that is refused is about none
pub refused_none : (es : List CoreEvent) (act : Act) (q : Reply) → IsRefusal q → blob_by es act q ≡ None
refused_none es (acts.Open slot root) (replies.Opened n) h = absurd h
refused_none es (acts.Open slot root) _ h = refl
refused_none es (acts.Read slot off len) replies.Reading h = absurd h
refused_none es (acts.Read slot off len) _ h = refl
refused_none es (acts.Scan slot) replies.Reading h = absurd h
refused_none es (acts.Scan slot) _ h = refl
refused_none es act q h = refl

pub refused_shows : (b : Basis) (old new : List Entry) (t : Request) (own : Entry) (reply : Reply) (q : LineResult) → new ≡ old ++ own ∷ [] → own.event.reply ≡ reply → IsRefusal reply
    → (more : List Entry) × (new ≡ old ++ more) × LineShows b old t more q
refused_shows b old new t own reply q is replied h = (
  own ∷ [],
  is,
  λ blob range has ranged.
      let none : blob_by (events_in old) t.1 own.event.reply ≡ None = ap (λ (x : Reply). blob_by (events_in old) t.1 x) replied ∙ refused_none (events_in old) t.1 reply h in
      absurd (cc),
)
