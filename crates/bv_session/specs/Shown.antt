-- How the results of a session's lines came of pages.
use Rattle.std.specs.Prelude.{◌≡◌, ℕ, ◌+◌, ◌<◌, ◌≤◌, ◌⊎◌, Bool, true, false, List, [], ◌∷◌, ◌++◌, Option, Some, IfOk, Result, Ok}
use Rattle.std.specs.declared.alloc.AllocError.{AllocError}
use Rattle.spec_core.specs.declared.act.Act.{Act}
use Rattle.spec_core.specs.declared.act.Act.TheVariants as acts
use Rattle.spec_script.specs.declared.line.ScriptLine.{ScriptLine}
use Rattle.spec_script.specs.Tasks.{task_of}
use Rattle.spec_session.specs.Conform.{Request, own_act, request_of, requests_of}
use Rattle.spec_session.specs.Told.{who_of}
use Rattle.spec_session.specs.Lines.{Windows, all_windows, last_window, read_windows}
use Rattle.spec_session.specs.Own.{Named, slot_holds}
use Rattle.spec_session.specs.declared.result.LineResult.{LineResult}
use Rattle.spec_session.specs.declared.result.LineResult.TheVariants as results
use Rattle.spec_served.specs.Answers.{Known, read_of}
use Rattle.spec_served.specs.Device.{Range, blob_by, range_by}
use Rattle.spec_served.specs.Served.{ServesLine}
use Rattle.spec_window.specs.declared.mismatch.Mismatch.{Mismatch}
use Rattle.spec_window.specs.Mismatch.{first_mismatch}
use Rattle.spec_window.specs.Page.{Page, IsVerified}
use Rattle.bv_turn.specs.declared.keeps.Keeps.{Ghosts}
use Rattle.bv_turn.specs.declared.turn.Share.{Share}
use Rattle.bv_turn.specs.Tokens.{basis_of, list_of}
use Rattle.bv_session.specs.declared.entry.Basis.{Basis}
use Rattle.bv_session.specs.declared.entry.Entry.{Entry}
use Rattle.bv_session.specs.Events.{events_in}
use Rattle.bv_session.specs.Pages.{From, StaysOpen}
use Rattle.bv_session.specs.Sessions.{Ends, Grows, LineAnswer}
use Rattle.bv_session.specs.Windows.{KnowsBetween}
use Rattle.bv_pager.specs.Reading.{Reading}

-- ---- one result

-- the page is window w of a blob, and came of these entries
pub record Got (b : Basis) (slot : ℕ) (blob : Named) (entries : List Entry) (w : ℕ) (page : Page)
    : Type 0 where
  pub name : page.name ≡ blob.0
  pub size : page.size ≡ blob.1
  pub place : page.window ≡ w
  pub from : From b slot blob entries page

module _ (b : Basis) (slot : ℕ) (blob : Named) (entries : List Entry) where
  -- for each of these windows there is such a page, and it verifies
  abbrev pub AllGot : ℕ → ℕ → Type 0
  AllGot first past =
      (w : ℕ) → first ≤ w → w < past
      → (page : Page) × Got b slot blob entries w page × IsVerified page

  -- the bytes of a read are cut out of such pages
  pub record BytesCame (windows : Windows) (off len : ℕ) (bytes : List ℕ) : Type 0 where
    pub known : Known
    pub pages : (w : ℕ) → windows.first ≤ w → w < windows.past
        → (page : Page) × Got b slot blob entries w page × IsVerified page
        × (known.bytes w ≡ page.bytes)
    pub cut : bytes ≡ read_of blob.1 known off len

  -- the mismatch is the first failure of such a page, and those of all windows before it verify
  pub record MismatchCame (first past : ℕ) (m : Mismatch) : Type 0 where
    pub window : ℕ
    pub low : first ≤ window
    pub high : window < past
    pub page : Page
    pub got : Got b slot blob entries window page
    pub failed : first_mismatch page ≡ Some m
    pub before : AllGot first window

  -- the result of a line over these windows came of such pages: of a fault nothing is said
  abbrev pub CameFrom : Range → LineResult → Type 0
  CameFrom range (results.Bytes bytes) = BytesCame range.windows range.off range.len bytes.items
  CameFrom range (results.Mismatch m) = MismatchCame range.windows.first range.windows.past m
  CameFrom range (results.ReadFault f) = Unit {0}
  CameFrom range r = AllGot range.windows.first range.windows.past

-- the result of a line that ends at window w: of a mismatch its page came so
abbrev pub FailedBy : Basis → ℕ → Named → List Entry → ℕ → LineResult → Type 0
FailedBy b slot blob entries w (results.Mismatch m) =
    (page : Page) × Got b slot blob entries w page × (first_mismatch page ≡ Some m)
FailedBy b slot blob entries w (results.ReadFault f) = Unit {0}
FailedBy b slot blob entries w r = ⊥

-- from old to new there are some entries during which the slot stays open, and then perhaps others;
-- the result came of those up to then
pub record Came (b : Basis) (slot : ℕ) (blob : Named) (range : Range) (old new : List Entry)
    (r : LineResult) : Type 0 where
  pub mid : List Entry
  pub rest : List Entry
  pub is : new ≡ old ++ (mid ++ rest)
  pub stays : StaysOpen slot mid
  pub came : CameFrom b slot blob (old ++ mid) range r

-- The entries behind a line's own one are some during which the slot stays open, and then perhaps
-- others; after its own one the slot held the blob; and its result came of those up to then.
pub record LineCame (b : Basis) (slot : ℕ) (blob : Named) (range : Range) (old : List Entry)
    (own : Entry) (es : List Entry) (r : LineResult) : Type 0 where
  pub mid : List Entry
  pub rest : List Entry
  pub is : es ≡ mid ++ rest
  pub held : slot_holds slot (events_in (old ++ own ∷ [])) ≡ Some blob
  pub stays : StaysOpen slot mid
  pub came : CameFrom b slot blob (old ++ own ∷ mid) range r

-- the ranges of an open, a scan and a read of a blob of this size
abbrev pub open_range : ℕ → Range
open_range size = record {
  windows = record { first = last_window size; past = last_window size + 1 };
  off = 0;
  len = 0;
}

abbrev pub scan_range : ℕ → Range
scan_range size = record { windows = all_windows size; off = 0; len = 0 }

abbrev pub read_range : ℕ → ℕ → ℕ → Range
read_range size off len = record { windows = read_windows size off len; off = off; len = len }

-- the slot of an open, read or scan
abbrev pub slot_by : Act → ℕ
slot_by (acts.Open slot root) = slot
slot_by (acts.Read slot off len) = slot
slot_by (acts.Scan slot) = slot
slot_by act = 0

-- what a line's result came of, where it is an open, read or scan whose own event went well: it made
-- the second entries after the first
abbrev pub LineShows : Basis → List Entry → Request → List Entry → LineResult → Type 0
LineShows b old t [] r = Unit {0}
LineShows b old t (own ∷ es) r =
    (blob : Named) (range : Range)
    → blob_by (events_in old) t.1 own.event.reply ≡ Some blob → range_by blob.1 t.1 ≡ Some range
    → LineCame b (slot_by t.1) blob range old own es r

-- ---- the results of a session

-- the entries are the join of those of each line, in order, and each line has its result, which came
-- of pages
abbrev pub ShowLines
    : Basis → ℕ → List Entry → List Request → List Entry → List LineResult → Type 0
ShowLines b version old [] es rs = (es ≡ []) × (rs ≡ [])
ShowLines b version old (t ∷ ts) es [] = ⊥
ShowLines b version old (t ∷ ts) es (r ∷ rs) =
    (xs : List Entry) × (ys : List Entry) × (es ≡ xs ++ ys)
    × ServesLine version (events_in old) t (events_in xs) r × LineShows b old t xs r
    × ShowLines b version (old ++ xs) ts ys rs

-- the same of some first lines, one for each result; further entries are behind them
abbrev pub ShowSome
    : Basis → ℕ → List Entry → List Request → List Entry → List LineResult → Type 0
ShowSome b version old ts es rs =
    (done : List Request) × (rest : List Request) × (xs : List Entry) × (ys : List Entry)
    × (ts ≡ done ++ rest) × (es ≡ xs ++ ys) × ShowLines b version old done xs rs

-- From old to new a line was done and its result noted, which came of pages, where it is of session s,
-- and else nothing; or it was cut short, and nothing is noted.
abbrev pub ShowsLine
    : Basis → ℕ → ℕ → ScriptLine → Bool → List Entry → List Entry → List LineResult
    → List LineResult → Type 0
ShowsLine b version s l true old new rs qs =
    ((l.session ≡ s)
    × ((r : LineResult) × (qs ≡ rs ++ r ∷ [])
    × Ends version (who_of l) (own_act (task_of l.command)) (Ok r) (events_in old) (events_in new)
    × ((more : List Entry) × (new ≡ old ++ more) × LineShows b old (request_of l) more r)))
    ⊎ (¬ (l.session ≡ s) × (new ≡ old) × (qs ≡ rs))
ShowsLine b version s l false old new rs qs = (qs ≡ rs) × Grows old new

module _ {T : Type 0} {k : Ghosts T Entry Basis} where
  -- each result of a session's lines came of pages that its share's entries brought
  abbrev pub LinesShow
      : ℕ → List ScriptLine → ℕ → Share T Entry Basis k → List LineResult → Type 0
  LinesShow version lines s share rs =
      (b : Basis) → basis_of share ≡ Some b
      → ShowSome b version [] (requests_of s lines) (list_of share) rs

  -- from old to new a line was done with this result, which came of pages
  abbrev pub Shows : Share T Entry Basis k → Share T Entry Basis k → Request → LineAnswer → Type 0
  Shows old new t answer =
      (b : Basis) → basis_of old ≡ Some b
      → IfOk answer (λ r. (more : List Entry) × (list_of new ≡ list_of old ++ more)
      × LineShows b (list_of old) t more r)

  -- the same of a line of a script
  abbrev pub ShowsNext
      : ℕ → ℕ → ScriptLine → Bool → Share T Entry Basis k → Share T Entry Basis k
      → List LineResult → List LineResult → Type 0
  ShowsNext version s l whole old new rs qs =
      (b : Basis) → basis_of old ≡ Some b
      → ShowsLine b version s l whole (list_of old) (list_of new) rs qs

  -- from old to new the result of a line about this blob came of pages of the slot
  abbrev pub SlotShows
      : ℕ → Named → Range → Share T Entry Basis k → Share T Entry Basis k → LineAnswer → Type 0
  SlotShows slot blob range old new answer =
      (b : Basis) → basis_of old ≡ Some b
      → IfOk answer (λ r. Came b slot blob range (list_of old) (list_of new) r)

  -- a line that ends at this window of the reader's blob
  abbrev pub EndsAt
      : ℕ → Share T Entry Basis k → Reading → ℕ → Result (Option LineResult) AllocError → Type 0
  EndsAt slot s r w (Ok (Some q)) =
      (b : Basis) → basis_of s ≡ Some b
      → FailedBy b slot (r.root, r.size) (list_of s) w q
  EndsAt slot s r w _ = Unit {0}

  -- a line that ends at one of these windows, those before which are known
  abbrev pub EndsWithin
      : ℕ → Share T Entry Basis k → Reading → ℕ → ℕ → Result (Option LineResult) AllocError
      → Type 0
  EndsWithin slot s r first past (Ok (Some q)) =
      (w : ℕ) × (first ≤ w) × (w < past) × KnowsBetween r first w × EndsAt slot s r w (Ok (Some q))
  EndsWithin slot s r first past _ = Unit {0}
