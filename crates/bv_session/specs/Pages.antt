-- The pages that readers of a session's slots know, and the entries of which they came.
use Rattle.std.specs.Prelude.{◌≡◌, ℕ, List, [], ◌∷◌, ◌++◌, Option, Some, None, slice_index_or}
use Rattle.spec_core.specs.declared.act.Act.{Act}
use Rattle.spec_core.specs.declared.act.Act.TheVariants as acts
use Rattle.spec_session.specs.Own.{Named, slot_holds}
use Rattle.spec_window.specs.Page.{Page}
use Rattle.bv_pager.specs.Reading.{Reading, known_at}
use Rattle.bv_turn.specs.declared.keeps.Keeps.{Ghosts}
use Rattle.bv_turn.specs.declared.turn.Share.{Share}
use Rattle.bv_turn.specs.Tokens.{basis_of, list_of}
use Rattle.bv_session.specs.declared.entry.Basis.{Basis}
use Rattle.bv_session.specs.declared.entry.Entry.{Entry}
use Rattle.bv_session.specs.Disk.{IsPageThere}
use Rattle.bv_session.specs.Events.{events_in}

-- the act closes this slot
abbrev pub Closes : ℕ → Act → Type 0
Closes slot (acts.Close s) = s ≡ slot
Closes slot act = ⊥

-- none of these entries closes the slot
abbrev pub StaysOpen : ℕ → List Entry → Type 0
StaysOpen slot [] = Unit {0}
StaysOpen slot (e ∷ es) = ¬ (Closes slot e.event.act) × StaysOpen slot es

-- the act may bring pages of what this slot holds
abbrev pub Brings : ℕ → Act → Type 0
Brings slot (acts.Open s root) = s ≡ slot
Brings slot (acts.Fetch s window) = s ≡ slot
Brings slot act = ⊥

-- A page of a session's slot came of one of its entries: after this the slot held the blob, no entry
-- since has closed it, and the page is as the disk had it then.
pub record From (b : Basis) (slot : ℕ) (blob : Named) (entries : List Entry) (page : Page) : Type 0
  where
    pub before : List Entry
    pub entry : Entry
    pub rest : List Entry
    pub is : entries ≡ before ++ entry ∷ rest
    pub brings : Brings slot entry.event.act
    pub held : slot_holds slot (events_in (before ++ entry ∷ [])) ≡ Some blob
    pub stays : StaysOpen slot rest
    pub there : IsPageThere b blob entry page

-- each page that a reader of the slot knows came of these entries
abbrev pub SlotFrom : Basis → ℕ → Reading → List Entry → Type 0
SlotFrom b slot r entries =
    (w : ℕ) (p : Page) → known_at r w ≡ Some p → From b slot (r.root, r.size) entries p

-- if this reader knows a page it is the one that stood here
abbrev pub IsKept : Option Reading → Reading → Type 0
IsKept there r = (w : ℕ) (p : Page) → known_at r w ≡ Some p → there ≡ Some r

-- some entries more, none of which closes the slot
pub record GrowsOpen (slot : ℕ) (old new : List Entry) : Type 0 where
  pub more : List Entry
  pub is : new ≡ old ++ more
  pub stays : StaysOpen slot more

-- ---- slots

-- the reader of a slot
abbrev pub reader_at : List (Option Reading) → ℕ → Option Reading
reader_at readers slot = slice_index_or readers slot None

-- the readers of all other slots are what they were
abbrev pub SameBut : ℕ → List (Option Reading) → List (Option Reading) → Type 0
SameBut slot old new = (t : ℕ) → ¬ (t ≡ slot) → reader_at new t ≡ reader_at old t

module _ {T : Type 0} {k : Ghosts T Entry Basis} where
  -- each page that a reader of the share's slot knows came of the share's entries
  abbrev pub ReaderKnows : ℕ → Share T Entry Basis k → Reading → Type 0
  ReaderKnows slot s r = (b : Basis) → basis_of s ≡ Some b → SlotFrom b slot r (list_of s)

  -- the same of the reader of a slot, where it has one
  abbrev pub SlotKnows : ℕ → Share T Entry Basis k → List (Option Reading) → Type 0
  SlotKnows slot s readers =
      (r : Reading) → reader_at readers slot ≡ Some r → ReaderKnows slot s r

  -- the same of all slots
  abbrev pub SlotsKnow : Share T Entry Basis k → List (Option Reading) → Type 0
  SlotsKnow s readers = (slot : ℕ) → SlotKnows slot s readers

  -- the share gained one entry, which may bring pages of the slot, and this is said of it
  abbrev pub Brought
      : ℕ → Share T Entry Basis k → Share T Entry Basis k → (Basis → Entry → Type 0) → Type 0
  Brought slot old new P =
      (e : Entry) × (list_of new ≡ list_of old ++ e ∷ []) × Brings slot e.event.act
      × ((b : Basis) → basis_of old ≡ Some b → P b e)
