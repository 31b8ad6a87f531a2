-- The rule of shares: what is true of a turn's words, its slot and its views between any two steps.
use Rattle.std.specs.Prelude.{◌≡◌, ℕ, ◌+◌, ◌^◌, ◌%◌, ◌<◌, ◌≤◌, ◌⊎◌, List, [], ◌∷◌, ◌++◌, length, Option, Some}
use Rattle.std.specs.List.{AllByRecursion}
use mathlib.Core.Option.{some, none}
use lib.ListN.{get_elem?}
use Rattle.atomic_table.specs.Table.{State}
use Rattle.bv_turn.specs.Entries.{numbered}
use Rattle.bv_turn.specs.Views.{Has, EachView, total, waits, sessions, counts}
use Rattle.bv_turn.specs.declared.view.View.{View}
use Rattle.bv_turn.specs.declared.view.Part.{Part}

-- What the words stand for: the history as one list, the tickets that were drawn and served so far,
-- counted from 0 and without end, and the number of the view in which a ticket stands.
pub record Account (E : Type 0) : Type 0 where
  pub history : List E
  pub drawn : ℕ
  pub served : ℕ
  pub who : ℕ → ℕ

module _ {E B : Type 0} (session : E → ℕ) (seats : ℕ) (base : B) where
  -- a session below `seats` with the basis, and its entries are those of the history
  abbrev pub FitsPart : Account E → Part E B → Type 0
  FitsPart x p =
      (p.session < seats) × (p.basis ≡ base)
      × (p.entries ≡ numbered session p.session 0 x.history)

  -- a ticket was drawn and isn't spent. It stands in this view alone, which has a session
  abbrev pub FitsTicket : Account E → ℕ → View E B → Type 0
  FitsTicket x id v = (k : ℕ) → v.ticket ≡ Some k
      → (x.served ≤ k) × (k < x.drawn) × (x.who k ≡ id) × (0 < length v.parts)

  -- Only the view that is served has a taken list. The history is that list with at most one entry
  -- more, which is of a session of this view
  abbrev pub FitsTaken : Account E → View E B → Type 0
  FitsTaken x v = (l : List E) → v.taken ≡ Some l
      → (v.ticket ≡ Some x.served)
      × ((x.history ≡ l) ⊎ ((e : E) × (x.history ≡ l ++ e ∷ []) × Has (session e) v.parts))

  -- a view is what this account says of it: of its parts, its ticket and its taken list
  pub record Fits (x : Account E) (id : ℕ) (v : View E B) : Type 0 where
    pub parts : AllByRecursion (FitsPart x) v.parts
    pub ticket : FitsTicket x id v
    pub taken : FitsTaken x v

  -- the view that is served has a taken list
  abbrev pub Holder : Account E → List (View E B) → Type 0
  Holder x views =
      (v : View E B) × (get_elem? views (x.who x.served) ≡ some v)
      × (v.ticket ≡ Some x.served) × ((l : List E) × (v.taken ≡ Some l))

  module _ {T : Type 0} (entries : T → List E) (basis : T → B) where
    -- the whole rule: some account fits the words, the slot and every view
    pub record OfShares (s : State (Option T) (View E B)) : Type 0 where
      pub account : Account E
      pub few : seats ≤ 16
      -- the words `ticket`, `serving` and `notes`
      pub words : s.words
          ≡ account.drawn % 2 ^ 64 ∷ account.served % 2 ^ 64 ∷ length account.history ∷ []
      pub fits : EachView (Fits account) s.views
      -- each ticket from `serving` on, before `ticket`, stands in a view, and no view has another
      pub tickets : (k : ℕ) → account.served ≤ k → k < account.drawn
          → (v : View E B) × (get_elem? s.views (account.who k) ≡ some v) × (v.ticket ≡ Some k)
      pub waiting : account.drawn ≡ account.served + total waits s.views
      -- each session stands in one view, and each entry is of a session
      pub shared : total sessions s.views ≡ seats
      pub once : (n : ℕ) → n < seats → total (counts n) s.views ≡ 1
      pub owned : AllByRecursion (λ e. session e < seats) account.history
      pub one_slot : length s.homes ≡ 1
      -- the value is out only to the view that is served, and while a view has a taken list
      pub away : get_elem? s.homes 0 ≡ some none → Holder account s.views
      pub out : EachView (λ _ v. (l : List E) → v.taken ≡ Some l → get_elem? s.homes 0 ≡ some none)
          s.views
      -- a value at home has the history as its entries, and the basis
      pub home : (y : Option T) → get_elem? s.homes 0 ≡ some (some y)
          → (x : T) × (y ≡ Some x) × (entries x ≡ account.history) × (basis x ≡ base)

module _ {T E B : Type 0} (session : E → ℕ) (entries : T → List E) (basis : T → B) where
  -- All sessions in one view: each part has the value's basis and its entries of the part's
  -- session, and each entry is of a part
  pub record Closed (ps : List (Part E B)) (x : T) : Type 0 where
    pub parts : AllByRecursion
        (λ p. (p.basis ≡ basis x) × (p.entries ≡ numbered session p.session 0 (entries x))) ps
    pub owned : AllByRecursion (λ e. Has (session e) ps) (entries x)
