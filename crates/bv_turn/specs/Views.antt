-- The views of a turn's seats as plain data, and how sessions move between them.
use Rattle.std.specs.Prelude.{◌≡◌, ℕ, zero, suc, ◌+◌, ◌==◌, ◌⊎◌, List, [], ◌∷◌, ◌++◌, length, if◌then◌else◌, Option, Some, None}
use mathlib.Core.Option.{some}
use lib.ListN.{get_elem?}
use Rattle.bv_turn.specs.declared.view.View.{View}
use Rattle.bv_turn.specs.declared.view.Part.{Part}

module _ {A : Type 0} where
  -- 1 where there is something
  abbrev pub one_if_some : Option A → ℕ
  one_if_some (Some a) = 1
  one_if_some None = 0

  -- the list, or the empty one
  abbrev pub list_or_empty : Option (List A) → List A
  list_or_empty (Some l) = l
  list_or_empty None = []

module _ {E B : Type 0} where
  -- the part of session s: the basis that it knows, and its entries with their numbers
  abbrev pub part : ℕ → B → List (ℕ × E) → Part E B
  part s b es = record { session = s; basis = b; entries = es }

  -- a view of these parts, with its ticket and its taken list, where it has them
  abbrev pub view : List (Part E B) → Option ℕ → Option (List E) → View E B
  view ps ticket taken = record { parts = ps; ticket = ticket; taken = taken }

  -- some part is of session s
  abbrev pub Has : ℕ → List (Part E B) → Type 0
  Has s [] = ⊥
  Has s (p ∷ ps) = (p.session ≡ s) ⊎ Has s ps

  -- how many parts are of session s
  abbrev pub count_of : ℕ → List (Part E B) → ℕ
  count_of s [] = 0
  count_of s (p ∷ ps) = (if p.session == s then 1 else 0) + count_of s ps

  -- the entries of the first part
  abbrev pub first_entries : List (Part E B) → List (ℕ × E)
  first_entries [] = []
  first_entries (p ∷ ps) = p.entries

  -- the basis of the first part
  abbrev pub first_basis : List (Part E B) → Option B
  first_basis [] = None
  first_basis (p ∷ ps) = Some p.basis

  -- the first part gains an entry with its number
  abbrev pub add_first : List (Part E B) → ℕ → E → List (Part E B)
  add_first [] n e = []
  add_first (p ∷ ps) n e = part p.session p.basis (p.entries ++ (n, e) ∷ []) ∷ ps

  -- the first part alone
  abbrev pub head_part : List (Part E B) → List (Part E B)
  head_part [] = []
  head_part (p ∷ ps) = p ∷ []

  -- all parts but the first
  abbrev pub tail_parts : List (Part E B) → List (Part E B)
  tail_parts [] = []
  tail_parts (p ∷ ps) = ps

  -- as many sessions, from s on, each with no entry
  abbrev pub fresh : ℕ → ℕ → B → List (Part E B)
  fresh s zero base = []
  fresh s (suc n) base = part s base [] ∷ fresh (s + 1) n base

  -- the first seat's view has all sessions
  abbrev pub opening : ℕ → B → View E B
  opening seats base = view (fresh 0 seats base) None None

  -- a split: the first session goes to a new view
  abbrev pub peeled : View E B → View E B
  peeled v = view (tail_parts v.parts) v.ticket v.taken

  -- the new view of a split: the first session alone
  abbrev pub peel : View E B → View E B
  peel v = view (head_part v.parts) None None

  -- a join: the second view's sessions go to the first, and nothing stays behind
  abbrev pub merged : View E B → View E B → View E B
  merged v w = view (w.parts ++ v.parts) v.ticket v.taken

  -- a view without a session, which is what a join leaves of the second
  abbrev pub gone : View E B
  gone = view [] None None

  -- a number of each view, added up
  abbrev pub total : (View E B → ℕ) → List (View E B) → ℕ
  total f [] = 0
  total f (v ∷ vs) = f v + total f vs

  -- 1 where the view has a ticket
  abbrev pub waits : View E B → ℕ
  waits v = one_if_some v.ticket

  -- the number of sessions
  abbrev pub sessions : View E B → ℕ
  sessions v = length v.parts

  -- how many parts of the view are of session s
  abbrev pub counts : ℕ → View E B → ℕ
  counts s v = count_of s v.parts

  -- F of the number of each view, and of the view
  abbrev pub EachView : (ℕ → View E B → Type 0) → List (View E B) → Type 0
  EachView F views = (id : ℕ) (v : View E B) → get_elem? views id ≡ some v → F id v

  -- the entries that the value had when the view's turn came
  abbrev pub taken_of : View E B → List E
  taken_of v = list_or_empty v.taken

  -- the view whose first part gains the first of these entries, if there is one
  abbrev pub noted : View E B → List E → View E B
  noted v [] = v
  noted v (e ∷ es) = view (add_first v.parts (length (taken_of v)) e) v.ticket v.taken
