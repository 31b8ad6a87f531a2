-- What each kind of step tells its share.
use Rattle.std.specs.Prelude.{◌≡◌, ℕ, ◌^◌, ◌%◌, List, [], ◌∷◌, length, drop, Option, Some, None}
use Rattle.std.specs.List.{AllByRecursion}
use Rattle.atomic_table.specs.Table.{Me, Step}
use Rattle.bv_turn.specs.Entries.{numbered}
use Rattle.bv_turn.specs.Views.{view, noted, taken_of}
use Rattle.bv_turn.specs.declared.view.View.{View}

module _ {T E B : Type 0} where
  -- no ticket, no taken list, and the value isn't out with this seat
  abbrev pub Idle : Me T (View E B) → Type 0
  Idle m = (m.0.ticket ≡ None) × (m.0.taken ≡ None) × (m.1 ≡ [])

  -- an idle seat drew a ticket, which is this number modulo 2^64
  abbrev pub Waits : ℕ → View E B → Me T (View E B) → Type 0
  Waits number v m =
      (k : ℕ) × (k % 2 ^ 64 ≡ number) × (m.0 ≡ view v.parts (Some k) None) × (m.1 ≡ [])

  -- the view gains the ticket that was found
  abbrev pub Draws : Step T → Me T (View E B) → ℕ → Me T (View E B) → Type 0
  Draws st m found m' =
      (m'.1 ≡ m.1)
      × ((k : ℕ) × (k % 2 ^ 64 ≡ found) × (m'.0 ≡ view m.0.parts (Some k) m.0.taken))

  -- where the ticket is the expected one the view gains it, and else nothing changes
  abbrev pub DrawsExpected : Step T → Me T (View E B) → ℕ → Me T (View E B) → Type 0
  DrawsExpected st m found m' =
      (found ≡ st.first → Draws st m found m') × (¬ (found ≡ st.first) → m' ≡ m)

  -- ticket and taken list are spent, and the value went home
  abbrev pub Passes : Step T → Me T (View E B) → ℕ → Me T (View E B) → Type 0
  Passes st m found m' = (m'.1 ≡ []) × (m'.0 ≡ view m.0.parts None None)

module _ {T E B : Type 0} (session : E → ℕ) (entries : T → List E) (basis : T → B) where
  -- The value was at home and is out with this seat. Its entries are the taken list. Each part of
  -- the view has the value's basis, and its entries of the part's session
  abbrev pub Took : Me (Option T) (View E B) → Me (Option T) (View E B) → Type 0
  Took m m' =
      (x : T) × (m'.1 ≡ (0, Some x) ∷ []) × (m'.0 ≡ view m.0.parts m.0.ticket (Some (entries x)))
      × AllByRecursion
      (λ p. (p.basis ≡ basis x) × (p.entries ≡ numbered session p.session 0 (entries x)))
      m.0.parts

  -- the seat takes the value exactly where it found its own ticket
  abbrev pub Looks : Step (Option T) → Me (Option T) (View E B) → ℕ → Me (Option T) (View E B)
      → Type 0
  Looks st m found m' = (k : ℕ) → m.0.ticket ≡ Some k
      → (found ≡ k % 2 ^ 64 → Took m m') × (¬ (found ≡ k % 2 ^ 64) → m' ≡ m)

module _ {T E : Type 0} (entries : T → List E) where
  -- the entries of the value in the slot
  abbrev pub entries_or_empty : Option T → List E
  entries_or_empty (Some x) = entries x
  entries_or_empty None = []

  -- the entries of the value that was taken last
  abbrev pub carried : List (ℕ × Option T) → List E
  carried [] = []
  carried (x ∷ xs) = entries_or_empty x.1

  -- the view gains what the value has beyond the taken list
  abbrev pub Notes : {B : Type 0} → Step (Option T) → Me (Option T) (View E B) → ℕ
      → Me (Option T) (View E B) → Type 0
  Notes st m found m' =
      (m'.1 ≡ m.1) × (m'.0 ≡ noted m.0 (drop (length (taken_of m.0)) (carried m.1)))
