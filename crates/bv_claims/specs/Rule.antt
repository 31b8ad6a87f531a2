-- The rule of reservations, which ties the marks of the blocks to what the tokens know.
-- It is this project's own, and holds before and after every step of every thread.
use Rattle.std.specs.Prelude.{◌≡◌, ℕ, ◌+◌, ◌-◌, ◌/◌, ◌%◌, ◌<◌, ◌≤◌, true, false, List, [], ◌∷◌, slice_index, length, ◌⊎◌}
use Rattle.std.specs.Int.{bit_at}
use mathlib.Core.Option.{some}
use lib.ListN.{get_elem?}
use Rattle.atomic_table.specs.Table.{State}
use Rattle.bv_claims.specs.declared.rule.View.{View}
use Rattle.bv_claims.specs.Blocks.{times}
use Rattle.bv_claims.specs.Views.{worth, boss_count}

-- how many words hold one bit for each block
abbrev pub words_for : ℕ → ℕ
words_for blocks = (blocks + 63) / 64

-- the mark of the block b: bit b mod 64 of word b div 64
unfoldable pub mark : List ℕ → ℕ → ℕ
mark words b = bit_at (slice_index words (b / 64)) (b % 64)

-- the sum over all views
abbrev pub total : (View → ℕ) → List View → ℕ
total f [] = 0
total f (v ∷ vs) = f v + total f vs

-- how often the block stands in the view's owned list
abbrev pub owns : ℕ → View → ℕ
owns b v = times b v.owned

-- no block: block 0, which is taken for good, or one past the last
abbrev pub IsOutside : ℕ → ℕ → Type 0
IsOutside blocks b = (b ≡ 0) ⊎ (blocks ≤ b)

-- Only the boss, which is seat 0, has room. Each block that the boss saw taken is still taken,
-- since no one else frees.
abbrev pub FitsBoss : List ℕ → ℕ → View → Type 0
FitsBoss words id v =
    (v.boss ≡ true → id ≡ 0)
    × (v.boss ≡ false → v.room ≡ 0)
    × (v.boss ≡ true → (b : ℕ) → 0 < times b v.saw → mark words b ≡ 1)

-- each seat's view fits
abbrev pub AllFit : List ℕ → List View → Type 0
AllFit words views = (id : ℕ) (v : View) → get_elem? views id ≡ some v → FitsBoss words id v

-- The rule. A mark is 0 or 1, as a bit is. So by `marked` a block's mark is 1 exactly where the
-- block stands in one owned list, and it stands there once and in no other. Owned lists have only
-- blocks from 1 on (`within`), and the bits past the last block stay 0 (`past_end`). What is
-- owned, may be claimed or may be given out is all there is (`accounted`).
pub record IsReserved (blocks : ℕ) (s : State (Unit {0}) View) : Type 0 where
  pub counted : (2 ≤ blocks) × (length s.words ≡ words_for blocks)
  pub zero_taken : mark s.words 0 ≡ 1
  pub past_end : (b : ℕ) → blocks ≤ b → mark s.words b ≡ 0
  pub marked : (b : ℕ) → 1 ≤ b → b < blocks → mark s.words b ≡ total (owns b) s.views
  pub within : (b : ℕ) → IsOutside blocks b → total (owns b) s.views ≡ 0
  pub accounted : total worth s.views ≡ blocks - 1
  pub one_boss : total boss_count s.views ≡ 1
  pub fit : AllFit s.words s.views
