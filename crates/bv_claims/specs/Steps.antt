-- What each kind of step on a word tells the thread that made it.
use Rattle.std.specs.Prelude.{◌≡◌, ◌≢◌, ℕ, ◌+◌, ◌-◌, ◌/◌, ◌%◌, ◌^◌, ◌<◌, ◌≤◌}
use Rattle.std.specs.Int.{bit_at}
use Rattle.atomic_table.specs.Table.{Me, Step}
use Rattle.bv_claims.specs.declared.rule.View.{View}
use Rattle.bv_claims.specs.Blocks.{times, HasEachOnce, CoverAllFrom1}
use Rattle.bv_claims.specs.Views.{worth, after_win, after_loss, after_full_word, after_hold, after_free}
use Rattle.bv_claims.specs.Rule.{IsOutside}

-- a seat: its view, and the slots that it holds, which are none
abbrev pub Seated : Type 0
Seated = Me (Unit {0}) View

-- the step is on the word of the block b, and its operand has the bit of b alone
abbrev pub IsSetOf : Step (Unit {0}) → ℕ → Type 0
IsSetOf st b = (st.word ≡ b / 64) × (st.first ≡ 2 ^ (b % 64))

-- the step is on the word of the block b, and its operand has every bit but that of b
abbrev pub IsClearOf : Step (Unit {0}) → ℕ → Type 0
IsClearOf st b = (st.word ≡ b / 64) × (st.first + 2 ^ (b % 64) ≡ 2 ^ 64 - 1)

-- a claim: the block was free and is gained, or it was taken
abbrev pub ClaimTells : Step (Unit {0}) → Seated → ℕ → Seated → Type 0
ClaimTells st m found m' =
    (m'.1 ≡ m.1)
    × ((b : ℕ) → IsSetOf st b → (bit_at found (b % 64) ≡ 0 → m'.0 ≡ after_win b m.0)
    × (bit_at found (b % 64) ≢ 0 → m'.0 ≡ after_loss b m.0))

-- a look at a word: where every bit was 1, each block of the word was seen taken
abbrev pub LookTells : Step (Unit {0}) → Seated → ℕ → Seated → Type 0
LookTells st m found m' =
    (m'.1 ≡ m.1)
    × (found ≡ 2 ^ 64 - 1 → m'.0 ≡ after_full_word st.word m.0)
    × (found ≢ 2 ^ 64 - 1 → m'.0 ≡ m.0)

-- the boss holds a block out of its room
abbrev pub HoldTells : Step (Unit {0}) → Seated → ℕ → Seated → Type 0
HoldTells st m found m' =
    (m'.1 ≡ m.1)
    × ((b : ℕ) → IsSetOf st b → (0 < m.0.room) × (m'.0 ≡ after_hold b m.0))

-- the boss frees a block
abbrev pub FreeTells : Step (Unit {0}) → Seated → ℕ → Seated → Type 0
FreeTells st m found m' = (m'.1 ≡ m.1) × ((b : ℕ) → IsClearOf st b → m'.0 ≡ after_free b m.0)

-- What the rule says of the boss's own view: it owns no block twice and none outside the table,
-- it accounts for no more than there is, and once it owns or saw each block, it has no budget left.
pub record IsReviewed (v : View) : Type 0 where
  pub once : HasEachOnce v.owned
  pub within : (b : ℕ) → IsOutside v.blocks b → times b v.owned ≡ 0
  pub accounted : worth v ≤ v.blocks - 1
  pub complete : CoverAllFrom1 v.blocks v.owned v.saw → v.budget ≡ 0

-- a look of the boss that changes no view
abbrev pub ReviewTells : Step (Unit {0}) → Seated → ℕ → Seated → Type 0
ReviewTells st m found m' = (m' ≡ m) × IsReviewed m.0
