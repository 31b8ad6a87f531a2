-- What a search for free blocks changes in the view of a seat and in its list of gains.
use Rattle.std.specs.Prelude.{◌≡◌, ℕ, ◌+◌, ◌<◌, ◌≤◌, List, ◌++◌, length}
use Rattle.bv_claims.specs.declared.rule.View.{View}
use Rattle.bv_claims.specs.Blocks.{times, IsPartOf, HasEachOnce, Rises}
use Rattle.bv_claims.specs.Rule.{IsOutside}

-- The blocks from `low` on and below `high` were searched, with the view v and the gains had
-- before it, and w and has after it. Where a budget is left, each of these blocks was tried.
pub record HasSearched (low high : ℕ) (v : View) (had : List ℕ) (w : View) (has : List ℕ)
    : Type 0 where
  pub more : List ℕ
  pub rising : Rises low more high
  pub owned : w.owned ≡ v.owned ++ more
  pub listed : has ≡ had ++ more
  pub budget : w.budget + length more ≡ v.budget
  pub saw : IsPartOf v.saw w.saw
  pub same : (w.boss ≡ v.boss) × (w.blocks ≡ v.blocks) × (w.room ≡ v.room)
  pub tried : 0 < w.budget → (b : ℕ) → low ≤ b → b < high → 0 < times b w.owned + times b w.saw

-- The boss with view v took over the gains had and a budget of left, and has spent it: with the
-- view w it owns the gains has besides, each block once and within the table.
pub record HasCompleted (v : View) (had : List ℕ) (left : ℕ) (w : View) (has : List ℕ)
    : Type 0 where
  pub owned : w.owned ≡ v.owned ++ has
  pub count : length has ≡ length had + left
  pub kept : IsPartOf had has
  pub spent : w.budget ≡ 0
  pub same : (w.boss ≡ v.boss) × (w.blocks ≡ v.blocks) × (w.room ≡ v.room)
  pub once : HasEachOnce w.owned
  pub within : (b : ℕ) → IsOutside w.blocks b → times b w.owned ≡ 0
  pub accounted : length w.owned + w.room < w.blocks
