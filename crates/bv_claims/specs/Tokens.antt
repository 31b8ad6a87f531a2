-- What a contract sees of the table and of its tokens.
use Rattle.std.specs.Prelude.{◌≡◌, ℕ, ◌+◌, ◌<◌, ◌≤◌, List, length}
use Rattle.bv_claims.specs.declared.claims.Claims.{Claims}
use Rattle.bv_claims.specs.declared.boss.Boss.{Boss}
use Rattle.bv_claims.specs.declared.grant.Grant.{Grant}
use Rattle.bv_claims.specs.declared.claimed.Claimed.{Claimed}
use Rattle.bv_claims.specs.Blocks.{times, HasEachOnce}

-- the number of the table's blocks
abbrev pub block_count : Claims → ℕ
block_count c = c.blocks

-- the blocks that the boss owns
abbrev pub boss_owned : Boss → List ℕ
boss_owned b = b.seat.me.0.owned

-- how many blocks the boss may still give out
abbrev pub boss_room : Boss → ℕ
boss_room b = b.room

-- how many blocks the grant is for
abbrev pub grant_need : Grant → ℕ
grant_need g = g.tally.left

-- the block from which on the grant is claimed
abbrev pub grant_start : Grant → ℕ
grant_start g = g.start

-- the blocks that the token gained, all of which it owns, in the order in which they were won
abbrev pub claimed_gained : Claimed → List ℕ
claimed_gained c = c.tally.gained.items

-- the blocks that the token tried and saw taken
abbrev pub claimed_saw : Claimed → List ℕ
claimed_saw c = c.seat.me.0.saw

-- how many blocks of the need the token did not gain
abbrev pub claimed_left : Claimed → ℕ
claimed_left c = c.tally.left

-- The boss is of this table. It owns blocks from 1 on, each once, and with what it may still give
-- out they are no more than there are.
pub record IsBossOf (c : Claims) (b : Boss) : Type 0 where
  pub table : b.seat.table_id ≡ c.table.shared.table_id
  pub blocks : b.seat.me.0.blocks ≡ c.blocks
  pub within : (k : ℕ) → 0 < times k (boss_owned b) → (1 ≤ k) × (k < block_count c)
  pub once : HasEachOnce (boss_owned b)
  pub accounted : length (boss_owned b) + boss_room b < block_count c

-- the grant is of this table, and begins at one of its blocks
pub record IsGrantOf (c : Claims) (g : Grant) : Type 0 where
  pub table : g.seat.table_id ≡ c.table.shared.table_id
  pub start : grant_start g < block_count c

-- the claimed token is of this table
pub record IsClaimedOf (c : Claims) (t : Claimed) : Type 0 where
  pub table : t.seat.table_id ≡ c.table.shared.table_id
