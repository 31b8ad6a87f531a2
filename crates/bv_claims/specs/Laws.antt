-- What the rule of reservations says of any two tokens.
use Rattle.std.specs.Prelude.{◌≡◌, ◌≢◌, ℕ, ◌<◌}
use mathlib.Core.Option.{some}
use lib.ListN.{get_elem?}
use Rattle.atomic_table.specs.Table.{State}
use Rattle.bv_claims.specs.declared.rule.View.{View}
use Rattle.bv_claims.specs.Blocks.{times}
use Rattle.bv_claims.specs.Rule.{mark, IsReserved}

-- a block that one token owns is marked, and no other token owns it
abbrev pub NoBlockIsInTwoTokens : Type 0
NoBlockIsInTwoTokens =
    (blocks : ℕ) (s : State (Unit {0}) View) → IsReserved blocks s
    → (i j : ℕ) (v w : View) → i ≢ j → get_elem? s.views i ≡ some v → get_elem? s.views j ≡ some w
    → (b : ℕ) → 0 < times b v.owned → (mark s.words b ≡ 1) × (times b w.owned ≡ 0)
