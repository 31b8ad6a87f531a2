use Rattle.std.proofs.Common.{ℕ, ◌*◌, List}
use Rattle.sha2.specs.Sha256.{IsRoundsAt}
use Rattle.bv_lanes.specs.Lanes.{EachLane, HasWords, lane_state, lane_words}
use Rattle.bv_lanes.proofs.compression.compress.Given as goal

abbrev pub invariant-turns : goal.invariant-turns
invariant-turns l = EachLane (λ j. (piece : List ℕ) → HasWords (lane_words j l.fn.words) piece
    → IsRoundsAt piece (lane_state j l.state) (lane_words j l.words) (lane_state j l.v) (16 * l.turn))
