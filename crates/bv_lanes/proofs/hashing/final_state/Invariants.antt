use Rattle.std.proofs.Common.{◌≡◌}
use Rattle.sha2.specs.Sha256.{hash_after, initial_hash_256, padded_message}
use Rattle.bv_lanes.specs.Lanes.{EachLane, lane_state}
use Rattle.bv_lanes.specs.Messages.{bytes_of, message_at}
use Rattle.bv_lanes.proofs.hashing.final_state.Given as goal

abbrev pub invariant-pieces : goal.invariant-pieces
invariant-pieces l = EachLane (λ j. lane_state j l.state
    ≡ hash_after initial_hash_256 (padded_message (bytes_of (message_at l.messages j))) l.piece)
