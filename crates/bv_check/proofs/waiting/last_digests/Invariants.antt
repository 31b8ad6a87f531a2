use Rattle.std.proofs.Common.{◌≡◌, length, map, take}
use Rattle.bv_lanes.specs.declared.message.Message.{Message}
use Rattle.bv_lanes.specs.Messages.{bytes_of}
use Rattle.bv_check.specs.declared.waiting.Waiting.{Waiting}
use Rattle.bv_check.specs.Last.{last_bytes}
use Rattle.bv_check.proofs.waiting.last_digests.Given as goal

-- the messages so far are those of the blobs
abbrev pub invariant-loop-i : goal.invariant-loop-i
invariant-loop-i l = record {
  eight : length l.messages ≡ 8;
  same : map (λ (m : Message). bytes_of m) (take l.i l.messages) ≡ map (λ (w : Waiting). last_bytes w.last) (take l.i l.waiting);
}
