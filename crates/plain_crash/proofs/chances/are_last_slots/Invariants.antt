use Rattle.std.proofs.Common.{◌≡◌, ◌+◌, ◌%◌}
use Rattle.spec_record.specs.Geometry.{ring_slots}
use Rattle.spec_image.specs.Chance.{SameSlots}
use Rattle.plain_crash.proofs.chances.are_last_slots.Given as goal

-- the slots so far have the blocks that were written last
abbrev pub invariant-loop-ahead : goal.invariant-loop-ahead
invariant-loop-ahead l = record {
  at_is : l.at ≡ (l.slot + l._ahead) % ring_slots l.geometry;
  same : SameSlots l.geometry l.image l.last l.slot l._ahead;
}
