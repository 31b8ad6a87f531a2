use Rattle.std.proofs.Common.{◌≡◌, ◌<◌, length, map}
use Rattle.spec_image.specs.Journal.{Journal}
use Rattle.plain_crash.specs.Placed.{placed_entry}
use Rattle.plain_crash.proofs.ChanceLemmas.{ArePlaced}
use Rattle.plain_crash.proofs.chances.with_slots.Given as goal

-- the entries so far stand where they were placed
abbrev pub invariant-loop-entry : goal.invariant-loop-entry
invariant-loop-entry l = record {
  within : l.slot < l.slots;
  placed_are : (j : Journal) → length j.ring ≡ l.slots → ArePlaced j l.fn.start l.yielded (map placed_entry l.placed.items) l.slot;
}
