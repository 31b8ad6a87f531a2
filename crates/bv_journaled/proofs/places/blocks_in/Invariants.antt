use Rattle.std.proofs.Common.{◌≡◌, take}
use Rattle.spec_image.specs.Stored.{blocks_of}
use Rattle.bv_journaled.proofs.places.blocks_in.Given as goal

-- the data blocks of the extents so far
abbrev pub invariant-loop-extent : goal.invariant-loop-extent
invariant-loop-extent l = l.blocks.items ≡ blocks_of (take l.extent-index l.extents)
