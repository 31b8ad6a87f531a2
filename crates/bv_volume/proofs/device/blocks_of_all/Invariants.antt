use Rattle.std.proofs.Common.{◌≡◌, take}
use Rattle.bv_volume.specs.Placed.{blocks_at}
use Rattle.bv_volume.proofs.device.blocks_of_all.Given as goal

abbrev pub invariant-loop-root : goal.invariant-loop-root
invariant-loop-root g l = l.all.items ≡ blocks_at (g.S.Store.seen l.fn.store).placed (take l.root-index l.roots)
