use Rattle.std.proofs.Common.{◌≡◌, ◌+◌, drop, Result}
use Rattle.bv_device.specs.declared.failed.Failed.{Failed}
use Rattle.bv_device.specs.Plan.{writes}
use Rattle.bv_device.specs.Seen.{Seen, Performs}
use Rattle.bv_device.proofs.writing.write_all.Given as goal

-- what performs the rest of the plan from here performs all of it
abbrev pub invariant-loop-block : goal.invariant-loop-block
invariant-loop-block g l = record {
  place : l.place ≡ l.at + l.block-index;
  blocks : (g.D.Device.seen l.dev).block_count ≡ (g.D.Device.seen l.fn.dev).block_count;
  rest : (r : Result Unit Failed) (new : Seen) → Performs r (writes l.place (drop l.block-index l.blocks)) (g.D.Device.seen l.dev) new
      → Performs r (writes l.at l.blocks) (g.D.Device.seen l.fn.dev) new;
}
