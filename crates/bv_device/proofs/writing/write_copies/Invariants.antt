use Rattle.std.proofs.Common.{◌≡◌, ◌+◌, ◌-◌, replicate, Result}
use Rattle.bv_device.specs.declared.failed.Failed.{Failed}
use Rattle.bv_device.specs.Plan.{writes}
use Rattle.bv_device.specs.Seen.{Seen, Performs}
use Rattle.bv_device.proofs.writing.write_copies.Given as goal

-- what performs the rest of the plan from here performs all of it
abbrev pub invariant-loop-done : goal.invariant-loop-done
invariant-loop-done g l = record {
  blocks : (g.D.Device.seen l.dev).block_count ≡ (g.D.Device.seen l.fn.dev).block_count;
  rest : (r : Result Unit Failed) (new : Seen) → Performs r (writes (l.at + l.done) (replicate (l.count - l.done) l.block)) (g.D.Device.seen l.dev) new
      → Performs r (writes l.at (replicate l.count l.block)) (g.D.Device.seen l.fn.dev) new;
}
