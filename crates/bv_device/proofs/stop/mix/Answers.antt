use Rattle.std.proofs.Common.{◌+◌, ◌*◌, arith}
use Rattle.spec_disk.specs.Images.{written_to}
use Rattle.bv_device.specs.Stop.{byte_for}
use Rattle.bv_device.proofs.StopLemmas.{Contains-mixed}
use Rattle.bv_device.proofs.stop.mix.Goals as goal

pub returns-clause-left : goal.returns-clause-left
returns-clause-left c =
    Contains-mixed c.args.block.now (written_to c.args.at c.args.since.now) c.loop-s.block (λ t. byte_for c.args.choice.now (16 * c.args.opened + t)) c.loop-s.s (omega arith)
    c.loop-s.invariant.chosen c.loop-s.invariant.rest
