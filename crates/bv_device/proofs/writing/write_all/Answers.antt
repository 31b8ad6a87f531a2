use Rattle.std.proofs.Common.{◌≡◌, [], drop, Ok, arith}
use Rattle.std.proofs.lemmas.List.{drop_all}
use Rattle.bv_device.proofs.SeenLemmas.{Performs-nothing}
use Rattle.bv_device.proofs.writing.write_all.Goals as goal

pub returns : goal.returns
returns g c =
    let over : drop c.loop-block.block-index c.args.blocks.now ≡ [] = drop_all c.loop-block.block-index c.args.blocks.now (omega arith) in
    c.loop-block.invariant.rest (Ok tt) (g.D.Device.seen c.loop-block.dev) (rw over (Performs-nothing _))
