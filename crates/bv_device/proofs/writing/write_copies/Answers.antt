use Rattle.std.proofs.Common.{rules, ◌≡◌, ◌-◌, Ok, Err, arith}
use Rattle.std.proofs.lemmas.Result.{err_from_is_err_and}
use Rattle.bv_device.proofs.SeenLemmas.{Performs-nothing, Performs-copies, Performs-cut_copies}
use Rattle.bv_device.proofs.writing.write_copies.Goals as goal

pub returns-in_err-write : goal.returns-in_err-write
returns-in_err-write g c =
    let p = err_from_is_err_and c.from_residual.result c.from_residual.ensures.1 in
    let cut = Performs-cut_copies _ p.0 c.args.at c.loop-done.done c.args.count c.args.block.now _ _ (omega arith) c.in_err-write.ensures.performs in
    rw p.1 (c.loop-done.invariant.rest (Err p.0) (g.D.Device.seen c.write.new.self) cut)

pub loop-done-preserved : goal.loop-done-preserved
loop-done-preserved g c = record {
  blocks = search rules;
  rest = λ r new f. c.loop-done.invariant.rest r new (Performs-copies r c.args.at c.loop-done.done c.args.count c.args.block.now _ _ new (omega arith) c.in_ok-write.ensures.performs f);
}

pub returns : goal.returns
returns g c =
    let over : c.args.count - c.loop-done.done ≡ 0 = omega arith in
    c.loop-done.invariant.rest (Ok tt) (g.D.Device.seen c.loop-done.dev) (rw over (Performs-nothing _))
