use Rattle.std.proofs.Common.{◌<◌, ◌∙◌, arith}
use Rattle.bv_session.proofs.ReadLemmas.{range_is}
use Rattle.bv_session.proofs.ranging.bytes_of.Goals as goal

pub returns-in-Ok : goal.returns-in-Ok
returns-in-Ok c =
    let inside : c.args.off < c.args.reader.now.size = omega arith in
    let some : 0 < c.args.len = omega arith in
    record { bytes = c.in-Ok.ensures.ok ∙ range_is c.args.reader.now c.args.off c.args.len c.requires.known c.requires.reading c.requires.len inside some }
