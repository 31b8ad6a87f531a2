use Rattle.std.proofs.Common.{arith}
use Rattle.std.proofs.lemmas.Grind.{common_steps}
use Rattle.bv_io.proofs.StreamLemmas.{Takes-held}
use Rattle.bv_io.proofs.memory_source.MemSourceSource.take.Goals as goal

pub returns-clause-ok : goal.returns-clause-ok
returns-clause-ok c =
    let held = Takes-held c.self.inside.bytes.items c.args.into.now c.self.inside.taken c.min-count.result (grind (arith, common_steps)) in
    grind (arith, common_steps, held)
