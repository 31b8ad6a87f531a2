-- An info block that is read has its one spelling.
use Rattle.std.proofs.Common.{rules, arith}
use Rattle.bv_entry.proofs.InfoLemmas.{read_is_spelled}
use Rattle.bv_entry.proofs.info.read_info.Goals as goal

pub returns-clause-ok : goal.returns-clause-ok
returns-clause-ok c =
    read_is_spelled c.args.block.now c.args.ring c.tested.result (record { length_is = search rules; bytes_fit = λ i. search rules }) (omega arith) c.tested.ensures
