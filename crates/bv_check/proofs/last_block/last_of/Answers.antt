use Rattle.std.proofs.Common.{arith, rules}
use Rattle.bv_check.proofs.LastLemmas.{one_block, some_blocks}
use Rattle.bv_check.proofs.last_block.last_of.Goals as goal

pub returns-then-bytes-le-BLOCK : goal.returns-then-bytes-le-BLOCK
returns-then-bytes-le-BLOCK c =
    one_block c.args.bytes.now (record { prefix = c.heading.result; block = c.filled.result }) c.requires.some
    (omega (arith, c.if-bytes-le-BLOCK.true)) c.heading.ensures c.filled.ensures

pub returns-else-bytes-le-BLOCK : goal.returns-else-bytes-le-BLOCK
returns-else-bytes-le-BLOCK c =
    some_blocks c.args.bytes.now (record { prefix = c.heading-else-bytes-le-BLOCK.result; block = c.digests_of.result })
    (omega (arith, c.if-bytes-le-BLOCK.false)) c.requires.window c.heading-else-bytes-le-BLOCK.ensures c.digests_of.ensures (search rules)
