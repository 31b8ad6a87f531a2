use Rattle.spec_disk.proofs.ProgramLemmas.{holds_at, fails_at}
use Rattle.plain_crash.proofs.Nexts.{left_first, left_more, left_never, left_all}
use Rattle.plain_crash.proofs.timing.puts_raise_by_one.Goals as goal

pub loop-i-init : goal.loop-i-init
loop-i-init c = left_first

pub loop-i-preserved : goal.loop-i-preserved
loop-i-preserved c =
    left_more c.loop-i.invariant c.loop-i.auto.i _ c.loop-i-test.true
    (holds_at c.raises_one_where_written.result _ c.raises_one_where_written.ensures c.if-not-raises_one_where_written.false)

pub returns-then-not-raises_one_where_written : goal.returns-then-not-raises_one_where_written
returns-then-not-raises_one_where_written c =
    left_never c.loop-i.invariant c.loop-i.auto.i _ c.loop-i-test.true
    (fails_at c.raises_one_where_written.result _ c.raises_one_where_written.ensures c.if-not-raises_one_where_written.true)

pub returns : goal.returns
returns c = left_all c.loop-i.invariant c.loop-i.auto.i c.loop-i-test.false
