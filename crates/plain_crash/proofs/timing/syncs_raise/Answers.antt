use Rattle.spec_disk.proofs.ProgramLemmas.{holds_at, fails_at}
use Rattle.plain_crash.proofs.Nexts.{left_first, left_more, left_never, left_all}
use Rattle.plain_crash.proofs.timing.syncs_raise.Goals as goal

pub loop-i-init : goal.loop-i-init
loop-i-init c = left_first

pub loop-i-preserved : goal.loop-i-preserved
loop-i-preserved c =
    left_more c.loop-i.invariant c.loop-i.auto.i _ (rw c.events-events.ensures at c.loop-i-test.true)
    (rw c.events-events.ensures at (holds_at c.rises_where_durable.result _ c.rises_where_durable.ensures c.if-not-rises_where_durable.false))

pub returns-then-not-rises_where_durable : goal.returns-then-not-rises_where_durable
returns-then-not-rises_where_durable c =
    left_never c.loop-i.invariant c.loop-i.auto.i _ (rw c.events-events.ensures at c.loop-i-test.true)
    (rw c.events-events.ensures at (fails_at c.rises_where_durable.result _ c.rises_where_durable.ensures c.if-not-rises_where_durable.true))

pub returns : goal.returns
returns c = left_all c.loop-i.invariant c.loop-i.auto.i (rw c.events-events.ensures at c.loop-i-test.false)
