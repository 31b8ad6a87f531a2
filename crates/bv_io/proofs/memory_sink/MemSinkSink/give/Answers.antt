use Rattle.std.proofs.Common.{inl}
use Rattle.bv_io.proofs.memory_sink.MemSinkSink.give.Goals as goal

pub returns-then-fails_next-clause-cause : goal.returns-then-fails_next-clause-cause
returns-then-fails_next-clause-cause c = inl (rw (← c.self.view_is) (c.fails_next.ensures.named.0 c.if-fails_next.true))
