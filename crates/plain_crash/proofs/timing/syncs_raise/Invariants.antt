-- All events keep it exactly if those that are left do, with the one before them.
use Rattle.std.proofs.Common.{◌<◌, IsTrue}
use Rattle.spec_core.specs.Synced.{tells_durable}
use Rattle.plain_crash.proofs.Nexts.{Left}
use Rattle.plain_crash.proofs.timing.syncs_raise.Given as goal

abbrev pub invariant-loop-i : goal.invariant-loop-i
invariant-loop-i l = Left (λ old new. IsTrue (tells_durable new.reply) → old.calls < new.calls) l.fn.h.history.events l.i
