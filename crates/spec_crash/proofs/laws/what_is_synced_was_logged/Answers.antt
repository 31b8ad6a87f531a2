-- Timing says that each sync makes a call of its own.
use Rattle.std.proofs.Common.{inl}
use Rattle.spec_core.proofs.Timing.{synced_is_logged}
use Rattle.spec_crash.proofs.laws.what_is_synced_was_logged.Goals as goal

pub returns : goal.returns
returns c = λ events h next calls legal timed. synced_is_logged h next calls legal (inl timed.syncs.own)
