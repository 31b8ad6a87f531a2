use Rattle.spec_core.proofs.Once.{unlinked_roots_leave}
use Rattle.spec_core.proofs.laws.unlinked_roots_leave_or_are_queued.Goals as goal

pub returns : goal.returns
returns c = unlinked_roots_leave
