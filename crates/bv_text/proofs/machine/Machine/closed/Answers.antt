use Rattle.std.proofs.Common.{refl}
use Rattle.bv_text.proofs.machine.Machine.closed.Goals as goal

pub returns-in_ok-let_go-clause-state : goal.returns-in_ok-let_go-clause-state
returns-in_ok-let_go-clause-state c =
    rw (c.in_ok-let_go.ensures.state, ← c.self.view_is, c.in-Closed.is, ← c.in-Some.ensures.value, c.in-Some.ensures.entries) refl
