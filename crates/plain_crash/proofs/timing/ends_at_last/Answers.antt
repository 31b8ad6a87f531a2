use Rattle.std.proofs.Common.{◌≡◌, length}
use Rattle.spec_core.specs.declared.event.CoreEvent.{CoreEvent}
use Rattle.plain_crash.proofs.Nexts.{last_is}
use Rattle.plain_crash.proofs.timing.ends_at_last.Goals as goal

pub returns-in-len1-up : goal.returns-in-len1-up
returns-in-len1-up c =
    let last = last_is (λ (e : CoreEvent). e.calls ≡ length c.args.events.now) c.args.h.now.history.events _ (rw c.events.ensures at c.in-len1-up.len_at_least) in
    let at = rw c.events.ensures at c.is_at_last.ensures in
    (λ yes. last.1 (at.0 yes), λ ends. at.1 (last.0 ends))
