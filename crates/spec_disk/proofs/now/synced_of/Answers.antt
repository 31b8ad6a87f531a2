-- The synced part is that many events from the front.
use Rattle.std.proofs.Common.{◌≡◌, IfOk, subst}
use Rattle.spec_disk.specs.Disk.{now_after}
use Rattle.spec_disk.proofs.SyncedLemmas.{take-synced_len}
use Rattle.spec_disk.proofs.now.synced_of.Goals as goal

pub returns : goal.returns
returns c =
    subst (λ q. IfOk c.now_of.result (λ now. now.items ≡ now_after c.args.base.now q))
    (take-synced_len c.args.events.now c.synced_len.result c.synced_len.ensures.exact) c.now_of.ensures
