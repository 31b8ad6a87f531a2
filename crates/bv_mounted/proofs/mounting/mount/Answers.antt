use Rattle.bv_mounted.proofs.MountLemmas.{was_recovered, mounts, refused}
use Rattle.bv_mounted.proofs.mounting.mount.Goals as goal

pub start-requires-clause-told : goal.start-requires-clause-told
start-requires-clause-told g c =
    was_recovered c.args.inspected c.calls-opened.result (g.D.Device.seen c.args.dev) (g.D.Device.seen c.recover.new.dev) c.calls-opened.ensures.exact (g.met.D.Device.told_calls c.args.dev) c.requires.gives c.in-Ok-recover.ensures.performs

pub returns-in-Ok-recover-clause-ok : goal.returns-in-Ok-recover-clause-ok
returns-in-Ok-recover-clause-ok g c =
    mounts c.args.inspected c.args.claims.now c.calls-opened.result (g.D.Device.seen c.args.dev) (g.D.Device.seen c.recover.new.dev) c.in-Ok.prepared.ring c.start.result c.calls-opened.ensures.exact (g.met.D.Device.told_calls c.args.dev) c.requires.gives
    c.in-Ok-recover.ensures.performs c.start.ensures.history c.start.ensures.next c.start.ensures.spare c.start.ensures.claims c.start.ensures.store c.start.ensures.crash

pub returns-clause-err : goal.returns-clause-err
returns-clause-err g c =
    refused c.args.inspected (g.D.Device.seen c.args.dev) (g.D.Device.seen c.recover.new.dev) c.in-Err-recover.field-0 (g.met.D.Device.told_blocks c.args.dev) c.requires.total c.requires.gives c.in-Err-recover.ensures.performs c.in-Err-recover.ensures.fault
