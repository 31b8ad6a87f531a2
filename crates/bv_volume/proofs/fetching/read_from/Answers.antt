use Rattle.bv_volume.proofs.Counting.{rises_to}
use Rattle.bv_volume.proofs.fetching.read_from.Goals as goal

pub returns-in-Ok : goal.returns-in-Ok
returns-in-Ok g c =
    let e = c.in-Ok.ensures in
    record { rest = e.reads.rest; faults = e.reads.faults.later; both = e.reads.both; held = e.reads.held; lengths = e.lengths; now = e.now }

pub returns-in-Err : goal.returns-in-Err
returns-in-Err g c =
    let e = c.in-Err.ensures in
    record {
      rest = e.reads.rest;
      faults = (e.reads.faults.later, rises_to _ _ _ e.reads.faults.later e.reads.faults.failed (rw c.faults.ensures at c.faults.type_inv) c.faults.ensures);
      both = e.reads.both;
      held = e.reads.held;
      lengths = tt;
      now = tt;
    }
