-- What stops leave follows from the plan.
use Rattle.std.proofs.Common.{ap}
use Rattle.bv_device.specs.declared.device_fault.DeviceFault.{DeviceFault}
use Rattle.bv_ring.specs.Cursor.{Cursor, cursor_at}
use Rattle.bv_ring.proofs.StopLemmas.{place_plan, checkpoint_stops-as, checkpoint_rests-as}
use Rattle.bv_ring.proofs.ring.Ring.checkpoint.Goals as goal

pub returns-in_err-with_fault-clause-crash : goal.returns-in_err-with_fault-clause-crash
returns-in_err-with_fault-clause-crash g c =
    let inside : Cursor = cursor_at c.self.inside.geometry c.self.inside.slot c.self.inside.number c.self.inside.room in
    checkpoint_stops-as c.move_in_place-moved.result inside c.args.self.now c.args.meta.now _ _ (cc) c.self.invariant c.move_in_place-moved.ensures

pub returns-clause-crash : goal.returns-clause-crash
returns-clause-crash g c =
    let inside : Cursor = cursor_at c.self.inside.geometry c.self.inside.slot c.self.inside.number c.self.inside.room in
    checkpoint_stops-as c.move_in_place-moved.result inside c.args.self.now c.args.meta.now _ _ (cc) c.self.invariant c.move_in_place-moved.ensures

pub returns-clause-rests : goal.returns-clause-rests
returns-clause-rests g c =
    let inside : Cursor = cursor_at c.self.inside.geometry c.self.inside.slot c.self.inside.number c.self.inside.room in
    checkpoint_rests-as {E = DeviceFault} inside c.args.self.now c.args.meta.now _ _ _ (cc) c.self.invariant
    (c.in_ok-with_fault.ensures.performs (place_plan inside c.args.meta.now) _ c.move_in_place-moved.ensures)
    (ap (cursor_at c.self.inside.geometry c.self.inside.slot c.self.inside.number) c.ring-self-inside.ensures)
