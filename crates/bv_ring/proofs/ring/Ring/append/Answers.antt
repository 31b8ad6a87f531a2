-- What stops leave follows from the plan.
use Rattle.std.proofs.Common.{◌≡◌, length, rules}
use Rattle.bv_device.specs.declared.device_fault.DeviceFault.{DeviceFault}
use Rattle.bv_ring.specs.Cursor.{Cursor, cursor_at, past}
use Rattle.bv_ring.proofs.StopLemmas.{entry_plan, append_stops-as, append_rests-as}
use Rattle.bv_ring.proofs.ring.Ring.append.Goals as goal

pub returns-in-Ok-clause-crash : goal.returns-in-Ok-clause-crash
returns-in-Ok-clause-crash g c =
    let inside : Cursor = cursor_at c.self.inside.geometry c.self.inside.slot c.self.inside.number c.self.inside.room in
    append_stops-as c.write_slots-written.result inside c.args.self.now c.args.blocks.now _ _ (cc) c.write_slots-written.ensures

pub returns-in-Ok-clause-rests : goal.returns-in-Ok-clause-rests
returns-in-Ok-clause-rests g c =
    let inside : Cursor = cursor_at c.self.inside.geometry c.self.inside.slot c.self.inside.number c.self.inside.room in
    let is : c.pass.new.self ≡ past c.args.self.now (length c.args.blocks.now) = search rules in
    append_rests-as {E = DeviceFault} inside c.args.self.now c.args.blocks.now c.pass.new.self _ _ (cc) (c.in-Ok.ensures.performs (entry_plan inside c.args.blocks.now) _ c.write_slots-written.ensures) c.requires.fits is

pub returns-in-Err-clause-crash : goal.returns-in-Err-clause-crash
returns-in-Err-clause-crash g c =
    let inside : Cursor = cursor_at c.self.inside.geometry c.self.inside.slot c.self.inside.number c.self.inside.room in
    append_stops-as c.write_slots-written.result inside c.args.self.now c.args.blocks.now _ _ (cc) c.write_slots-written.ensures
