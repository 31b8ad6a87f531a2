use Rattle.bv_journaled.proofs.EnteringLemmas.{all_performs, room_stops}
use Rattle.bv_journaled.proofs.store.JournaledStore.write_entry.Goals as goal

pub returns-in_err-make_room-clause-performs : goal.returns-in_err-make_room-clause-performs
returns-in_err-make_room-clause-performs g c =
    room_stops c.args.self.now c.make_last.new.self c.args.blocks.now c.in_ok-make_last.ensures.ok c.in_ok-make_last.ensures.performs
    c.from_residual-in_err-make_room.result c.in_err-make_room.field-0.0 c.make_room.new.self.device c.in_err-make_room.ensures.performs c.from_residual-in_err-make_room.ensures.1

pub returns-clause-performs : goal.returns-clause-performs
returns-clause-performs g c =
    all_performs c.args.self.now c.make_last.new.self c.args.blocks.now c.in_ok-make_last.ensures.ok c.in_ok-make_last.ensures.performs
    c.append.result c.make_room.new.self c.append.new.self.device c.in_ok-make_room.ensures.ok c.in_ok-make_room.ensures.performs c.append.ensures.performs
