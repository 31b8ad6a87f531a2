use Rattle.bv_model.proofs.Exact.{room_is_exact}
use Rattle.bv_model.proofs.laws.the_room_is_exact_until_a_write_or_sync_fails.Goals as goal

pub returns : goal.returns
returns c = room_is_exact
