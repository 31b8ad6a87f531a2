use Rattle.std.proofs.Common.{refl}
use Rattle.bv_lanes.proofs.rows.four_turned.Goals as goal

pub returns : goal.returns
returns c =
    rw (
      c.low_quads.ensures,
      c.high_quads.ensures,
      c.low_quads-2.ensures,
      c.high_quads-2.ensures,
      c.low_pairs-low.ensures,
      c.high_pairs-high.ensures,
      c.low_pairs-next_low.ensures,
      c.high_pairs-next_high.ensures,
    ) refl
