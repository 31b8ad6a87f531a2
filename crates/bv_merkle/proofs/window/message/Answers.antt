use Rattle.std.proofs.Common.{refl, ◌∙◌}
use Rattle.std.specs.Int.Bits.{or_zero_r}
use Rattle.bv_merkle.proofs.window.message.Goals as goal

-- level 0 adds nothing to the offset
pub returns : goal.returns
returns c =
    rw (
      c.copy_from_slice.ensures.after ∙ c.to_le_bytes.ensures,
      c.copy_from_slice-2.ensures.after ∙ c.to_le_bytes-2.ensures,
      or_zero_r c.args.offset,
    ) refl
