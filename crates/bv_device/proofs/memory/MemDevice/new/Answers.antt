use Rattle.std.proofs.Common.{ℕ, List, ap, ◌∙◌}
use Rattle.bv_device.specs.Memory.{device_of}
use Rattle.bv_device.proofs.MemoryLemmas.{filled_up}
use Rattle.bv_device.proofs.memory.MemDevice.new.Goals as goal

pub returns : goal.returns
returns c =
    c.from_blocks.ensures
    ∙ ap (λ (blocks : List (List ℕ)). device_of blocks) (c.in_ok-resize.ensures.items ∙ filled_up _ _ _ _ c.new-zeros.ensures.items c.new-zeros.ensures.len)
