use Rattle.std.proofs.Common.{◌≡◌, ℕ, List, [], length}
use Rattle.std.proofs.lemmas.List.Elements.{All-from_get_or}
use Rattle.bv_device.proofs.traced.are_whole.Goals as goal

pub returns : goal.returns
returns c = All-from_get_or (λ (block : List ℕ). length block ≡ 8192) c.args._blocks.now [] c.told-_blocks
