use Rattle.std.proofs.Common.{◌≡◌, ◌+◌, ◌≤◌, ◌++◌, take, vec_len, vec_capacity}
use Rattle.bv_space.proofs.space.push_blocks.Given as goal

abbrev pub invariant-loop-block : goal.invariant-loop-block
invariant-loop-block l = record {
  items : l.gone.items ≡ l.initial.gone.items ++ take l.block-index l.blocks;
  len : vec_len l.gone ≡ vec_len l.initial.gone + l.block-index;
  capacity : vec_capacity l.initial.gone ≤ vec_capacity l.gone;
}
