-- A file of blocks as contracts see it: nothing of its bytes is known.
use Rattle.std.specs.Prelude.{ℕ, ◌+◌, ◌-◌, ◌^◌, min, None}
use Rattle.bv_device.specs.Seen.{Seen}

-- its blocks, the writes and syncs that it was asked for, and its failed calls
pub record FileBlocks : Type 0 where
  pub blocks : ℕ
  pub calls : ℕ
  pub faults : ℕ

-- the writes and syncs after one more was asked for: the system is asked for no more than 2^63 - 1
abbrev pub one_call_more : ℕ → ℕ
one_call_more calls = min (calls + 1) (2 ^ 63 - 1)

-- what contracts see of it as a device: it tells nothing
abbrev pub seen_of : FileBlocks → Seen
seen_of file = record {
  told = None;
  block_count = file.blocks;
  calls_made = file.calls;
  fault_count = file.faults;
}
