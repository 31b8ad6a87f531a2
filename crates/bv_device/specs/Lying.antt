-- A device that lies, as contracts see it.
use Rattle.std.specs.Prelude.{ℕ, ◌==◌, List, [], ◌∷◌, if◌then◌else◌}
use Rattle.spec_disk.specs.Disk.{Blocks}
use Rattle.bv_device.specs.declared.lie.Lie.{Lie}

-- what it holds; the lies; the reads so far, up to 2^64 - 1; the writes and syncs; how many calls
-- failed
pub record LyingBlocks : Type 0 where
  pub blocks : Blocks
  pub lies : List Lie
  pub reads : ℕ
  pub calls : ℕ
  pub faults : ℕ

-- what the read with this number gives: the bytes of the first lie about it, and without one what
-- the block holds
abbrev pub answer : List Lie → ℕ → List ℕ → List ℕ
answer [] number held = held
answer (lie ∷ lies) number held = if lie.call == number then lie.bytes else answer lies number held
