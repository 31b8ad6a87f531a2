-- A disk since a mount began: what it was then, and the events since (this project's profile).
use Rattle.std.specs.Prelude.{ℕ, length, take, drop, Option, Some, None}
use Rattle.spec_disk.specs.Disk.{now_after}
use Rattle.bv_device.specs.Told.{Disk}

-- a disk when so many of its events had come
abbrev pub began_at : ℕ → Disk → Disk
began_at n d = record { base = d.base; trace = take n d.trace }

-- the disk that it was then, and the events since
abbrev pub since : ℕ → Disk → Disk
since n d = record { base = now_after d.base (take n d.trace); trace = drop n d.trace }

-- how many events came since: those that are told, or so many where nothing is
abbrev pub calls_since : Option Disk → ℕ → ℕ
calls_since None calls = calls
calls_since (Some d) calls = length d.trace
