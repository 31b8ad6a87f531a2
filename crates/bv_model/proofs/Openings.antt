-- Going over the opening list.
use Rattle.std.proofs.Common.{ℕ, Option, List, map, take, drop}
use Rattle.std.specs.List.{sum_by}
use Rattle.std.specs.Map.{values_of}
use Rattle.spec_tree.specs.declared.Digest.{Digest}
use Rattle.spec_tree.specs.declared.blob.Blob.{Blob}
use Rattle.spec_core.specs.Room.{blob_need}
use Rattle.spec_core.specs.State.{find}

-- the entry of an opening map
abbrev pub entry : Digest × ℕ × ℕ → Digest × Blob
entry e = (e.0, record { size = e.1; version = e.2 })

-- what is found past the first i
abbrev pub found_from : List (Digest × ℕ × ℕ) → ℕ → Digest → Option Blob
found_from es i r = find (map entry (drop i es)) r

-- the blocks of the first i
abbrev pub blocks_to : List (Digest × ℕ × ℕ) → ℕ → ℕ
blocks_to es i = sum_by blob_need (values_of (map entry (take i es)))
