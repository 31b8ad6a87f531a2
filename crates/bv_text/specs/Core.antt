-- The core as a value.
use Rattle.spec_core.specs.Log.{flushed}
use Rattle.std.specs.Prelude.{◌+◌, [], ◌∷◌}
use Rattle.spec_tree.specs.declared.Digest.{Digest}
use Rattle.spec_tree.specs.declared.blob.Blob.{Blob}
use Rattle.spec_core.specs.State.{State}
use Rattle.spec_core.specs.declared.map_change.MapChange.TheVariants.{Publish}
use Rattle.spec_core.specs.declared.setting.Setting.{Setting}

-- what a mount never changes, and what its rules know of it between two events
pub record Core : Type 0 where
  pub setting : Setting
  pub state : State

-- the queue is purged, and a blob is published with the next entry
abbrev pub with_blob : State → Digest → Blob → State
with_blob s r blob = record (flushed s (Publish r blob ∷ [])) { next = s.next + 1 }
