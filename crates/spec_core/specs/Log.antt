-- What the log's changes do to the map of blobs (this project's profile).
use Rattle.std.specs.Prelude.{ℕ, List, [], ◌∷◌, ◌++◌, Option, None, Some}
use Rattle.std.specs.BTreeMap.{insert_entry, is_at}
use Rattle.std.specs.Map.{remove_entry}
use Rattle.spec_tree.specs.declared.Digest.{Digest}
use Rattle.spec_tree.specs.Order.{digest_cmp}
use Rattle.spec_core.specs.State.{State, find}
use Rattle.spec_tree.specs.declared.blob.Blob.{Blob}
use Rattle.spec_core.specs.declared.map_change.MapChange.{MapChange}
use Rattle.spec_core.specs.declared.map_change.MapChange.TheVariants.{Publish, Purge}

-- a map without a root
abbrev pub without : {X : Type 0} → List (Digest × X) → Digest → List (Digest × X)
without entries r = remove_entry (is_at (digest_cmp r)) entries

-- a map of blobs changed by these changes, in order
abbrev pub changed : List (Digest × Blob) → List MapChange → List (Digest × Blob)
changed map [] = map
changed map (Publish r blob ∷ changes) = changed (insert_entry digest_cmp map r blob) changes
changed map (Purge r blob ∷ changes) = changed (without map r) changes

-- the purge of a root, where there is a blob
abbrev pub purge_of : Option Blob → Digest → List MapChange
purge_of None r = []
purge_of (Some blob) r = Purge r blob ∷ []

-- the purges of these roots, in order; each takes its root from the map
abbrev pub purges : List (Digest × Blob) → List Digest → List MapChange
purges map [] = []
purges map (r ∷ roots) = purge_of (find map r) r ++ purges (without map r) roots

-- the purges of the queue
abbrev pub queued : State → List MapChange
queued s = purges s.map s.queue

-- the queue's purges and these changes are in the log and in the map, and the queue is empty
abbrev pub flushed : State → List MapChange → State
flushed s changes = record s {
  log = s.log ++ (queued s ++ changes);
  map = changed s.map (queued s ++ changes);
  queue = [];
}

-- the device failed, with this fault, while the queue's purges and these changes were written:
-- they are in the log, the map and the queue stay
abbrev pub failed : State → List MapChange → ℕ → State
failed s changes fault = record s {
  log = s.log ++ (queued s ++ changes);
  stopped = Some fault;
}
