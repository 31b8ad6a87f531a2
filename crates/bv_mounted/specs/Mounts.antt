-- What a mount begins with, and what it answers (this project's profile).
use Rattle.std.specs.Prelude.{◌≡◌, ◌+◌, ℕ, List, [], length, map, Some, None, option_map, Err, IfSome}
use Rattle.std.specs.List.{flat_map}
use Rattle.spec_tree.specs.declared.Digest.{Digest}
use Rattle.spec_disk.specs.Images.{IsSettled}
use Rattle.spec_record.specs.Geometry.{ring_slots}
use Rattle.spec_image.specs.Blobs.{blob_map}
use Rattle.spec_image.specs.Chain.{BlobRecord}
use Rattle.spec_image.specs.Stored.{blocks_of}
use Rattle.spec_image.specs.Volume.{blobs}
use Rattle.spec_inspect.specs.declared.mount_fault.MountFault.{MountFault}
use Rattle.spec_inspect.specs.declared.mount_fault.MountFault.TheVariants as mount
use Rattle.spec_core.specs.History.{History, opening_map}
use Rattle.spec_rest.specs.Rest.{Map}
use Rattle.bv_claims.specs.Blocks.{HasEachOnce}
use Rattle.bv_claims.specs.Tokens.{block_count}
use Rattle.bv_claims.specs.declared.claims.Claims.{Claims}
use Rattle.bv_device.specs.Told.{Disk, now_of}
use Rattle.bv_device.specs.Seen.{Seen, Performs}
use Rattle.bv_mount.specs.declared.inspected.Inspected.{Inspected}
use Rattle.bv_mount.specs.Inspects.{inspection, IsInspected}
use Rattle.bv_mount.specs.Recovers.{plan_for, KeepsVolume}
use Rattle.bv_ring.specs.Cursor.{Cursor, cursor_at}
use Rattle.bv_journaled.specs.Kept.{records_at}
use Rattle.bv_journaled.specs.Since.{began_at, since}
use Rattle.bv_journaled.specs.Standing.{Standing}
use Rattle.bv_txn.specs.Metas.{MetaBlocks}
use Rattle.bv_volume.specs.Seen.{Seen as Volume, IsSafe}
use Rattle.bv_mounted.specs.declared.prepared.Prepared.{Prepared}
use Rattle.bv_mounted.specs.declared.taken.Taken.{Taken}

-- the blobs of an inspected volume
abbrev pub records_in : Inspected → List BlobRecord
records_in i = records_at i.meta.geometry i.meta.blocks

-- the data blocks of these blobs, one blob after another
abbrev pub blocks_of_all : List BlobRecord → List ℕ
blocks_of_all rs = flat_map (λ r. blocks_of r.extents) rs

-- a map as a history opens with it: root, size and version of each blob
abbrev pub opening_of : Map → List (Digest × ℕ × ℕ)
opening_of m = map (λ e. (e.0, e.1.size, e.1.version)) m

-- the history that a mount begins with: the volume's blobs and counts, and no event
abbrev pub history_of : Inspected → History
history_of i = record {
  opening = opening_of (blob_map (records_in i));
  blocks = i.geometry.blocks;
  nodes = i.geometry.nodes;
  version = i.geometry.version;
  events = [];
}

-- memory was taken for the volume's blobs, three times over, and for the ring that a recovery leaves
pub record Takes (i : Inspected) (t : Taken) : Type 0 where
  pub map_is : t.map.entries ≡ blob_map (records_in i)
  pub opening_is : t.opening.items ≡ opening_of (blob_map (records_in i))
  pub blobs_are : t.blobs.items ≡ records_in i
  pub ring_is : t.ring
      ≡ cursor_at i.geometry i.replay.next_slot i.replay.next_number (ring_slots i.geometry)

-- the parts of the volume are made: its history and its map, the ring that a recovery leaves, and the
-- reservations of this table, where the boss owns the blocks of the blobs
pub record Prepares (i : Inspected) (claims : Claims) (p : Prepared) : Type 0 where
  pub history_is : p.history ≡ record { history = history_of i; spare = 0 }
  pub map_is : p.map.entries ≡ blob_map (records_in i)
  pub ring_is : p.ring
      ≡ cursor_at i.geometry i.replay.next_slot i.replay.next_number (ring_slots i.geometry)
  pub blocks : block_count claims ≡ i.geometry.blocks
  pub table : p.space.claims ≡ claims
  pub owned : p.space.owned ≡ blocks_of_all (records_in i)
  pub once : HasEachOnce p.space.owned
  pub room : p.space.room + length (blocks_of_all (records_in i)) + 1 ≡ block_count claims
  pub none : (p.space.adds ≡ []) × (p.space.gone ≡ []) × (p.space.nodes ≡ [])
  pub spare : p.space.spare ≡ 0

-- a store as a mount begins with it: nothing is purged, and no entry planned
abbrev pub first_standing : Seen → ℕ → MetaBlocks → Cursor → Standing
first_standing dev calls meta ring = record {
  device = dev;
  opened = calls;
  meta = meta;
  cursor = ring;
  gone = [];
  planned = None;
}

-- a device that tells and is settled holds this volume
abbrev pub Gives : Seen → Inspected → Type 0
Gives s i = IfSome s.told (λ d. IsSettled d.trace → IsInspected (now_of d) i)

-- the disk as a mount finds it, and the writes and syncs of the recovery of this volume
abbrev pub recovered : Inspected → Disk → Disk
recovered i d = record { base = now_of d; trace = plan_for (inspection i) }

-- since so many calls the device did a recovery of this volume, and nothing else; and where it was
-- settled then, it held the volume
pub record WasRecovered (i : Inspected) (calls : ℕ) (d : Disk) : Type 0 where
  pub is : since calls d ≡ recovered i (began_at calls d)
  pub gives : IsSettled (began_at calls d).trace → IsInspected (now_of (began_at calls d)) i

-- a volume was mounted: its history has no event yet and opens with the inspected blobs; a recovery
-- is all that came; what the boss owns is of this table
pub record Mounts (old : Seen) (i : Inspected) (claims : Claims) (v : Volume) : Type 0 where
  pub history : v.history ≡ history_of i
  pub opening : opening_map v.history ≡ blob_map (records_in i)
  pub next : v.next ≡ i.replay.next_number
  pub spare : v.spare ≡ 0
  pub claims_are : v.space.claims ≡ claims
  pub geometry : v.store.geometry ≡ i.geometry
  pub began : v.store.began ≡ old.told
  pub told : v.store.told ≡ option_map (recovered i) old.told
  pub calls : v.store.calls ≡ length (plan_for (inspection i))
  pub faults : v.store.faults ≡ old.fault_count
  -- of a settled device, the opening map is that of its image
  pub blobs_are : IfSome old.told (λ d. IsSettled d.trace
      → blobs (now_of d) ≡ Some (opening_map v.history))
  pub safe : IsSafe v

-- a mount was refused: there was no memory, and the device is as it was; or a call of the recovery
-- failed, and the device's count of faults is answered. Of a settled device whatever a stop leaves
-- then has the blobs that were there
abbrev pub Refused : Seen → Inspected → Seen → MountFault → Type 0
Refused old i new mount.NoMemory = new ≡ old
Refused old i new (mount.DeviceFault count) =
    (count ≡ new.fault_count)
    × Performs {T = Unit {0}} {E = MountFault} (Err (mount.DeviceFault count))
    (plan_for (inspection i)) old new
    × IfSome old.told (λ d. IsSettled d.trace → KeepsVolume d new.told)
Refused old i new f = ⊥
