-- What stops leave of a recovery, and where the journal is at its end (this project's profile).
--
-- Each is said of a device that tells its writes and syncs, and of any journal on it of which this is
-- the replay.
use Rattle.std.specs.Prelude.{◌≡◌, [], None, IfSome}
use Rattle.spec_disk.specs.Disk.{Blocks}
use Rattle.spec_record.specs.declared.geometry.Geometry.{Geometry}
use Rattle.spec_record.specs.declared.info.Info.{Info}
use Rattle.spec_image.specs.Journal.{journal_of}
use Rattle.spec_image.specs.Replay.{stale_slots}
use Rattle.bv_device.specs.Told.{Disk}
use Rattle.bv_device.specs.Seen.{Seen}
use Rattle.bv_journal.specs.Holds.{HoldsMeta}
use Rattle.bv_journal.specs.Rests.{AtRest, Opened, synced, slot_behind, number_behind}
use Rattle.bv_journal.specs.Stops.{Left}
use Rattle.bv_replay.specs.declared.replay.Replay.{Replay}
use Rattle.bv_replay.specs.Found.{next_info}

-- the disk was opened, and its journal has this replay, these stale slots, and nothing behind them
pub record MayRecover (g : Geometry) (i : Info) (meta : Blocks) (d : Disk) (r : Replay)
    : Type 0 where
  pub opened : Opened g i r.entries.items meta d
  pub slot : r.next_slot ≡ slot_behind g i r.entries.items
  pub number : r.next_number ≡ number_behind i r.entries.items
  pub stale : r.stale.items ≡ stale_slots (journal_of g (synced d)) i

-- whatever a stop of a recovery leaves has the metadata that the replay gives
abbrev pub RecoverStops : Geometry → Replay → Seen → Seen → Type 0
RecoverStops g r old new = IfSome old.told (λ d. (i : Info) (meta : Blocks)
    → MayRecover g i meta d r → Left d new.told (HoldsMeta g meta))

-- at its end that metadata is in place, the journal is empty and at rest, and no slot is stale
abbrev pub RecoverRests : Geometry → Replay → Seen → Seen → Type 0
RecoverRests g r old new = IfSome old.told (λ d. (i : Info) (meta : Blocks)
    → MayRecover g i meta d r → IfSome new.told (AtRest g (next_info r) [] None meta))
