-- What stops leave of the ring's calls, and where its journal is at their end (this project's profile).
--
-- Each is said of a device that tells its writes and syncs, and of any journal at rest on it behind
-- whose entries the ring stands.
use Rattle.std.specs.Prelude.{◌≡◌, List, [], ◌∷◌, ◌++◌, Option, Some, None, IfSome}
use Rattle.spec_disk.specs.Disk.{Blocks}
use Rattle.spec_record.specs.declared.info.Info.{Info}
use Rattle.spec_record.specs.Entry.{Entry}
use Rattle.spec_record.specs.EntryBlocks.{entry_blocks}
use Rattle.bv_device.specs.Told.{Disk}
use Rattle.bv_device.specs.Seen.{Seen}
use Rattle.bv_journal.specs.Holds.{HoldsOneOf, OldOrNew, entries_of, with_entry}
use Rattle.bv_journal.specs.Rests.{AtRest, IsNext}
use Rattle.bv_journal.specs.Stops.{Left}
use Rattle.bv_ring.specs.Cursor.{Cursor, StandsBehind, info_at_cursor}

-- nothing was written behind the entries, the ring stands there, and these are the blocks of an entry
-- that may be written next
pub record MayAppend
    (c : Cursor) (i : Info) (es : List Entry) (meta blocks : Blocks) (e : Entry) (d : Disk)
    : Type 0 where
  pub rests : AtRest c.geometry i es None meta d
  pub behind : StandsBehind c i es
  pub next : IsNext c.geometry i es meta e
  pub blocks_are : blocks ≡ entry_blocks e

-- whatever a stop leaves of an append has the entries before it, or these and the new one, whole
abbrev pub AppendStops : Cursor → Blocks → Seen → Seen → Type 0
AppendStops c blocks old new = IfSome old.told (λ d.
    (i : Info) (es : List Entry) (meta : Blocks) (e : Entry) → MayAppend c i es meta blocks e d
    → Left d new.told (OldOrNew c.geometry i es meta e))

-- at its end the new entry is what a sync makes last, and the ring stands behind it
abbrev pub AppendRests : Cursor → Blocks → Cursor → Seen → Seen → Type 0
AppendRests c blocks now old new = IfSome old.told (λ d.
    (i : Info) (es : List Entry) (meta : Blocks) (e : Entry) → MayAppend c i es meta blocks e d
    → IfSome new.told (AtRest c.geometry i es (Some e) meta) × StandsBehind now i (es ++ e ∷ []))

-- the ring stands behind the entries, and behind the one that was written last if one was; and these
-- are the metadata blocks with all of them replayed
pub record MayCheckpoint
    (c : Cursor) (i : Info) (es : List Entry) (more : Option Entry) (meta full : Blocks) (d : Disk)
    : Type 0 where
  pub rests : AtRest c.geometry i es more meta d
  pub behind : StandsBehind c i (es ++ entries_of more)
  pub full_is : full ≡ with_entry more meta

-- whatever a stop leaves of a checkpoint has the metadata without or with the entry written last
abbrev pub CheckpointStops : Cursor → Blocks → Seen → Seen → Type 0
CheckpointStops c full old new = IfSome old.told (λ d.
    (i : Info) (es : List Entry) (more : Option Entry) (meta : Blocks)
    → MayCheckpoint c i es more meta full d
    → Left d new.told (HoldsOneOf c.geometry meta full))

-- at its end that metadata is in place, the journal is empty, and the ring stands at its start
abbrev pub CheckpointRests : Cursor → Blocks → Cursor → Seen → Seen → Type 0
CheckpointRests c full now old new = IfSome old.told (λ d.
    (i : Info) (es : List Entry) (more : Option Entry) (meta : Blocks)
    → MayCheckpoint c i es more meta full d
    → IfSome new.told (AtRest c.geometry (info_at_cursor c) [] None full)
    × StandsBehind now (info_at_cursor c) [])
