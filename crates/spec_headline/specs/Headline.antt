-- The headline (this project's profile): however the sessions' steps interleave on threads, and
-- wherever before or within a device write the machine stops, mounting what the disk model leaves,
-- where no torn journal entry matches its checksum by chance, gives exactly the blobs after a prefix
-- of the committed publications and purges that holds every synced one, each blob whole; and the
-- history is legal, with each session's commands in order.
--
-- `base` is the disk as the run began, and `events` are all writes and syncs of the device since.
use Rattle.std.specs.Prelude.{◌≡◌, ℕ, ◌<◌, ◌⊎◌, List, ◌∷◌, ◌++◌, All, Some}
use Rattle.spec_tree.specs.declared.Digest.{Digest}
use Rattle.spec_tree.specs.declared.blob.Blob.{Blob}
use Rattle.spec_disk.specs.declared.event.Event.{Event}
use Rattle.spec_disk.specs.Disk.{Blocks, now_after}
use Rattle.spec_disk.specs.Images.{IsSettled}
use Rattle.spec_image.specs.Volume.{blobs, IsWhole, IsSound}
use Rattle.spec_core.specs.declared.map_change.MapChange.{MapChange}
use Rattle.spec_core.specs.declared.map_change.MapChange.TheVariants.{Publish}
use Rattle.spec_core.specs.declared.reply.Reply.TheVariants.{Unmounted}
use Rattle.spec_core.specs.History.{History, Legal, opening_map, log_of}
use Rattle.spec_core.specs.Log.{changed}
use Rattle.spec_crash.specs.Crash.{CrashPrefix}
use Rattle.spec_crash.specs.Timing.{LastHas}
use Rattle.spec_session.specs.Conform.{Conform}
use Rattle.spec_headline.specs.Run.{Run, OpensWith, EndsWithUnmount}

-- The headline's first half, of any history: also of one that was cut short, or has no event yet.
pub record Survives (base : Blocks) (events : List Event) (h : History) (next : ℕ) : Type 0 where
  -- the history begins with the blobs that the disk had
  pub opens : OpensWith base h next
  -- Wherever the machine stops, each image that the disk model may leave, in which no torn entry
  -- matches its checksum by chance, has exactly the blobs after some first changes of the log, each
  -- whole: all synced ones, none that wasn't committed by then, of each event's changes all or none.
  -- And the history's calls are places in the device's events.
  pub stops : CrashPrefix base events h

-- The headline, of a run whose sessions did all their lines
pub record Headline (base : Blocks) (events : List Event) (run : Run) (next : ℕ) : Type 0 where
  -- wherever the machine stops, mounting gives a prefix
  pub survives : Survives base events run.history next
  -- the history is legal
  pub legal : Legal run.history next
  -- each session's commands in order, each once
  pub conform : (s : ℕ) → s < 16 → Conform run.lines run.history s
  -- and the program's unmount, last
  pub unmount : EndsWithUnmount run.history

-- a blob was published in this history
abbrev pub WasPublished : History → Digest → Type 0
WasPublished h root =
    (blob : Blob) × (before : List MapChange) × (after : List MapChange)
    × (log_of h ≡ before ++ Publish root blob ∷ after)

-- After a reply `unmounted` the device is settled and has the blobs after the whole log, so that a
-- next run may begin with it.
pub record LeavesSettled (base : Blocks) (events : List Event) (h : History) : Type 0 where
  pub settled : IsSettled events
  pub map : blobs (now_after base events) ≡ Some (changed (opening_map h) (log_of h))
  pub whole : All (λ entry. IsWhole (now_after base events) entry.0)
      (changed (opening_map h) (log_of h))

-- And of these blobs each that was published, or was sound as the run began, is sound.
abbrev pub LeavesSound : Blocks → List Event → History → Type 0
LeavesSound base events h =
    All (λ entry. WasPublished h entry.0 ⊎ IsSound base entry.0
    → IsSound (now_after base events) entry.0) (changed (opening_map h) (log_of h))

-- the last event replied `unmounted`
abbrev pub IsUnmounted : History → Type 0
IsUnmounted h = LastHas (λ e. e.reply ≡ Unmounted) h.events
