-- What a stop of the machine leaves of a mounted volume (this project's profile).
--
-- `base` is the disk when the mount began, `events` are the device's events since, `h` is the
-- history of the mount.
use Rattle.std.specs.Prelude.{◌≡◌, ◌<◌, ◌≤◌, ◌⊎◌, ◌++◌, ℕ, List, length, take, map, All, Contains, Some}
use Rattle.spec_tree.specs.declared.Digest.{Digest}
use Rattle.spec_tree.specs.declared.blob.Blob.{Blob}
use Rattle.spec_disk.specs.declared.event.Event.{Event}
use Rattle.spec_disk.specs.Disk.{Blocks}
use Rattle.spec_disk.specs.Images.{IsImage}
use Rattle.spec_image.specs.Volume.{blobs, IsWhole}
use Rattle.spec_image.specs.Chance.{NoChance}
use Rattle.spec_core.specs.History.{History, opening_map, log_of}
use Rattle.spec_core.specs.Log.{changed}
use Rattle.spec_core.specs.Synced.{log_lengths, synced_by, logged_by}
use Rattle.spec_crash.specs.Timing.{IsTimed}

-- 0, or the log's length after some event
abbrev pub IsLogLength : History → ℕ → Type 0
IsLogLength h k = (k ≡ 0) ⊎ Contains (map (λ e. e.1) (log_lengths h)) k

-- the opening map changed by the first k changes of the log
abbrev pub map_after : History → ℕ → List (Digest × Blob)
map_after h k = changed (opening_map h) (take k (log_of h))

-- the image has these blobs, and every one whole
pub record HoldsWhole (j : Blocks) (held : List (Digest × Blob)) : Type 0 where
  pub is : blobs j ≡ Some held
  pub whole : All (λ entry. IsWhole j entry.0) held

-- after so many events of the device, the image has the blobs after some first changes of the log:
-- all that a sync made durable by then, none that wasn't yet logged, and of each event's changes all
-- or none
pub record HoldsPrefix (h : History) (calls : ℕ) (j : Blocks) : Type 0 where
  pub count : ℕ
  pub durable : synced_by h calls ≤ count
  pub logged : count ≤ logged_by h calls
  pub boundary : IsLogLength h count
  pub holds : HoldsWhole j (map_after h count)

-- CrashPrefix: each image of each prefix of the events, in which no torn entry matches by chance,
-- holds such a prefix of the log; and the history is timed by the events
pub record CrashPrefix (base : Blocks) (events : List Event) (h : History) : Type 0 where
  pub stops : (n : ℕ) (j : Blocks) → n ≤ length events
      → IsImage base (take n events) j → NoChance base (take n events) j → HoldsPrefix h n j
  pub timed : IsTimed events h

-- each image of each prefix that is longer than `events` holds such a prefix of the log
abbrev pub StopsWithin : Blocks → List Event → List Event → History → Type 0
StopsWithin base events more h =
    (n : ℕ) (j : Blocks) → length events < n → n ≤ length (events ++ more)
    → IsImage base (take n (events ++ more)) j → NoChance base (take n (events ++ more)) j
    → HoldsPrefix h n j
