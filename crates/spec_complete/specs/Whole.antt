-- A run over a volume of sound blobs goes well where no call of the device failed and there is enough
-- (this project's profile).
use Rattle.std.specs.Prelude.{ℕ, List}
use Rattle.spec_faults.specs.Faults.{Rose}
use Rattle.spec_disk.specs.declared.event.Event.{Event}
use Rattle.spec_disk.specs.Disk.{Blocks}
use Rattle.spec_script.specs.Lawful.{AreLawful}
use Rattle.spec_headline.specs.Complete.{HasEnough, WentWell}
use Rattle.spec_headline.specs.Run.{Ended, HasSoundBlobs, OpensWith, Run, Seen}
use Rattle.spec_complete.specs.Sound.{LinesHoldTheirs}

-- `base` is the disk as the run began, and `told` are the device's events since
abbrev pub SoundRunsGoWell : Type 0
SoundRunsGoWell =
    (base : Blocks) (told : List Event) (run : Run) (next first last : ℕ)
    → Ended run next first last → ¬ Rose first last → HasEnough run.lines run.history next
    → AreLawful run.lines → OpensWith base run.history next → HasSoundBlobs base
    → Seen base told run → LinesHoldTheirs base told run.history → WentWell run
