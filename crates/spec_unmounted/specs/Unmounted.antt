-- What an unmount leaves on the device (this project's profile).
--
-- `base` is the disk when the mount began, `events` are the device's events since, `h` is the
-- history of the mount.
use Rattle.std.specs.Prelude.{◌≡◌, List}
use Rattle.spec_disk.specs.declared.event.Event.{Event}
use Rattle.spec_disk.specs.Disk.{Blocks, now_after}
use Rattle.spec_disk.specs.Images.{IsSettled}
use Rattle.spec_core.specs.History.{History, opening_map, log_of}
use Rattle.spec_core.specs.Log.{changed}
use Rattle.spec_core.specs.declared.reply.Reply.TheVariants.{Unmounted}
use Rattle.spec_crash.specs.Crash.{CrashPrefix, HoldsWhole}
use Rattle.spec_crash.specs.Timing.{LastHas}

-- where the theorem of stops holds, the device is settled and the last event replied `unmounted`, the
-- device has the blobs after the whole log, each whole
abbrev pub UnmountsLeaveAll : Type 0
UnmountsLeaveAll =
    (base : Blocks) (events : List Event) (h : History)
    → CrashPrefix base events h → IsSettled events
    → LastHas (λ e. e.reply ≡ Unmounted) h.events
    → HoldsWhole (now_after base events) (changed (opening_map h) (log_of h))
