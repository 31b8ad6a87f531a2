-- How the volume of a run is closed: it is given up as it is, or the program unmounts it (this
-- project's profile).
use Rattle.std.specs.Prelude.{◌≡◌, ℕ, Bool, true, false, not, List, None, IfSome}
use Rattle.std.specs.List.{list_all}
use Rattle.spec_disk.specs.Images.{IsSettled}
use Rattle.spec_core.specs.History.{History, Legal}
use Rattle.spec_core.specs.declared.act.Act.TheVariants.{Unmount}
use Rattle.spec_core.specs.declared.reply.Reply.{Reply}
use Rattle.spec_core.specs.declared.reply.Reply.TheVariants.{Unmounted}
use Rattle.spec_headline.specs.Run.{program}
use Rattle.spec_session.specs.declared.end.SessionEnd.{SessionEnd}
use Rattle.bv_store.specs.Stored.{Stored}
use Rattle.bv_volume.specs.Events.{Happens}
use Rattle.bv_volume.specs.Seen.{Seen as Volume, IsSafe}
use Rattle.bv_volume.specs.Sound.{FoundAreSoundNow, PublishedAreSoundNow}

-- whether no session ended for want of memory
abbrev pub are_whole : List SessionEnd → Bool
are_whole ends = list_all (λ e. not e.memory) ends

-- a volume with room for so many events
abbrev pub with_room : Volume → ℕ → Volume
with_room v events = record v { spare = events }

-- a volume was given up: these are its history, which is legal, and what kept its blobs
pub record GivesUp (v : Volume) (h : History) (store : Stored) : Type 0 where
  pub history_is : h ≡ v.history
  pub store_is : record store { planned = None } ≡ v.store
  pub legal : Legal v.history v.next
  pub safe : IsSafe v

-- the program unmounted a volume: these are the history behind that, which is legal, and what kept
-- the blobs
pub record Unmounts (v : Volume) (h : History) (store : Stored) : Type 0 where
  pub room : ℕ
  pub last : Volume
  pub reply : Reply
  pub happens : Happens (with_room v room) last program Unmount reply
  pub history_is : h ≡ last.history
  pub store_is : record store { planned = None } ≡ last.store
  pub legal : Legal last.history last.next
  pub safe : IsSafe last
  pub published : PublishedAreSoundNow last
  pub found : FoundAreSoundNow last
  pub settled : reply ≡ Unmounted → IfSome store.told (λ d. IsSettled d.trace)

-- a volume was given up, or where all sessions did all their lines it was unmounted
pub record Closes (v : Volume) (ends : List SessionEnd) (h : History) (whole : Bool)
    (store : Stored) : Type 0 where
  pub gives : whole ≡ false → GivesUp v h store
  pub whole_is : whole ≡ true → are_whole ends ≡ true
  pub unmounts : whole ≡ true → Unmounts v h store
