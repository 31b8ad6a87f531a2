-- What a run of a script's sessions over a mounted volume gives (this project's profile).
use Rattle.std.specs.Prelude.{◌≡◌, Bool, true, false, List, [], ◌∷◌, ◌++◌, None, length, IfSome, IsSomeAnd}
use Rattle.spec_disk.specs.Images.{IsSettled}
use Rattle.spec_core.specs.History.{History, opening_map}
use Rattle.spec_crash.specs.Crash.{HoldsWhole}
use Rattle.spec_core.specs.declared.act.Act.TheVariants.{Unmount}
use Rattle.spec_core.specs.declared.event.CoreEvent.{CoreEvent}
use Rattle.spec_headline.specs.Headline.{IsUnmounted}
use Rattle.spec_headline.specs.Run.{Ended, CutShort, Run, Seen, run_of}
use Rattle.spec_script.specs.declared.line.ScriptLine.{ScriptLine}
use Rattle.spec_session.specs.declared.end.SessionEnd.{SessionEnd}
use Rattle.bv_device.specs.Told.{now_of}
use Rattle.bv_shared.specs.Moments.{Moment}
use Rattle.bv_store.specs.Stored.{Stored}
use Rattle.bv_volume.specs.Seen.{Seen as Volume, IsSafe}
use Rattle.bv_volume.specs.Sound.{FoundAreSoundNow, PublishedAreSoundNow}

-- a volume later in its mount: the mount began with the same, and the device tells of the disk that
-- it told of then
pub record IsLater (first last : Volume) : Type 0 where
  pub opening : last.history.opening ≡ first.history.opening
  pub blocks : last.history.blocks ≡ first.history.blocks
  pub nodes : last.history.nodes ≡ first.history.nodes
  pub version : last.history.version ≡ first.history.version
  pub next : last.next ≡ first.next
  pub began : last.store.began ≡ first.store.began
  pub disk : IfSome last.store.began (λ b.
      IsSomeAnd last.store.told (λ d. d.base ≡ now_of b))

-- What the results of a run say of the disk that its last volume tells of: where that was settled when
-- the mount began and had the opening's blobs, each whole. Writes and syncs may have failed since.
abbrev pub SeesBy : Run → Volume → Type 0
SeesBy run last = IfSome last.store.began (λ b. IfSome last.store.told (λ d.
    IsSettled b.trace → HoldsWhole (now_of b) (opening_map run.history)
    → Seen (now_of b) d.trace run))

-- As each event of the sessions ended, the disk had each blob of the map; once a write or sync had
-- failed, each but those that were queued.
abbrev pub SessionsHad : Volume → Type 0
SessionsHad last =
    (before : List CoreEvent) (e : CoreEvent) (rest : List CoreEvent)
    → last.history.events ≡ before ++ e ∷ rest → ¬ (e.act ≡ Unmount)
    → Moment last.store.began last.store.told last.history last.next (before ++ e ∷ []) e.calls

-- A run of these lines over a volume gave this: the history, how each session ended, whether all
-- did all their lines and the volume was unmounted behind them, and what kept the blobs.
pub record Runs (lines : List ScriptLine) (first : Volume) (h : History) (ends : List SessionEnd)
    (whole : Bool) (store : Stored) : Type 0 where
  -- on any device
  pub count : whole ≡ true → length ends ≡ 16
  pub ended : whole ≡ true
      → Ended (run_of lines h ends) first.next first.store.faults store.faults
  pub cut : whole ≡ false
      → CutShort (run_of lines h ends) first.next first.store.faults store.faults
  -- the volume that would show this history and this store: it is the first one, later in its
  -- mount, and the theorem of stops holds of it
  pub last : Volume
  pub history_is : h ≡ last.history
  pub store_is : record store { planned = None } ≡ last.store
  pub later : IsLater first last
  pub safe : IsSafe last
  -- behind the unmount each blob that was published, and each that the mount found sound, is sound
  pub published : whole ≡ true → PublishedAreSoundNow last
  pub found : whole ≡ true → FoundAreSoundNow last
  -- the disk had the blobs of the map as each event of the sessions ended
  pub had : whole ≡ true → SessionsHad last
  -- the results say of the device what they should
  pub seen : whole ≡ true → SeesBy (run_of lines h ends) last
  -- after a reply `unmounted` the device is settled
  pub settled : whole ≡ true → IsUnmounted h → IfSome store.told (λ d. IsSettled d.trace)
