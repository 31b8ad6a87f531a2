-- What the sessions over a mounted volume give, with the device behind it.
use Rattle.std.specs.Prelude.{◌≡◌, List, Result, Ok, Err, true, false}
use Rattle.spec_core.specs.History.{History}
use Rattle.spec_script.specs.Lawful.{AreLawful}
use Rattle.spec_script.specs.declared.line.ScriptLine.{ScriptLine}
use Rattle.spec_session.specs.declared.end.SessionEnd.{SessionEnd}
use Rattle.bv_device.specs.Seen.{Seen}
use Rattle.bv_journaled.specs.Standing.{Standing, stored_of}
use Rattle.bv_volume.specs.Seen.{Seen as Volume}
use Rattle.bv_sessions.specs.Runs.{Runs}
use Rattle.bv_serve.specs.declared.refusal.Refusal.{Refusal}
use Rattle.bv_serve.specs.declared.refusal.Refusal.TheVariants as refusals
use Rattle.bv_run.specs.declared.finished.Finished.{Finished}

-- all sessions of these lawful lines ended over this volume, and this is its device
pub record RanWhole (lines : List ScriptLine) (first : Volume) (f : Finished) (dev : Seen) : Type 0 where
  pub store : Standing
  pub device : dev ≡ store.device
  pub runs : Runs lines first f.history.history f.ends.items true (stored_of store)
  pub lawful : AreLawful lines

-- they were cut short for want of memory, and this is its device
pub record RanShort (lines : List ScriptLine) (first : Volume) (refusal : Refusal) (dev : Seen) : Type 0 where
  pub store : Standing
  pub device : dev ≡ store.device
  pub refused : refusal ≡ refusals.NoMemory
  pub history : History
  pub ends : List SessionEnd
  pub runs : Runs lines first history ends false (stored_of store)

-- the sessions of these lines ran over this volume
abbrev pub RunsOver : List ScriptLine → Volume → Result Finished Refusal → Seen → Type 0
RunsOver lines first (Ok f) dev = RanWhole lines first f dev
RunsOver lines first (Err refusal) dev = RanShort lines first refusal dev
