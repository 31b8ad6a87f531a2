-- What the top call does with its words, its device, its source and its sink.
use Rattle.std.specs.Prelude.{ℕ, List}
use Rattle.bv_device.specs.Seen.{Seen}
use Rattle.bv_serve.specs.declared.status.Status.{Status}
use Rattle.bv_serve.specs.Runs.{Change}
use Rattle.bv_serve.specs.Serves as plain
use Rattle.bv_serve.specs.Serves.{Serves}
use Rattle.bv_run.specs.declared.form.Form.{Form}
use Rattle.bv_run.specs.Runs.{RunsScript}
use Rattle.bv_run.specs.Words.{IsForm, IsNoForm}

-- A run of the top call: its words, its status, and what became of the device, `old` and `new`, and
-- of the streams.
pub record ServesAll (words : List (List ℕ)) (ended : Status) (old new : Seen)
    (input out : Change) : Type 0 where
  -- a command that runs sessions: what is said of it
  pub sessions : (form : Form) → IsForm words form → RunsScript form ended old new input out
  -- all other words: what is said of the commands that need none
  pub others : IsNoForm words → Serves words ended old new input out

-- the run leaves its device exactly as it was
pub record LeavesDevice (words : List (List ℕ)) (ended : Status) : Type 0 where
  pub others : IsNoForm words
  pub leaves : plain.LeavesDevice words ended
