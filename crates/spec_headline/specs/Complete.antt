-- When a run ends well (this project's profile): nothing fails, the blobs that stood there are
-- sound, and there is enough of blocks, nodes and numbers.
use Rattle.std.specs.Prelude.{◌≡◌, ℕ, ◌+◌, ◌^◌, ◌<◌, ◌≤◌, List, [], ◌∷◌, length}
use Rattle.std.specs.List.{sum_by}
use Rattle.std.specs.Map.{values_of}
use Rattle.spec_tree.specs.Tree.{need_of}
use Rattle.spec_core.specs.declared.act.Act.{Act}
use Rattle.spec_core.specs.declared.act.Act.TheVariants as acts
use Rattle.spec_core.specs.declared.reply.Reply.TheVariants as replies
use Rattle.spec_core.specs.Room.{worst_nodes, blob_worst, room_in}
use Rattle.spec_core.specs.History.{History, opening_map, setting_of, first_state}
use Rattle.spec_script.specs.declared.line.ScriptLine.{ScriptLine}
use Rattle.spec_script.specs.Tasks.{task_of}
use Rattle.spec_crash.specs.Timing.{LastHas}
use Rattle.spec_session.specs.Conform.{Request, own_act, requests_of}
use Rattle.spec_session.specs.declared.result.LineResult.{LineResult}
use Rattle.spec_session.specs.declared.result.LineResult.TheVariants as results
use Rattle.spec_headline.specs.Run.{Run}

-- the blocks that a line's add takes, by the line's own act
abbrev pub need_by : ℕ → Act → ℕ
need_by version (acts.Begin root size) = need_of version size
need_by version act = 0

-- the most nodes that it takes
abbrev pub worst_by : ℕ → Act → ℕ
worst_by version (acts.Begin root size) = worst_nodes version size
worst_by version act = 0

-- There is enough for all lines of a script, in a volume of these numbers with these blobs, whose
-- next entry has this number.
pub record HasEnough (lines : List ScriptLine) (h : History) (next : ℕ) : Type 0 where
  -- blocks
  pub room : sum_by (λ l. need_by h.version (own_act (task_of l.command))) lines
      ≤ room_in (setting_of h) (first_state (opening_map h) next)
  -- nodes
  pub nodes : sum_by blob_worst (values_of (opening_map h))
      + sum_by (λ l. worst_by h.version (own_act (task_of l.command))) lines ≤ h.nodes
  -- numbers of entries
  pub numbers : next + length lines < 2 ^ 62

-- the results that a line has where nothing fails, by its own act
abbrev pub GoesWell : Act → LineResult → Type 0
GoesWell (acts.Begin root size) results.Published = Unit {0}
GoesWell (acts.Begin root size) results.Exists = Unit {0}
GoesWell (acts.Begin root size) (results.Leaving handles) = Unit {0}
GoesWell (acts.Begin root size) results.InFlight = Unit {0}
GoesWell (acts.Open slot root) (results.Opened size) = Unit {0}
GoesWell (acts.Open slot root) results.NotFound = Unit {0}
GoesWell (acts.Open slot root) results.SlotTaken = Unit {0}
GoesWell (acts.Read slot off len) (results.Bytes bytes) = Unit {0}
GoesWell (acts.Read slot off len) results.BadSlot = Unit {0}
GoesWell (acts.Scan slot) (results.Whole size) = Unit {0}
GoesWell (acts.Scan slot) results.BadSlot = Unit {0}
GoesWell (acts.Close slot) results.Closed = Unit {0}
GoesWell (acts.Close slot) results.BadSlot = Unit {0}
GoesWell (acts.Unlink root) results.Unlinked = Unit {0}
GoesWell (acts.Unlink root) results.NotFound = Unit {0}
GoesWell acts.Sync results.Synced = Unit {0}
GoesWell acts.List (results.Listed blobs) = Unit {0}
GoesWell act r = ⊥

-- each of these requests has a result, which is one that comes where nothing fails
abbrev pub GoWell : List Request → List LineResult → Type 0
GoWell [] [] = Unit {0}
GoWell (t ∷ ts) (r ∷ rs) = GoesWell t.1 r × GoWell ts rs
GoWell _ _ = ⊥

-- What holds of a run at status 0 where nothing failed. That a read replies the range of the blob's
-- bytes is what `SeenBy` says of a result `Bytes`; that the whole log is in every image from a reply
-- `synced` on is what `Survives` says of it.
pub record WentWell (run : Run) : Type 0 where
  pub lines : (s : ℕ) → s < 16
      → GoWell (requests_of s run.lines) (run.results s)
  pub unmounted : LastHas (λ e. e.reply ≡ replies.Unmounted) run.history.events
