-- What a history tells of a line of a script: the root that it names, its reply, and what was present
-- when it listed (this project's profile).
use Rattle.std.specs.Prelude.{◌≡◌, ℕ, Bool, true, false, cond, not, ◌&&◌, ◌==◌, List, [], ◌∷◌, map, filter, fold, Option, Some, None}
use Rattle.std.specs.List.{AllByRecursion, take_while}
use Rattle.spec_core.specs.History.{History, setting_of, opening_map, first_state}
use Rattle.spec_core.specs.State.{State, is_unlinked}
use Rattle.spec_core.specs.Step.{state_after}
use Rattle.spec_core.specs.declared.act.Act.{Act}
use Rattle.spec_core.specs.declared.act.Act.TheVariants as acts
use Rattle.spec_core.specs.declared.event.CoreEvent.{CoreEvent}
use Rattle.spec_core.specs.declared.reply.Reply.{Reply}
use Rattle.spec_core.specs.declared.who.Who.{Who}
use Rattle.spec_script.specs.declared.line.ScriptLine.{ScriptLine}
use Rattle.spec_script.specs.declared.task.Task.{Task}
use Rattle.spec_script.specs.declared.task.Task.TheVariants as tasks
use Rattle.spec_script.specs.Tasks.{task_of}
use Rattle.spec_tree.specs.declared.Digest.{Digest}

-- who makes a line's events
abbrev pub who_of : ScriptLine → Who
who_of line = record { session = line.session; line = line.number }

-- whether two are one session's line
abbrev pub same_who : Who → Who → Bool
same_who a b = (a.session == b.session) && (a.line == b.line)

-- the lines of a session
abbrev pub lines_of_session : ℕ → List ScriptLine → List ScriptLine
lines_of_session s lines = filter (λ line. line.session == s) lines

-- ---- the root

-- the root that an act names on a line's behalf
abbrev pub named_root : Act → Option Digest
named_root (acts.Begin root size) = Some root
named_root (acts.Open slot root) = Some root
named_root (acts.Unlink root) = Some root
named_root _ = None

-- this, or else that
abbrev pub or_else : {A : Type 0} → Option A → Option A → Option A
or_else (Some x) other = Some x
or_else None other = other

-- the root, one event later
abbrev pub root_next : Who → Option Digest → CoreEvent → Option Digest
root_next who root e = cond (same_who who e.who) (or_else (named_root e.act) root) root

-- the root that the line's events name
abbrev pub root_told : Who → List CoreEvent → Option Digest
root_told who events = fold (root_next who) None events

-- the root of what a line asks for
abbrev pub task_root : Task → Option Digest
task_root (tasks.Add root size) = Some root
task_root (tasks.Open slot root) = Some root
task_root (tasks.Unlink root) = Some root
task_root _ = None

-- the events name the root of this line, if it has one
abbrev pub TellsRoot : List CoreEvent → ScriptLine → Type 0
TellsRoot events line = root_told (who_of line) events ≡ task_root (task_of line.command)

-- ---- the reply

-- whether an act ends an add without a publication, which the line doesn't show
abbrev pub is_retire : Act → Bool
is_retire (acts.Retire root) = true
is_retire _ = false

-- the reply, one event later
abbrev pub answer_next : Who → Option Reply → CoreEvent → Option Reply
answer_next who answer e =
    cond (same_who who e.who && not (is_retire e.act)) (Some e.reply) answer

-- the reply of the line's last event that is no retire
abbrev pub answer_of : Who → List CoreEvent → Option Reply
answer_of who events = fold (answer_next who) None events

-- ---- the listing

-- the blobs that are present, in the order of their roots, with their sizes
abbrev pub present_blobs : State → List (Digest × ℕ)
present_blobs s = map (λ e. (e.0, e.1.size)) (filter (λ e. not (is_unlinked s e.0)) s.map)

-- the events before the line's first
abbrev pub events_before : Who → List CoreEvent → List CoreEvent
events_before who events = take_while (λ e. not (same_who who e.who)) events

-- what was present when the line began
abbrev pub listed_at : History → Who → List (Digest × ℕ)
listed_at h who =
    present_blobs
    (state_after (setting_of h) (first_state (opening_map h) 0) (events_before who h.events))
