-- The events of a session's lines, in their order (this project's profile).
use Rattle.std.specs.Prelude.{◌≡◌, ℕ, ◌==◌, List, [], ◌∷◌, ◌++◌, map, filter}
use Rattle.spec_script.specs.declared.line.ScriptLine.{ScriptLine}
use Rattle.spec_script.specs.declared.task.Task.{Task}
use Rattle.spec_script.specs.declared.task.Task.TheVariants as tasks
use Rattle.spec_script.specs.Tasks.{task_of}
use Rattle.spec_core.specs.History.{History}
use Rattle.spec_core.specs.declared.act.Act.{Act}
use Rattle.spec_core.specs.declared.act.Act.TheVariants as acts
use Rattle.spec_core.specs.declared.event.CoreEvent.{CoreEvent}
use Rattle.spec_core.specs.declared.who.Who.{Who}
use Rattle.spec_session.specs.Lines.{Move, Make, LineMoves, CutMoves}
use Rattle.spec_session.specs.Told.{who_of, lines_of_session}

-- a line that is to be done: who makes its events, and its own act
abbrev pub Request : Type 0
Request = Who × Act

-- the act of the first event of what a line asks for
abbrev pub own_act : Task → Act
own_act (tasks.Add root size) = acts.Begin root size
own_act (tasks.Open slot root) = acts.Open slot root
own_act (tasks.Read slot off len) = acts.Read slot off len
own_act (tasks.Scan slot) = acts.Scan slot
own_act (tasks.Close slot) = acts.Close slot
own_act (tasks.Unlink root) = acts.Unlink root
own_act tasks.Sync = acts.Sync
own_act tasks.List = acts.List

-- a line as a request
abbrev pub request_of : ScriptLine → Request
request_of line = (who_of line, own_act (task_of line.command))

-- Lines: what session s is to do
abbrev pub requests_of : ℕ → List ScriptLine → List Request
requests_of s lines = map request_of (lines_of_session s lines)

-- Of: the events of session s
abbrev pub events_of : ℕ → List CoreEvent → List CoreEvent
events_of s events = filter (λ e. e.who.session == s) events

-- the events are those of this line, after these of its session
abbrev pub DoesLine : ℕ → List CoreEvent → Request → List CoreEvent → Type 0
DoesLine version own task es =
    (ms : List Move) × LineMoves version own task.1 ms × Make task.0 ms es

-- the events are those of this line, which ended for want of memory
abbrev pub CutsLine : ℕ → List CoreEvent → Request → List CoreEvent → Type 0
CutsLine version own task es =
    (ms : List Move) × CutMoves version own task.1 ms × Make task.0 ms es

-- the events are the join of those of each line, in order, after these of the session
abbrev pub DoLines : ℕ → List CoreEvent → List Request → List CoreEvent → Type 0
DoLines version own [] es = es ≡ []
DoLines version own (t ∷ ts) es =
    (xs : List CoreEvent) × (ys : List CoreEvent) × (es ≡ xs ++ ys)
    × DoesLine version own t xs × DoLines version (own ++ xs) ts ys

-- the events are those of the first of these lines, where it ended for want of memory, or none
abbrev pub CutsNext : ℕ → List CoreEvent → List Request → List CoreEvent → Type 0
CutsNext version own [] es = es ≡ []
CutsNext version own (t ∷ ts) es = CutsLine version own t es

-- the events are the join of those of some first lines and of the next, which ended for want of
-- memory
abbrev pub CutLines : ℕ → List CoreEvent → List Request → List CoreEvent → Type 0
CutLines version own ts es =
    (done : List Request) × (rest : List Request) × (xs : List CoreEvent) × (ys : List CoreEvent)
    × (ts ≡ done ++ rest) × (es ≡ xs ++ ys)
    × DoLines version own done xs × CutsNext version (own ++ xs) rest ys

-- Conform: session s has done its lines in order, each once
abbrev pub Conform : List ScriptLine → History → ℕ → Type 0
Conform lines h s = DoLines h.version [] (requests_of s lines) (events_of s h.events)

-- Begins: session s has done some first lines, and the next, if there is one, ended for want of
-- memory
abbrev pub Begins : List ScriptLine → History → ℕ → Type 0
Begins lines h s = CutLines h.version [] (requests_of s lines) (events_of s h.events)
