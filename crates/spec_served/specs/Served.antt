-- What the lines of a session answer (this project's profile): Served, without a device.
use Rattle.std.specs.Prelude.{◌≡◌, ℕ, List, [], ◌∷◌, ◌++◌}
use Rattle.spec_script.specs.declared.line.ScriptLine.{ScriptLine}
use Rattle.spec_core.specs.History.{History}
use Rattle.spec_core.specs.declared.event.CoreEvent.{CoreEvent}
use Rattle.spec_session.specs.Lines.{Move, Make, LineMoves}
use Rattle.spec_session.specs.Conform.{Request, CutsNext, requests_of, events_of}
use Rattle.spec_session.specs.declared.result.LineResult.{LineResult}
use Rattle.spec_served.specs.Answers.{Answers}

-- the events are those of this line, and this is its result
abbrev pub ServesLine : ℕ → List CoreEvent → Request → List CoreEvent → LineResult → Type 0
ServesLine version own request es r =
    (ms : List Move) × LineMoves version own request.1 ms × Make request.0 ms es
    × Answers own request.1 ms r

-- the events are the join of those of each line, in order, and each line has its result
abbrev pub ServeLines
    : ℕ → List CoreEvent → List Request → List CoreEvent → List LineResult → Type 0
ServeLines version own [] es rs = (es ≡ []) × (rs ≡ [])
ServeLines version own (t ∷ ts) es [] = ⊥
ServeLines version own (t ∷ ts) es (r ∷ rs) =
    (xs : List CoreEvent) × (ys : List CoreEvent) × (es ≡ xs ++ ys)
    × ServesLine version own t xs r × ServeLines version (own ++ xs) ts ys rs

-- some first lines have their results, and the next, if there is one, ended for want of memory
abbrev pub ServeSome : ℕ → List CoreEvent → List Request → List CoreEvent → List LineResult → Type 0
ServeSome version own ts es rs =
    (done : List Request) × (rest : List Request) × (xs : List CoreEvent) × (ys : List CoreEvent)
    × (ts ≡ done ++ rest) × (es ≡ xs ++ ys)
    × ServeLines version own done xs rs × CutsNext version (own ++ xs) rest ys

-- Served, its part without a device: each line of session s has its result
abbrev pub Served : List ScriptLine → History → ℕ → List LineResult → Type 0
Served lines h s rs =
    ServeLines h.version [] (requests_of s lines) (events_of s h.events) rs

-- the same of some first lines, where the next ended for want of memory
abbrev pub ServedSome : List ScriptLine → History → ℕ → List LineResult → Type 0
ServedSome lines h s rs =
    ServeSome h.version [] (requests_of s lines) (events_of s h.events) rs
