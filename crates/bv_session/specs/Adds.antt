-- How far an add line has come, step by step.
use Rattle.std.specs.Prelude.{◌≡◌, ℕ, ◌<◌, ◌≤◌, true, List, [], ◌∷◌, ◌++◌, Some, Result, Ok, Err}
use Rattle.spec_tree.specs.Tree.{need_of}
use Rattle.spec_core.specs.declared.act.Act.TheVariants.{Begin, Put}
use Rattle.spec_core.specs.declared.reply.Reply.TheVariants.{Granted}
use Rattle.spec_core.specs.declared.event.CoreEvent.{CoreEvent}
use Rattle.spec_core.specs.declared.who.Who.{Who}
use Rattle.spec_session.specs.Own.{OwnAdd, add_of}
use Rattle.spec_session.specs.Lines.{Move, AddMoves, AddCut, admits, puts}
use Rattle.std.specs.declared.alloc.AllocError.{AllocError}
use Rattle.bv_writer.specs.Plans.{Plan}
use Rattle.bv_session.specs.Events.{IsRefusal}
use Rattle.spec_served.specs.Answers.{AnswersAdd}
use Rattle.bv_session.specs.Sessions.{LineAnswer, Since}
use Rattle.bv_session.specs.declared.serves.Outcome.{Outcome}
use Rattle.bv_session.specs.declared.serves.Outcome.TheVariants.{Done, Refused}

-- the add of this plan, once it is admitted and so many of its blocks are put
abbrev pub put_of : Plan → ℕ → OwnAdd
put_of a k = record { root = a.root; size = a.size; admitted = true; puts = k }

-- begin went well
abbrev pub begins : Plan → List Move
begins a = (Begin a.root a.size, Granted) ∷ []

-- all blocks are put
abbrev pub all_put : Plan → List Move
all_put a = admits a.root a.size ++ puts (need_of a.version a.size)

-- these are the moves of an add with this result, or for want of memory of one that was cut short
abbrev pub AddAllowed : Plan → LineAnswer → List Move → Type 0
AddAllowed a (Ok r) ms = AddMoves a.version a.root a.size ms × AnswersAdd ms r
AddAllowed a (Err e) ms = AddCut a.version a.root a.size ms

-- From old to now an add line was done, or cut short, that had made these moves before
pub record AddEnds (a : Plan) (who : Who) (before : List Move) (answer : LineAnswer)
    (old now : List CoreEvent) : Type 0 where
  pub moves : List Move
  pub since : Since who moves old now
  pub allowed : AddAllowed a answer (before ++ moves)

-- so many blocks are put, and the add, of which the token tells, is still under way
pub record HasPut (a : Plan) (k : ℕ) (token : OwnAdd) (now : List CoreEvent) : Type 0 where
  pub within : k ≤ need_of a.version a.size
  pub is : token ≡ put_of a k
  pub add : add_of now ≡ Some (put_of a k)

-- the puts of an add, of which the token tells: all, or some and a refused one, or for want of
-- memory some
abbrev pub PutsEnd
    : Plan → Who → Result Outcome AllocError → OwnAdd → List CoreEvent → List CoreEvent
    → Type 0
PutsEnd a who (Ok Done) token old now =
    HasPut a (need_of a.version a.size) token now
    × Since who (puts (need_of a.version a.size)) old now
PutsEnd a who (Ok (Refused q)) token old now =
    (k : ℕ) × (k < need_of a.version a.size) × HasPut a k token now × IsRefusal q
    × Since who (puts k ++ (Put k, q) ∷ []) old now
PutsEnd a who (Err e) token old now =
    (k : ℕ) × HasPut a k token now × Since who (puts k) old now

-- this holds where all blocks were put
abbrev pub IfAllPut : Result Outcome AllocError → Type 0 → Type 0
IfAllPut (Ok Done) P = P
IfAllPut (Ok (Refused q)) P = Unit {0}
IfAllPut (Err e) P = Unit {0}
