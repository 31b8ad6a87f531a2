-- What a session's share knows after a step, and after a line.
use Rattle.std.specs.Prelude.{◌≡◌, ℕ, Result, Ok, Err, List, [], ◌∷◌, ◌++◌, IfSome}
use Rattle.spec_core.specs.declared.act.Act.{Act}
use Rattle.spec_core.specs.declared.reply.Reply.{Reply}
use Rattle.spec_core.specs.declared.event.CoreEvent.{CoreEvent}
use Rattle.spec_core.specs.declared.who.Who.{Who}
use Rattle.spec_session.specs.Lines.{Move, Make, LineMoves, CutMoves}
use Rattle.spec_session.specs.declared.result.LineResult.{LineResult}
use Rattle.spec_served.specs.Answers.{Answers, IsReply}
use Rattle.std.specs.declared.alloc.AllocError.{AllocError}
use Rattle.bv_turn.specs.declared.keeps.Keeps.{Ghosts}
use Rattle.bv_turn.specs.declared.turn.Share.{Share}
use Rattle.bv_turn.specs.declared.turn.Turn.{Turn}
use Rattle.bv_turn.specs.Tokens.{IsOf, IsIdle, session_of, list_of, basis_of}
use Rattle.bv_session.specs.declared.entry.Entry.{Entry}
use Rattle.bv_session.specs.declared.entry.Basis.{Basis}
use Rattle.bv_session.specs.Events.{events_in}

-- ---- lists of a session's events

-- some entries more, or none
abbrev pub Grows : List Entry → List Entry → Type 0
Grows old new = (more : List Entry) × (new ≡ old ++ more)

-- exactly one event more, by this session and line
abbrev pub Gains : Who → Act → Reply → List CoreEvent → List CoreEvent → Type 0
Gains who act reply old new =
    (calls : ℕ)
    × (new ≡ old ++ record { who = who; act = act; reply = reply; calls = calls } ∷ [])

-- from old to now these moves were made by this session and line
pub record Since (who : Who) (ms : List Move) (old now : List CoreEvent) : Type 0 where
  pub part : List CoreEvent
  pub is : now ≡ old ++ part
  pub make : Make who ms part

-- what a line answers, or that it found no memory
abbrev pub LineAnswer : Type 0
LineAnswer = Result LineResult AllocError

-- the moves are those of the line with this act of its own, which has this result; or for want of
-- memory they are a beginning of one
abbrev pub Allowed : ℕ → List CoreEvent → Act → LineAnswer → List Move → Type 0
Allowed version old act (Ok r) ms = LineMoves version old act ms × Answers old act ms r
Allowed version old act (Err e) ms = CutMoves version old act ms

-- from old to now the line with this act of its own was done with this result, or cut short
pub record Ends (version : ℕ) (who : Who) (act : Act) (answer : LineAnswer) (old now : List CoreEvent)
    : Type 0 where
  pub moves : List Move
  pub since : Since who moves old now
  pub allowed : Allowed version old act answer moves

-- the same of a line that had made these moves before, after these events of its session
pub record EndsAfter (version : ℕ) (start : List CoreEvent) (who : Who) (act : Act)
    (before : List Move) (answer : LineAnswer) (old now : List CoreEvent) : Type 0 where
  pub moves : List Move
  pub since : Since who moves old now
  pub allowed : Allowed version start act answer (before ++ moves)

-- from old to now there is this one event with this result, or for want of memory none
abbrev pub DoesOne : Who → Act → LineAnswer → List CoreEvent → List CoreEvent → Type 0
DoesOne who act (Ok r) old now = (q : Reply) × Gains who act q old now × IsReply q r
DoesOne who act (Err e) old now = now ≡ old

-- ---- shares

module _ {T : Type 0} {k : Ghosts T Entry Basis} where
  -- the events of the share's session
  abbrev pub own : Share T Entry Basis k → List CoreEvent
  own s = events_in (list_of s)

  -- a share that makes events for this session and line
  abbrev pub IsFor : Turn T Entry Basis → Who → Share T Entry Basis k → Type 0
  IsFor t who s = IsOf t s × IsIdle s × (who.session ≡ session_of s)

  -- the basis of a share has P
  abbrev pub BasisHas : Share T Entry Basis k → (Basis → Type 0) → Type 0
  BasisHas s P = IfSome (basis_of s) P

  -- the same share, idle again, with some entries more
  pub record Stays (t : Turn T Entry Basis) (old new : Share T Entry Basis k) : Type 0 where
    pub this : IsOf t new
    pub idle : IsIdle new
    pub session : session_of new ≡ session_of old
    pub basis : basis_of new ≡ basis_of old
    pub grows : Grows (list_of old) (list_of new)
