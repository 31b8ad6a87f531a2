-- How far an add is, by the volume and by the tokens of its calls.
use Rattle.std.specs.Prelude.{◌≡◌, ◌≤◌, ◌<◌, ◌+◌, ◌++◌, ◌∷◌, [], ℕ, List, take, true, Option, None, Some, IfSome, Result, Ok, Err}
use Rattle.spec_tree.specs.Tree.{need_of}
use Rattle.spec_core.specs.declared.act.Act.TheVariants.{Put}
use Rattle.spec_core.specs.declared.event.CoreEvent.{CoreEvent}
use Rattle.spec_core.specs.declared.reply.Reply.{Reply}
use Rattle.spec_core.specs.declared.who.Who.{Who}
use Rattle.spec_session.specs.Conform.{events_of}
use Rattle.spec_session.specs.Lines.{puts}
use Rattle.spec_session.specs.Own.{OwnAdd}
use Rattle.spec_served.specs.Answers.{IsReply}
use Rattle.bv_claims.specs.declared.claimed.Claimed.{Claimed}
use Rattle.bv_claims.specs.declared.grant.Grant.{Grant}
use Rattle.bv_ledger.specs.Answers.{begin_reply}
use Rattle.bv_ledger.specs.declared.adds.BeginFault.{BeginFault}
use Rattle.bv_session.specs.Adds.{HasPut}
use Rattle.bv_session.specs.Events.{IsRefusal}
use Rattle.bv_session.specs.Sessions.{LineAnswer, Since}
use Rattle.bv_volume.specs.Adding.{ClaimsFor}
use Rattle.bv_volume.specs.Answers.{put_reply}
use Rattle.bv_volume.specs.Seen.{Seen}
use Rattle.bv_volume.specs.Sessions.{HasBegun, blocks_written}
use Rattle.bv_volume.specs.declared.putting.PutFault.{PutFault}
use Rattle.bv_volume.specs.declared.tokens.Admitted.{Admitted}
use Rattle.bv_volume.specs.declared.tokens.Begun.{Begun}
use Rattle.bv_writer.specs.Plans.{Plan}

-- ---- answers

-- the answer of a line whose last call gave this reply, which refuses it; without a reply, want of
-- memory
abbrev pub RefusesBy : Option Reply → LineAnswer → Type 0
RefusesBy (Some q) (Ok r) = IsRefusal q × IsReply q r
RefusesBy (Some q) (Err e) = ⊥
RefusesBy None (Ok r) = ⊥
RefusesBy None (Err e) = Unit {0}

-- the reply of a begin that gave nothing
abbrev pub begin_refusal : BeginFault → Option Reply
begin_refusal fault = let answer : Result (Begun × Grant) BeginFault = Err fault in begin_reply answer

-- the reply of a put that wrote nothing
abbrev pub put_refusal : PutFault → Reply
put_refusal fault = put_reply (Err fault)

-- ---- steps

-- the add of an admitted token
abbrev pub add_by : Admitted → OwnAdd
add_by a = record { root = a.root; size = a.size; admitted = true; puts = a.put }

-- the events of a session of the volume
abbrev pub own : ℕ → Seen → List CoreEvent
own session v = events_of session v.history.events

-- the session has begun this add, the claim has the blocks or the budget for it, and there is room
-- for its further events
pub record HasClaimed (a : Plan) (session : ℕ) (v : Seen) (begun : Begun) (claimed : Claimed)
    : Type 0 where
  pub version : v.history.version ≡ a.version
  pub token : begun ≡ record { root = a.root; size = a.size }
  pub add : HasBegun v.history session begun
  pub claim : ClaimsFor v.space.claims claimed (need_of v.history.version begun.size)
  pub spare : need_of a.version a.size + 2 ≤ v.spare

-- so many blocks of the session's add are put, as its events and the token say; where the device
-- tells, it has written them; and there is room for the other puts and for a settle
pub record HasPuts (a : Plan) (k : ℕ) (session : ℕ) (v : Seen) (token : Admitted) : Type 0 where
  pub version : v.history.version ≡ a.version
  pub add : HasPut a k (add_by token) (own session v)
  pub wrote : IfSome v.store.told (λ d. blocks_written d.trace (own session v) ≡ take k a.blocks)
  pub spare : need_of a.version a.size + 1 ≤ v.spare + k

-- some blocks were put, the next was refused, and the add is still under way
pub record StopsPuts (a : Plan) (who : Who) (fault : PutFault) (token : Admitted) (old new : Seen)
    : Type 0 where
  pub count : ℕ
  pub low : count < need_of a.version a.size
  pub add : HasPut a count (add_by token) (own who.session new)
  pub since : Since who (puts count ++ (Put count, put_refusal fault) ∷ [])
      old.history.events new.history.events
