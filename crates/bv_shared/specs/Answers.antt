-- The replies that answers of a value behind the lock are.
use Rattle.std.specs.Prelude.{Option, None, Some, Result, Ok, Err}
use Rattle.spec_core.specs.declared.reply.Reply.{Reply}
use Rattle.spec_core.specs.declared.reply.Reply.TheVariants as replies
use Rattle.bv_session.specs.declared.serves.Answer.{Answer}
use Rattle.bv_session.specs.declared.serves.Outcome.{Outcome}
use Rattle.bv_session.specs.declared.serves.Outcome.TheVariants.{Done, Refused}
use Rattle.bv_session.specs.Events.{reply_by, reply_or}
use Rattle.bv_volume.specs.declared.putting.PutFault.{PutFault}
use Rattle.bv_volume.specs.declared.putting.PutFault.TheVariants as put

module _ {X E : Type 0} where
  -- the reply of what was answered: `done` says which where it went well
  abbrev pub answer_reply : (X → Reply) → Result (Answer X) E → Option Reply
  answer_reply done (Ok a) = Some (reply_by done a)
  answer_reply done (Err e) = None

module _ {E : Type 0} where
  -- the reply of what gives nothing, which is `done` where it went well
  abbrev pub outcome_reply : Reply → Result Outcome E → Option Reply
  outcome_reply done (Ok a) = Some (reply_or done a)
  outcome_reply done (Err e) = None

-- what a put is to a session
abbrev pub put_outcome : Result (Unit {0}) PutFault → Outcome
put_outcome (Ok v) = Done
put_outcome (Err (put.Stopped f)) = Refused (replies.Stopped f)
put_outcome (Err (put.DeviceFault f)) = Refused (replies.DeviceFault f)
