-- The puts and the publications of a line, and the puts of a session's add (this project's profile).
use Rattle.std.specs.Prelude.{◌≡◌, ℕ, ◌&&◌, Bool, true, false, List, [], ◌∷◌, ◌++◌, map, filter}
use Rattle.spec_core.specs.declared.act.Act.{Act}
use Rattle.spec_core.specs.declared.act.Act.TheVariants as acts
use Rattle.spec_core.specs.declared.reply.Reply.{Reply}
use Rattle.spec_core.specs.declared.reply.Reply.TheVariants as replies
use Rattle.spec_core.specs.declared.event.CoreEvent.{CoreEvent}
use Rattle.spec_core.specs.declared.who.Who.{Who}
use Rattle.spec_session.specs.Conform.{events_of}
use Rattle.spec_session.specs.Told.{same_who}
use Rattle.spec_served.specs.Places.{was_written}

-- whether a blob was published
abbrev pub was_published : Act → Reply → Bool
was_published (acts.Settle r) replies.Published = true
was_published act reply = false

-- the events by which this session and line published
abbrev pub published_by : Who → List CoreEvent → List CoreEvent
published_by who events = filter (λ e. same_who e.who who && was_published e.act e.reply) events

-- how many calls the device had made as each put of this session and line ended
abbrev pub line_puts : Who → List CoreEvent → List ℕ
line_puts who events =
    map (λ e. e.calls) (filter (λ e. same_who e.who who && was_written e.act e.reply) events)

-- how many calls the device had made as each put of a session's add ended, after an event, where
-- before it these were the numbers
abbrev pub puts_after : List ℕ → Act → Reply → ℕ → List ℕ
puts_after puts (acts.Admit r) reply calls = []
puts_after puts (acts.Put index) replies.Written calls = puts ++ calls ∷ []
puts_after puts act reply calls = puts

-- the same after these events
abbrev pub puts_from : List ℕ → List CoreEvent → List ℕ
puts_from puts [] = puts
puts_from puts (e ∷ es) = puts_from (puts_after puts e.act e.reply e.calls) es

-- the same of a session with these events
abbrev pub puts_of : List CoreEvent → List ℕ
puts_of own = puts_from [] own

-- an event that a line may make after these, where each line adds one blob at most: a put comes before
-- the line has published, and what is published is what the line has put
abbrev pub IsByLine : List CoreEvent → Who → Act → Reply → Type 0
IsByLine before who (acts.Put index) replies.Written =
    published_by who (events_of who.session before) ≡ []
IsByLine before who (acts.Settle r) replies.Published =
    line_puts who (events_of who.session before) ≡ puts_of (events_of who.session before)
IsByLine before who act reply = Unit {0}

-- each of these events is such a one, after those before it
abbrev pub AreByLine : List CoreEvent → List CoreEvent → Type 0
AreByLine before [] = Unit {0}
AreByLine before (e ∷ es) =
    IsByLine before e.who e.act e.reply × AreByLine (before ++ e ∷ []) es
