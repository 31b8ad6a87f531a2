-- What a session's add has written, where the device tells.
use Rattle.std.specs.Prelude.{◌≡◌, ℕ, true, List, [], ◌∷◌, ◌++◌, Option, None, Some, IfSome, IsSomeAnd}
use Rattle.spec_disk.specs.declared.event.Event.{Event}
use Rattle.spec_disk.specs.declared.event.Event.TheVariants as device
use Rattle.spec_core.specs.declared.act.Act.{Act}
use Rattle.spec_core.specs.declared.act.Act.TheVariants as acts
use Rattle.spec_core.specs.declared.reply.Reply.{Reply}
use Rattle.spec_core.specs.declared.reply.Reply.TheVariants as replies
use Rattle.bv_session.specs.declared.entry.Entry.{Entry}
use Rattle.bv_session.specs.declared.entry.Told.{Told}
use Rattle.bv_session.specs.declared.serves.Outcome.{Outcome}
use Rattle.bv_session.specs.declared.serves.Outcome.TheVariants as outcomes

-- the last of these events is an Ok write of these bytes
abbrev pub EndsInWrite : List Event → List ℕ → Type 0
EndsInWrite events bytes =
    (first : List Event) × (at : ℕ) × (events ≡ first ++ device.Write at bytes true ∷ [])

-- the bytes of the last of these events, where it is a write
abbrev pub last_bytes : List Event → List ℕ
last_bytes [] = []
last_bytes (device.Write at bytes ok ∷ []) = bytes
last_bytes (e ∷ events) = last_bytes events

-- the bytes that were written last of what was told
abbrev pub told_bytes : Option Told → List ℕ
told_bytes None = []
told_bytes (Some d) = last_bytes d.trace

-- a block that was put was written last, where the device told at the opening
abbrev pub Wrote : Option Told → Outcome → List ℕ → Entry → Type 0
Wrote told outcomes.Done bytes e =
    IfSome told (λ b. IsSomeAnd e.told (λ d. EndsInWrite d.trace bytes))
Wrote told (outcomes.Refused q) bytes e = Unit {0}

-- the blocks that a session's add has written, after an entry, where before it they were these
abbrev pub written_after : List (List ℕ) → Act → Reply → Option Told → List (List ℕ)
written_after blocks (acts.Admit r) reply told = []
written_after blocks (acts.Put index) replies.Written told = blocks ++ told_bytes told ∷ []
written_after blocks act reply told = blocks

-- the same after these entries
abbrev pub written_from : List (List ℕ) → List Entry → List (List ℕ)
written_from blocks [] = blocks
written_from blocks (e ∷ es) =
    written_from (written_after blocks e.event.act e.event.reply e.told) es

-- the blocks that the add of a session with these entries has written
abbrev pub written : List Entry → List (List ℕ)
written es = written_from [] es

-- a block that was put is written, where the device told at the opening
abbrev pub Writes : Option Told → Outcome → List ℕ → List Entry → List Entry → Type 0
Writes told outcomes.Done bytes old new =
    IfSome told (λ d. written new ≡ written old ++ bytes ∷ [])
Writes told (outcomes.Refused q) bytes old new = Unit {0}

-- where the device told at the opening, the add has written these blocks
abbrev pub HasWritten : Option Told → List (List ℕ) → List Entry → Type 0
HasWritten told blocks es = IfSome told (λ d. written es ≡ blocks)
