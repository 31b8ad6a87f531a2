-- Sessions that take their adds on in order (this project's profile): each begins an add only while
-- it has none, and admits, settles and retires its own one alone.
use Rattle.std.specs.Prelude.{◌≡◌, ℕ, List, [], ◌∷◌, ◌++◌, Option, None, Some}
use Rattle.spec_tree.specs.declared.Digest.{Digest}
use Rattle.spec_core.specs.History.{History, Legal, last_state}
use Rattle.spec_core.specs.State.{find}
use Rattle.spec_core.specs.declared.act.Act.{Act}
use Rattle.spec_core.specs.declared.act.Act.TheVariants as acts
use Rattle.spec_core.specs.declared.event.CoreEvent.{CoreEvent}
use Rattle.spec_core.specs.declared.reply.Reply.{Reply}
use Rattle.spec_core.specs.declared.reply.Reply.TheVariants as replies
use Rattle.spec_session.specs.Conform.{events_of}
use Rattle.spec_session.specs.Own.{OwnAdd, add_of}

-- the add that is under way has this root
abbrev pub HasRoot : Option OwnAdd → Digest → Type 0
HasRoot None r = ⊥
HasRoot (Some a) r = a.root ≡ r

-- an event that a session with this add may make
abbrev pub IsInOrder : Option OwnAdd → Act → Reply → Type 0
IsInOrder add (acts.Begin r n) replies.Granted = add ≡ None
IsInOrder add (acts.Admit r) reply = HasRoot add r
IsInOrder add (acts.Settle r) reply = HasRoot add r
IsInOrder add (acts.Retire r) reply = HasRoot add r
IsInOrder add act reply = Unit {0}

-- each of these events is in order, after those before it
abbrev pub AreInOrder : List CoreEvent → List CoreEvent → Type 0
AreInOrder before [] = Unit {0}
AreInOrder before (e ∷ es) =
    IsInOrder (add_of (events_of e.who.session before)) e.act e.reply
    × AreInOrder (before ++ e ∷ []) es

-- what a session has under way by its own events is under way in the core
abbrev pub OwnAddsAreUnderWay : Type 0
OwnAddsAreUnderWay =
    (h : History) (next s : ℕ) (a : OwnAdd) → Legal h next → AreInOrder [] h.events
    → add_of (events_of s h.events) ≡ Some a
    → find (last_state h next).adds a.root ≡ Some a.size

-- no two sessions have an add of one root
abbrev pub AddsAreApart : Type 0
AddsAreApart =
    (h : History) (next s t : ℕ) (a b : OwnAdd) → Legal h next → AreInOrder [] h.events
    → ¬ (s ≡ t) → add_of (events_of s h.events) ≡ Some a → add_of (events_of t h.events) ≡ Some b
    → ¬ (a.root ≡ b.root)
