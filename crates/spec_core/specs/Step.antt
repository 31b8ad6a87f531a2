-- One step of the core: the reply is one that may come, and the new state is the change (this
-- project's profile).
use Rattle.std.specs.Prelude.{◌≡◌, ℕ, ◌<◌, ◌≤◌, ◌⊎◌, List, [], ◌∷◌}
use Rattle.spec_core.specs.Change.{change}
use Rattle.spec_core.specs.Choice.{choice}
use Rattle.spec_core.specs.State.{State}
use Rattle.spec_core.specs.declared.choice.Choice.{Choice}
use Rattle.spec_core.specs.declared.choice.Choice.TheVariants.{Only, Writes, Reads, Nodes, Never}
use Rattle.spec_core.specs.declared.event.CoreEvent.{CoreEvent}
use Rattle.spec_core.specs.declared.reply.Reply.{Reply}
use Rattle.spec_core.specs.declared.reply.Reply.TheVariants.{Admitted, NoNodes, DeviceFault, ReadFault}
use Rattle.spec_core.specs.declared.setting.Setting.{Setting}

-- the reply no-nodes: more nodes are needed than are free, by numbers within these bounds
abbrev pub IsNoNodes : ℕ → ℕ → Reply → Type 0
IsNoNodes most least reply =
    (need : ℕ) × (free : ℕ) × (reply ≡ NoNodes need free)
    × (free < need) × (need ≤ most) × (least ≤ free)

-- the reply is one of the choice
abbrev pub Chosen : Choice → Reply → Type 0
Chosen (Only r) reply = reply ≡ r
Chosen (Writes r) reply = (reply ≡ r) ⊎ ((f : ℕ) × (reply ≡ DeviceFault f))
Chosen (Reads r) reply = (reply ≡ r) ⊎ ((f : ℕ) × (reply ≡ ReadFault f))
Chosen (Nodes most least) reply = (reply ≡ Admitted) ⊎ IsNoNodes most least reply
Chosen Never reply = ⊥

-- the event may come in this state
abbrev pub Fits : Setting → State → CoreEvent → Type 0
Fits g s e = Chosen (choice g s e.who e.act) e.reply

-- the state after the event
abbrev pub after : Setting → State → CoreEvent → State
after g s e = change g s e.who e.act e.reply

-- Step: the table has a row with this event, whose change leads from the old state to the new one
abbrev pub Step : Setting → State → CoreEvent → State → Type 0
Step g old e new = Fits g old e × (new ≡ after g old e)

-- the state after these events
abbrev pub state_after : Setting → State → List CoreEvent → State
state_after g s [] = s
state_after g s (e ∷ events) = state_after g (after g s e) events

-- these events are Steps one after another
abbrev pub Steps : Setting → State → List CoreEvent → Type 0
Steps g s [] = Unit {0}
Steps g s (e ∷ events) = Fits g s e × Steps g (after g s e) events
