-- How a history grows.
use Rattle.std.proofs.Common.{◌≡◌, ℕ, ◌≤◌, List, [], ◌∷◌, ◌++◌, refl}
use Rattle.spec_core.specs.History.{History, setting_of, opening_map, first_state, last_state, NeverFall, Legal, with_event}
use Rattle.spec_core.specs.State.{State}
use Rattle.spec_core.specs.Step.{Fits, after, state_after, Steps}
use Rattle.spec_core.specs.declared.event.CoreEvent.{CoreEvent}
use Rattle.spec_core.specs.declared.setting.Setting.{Setting}

-- the calls of the last event, or this number
abbrev pub last_calls : ℕ → List CoreEvent → ℕ
last_calls n [] = n
last_calls n (e ∷ events) = last_calls e.calls events

pub state_after-push : (g : Setting) (s : State) (es : List CoreEvent) (e : CoreEvent) → state_after g s (es ++ e ∷ []) ≡ after g (state_after g s es) e
state_after-push g s [] e = refl
state_after-push g s (x ∷ es) e = state_after-push g (after g s x) es e

pub Steps-push : (g : Setting) (s : State) (es : List CoreEvent) (e : CoreEvent) → Steps g s es → Fits g (state_after g s es) e → Steps g s (es ++ e ∷ [])
Steps-push g s [] e a f = (f, tt)
Steps-push g s (x ∷ es) e a f = (a.0, Steps-push g (after g s x) es e a.1 f)

pub Steps-pop : (g : Setting) (s : State) (es : List CoreEvent) (e : CoreEvent) → Steps g s (es ++ e ∷ []) → Steps g s es × Fits g (state_after g s es) e
Steps-pop g s [] e a = (tt, a.0)
Steps-pop g s (x ∷ es) e a = let r = Steps-pop g (after g s x) es e a.1 in ((a.0, r.0), r.1)

pub NeverFall-push : (n : ℕ) (es : List CoreEvent) (e : CoreEvent) → NeverFall n es → last_calls n es ≤ e.calls → NeverFall n (es ++ e ∷ [])
NeverFall-push n [] e a f = (f, tt)
NeverFall-push n (x ∷ es) e a f = (a.0, NeverFall-push x.calls es e a.1 f)

pub last_calls-push : (n : ℕ) (es : List CoreEvent) (e : CoreEvent) → last_calls n (es ++ e ∷ []) ≡ e.calls
last_calls-push n [] e = refl
last_calls-push n (x ∷ es) e = last_calls-push x.calls es e

-- the state after one event more
pub last_state-with_event : (h : History) (next : ℕ) (e : CoreEvent) → last_state (with_event h e) next ≡ after (setting_of h) (last_state h next) e
last_state-with_event h next e = state_after-push (setting_of h) (first_state (opening_map h) next) h.events e

-- a legal history with one step more is legal
pub Legal-with_event : (h : History) (next : ℕ) (e : CoreEvent) → Legal h next → Fits (setting_of h) (last_state h next) e → last_calls 0 h.events ≤ e.calls → Legal (with_event h e) next
Legal-with_event h next e legal fits calls = record {
  sorted = legal.sorted;
  steps = Steps-push (setting_of h) (first_state (opening_map h) next) h.events e legal.steps fits;
  calls = NeverFall-push 0 h.events e legal.calls calls;
}

-- the first of some Steps are Steps
pub Steps-front : (g : Setting) (s : State) (xs ys : List CoreEvent) → Steps g s (xs ++ ys) → Steps g s xs
Steps-front g s [] ys a = tt
Steps-front g s (e ∷ xs) ys a = (a.0, Steps-front g (after g s e) xs ys a.1)
