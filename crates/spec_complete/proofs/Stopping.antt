-- While no call of the device fails and there is enough, nothing stops the volume.
use Rattle.std.proofs.Common.{List, [], ◌∷◌, ◌++◌, subst}
use Rattle.std.specs.List.{AllByRecursion}
use Rattle.spec_core.specs.History.{first_state, opening_map, setting_of}
use Rattle.spec_core.specs.State.{State}
use Rattle.spec_core.specs.Step.{Steps, after, state_after}
use Rattle.spec_core.specs.declared.event.CoreEvent.{CoreEvent}
use Rattle.spec_core.specs.declared.setting.Setting.{Setting}
use Rattle.spec_complete.specs.Good.{NothingStops}
use Rattle.spec_complete.proofs.Going.{Enough, IsFaultless, enough_after, enough_first, faultless}

-- after some first events there is enough for the others
enough_run : (g : Setting) (s : State) (xs ys : List CoreEvent) → Enough g s (xs ++ ys) → AllByRecursion (λ e. IsFaultless e.reply) (xs ++ ys) → Steps g s (xs ++ ys) → Enough g (state_after g s xs) ys
enough_run g s [] ys k calm steps = k
enough_run g s (e ∷ xs) ys k calm steps = enough_run g (after g s e) xs ys (enough_after g s e (xs ++ ys) k calm.0 steps.0) calm.1 steps.1

pub nothing_stops : NothingStops
nothing_stops run next first last ended calm enough xs ys is =
    let g : Setting = setting_of run.history in
    let s : State = first_state (opening_map run.history) next in
    (enough_run g s xs ys
    (subst (λ (es : List CoreEvent). Enough g s es) is (enough_first run next first last ended enough))
    (subst (λ (es : List CoreEvent). AllByRecursion (λ e. IsFaultless e.reply) es) is (faultless first last run.history.events calm ended.caused))
    (subst (λ (es : List CoreEvent). Steps g s es) is ended.legal.steps)).going
