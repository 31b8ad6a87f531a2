use Rattle.std.proofs.Common.{◌≤◌, sym, subst, ◌∙◌, refl, ℕ}
use Rattle.bv_session.proofs.LineLemmas.{ends_none, need_fits, word_ends}
use Rattle.bv_session.proofs.WrittenLemmas.{plan_is}
use Rattle.bv_session.proofs.line.add_word.Goals as goal

pub add-requires-clause-need : goal.add-requires-clause-need
add-requires-clause-need g c =
    let plan = c.in-Ok-plan_as.ensures in
    need_fits _ _ (subst (λ (n : ℕ). n ≤ 4194304) (sym (plan.of_size ∙ c.in-Ok.ensures.len)) c.requires.lawful)

pub add-requires-clause-blob : goal.add-requires-clause-blob
add-requires-clause-blob g c = plan_is _ _ _ c.in-Ok-plan_as.ensures

pub returns-in-Err-clause-line : goal.returns-in-Err-clause-line
returns-in-Err-clause-line g c = ends_none _ c.args.version c.args.who _ _ _ refl

pub returns-in-Err-plan_as-clause-line : goal.returns-in-Err-plan_as-clause-line
returns-in-Err-plan_as-clause-line g c = ends_none _ c.args.version c.args.who _ _ _ refl

pub returns-clause-line : goal.returns-clause-line
returns-clause-line g c =
    word_ends c.in-Ok-plan_as.adding c.args.version _ _ c.args.who _ _ _ c.in-Ok-plan_as.ensures c.in-Ok.ensures.bytes c.add.ensures.line
