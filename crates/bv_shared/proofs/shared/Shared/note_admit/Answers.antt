use Rattle.std.proofs.Common.{refl}
use Rattle.spec_core.specs.declared.act.Act.TheVariants as acts
use Rattle.bv_shared.proofs.GainLemmas.{basis_by, gains_by}
use Rattle.bv_shared.proofs.KeptLemmas.{pages_by}
use Rattle.bv_shared.proofs.SinceLemmas.{since_by}
use Rattle.bv_volume.specs.Admitted.{admit_reply}
use Rattle.bv_shared.proofs.AddLemmas.{admitted_ok}
use Rattle.bv_shared.proofs.shared.Shared.note_admit.Goals as goal

pub invariant_of-self : goal.invariant_of-self
invariant_of-self g c = record {
  since = since_by c.args.self.now.opening.value c.args.self.now.volume c.admit-answer.new.self c.requires.within c.args.who (acts.Admit c.args.begun.root) (admit_reply c.admit-answer.result) c.admit-answer.ensures.row refl (c.history-after.ensures.located, c.history-after.ensures.shown, c.history-after.ensures.sound, c.history-after.ensures.contents, c.history-after.ensures.counted) c.args.self.now.since;
  pages = pages_by c.args.self.now.volume c.admit-answer.new.self c.requires.within c.args.who (acts.Admit c.args.begun.root) (admit_reply c.admit-answer.result) c.args.self.now.kept c.admit-answer.ensures.row (λ reply. refl) c.args.self.now.pages;
}

pub returns-clause-basis : goal.returns-clause-basis
returns-clause-basis g c = basis_by c.args.self.now.volume c.admit-answer.new.self c.args.who (acts.Admit c.args.begun.root) (admit_reply c.admit-answer.result) c.admit-answer.ensures.row

pub returns-clause-gains : goal.returns-clause-gains
returns-clause-gains g c = gains_by c.args.self.now.volume c.admit-answer.new.self c.requires.within c.args.who (acts.Admit c.args.begun.root) (admit_reply c.admit-answer.result) c.admit-answer.ensures.row

pub returns-clause-admitted : goal.returns-clause-admitted
returns-clause-admitted g c = admitted_ok _ _ c.admit-answer.result c.admit-answer.ensures.admitted
