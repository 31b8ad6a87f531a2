use Rattle.std.proofs.Common.{◌≡◌, sym, subst, refl}
use Rattle.std.specs.Prelude.{Option, IfSome}
use Rattle.spec_core.specs.declared.act.Act.TheVariants as acts
use Rattle.bv_shared.proofs.GainLemmas.{basis_by, gains_by}
use Rattle.bv_shared.proofs.KeptLemmas.{pages_by}
use Rattle.bv_shared.proofs.SinceLemmas.{since_by}
use Rattle.spec_session.specs.Own.{OwnAdd}
use Rattle.bv_ledger.specs.Answers as A
use Rattle.bv_shared.proofs.AddLemmas.{begun_ok, grant_kept}
use Rattle.bv_shared.proofs.shared.Shared.note_begin.Goals as goal

pub begin-answer-requires-clause-order : goal.begin-answer-requires-clause-order
begin-answer-requires-clause-order g c = subst (λ (o : Option OwnAdd). IfSome o (λ a. a.root ≡ c.args.root)) (sym c.requires.idle) tt

pub invariant_of-self : goal.invariant_of-self
invariant_of-self g c = record {
  since = since_by c.args.self.now.opening.value c.args.self.now.volume c.begin-answer.new.self c.requires.within c.args.who (acts.Begin c.args.root c.args.size) (A.begin_reply c.begin-answer.result) c.begin-answer.ensures.row refl (c.history-after.ensures.located, c.history-after.ensures.shown, c.history-after.ensures.sound, c.history-after.ensures.contents, c.history-after.ensures.counted) c.args.self.now.since;
  pages = pages_by c.args.self.now.volume c.begin-answer.new.self c.requires.within c.args.who (acts.Begin c.args.root c.args.size) (A.begin_reply c.begin-answer.result) c.args.self.now.kept c.begin-answer.ensures.row (λ reply. refl) c.args.self.now.pages;
}

pub returns-clause-basis : goal.returns-clause-basis
returns-clause-basis g c = basis_by c.args.self.now.volume c.begin-answer.new.self c.args.who (acts.Begin c.args.root c.args.size) (A.begin_reply c.begin-answer.result) c.begin-answer.ensures.row

pub returns-clause-gains : goal.returns-clause-gains
returns-clause-gains g c = gains_by c.args.self.now.volume c.begin-answer.new.self c.requires.within c.args.who (acts.Begin c.args.root c.args.size) (A.begin_reply c.begin-answer.result) c.begin-answer.ensures.row

pub returns-clause-begun : goal.returns-clause-begun
returns-clause-begun g c = begun_ok _ c.args.root c.args.size c.begin-answer.result c.begin-answer.ensures.begun

pub returns-clause-grant : goal.returns-clause-grant
returns-clause-grant g c = grant_kept c.args.self.now.volume c.begin-answer.new.self c.args.who (acts.Begin c.args.root c.args.size) _ c.begin-answer.result c.begin-answer.ensures.row c.begin-answer.ensures.grant
