use Rattle.std.proofs.Common.{Some}
use Rattle.bv_ledger.specs.Answers as A
use Rattle.bv_shared.proofs.GainLemmas.{gains_by, basis_by}
use Rattle.bv_shared.proofs.KeptLemmas.{pages_by}
use Rattle.bv_shared.proofs.PagesLemmas.{look_published}
use Rattle.bv_shared.proofs.SinceLemmas.{look_mounted, since_by}
use Rattle.bv_shared.proofs.shared.Shared.note_look.Goals as goal

pub invariant_of-self : goal.invariant_of-self
invariant_of-self g c = record {
  since = since_by c.args.self.now.opening.value c.args.self.now.volume c.look-answer.new.self c.requires.within c.args.who (A.look_act c.args.slot c.args.what) (Some (A.look_reply c.look-answer.result)) c.look-answer.ensures.row (look_mounted c.args.slot c.args.what) (c.history-after.ensures.located, c.history-after.ensures.shown, c.history-after.ensures.sound, c.history-after.ensures.contents, c.history-after.ensures.counted) c.args.self.now.since;
  pages = pages_by c.args.self.now.volume c.look-answer.new.self c.requires.within c.args.who (A.look_act c.args.slot c.args.what) (Some (A.look_reply c.look-answer.result)) c.args.self.now.kept c.look-answer.ensures.row (look_published c.args.slot c.args.what) c.args.self.now.pages;
}

pub returns-clause-basis : goal.returns-clause-basis
returns-clause-basis g c = basis_by c.args.self.now.volume c.look-answer.new.self c.args.who (A.look_act c.args.slot c.args.what) (Some (A.look_reply c.look-answer.result)) c.look-answer.ensures.row

pub returns-clause-gains : goal.returns-clause-gains
returns-clause-gains g c = gains_by c.args.self.now.volume c.look-answer.new.self c.requires.within c.args.who (A.look_act c.args.slot c.args.what) (Some (A.look_reply c.look-answer.result)) c.look-answer.ensures.row
