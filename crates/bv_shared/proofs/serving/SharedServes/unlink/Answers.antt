use Rattle.spec_core.specs.declared.act.Act.TheVariants as acts
use Rattle.spec_core.specs.declared.reply.Reply.TheVariants as replies
use Rattle.bv_shared.proofs.GainLemmas.{entries_spared}
use Rattle.bv_shared.proofs.PagesLemmas.{pages_forgot}
use Rattle.bv_shared.proofs.ServeLemmas.{basis_kept, basis_roomed, outcome_err, outcome_ok}
use Rattle.bv_shared.proofs.serving.SharedServes.unlink.Goals as goal

-- no room: nothing changes but the room
pub returns-in-Err-clause-basis : goal.returns-in-Err-clause-basis
returns-in-Err-clause-basis g c = basis_roomed c.args.self.now.volume c.make_room.new.self.volume c.in-Err.ensures.volume c.args.self.now.opening.value c.make_room.new.self.opening.value c.in-Err.ensures.opening

pub returns-in-Err-clause-err : goal.returns-in-Err-clause-err
returns-in-Err-clause-err g c = entries_spared c.args.self.now.volume c.make_room.new.self.volume c.in-Err.ensures.volume

pub returns-clause-basis : goal.returns-clause-basis
returns-clause-basis g c = basis_kept c.args.self.now.volume c.make_room.new.self.volume c.note_unlink-answer.new.self.volume c.in-Ok.ensures.volume c.args.self.now.opening.value c.make_room.new.self.opening.value c.note_unlink-answer.new.self.opening.value c.in-Ok.ensures.opening c.note_unlink-answer.ensures.opening c.note_unlink-answer.ensures.basis

pub returns-clause-ok : goal.returns-clause-ok
returns-clause-ok g c = outcome_ok c.args.self.now.volume c.make_room.new.self.volume c.note_unlink-answer.new.self.volume c.in-Ok.ensures.volume c.args.who (acts.Unlink c.args.root) replies.Unlinked c.unlink_outcome.result _ c.note_unlink-answer.ensures.gains c.unlink_outcome.ensures.reply

pub returns-clause-err : goal.returns-clause-err
returns-clause-err g c = outcome_err c.args.self.now.volume c.make_room.new.self.volume c.note_unlink-answer.new.self.volume c.in-Ok.ensures.volume c.args.who (acts.Unlink c.args.root) replies.Unlinked c.unlink_outcome.result _ c.note_unlink-answer.ensures.gains c.unlink_outcome.ensures.reply

pub invariant_of-self : goal.invariant_of-self
invariant_of-self g c = record {
  since = c.note_unlink-answer.new.self.since;
  pages = pages_forgot c.note_unlink-answer.new.self.volume c.args.root c.note_unlink-answer.new.self.kept c.forget_unlinked.new.kept c.forget_unlinked.ensures c.note_unlink-answer.new.self.pages;
}
