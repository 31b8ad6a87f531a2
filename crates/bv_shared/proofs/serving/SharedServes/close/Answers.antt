use Rattle.spec_core.specs.declared.act.Act.TheVariants as acts
use Rattle.spec_core.specs.declared.reply.Reply.TheVariants as replies
use Rattle.bv_shared.proofs.GainLemmas.{entries_spared}
use Rattle.bv_shared.proofs.PagesLemmas.{pages_closed, reader_roomed, readers_on}
use Rattle.bv_shared.proofs.ServeLemmas.{basis_kept, basis_roomed, outcome_err, outcome_ok}
use Rattle.bv_shared.proofs.serving.SharedServes.close.Goals as goal

-- no room: nothing changes but the room
pub returns-in-Err-clause-basis : goal.returns-in-Err-clause-basis
returns-in-Err-clause-basis g c = basis_roomed c.args.self.now.volume c.make_room.new.self.volume c.in-Err.ensures.volume c.args.self.now.opening.value c.make_room.new.self.opening.value c.in-Err.ensures.opening

pub returns-in-Err-clause-err : goal.returns-in-Err-clause-err
returns-in-Err-clause-err g c = entries_spared c.args.self.now.volume c.make_room.new.self.volume c.in-Err.ensures.volume

pub returns-clause-basis : goal.returns-clause-basis
returns-clause-basis g c = basis_kept c.args.self.now.volume c.make_room.new.self.volume c.note_close-answer.new.self.volume c.in-Ok.ensures.volume c.args.self.now.opening.value c.make_room.new.self.opening.value c.note_close-answer.new.self.opening.value c.in-Ok.ensures.opening c.note_close-answer.ensures.opening c.note_close-answer.ensures.basis

pub returns-clause-ok : goal.returns-clause-ok
returns-clause-ok g c = outcome_ok c.args.self.now.volume c.make_room.new.self.volume c.note_close-answer.new.self.volume c.in-Ok.ensures.volume c.args.who (acts.Close c.args.slot) replies.Closed c.close_outcome.result _ c.note_close-answer.ensures.gains c.close_outcome.ensures.reply

pub returns-clause-err : goal.returns-clause-err
returns-clause-err g c = outcome_err c.args.self.now.volume c.make_room.new.self.volume c.note_close-answer.new.self.volume c.in-Ok.ensures.volume c.args.who (acts.Close c.args.slot) replies.Closed c.close_outcome.result _ c.note_close-answer.ensures.gains c.close_outcome.ensures.reply

pub invariant_of-self : goal.invariant_of-self
invariant_of-self g c = record {
  since = c.note_close-answer.new.self.since;
  pages = pages_closed c.note_close-answer.new.self.volume c.args.pages c.note_close-answer.new.self.kept c.keep_closed.new.kept c.keep_closed.ensures
      (readers_on c.make_room.new.self.volume c.note_close-answer.new.self.volume c.args.pages c.note_close-answer.ensures.has
      (reader_roomed c.args.self.now.opening.value c.args.self.now.volume c.make_room.new.self.volume c.in-Ok.ensures.volume c.args.self.now.since c.in-Ok.ensures.legal c.args.self.now.opening.value.store.faults c.args.who.session c.args.slot c.args.pages c.requires.pages))
      c.note_close-answer.new.self.pages;
}
