use Rattle.spec_core.specs.declared.act.Act.TheVariants as acts
use Rattle.spec_core.specs.declared.reply.Reply.TheVariants as replies
use Rattle.bv_shared.proofs.GainLemmas.{entries_spared}
use Rattle.bv_shared.specs.Entries.{basis_of}
use Rattle.bv_shared.proofs.PagesLemmas.{gains_of, open_ok, pages_forgot}
use Rattle.bv_shared.proofs.ServeLemmas.{basis_kept, basis_roomed, answer_err}
use Rattle.bv_shared.proofs.serving.SharedServes.open.Goals as goal

-- no room: nothing changes but the room
pub returns-in-Err-clause-basis : goal.returns-in-Err-clause-basis
returns-in-Err-clause-basis g c = basis_roomed c.args.self.now.volume c.make_room.new.self.volume c.in-Err.ensures.volume c.args.self.now.opening.value c.make_room.new.self.opening.value c.in-Err.ensures.opening

pub returns-in-Err-clause-err : goal.returns-in-Err-clause-err
returns-in-Err-clause-err g c = entries_spared c.args.self.now.volume c.make_room.new.self.volume c.in-Err.ensures.volume

pub returns-clause-basis : goal.returns-clause-basis
returns-clause-basis g c = basis_kept c.args.self.now.volume c.make_room.new.self.volume c.note_open-answer.new.self.volume c.in-Ok.ensures.volume c.args.self.now.opening.value c.make_room.new.self.opening.value c.note_open-answer.new.self.opening.value c.in-Ok.ensures.opening c.note_open-answer.ensures.opening c.note_open-answer.ensures.basis

pub returns-clause-ok : goal.returns-clause-ok
returns-clause-ok g c =
    let first = c.args.self.now.opening.value.store.faults in
    let room = c.in-Ok.ensures.volume in
    let same = basis_roomed c.args.self.now.volume c.make_room.new.self.volume room c.args.self.now.opening.value c.make_room.new.self.opening.value c.in-Ok.ensures.opening in
    open_ok c.args.self.now.volume c.make_room.new.self.volume c.note_open-answer.new.self.volume room c.args.who c.args.slot c.args.root (basis_of c.make_room.new.self.volume c.make_room.new.self.opening.value.store.faults) (basis_of c.args.self.now.volume first) same
    c.note_open-answer.new.self.kept c.note_open-answer.new.self.pages c.open_answer.result c.note_open-answer.result c.note_open-answer.ensures.gains c.open_answer.ensures.reply c.open_answer.ensures.found c.open_answer.ensures.pages

pub returns-clause-err : goal.returns-clause-err
returns-clause-err g c =
    answer_err c.args.self.now.volume c.make_room.new.self.volume c.note_open-answer.new.self.volume c.in-Ok.ensures.volume c.args.who (acts.Open c.args.slot c.args.root) (λ x. replies.Opened x.0) c.open_answer.result _ (gains_of _ _ _ _ _ _ c.note_open-answer.ensures.gains) c.open_answer.ensures.reply

pub invariant_of-self : goal.invariant_of-self
invariant_of-self g c = record {
  since = c.note_open-answer.new.self.since;
  pages = pages_forgot c.note_open-answer.new.self.volume c.args.root c.note_open-answer.new.self.kept c.open_answer.new.kept c.open_answer.ensures.kept c.note_open-answer.new.self.pages;
}
