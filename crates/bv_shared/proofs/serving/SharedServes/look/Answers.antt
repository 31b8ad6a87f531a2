use Rattle.std.proofs.Common.{◌≡◌, Some}
use Rattle.spec_core.specs.declared.reply.Reply.TheVariants as replies
use Rattle.bv_session.specs.Events.{own_events}
use Rattle.bv_shared.specs.Entries.{entries_in}
use Rattle.spec_session.specs.Own.{slot_holds}
use Rattle.bv_ledger.specs.Answers.{look_act, look_reply}
use Rattle.bv_shared.proofs.LookLemmas.{knows_held, look_finds, look_known}
use Rattle.bv_shared.proofs.GainLemmas.{entries_spared}
use Rattle.bv_shared.proofs.ServeLemmas.{basis_kept, basis_roomed, done_is, look_ok}
use Rattle.bv_shared.proofs.serving.SharedServes.look.Goals as goal

-- no room: nothing changes but the room
pub returns-in-Err-clause-basis : goal.returns-in-Err-clause-basis
returns-in-Err-clause-basis g c = basis_roomed c.args.self.now.volume c.make_room.new.self.volume c.in-Err.ensures.volume c.args.self.now.opening.value c.make_room.new.self.opening.value c.in-Err.ensures.opening

pub returns-in-Err-clause-err : goal.returns-in-Err-clause-err
returns-in-Err-clause-err g c = entries_spared c.args.self.now.volume c.make_room.new.self.volume c.in-Err.ensures.volume

pub returns-clause-basis : goal.returns-clause-basis
returns-clause-basis g c = basis_kept c.args.self.now.volume c.make_room.new.self.volume c.note_look.new.self.volume c.in-Ok.ensures.volume c.args.self.now.opening.value c.make_room.new.self.opening.value c.note_look.new.self.opening.value c.in-Ok.ensures.opening c.note_look.ensures.opening c.note_look.ensures.basis

pub look_answer-requires : goal.look_answer-requires
look_answer-requires g c =
    look_finds c.make_room.new.self.volume c.args.who c.args.slot (own_events (λ e. e.event.who.session) c.args.who.session (entries_in c.args.self.now.volume)) (knows_held c.args.self.now.volume c.make_room.new.self.volume c.in-Ok.ensures.volume c.args.who c.args.slot c.in-Ok.ensures.legal) c.note_look.result c.held-blob.result c.note_look.ensures.root c.held-blob.ensures.some c.held-blob.ensures.none

pub returns-clause-ok : goal.returns-clause-ok
returns-clause-ok g c =
    look_ok c.args.self.now.volume c.make_room.new.self.volume c.note_look.new.self.volume c.in-Ok.ensures.volume c.args.who c.args.act (look_act c.args.slot c.look_of.result) (λ x. replies.Reading) c.look_answer.result (look_reply c.note_look.result) c.look_of.ensures c.note_look.ensures.gains c.look_answer.ensures.reply

pub returns-clause-done : goal.returns-clause-done
returns-clause-done g c =
    done_is (λ x. slot_holds c.args.slot (own_events (λ e. e.event.who.session) c.args.who.session (entries_in c.args.self.now.volume)) ≡ Some x) c.held-blob.result c.look_answer.result c.look_answer.ensures.done
    (look_known c.make_room.new.self.volume c.args.who c.args.slot (own_events (λ e. e.event.who.session) c.args.who.session (entries_in c.args.self.now.volume)) (knows_held c.args.self.now.volume c.make_room.new.self.volume c.in-Ok.ensures.volume c.args.who c.args.slot c.in-Ok.ensures.legal) c.held-blob.result c.held-blob.ensures.some)
