use Rattle.std.proofs.Common.{◌≡◌, Some, sym, subst}
use Rattle.spec_core.specs.declared.act.Act.TheVariants as acts
use Rattle.spec_core.specs.declared.reply.Reply.TheVariants as replies
use Rattle.bv_volume.specs.Seen.{Seen}
use Rattle.bv_volume.specs.Adding.{ClaimsFor}
use Rattle.spec_session.specs.Own.{add_of, admitted_add, new_add}
use Rattle.spec_tree.specs.Tree.{need_of}
use Rattle.bv_shared.proofs.AddLemmas.{admit_back, admit_done, own_add}
use Rattle.bv_shared.proofs.GainLemmas.{entries_spared}
use Rattle.bv_shared.proofs.ServeLemmas.{answer_err, answer_ok, basis_kept, basis_roomed, done_of, own_now}
use Rattle.bv_shared.proofs.serving.SharedServes.admit.Goals as goal

-- no room: nothing changes but the room
pub returns-in-Err-clause-basis : goal.returns-in-Err-clause-basis
returns-in-Err-clause-basis g c = basis_roomed c.args.self.now.volume c.make_room.new.self.volume c.in-Err.ensures.volume c.args.self.now.opening.value c.make_room.new.self.opening.value c.in-Err.ensures.opening

pub returns-in-Err-clause-err : goal.returns-in-Err-clause-err
returns-in-Err-clause-err g c = entries_spared c.args.self.now.volume c.make_room.new.self.volume c.in-Err.ensures.volume

pub returns-clause-basis : goal.returns-clause-basis
returns-clause-basis g c = basis_kept c.args.self.now.volume c.make_room.new.self.volume c.note_admit.new.self.volume c.in-Ok.ensures.volume c.args.self.now.opening.value c.make_room.new.self.opening.value c.note_admit.new.self.opening.value c.in-Ok.ensures.opening c.note_admit.ensures.opening c.note_admit.ensures.basis

pub note_admit-requires-clause-begun : goal.note_admit-requires-clause-begun
note_admit-requires-clause-begun g c = own_now c.args.self.now.volume c.make_room.new.self.volume c.in-Ok.ensures.volume c.args.who.session (λ es. add_of es ≡ Some (new_add c.args.add.root c.args.add.size)) c.requires.add.is

pub note_admit-requires-clause-claimed : goal.note_admit-requires-clause-claimed
note_admit-requires-clause-claimed g c =
    subst (λ (x : Seen). ClaimsFor x.space.claims c.args.claimed (need_of x.history.version c.args.add.size)) (sym c.in-Ok.ensures.volume)
    (record { table = c.requires.table; budget = c.requires.need })

pub returns-clause-done : goal.returns-clause-done
returns-clause-done g c =
    done_of (λ a. own_add a ≡ admitted_add (new_add c.args.add.root c.args.add.size)) c.admit_answer.result c.note_admit.result c.admit_answer.ensures.done
    (admit_done c.args.add c.note_admit.result c.note_admit.ensures.admitted)

pub returns-clause-back : goal.returns-clause-back
returns-clause-back g c = admit_back c.args.add c.args.claimed c.admit_answer.result c.note_admit.result c.admit_answer.ensures.back c.note_admit.ensures.back

pub returns-clause-ok : goal.returns-clause-ok
returns-clause-ok g c = answer_ok c.args.self.now.volume c.make_room.new.self.volume c.note_admit.new.self.volume c.in-Ok.ensures.volume c.args.who (acts.Admit c.args.add.root) (λ x. replies.Admitted) c.admit_answer.result _ c.note_admit.ensures.gains c.admit_answer.ensures.reply

pub returns-clause-err : goal.returns-clause-err
returns-clause-err g c = answer_err c.args.self.now.volume c.make_room.new.self.volume c.note_admit.new.self.volume c.in-Ok.ensures.volume c.args.who (acts.Admit c.args.add.root) (λ x. replies.Admitted) c.admit_answer.result _ c.note_admit.ensures.gains c.admit_answer.ensures.reply
