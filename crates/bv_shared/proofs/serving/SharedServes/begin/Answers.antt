use Rattle.std.proofs.Common.{◌≡◌, ◌≤◌, None, sym, subst}
use Rattle.spec_core.specs.declared.act.Act.TheVariants as acts
use Rattle.spec_core.specs.declared.reply.Reply.TheVariants as replies
use Rattle.bv_volume.specs.Seen.{Seen}
use Rattle.spec_session.specs.Own.{add_of, new_add}
use Rattle.spec_tree.specs.Tree.{need_of}
use Rattle.bv_claims.specs.Tokens.{IsGrantOf, grant_need}
use Rattle.bv_shared.proofs.AddLemmas.{begin_done}
use Rattle.bv_shared.proofs.GainLemmas.{entries_spared}
use Rattle.bv_shared.proofs.ServeLemmas.{answer_err, answer_ok, basis_kept, basis_roomed, done_of, own_now}
use Rattle.bv_shared.proofs.serving.SharedServes.begin.Goals as goal

-- no room: nothing changes but the room
pub returns-in-Err-clause-basis : goal.returns-in-Err-clause-basis
returns-in-Err-clause-basis g c = basis_roomed c.args.self.now.volume c.make_room.new.self.volume c.in-Err.ensures.volume c.args.self.now.opening.value c.make_room.new.self.opening.value c.in-Err.ensures.opening

pub returns-in-Err-clause-err : goal.returns-in-Err-clause-err
returns-in-Err-clause-err g c = entries_spared c.args.self.now.volume c.make_room.new.self.volume c.in-Err.ensures.volume

pub returns-clause-basis : goal.returns-clause-basis
returns-clause-basis g c = basis_kept c.args.self.now.volume c.make_room.new.self.volume c.note_begin.new.self.volume c.in-Ok.ensures.volume c.args.self.now.opening.value c.make_room.new.self.opening.value c.note_begin.new.self.opening.value c.in-Ok.ensures.opening c.note_begin.ensures.opening c.note_begin.ensures.basis

pub note_begin-requires-clause-few : goal.note_begin-requires-clause-few
note_begin-requires-clause-few g c = subst (λ (x : Seen). need_of x.history.version c.args.size ≤ 65535) (sym c.in-Ok.ensures.volume) c.requires.need

pub note_begin-requires-clause-idle : goal.note_begin-requires-clause-idle
note_begin-requires-clause-idle g c = own_now c.args.self.now.volume c.make_room.new.self.volume c.in-Ok.ensures.volume c.args.who.session (λ es. add_of es ≡ None) c.requires.idle

pub returns-clause-done : goal.returns-clause-done
returns-clause-done g c =
    let v = c.args.self.now.volume in
    done_of (λ p. (new_add p.0.root p.0.size ≡ new_add c.args.root c.args.size) × IsGrantOf v.space.claims p.1 × (grant_need p.1 ≡ need_of v.history.version c.args.size)) c.begin_answer.result c.note_begin.result c.begin_answer.ensures.done
    (begin_done v c.make_room.new.self.volume c.in-Ok.ensures.volume c.args.root c.args.size c.note_begin.result c.note_begin.ensures.begun c.note_begin.ensures.grant)

pub returns-clause-ok : goal.returns-clause-ok
returns-clause-ok g c = answer_ok c.args.self.now.volume c.make_room.new.self.volume c.note_begin.new.self.volume c.in-Ok.ensures.volume c.args.who (acts.Begin c.args.root c.args.size) (λ x. replies.Granted) c.begin_answer.result _ c.note_begin.ensures.gains c.begin_answer.ensures.reply

pub returns-clause-err : goal.returns-clause-err
returns-clause-err g c = answer_err c.args.self.now.volume c.make_room.new.self.volume c.note_begin.new.self.volume c.in-Ok.ensures.volume c.args.who (acts.Begin c.args.root c.args.size) (λ x. replies.Granted) c.begin_answer.result _ c.note_begin.ensures.gains c.begin_answer.ensures.reply
