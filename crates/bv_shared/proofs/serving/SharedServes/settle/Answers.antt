use Rattle.std.proofs.Common.{◌≡◌, Some, sym, subst}
use Rattle.spec_core.specs.declared.act.Act.TheVariants as acts
use Rattle.spec_core.specs.declared.reply.Reply.TheVariants as replies
use Rattle.bv_volume.specs.Seen.{Seen}
use Rattle.std.specs.Prelude.{IfSome}
use Rattle.spec_session.specs.Own.{add_of}
use Rattle.spec_tree.specs.Tree.{need_of}
use Rattle.bv_session.specs.Written.{written}
use Rattle.bv_turn.specs.Entries.{entries_of}
use Rattle.bv_writer.specs.Blocks.{IsBlobOf}
use Rattle.bv_shared.specs.Entries.{entries_in, told_of}
use Rattle.bv_shared.proofs.AddLemmas.{own_add, settle_back}
use Rattle.bv_shared.proofs.GainLemmas.{entries_spared}
use Rattle.bv_shared.proofs.ServeLemmas.{basis_kept, basis_roomed, outcome_err, outcome_ok, own_now}
use Rattle.bv_shared.proofs.serving.SharedServes.settle.Goals as goal

-- no room: nothing changes but the room
pub returns-in-Err-clause-basis : goal.returns-in-Err-clause-basis
returns-in-Err-clause-basis g c = basis_roomed c.args.self.now.volume c.make_room.new.self.volume c.in-Err.ensures.volume c.args.self.now.opening.value c.make_room.new.self.opening.value c.in-Err.ensures.opening

pub returns-in-Err-clause-err : goal.returns-in-Err-clause-err
returns-in-Err-clause-err g c = entries_spared c.args.self.now.volume c.make_room.new.self.volume c.in-Err.ensures.volume

pub returns-clause-basis : goal.returns-clause-basis
returns-clause-basis g c = basis_kept c.args.self.now.volume c.make_room.new.self.volume c.note_settle.new.self.volume c.in-Ok.ensures.volume c.args.self.now.opening.value c.make_room.new.self.opening.value c.note_settle.new.self.opening.value c.in-Ok.ensures.opening c.note_settle.ensures.opening c.note_settle.ensures.basis

pub note_settle-requires-clause-add : goal.note_settle-requires-clause-add
note_settle-requires-clause-add g c = own_now c.args.self.now.volume c.make_room.new.self.volume c.in-Ok.ensures.volume c.args.who.session (λ es. add_of es ≡ Some (own_add c.args.add)) c.requires.add.is

pub note_settle-requires-clause-all : goal.note_settle-requires-clause-all
note_settle-requires-clause-all g c = subst (λ (x : Seen). c.args.add.put ≡ need_of x.history.version c.args.add.size) (sym c.in-Ok.ensures.volume) c.requires.all

pub note_settle-requires-clause-written : goal.note_settle-requires-clause-written
note_settle-requires-clause-written g c =
    subst (λ (x : Seen). IfSome (told_of x.store.began) (λ d. IsBlobOf x.history.version c.args.add.root c.args.add.size (written (entries_of (λ e. e.event.who.session) c.args.who.session (entries_in x))))) (sym c.in-Ok.ensures.volume) c.requires.written

pub returns-clause-back : goal.returns-clause-back
returns-clause-back g c = settle_back c.args.add c.settle_answer.result c.note_settle.result c.settle_answer.ensures.back c.note_settle.ensures.back

pub returns-clause-ok : goal.returns-clause-ok
returns-clause-ok g c = outcome_ok c.args.self.now.volume c.make_room.new.self.volume c.note_settle.new.self.volume c.in-Ok.ensures.volume c.args.who (acts.Settle c.args.add.root) replies.Published c.settle_answer.result _ c.note_settle.ensures.gains c.settle_answer.ensures.reply

pub returns-clause-err : goal.returns-clause-err
returns-clause-err g c = outcome_err c.args.self.now.volume c.make_room.new.self.volume c.note_settle.new.self.volume c.in-Ok.ensures.volume c.args.who (acts.Settle c.args.add.root) replies.Published c.settle_answer.result _ c.note_settle.ensures.gains c.settle_answer.ensures.reply
