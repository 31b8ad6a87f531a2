use Rattle.std.proofs.Common.{◌≡◌, ◌<◌, Some, refl, sym, subst}
use Rattle.spec_core.specs.declared.act.Act.TheVariants as acts
use Rattle.bv_volume.specs.Seen.{Seen}
use Rattle.spec_session.specs.Own.{add_of}
use Rattle.spec_tree.specs.Tree.{need_of}
use Rattle.bv_shared.proofs.AddLemmas.{own_add, put_adds, put_entry}
use Rattle.bv_shared.proofs.GainLemmas.{entries_spared}
use Rattle.bv_shared.proofs.ServeLemmas.{basis_kept, basis_roomed, own_now}
use Rattle.bv_shared.proofs.serving.SharedServes.put.Goals as goal

-- no room: nothing changes but the room
pub returns-in-Err-clause-basis : goal.returns-in-Err-clause-basis
returns-in-Err-clause-basis g c = basis_roomed c.args.self.now.volume c.make_room.new.self.volume c.in-Err.ensures.volume c.args.self.now.opening.value c.make_room.new.self.opening.value c.in-Err.ensures.opening

pub returns-in-Err-clause-err : goal.returns-in-Err-clause-err
returns-in-Err-clause-err g c = (entries_spared c.args.self.now.volume c.make_room.new.self.volume c.in-Err.ensures.volume, refl)

pub returns-clause-basis : goal.returns-clause-basis
returns-clause-basis g c = basis_kept c.args.self.now.volume c.make_room.new.self.volume c.note_put.new.self.volume c.in-Ok.ensures.volume c.args.self.now.opening.value c.make_room.new.self.opening.value c.note_put.new.self.opening.value c.in-Ok.ensures.opening c.note_put.ensures.opening c.note_put.ensures.basis

pub note_put-requires-clause-add : goal.note_put-requires-clause-add
note_put-requires-clause-add g c = own_now c.args.self.now.volume c.make_room.new.self.volume c.in-Ok.ensures.volume c.args.who.session (λ es. add_of es ≡ Some (own_add c.args.add.now)) c.requires.add.is

pub note_put-requires-clause-next : goal.note_put-requires-clause-next
note_put-requires-clause-next g c = subst (λ (x : Seen). c.args.add.now.put < need_of x.history.version c.args.add.now.size) (sym c.in-Ok.ensures.volume) c.requires.next

pub returns-clause-add : goal.returns-clause-add
returns-clause-add g c = put_adds c.args.add.now _ c.put_answer.result c.note_put.result c.put_answer.ensures.value c.note_put.ensures.ok c.note_put.ensures.err

pub returns-clause-ok : goal.returns-clause-ok
returns-clause-ok g c = put_entry c.args.self.now.volume c.make_room.new.self.volume c.note_put.new.self.volume c.in-Ok.ensures.volume c.args.who (acts.Put c.args.add.now.put) c.args.block.now c.put_answer.result c.note_put.result c.put_answer.ensures.value c.note_put.ensures.gains
