use Rattle.std.proofs.Common.{◌<◌}
use Rattle.spec_core.specs.declared.act.Act.TheVariants as acts
use Rattle.spec_core.specs.declared.reply.Reply.TheVariants as replies
use Rattle.spec_tree.specs.Tree.{windows_of}
use Rattle.bv_session.specs.Events.{own_events}
use Rattle.bv_volume.specs.Fetched.{fetch_reply}
use Rattle.bv_shared.specs.Entries.{entries_in}
use Rattle.bv_shared.proofs.FetchLemmas.{fetch_done, fetch_known, fetch_roomed, window_by}
use Rattle.bv_shared.proofs.SinceLemmas.{since_spared}
use Rattle.bv_shared.proofs.LookLemmas.{knows_held, slot_root}
use Rattle.bv_shared.proofs.GainLemmas.{entries_spared, gains_by}
use Rattle.bv_shared.proofs.ServeLemmas.{answer_err, basis_kept, basis_roomed}
use Rattle.bv_shared.proofs.serving.SharedServes.fetch.Goals as goal

-- no room: nothing changes but the room
pub returns-in-Err-clause-basis : goal.returns-in-Err-clause-basis
returns-in-Err-clause-basis g c = basis_roomed c.args.self.now.volume c.make_room.new.self.volume c.in-Err.ensures.volume c.args.self.now.opening.value c.make_room.new.self.opening.value c.in-Err.ensures.opening

pub returns-in-Err-clause-err : goal.returns-in-Err-clause-err
returns-in-Err-clause-err g c = entries_spared c.args.self.now.volume c.make_room.new.self.volume c.in-Err.ensures.volume

pub returns-clause-basis : goal.returns-clause-basis
returns-clause-basis g c = basis_kept c.args.self.now.volume c.make_room.new.self.volume c.note_fetch.new.self.volume c.in-Ok.ensures.volume c.args.self.now.opening.value c.make_room.new.self.opening.value c.note_fetch.new.self.opening.value c.in-Ok.ensures.opening c.note_fetch.ensures.opening c.note_fetch.ensures.basis

pub note_fetch-requires-clause-window : goal.note_fetch-requires-clause-window
note_fetch-requires-clause-window g c = window_by _ _ _ c.args.window (knows_held c.args.self.now.volume c.make_room.new.self.volume c.in-Ok.ensures.volume c.args.who c.args.slot c.in-Ok.ensures.legal) c.requires.window

pub fetch_answer-requires : goal.fetch_answer-requires
fetch_answer-requires g c = fetch_known c.make_room.new.self.volume c.note_fetch.new.self.volume c.args.who c.args.slot c.args.window c.note_fetch.result c.note_fetch.ensures.row _ (slot_root c.args.self.now.volume c.make_room.new.self.volume c.in-Ok.ensures.volume c.args.who c.args.slot c.in-Ok.ensures.legal (since_spared c.args.self.now.opening.value c.args.self.now.volume c.make_room.new.self.volume c.in-Ok.ensures.volume c.args.self.now.since).2 (λ blob. c.args.window < windows_of blob.1) c.requires.window).1

pub returns-clause-ok : goal.returns-clause-ok
returns-clause-ok g c = fetch_roomed c.args.self.now.opening.value c.args.self.now.volume c.make_room.new.self.volume c.note_fetch.new.self.volume c.in-Ok.ensures.volume c.args.self.now.since c.in-Ok.ensures.within c.args.who c.args.slot c.args.window (own_events (λ e. e.event.who.session) c.args.who.session (entries_in c.args.self.now.volume)) (knows_held c.args.self.now.volume c.make_room.new.self.volume c.in-Ok.ensures.volume c.args.who c.args.slot c.in-Ok.ensures.legal) c.fetch_answer.result c.note_fetch.result c.fetch_answer.ensures.reply c.fetch_answer.ensures.done c.note_fetch.ensures.row c.note_fetch.ensures.fetched c.note_fetch.ensures.counted

pub returns-clause-done : goal.returns-clause-done
returns-clause-done g c = fetch_done c.make_room.new.self.volume c.args.who c.args.slot c.args.window (own_events (λ e. e.event.who.session) c.args.who.session (entries_in c.args.self.now.volume)) (knows_held c.args.self.now.volume c.make_room.new.self.volume c.in-Ok.ensures.volume c.args.who c.args.slot c.in-Ok.ensures.legal) c.fetch_answer.result c.note_fetch.result c.fetch_answer.ensures.done c.requires.window c.note_fetch.ensures.fetched

pub returns-clause-err : goal.returns-clause-err
returns-clause-err g c = answer_err c.args.self.now.volume c.make_room.new.self.volume c.note_fetch.new.self.volume c.in-Ok.ensures.volume c.args.who (acts.Fetch c.args.slot c.args.window) (λ x. replies.Fetched) c.fetch_answer.result (fetch_reply c.note_fetch.result) (gains_by c.make_room.new.self.volume c.note_fetch.new.self.volume c.in-Ok.ensures.within c.args.who (acts.Fetch c.args.slot c.args.window) (fetch_reply c.note_fetch.result) c.note_fetch.ensures.row) c.fetch_answer.ensures.reply
