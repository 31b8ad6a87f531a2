use Rattle.std.proofs.Common.{ap}
use Rattle.bv_turn.specs.Tokens.{session_of, list_of}
use Rattle.bv_session.specs.Events.{events_in}
use Rattle.bv_session.proofs.EndLemmas.{cut_after}
use Rattle.bv_session.proofs.LinesLemmas.{shown_none, shown_all}
use Rattle.bv_session.proofs.SlotLemmas.{none_know}
use Rattle.bv_session.proofs.session.do_all.Goals as goal

pub returns-in-Err-clause-goes : goal.returns-in-Err-clause-goes
returns-in-Err-clause-goes g c =
    cut_after c.args.version (session_of c.args.share.now) c.args.lines.now 0 _ _ (ap events_in c.requires.ready.empty, c.requires.none)

pub returns-in-Err-clause-shows : goal.returns-in-Err-clause-shows
returns-in-Err-clause-shows g c = λ b has.
    let s = session_of c.args.share.now in
    shown_all b c.args.version s c.args.lines.now 0 (list_of c.args.share.now) _ (shown_none b c.args.version s c.args.lines.now _ _ c.requires.ready.empty c.requires.none)

pub do_lines-requires-clause-slots : goal.do_lines-requires-clause-slots
do_lines-requires-clause-slots g c = none_know c.args.share.now _ c.in-Ok.ensures
