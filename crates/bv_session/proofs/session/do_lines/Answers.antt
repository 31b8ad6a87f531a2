use Rattle.std.proofs.Common.{refl, [], ◌∙◌, ap, sym, List}
use Rattle.std.specs.Prelude.{true, false}
use Rattle.bv_session.specs.Sessions.{own}
use Rattle.bv_session.proofs.EndLemmas.{goes_on, goes_out, lawful_at, session_is}
use Rattle.bv_session.proofs.Moves.{stays_join, grows_not}
use Rattle.bv_session.proofs.LinesLemmas.{shows_session, shown_all, shown_cut, shown_none, shown_on}
use Rattle.bv_turn.specs.Tokens.{list_of, session_of}
use Rattle.bv_session.specs.Events.{events_in}
use Rattle.spec_session.specs.Own.{add_of}
use Rattle.bv_session.specs.declared.entry.Entry.{Entry}
use Rattle.bv_session.proofs.session.do_lines.Goals as goal

pub returns-then-not-do_line-clause-goes : goal.returns-then-not-do_line-clause-goes
returns-then-not-do_line-clause-goes g c =
    let i = c.loop-line.invariant in
    goes_out _ _ _ _ _ _ refl c.loop-line-test.true c.line-item.is _ _ _ _ i.done
    (session_is c.args.version _ _ c.line-item.result false (own c.loop-line.share) (own c.do_line.new.share) _ _ i.stays.session c.if-not-do_line.ensures.line)

pub loop-line-preserved : goal.loop-line-preserved
loop-line-preserved g c =
    let i = c.loop-line.invariant in let line = c.if-not-do_line.ensures in record {
      stays = stays_join _ _ _ _ i.stays line.stays;
      idle = line.idle;
      done = goes_on _ _ _ _ _ _ refl c.loop-line-test.true c.line-item.is _ _ _ _ i.done
          (session_is c.args.version _ _ c.line-item.result true (own c.loop-line.share) (own c.do_line.new.share) _ _ i.stays.session line.line);
      slots = line.slots refl;
      shows = λ b has.
          shown_on b c.args.version (session_of c.args.share.now) c.args.lines.now c.loop-line.line-index c.line-item.result c.loop-line-test.true c.line-item.is (list_of c.loop-line.share) (list_of c.do_line.new.share) _ _ (i.shows b has)
          (shows_session b c.args.version _ _ c.line-item.result true (list_of c.loop-line.share) (list_of c.do_line.new.share) _ _ i.stays.session (line.shows b (i.stays.basis ∙ has)));
    }

pub do_line-requires-clause-lawful : goal.do_line-requires-clause-lawful
do_line-requires-clause-lawful g c =
    lawful_at _ _ _ _ refl c.loop-line-test.true c.line-item.is c.requires.lawful

pub loop-line-init : goal.loop-line-init
loop-line-init g c = let ready = c.requires.ready in record {
  stays = record { this = ready.this; idle = ready.idle; session = refl; basis = refl; grows = ([], grows_not _) };
  idle = ap (λ (es : List Entry). add_of (events_in es)) ready.empty;
  done = (ap events_in ready.empty, c.requires.none);
  slots = c.requires.slots;
  shows = λ b has. shown_none b c.args.version (session_of c.args.share.now) c.args.lines.now _ _ ready.empty c.requires.none;
}

pub returns-then-not-do_line-clause-shows : goal.returns-then-not-do_line-clause-shows
returns-then-not-do_line-clause-shows g c =
    let i = c.loop-line.invariant in let line = c.if-not-do_line.ensures in λ b has.
    shown_cut b c.args.version (session_of c.args.share.now) c.args.lines.now c.loop-line.line-index c.line-item.result c.loop-line-test.true c.line-item.is (list_of c.loop-line.share) (list_of c.do_line.new.share) _ _
    (i.shows b (sym i.stays.basis ∙ sym line.stays.basis ∙ has))
    (shows_session b c.args.version _ _ c.line-item.result false (list_of c.loop-line.share) (list_of c.do_line.new.share) _ _ i.stays.session (line.shows b (sym line.stays.basis ∙ has)))

pub returns-clause-shows : goal.returns-clause-shows
returns-clause-shows g c =
    let i = c.loop-line.invariant in λ b has.
    shown_all b c.args.version (session_of c.args.share.now) c.args.lines.now c.loop-line.line-index (list_of c.loop-line.share) _ (i.shows b (sym i.stays.basis ∙ has))
