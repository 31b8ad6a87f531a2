use Rattle.std.proofs.Common.{◌≡◌, [], take}
use Rattle.std.specs.Prelude.{None, Some}
use Rattle.bv_turn.specs.Tokens.{basis_of, list_of, session_of}
use Rattle.spec_session.specs.Own.{add_of}
use Rattle.spec_session.specs.Conform.{requests_of}
use Rattle.spec_served.specs.Served.{ServeLines}
use Rattle.bv_session.specs.declared.entry.Basis.{Basis}
use Rattle.bv_session.specs.Pages.{SlotsKnow}
use Rattle.bv_session.proofs.LinesLemmas.{ShownTo}
use Rattle.bv_session.specs.Sessions.{Stays, own}
use Rattle.bv_session.proofs.session.do_lines.Given as goal

abbrev pub invariant-loop-line : goal.invariant-loop-line
invariant-loop-line g l = record {
  stays : Stays l.turn l.fn.share l.share;
  idle : add_of (own l.share) ≡ None;
  done : ServeLines l.version [] (requests_of (session_of l.fn.share) (take l.line-index l.lines)) (own l.share) l.results.items;
  slots : SlotsKnow l.share l.slots.pages.items;
  shows : (b : Basis) → basis_of l.fn.share ≡ Some b → ShownTo b l.version (session_of l.fn.share) l.lines l.line-index (list_of l.share) l.results.items;
}
