use Rattle.std.proofs.Common.{◌≡◌}
use Rattle.spec_session.specs.Own.{add_of, slot_holds}
use Rattle.bv_session.specs.Pages.{ReaderKnows}
use Rattle.bv_session.specs.Sessions.{Stays, own}
use Rattle.bv_session.specs.Windows.{FetchesSome, KeepsKnown, KnowsBetween}
use Rattle.bv_session.proofs.windows.know_range.Given as goal

abbrev pub invariant-loop-window : goal.invariant-loop-window
invariant-loop-window g l = record {
  stays : Stays l.turn l.fn.share l.share;
  holds : slot_holds l.slot (own l.share) ≡ slot_holds l.slot (own l.fn.share);
  idle : add_of (own l.share) ≡ add_of (own l.fn.share);
  keeps : KeepsKnown l.fn.reader l.reader;
  known : KnowsBetween l.reader l.first l.window;
  pages : ReaderKnows l.slot l.share l.reader;
  some : FetchesSome l.who l.slot l.first l.window (own l.fn.share) (own l.share);
}
