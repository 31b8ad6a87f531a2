-- Each root so far is below the next.
use Rattle.plain_core.proofs.Openings.{SortedTo}
use Rattle.plain_core.proofs.legality.is_opening_sorted.Given as goal

abbrev pub invariant-loop-i : goal.invariant-loop-i
invariant-loop-i l = SortedTo l.fn.h.history.opening l.i
