use Rattle.std.proofs.Common.{ap, sym, ◌∙◌, arith, is_lt}
use Rattle.plain_core.proofs.Openings.{less_if, less_at, nothing, sorted_more, sorted_all}
use Rattle.plain_core.proofs.legality.is_opening_sorted.Goals as goal

pub returns-then-not-is_lt : goal.returns-then-not-is_lt
returns-then-not-is_lt c = (
  λ e. cc,
  λ sorted.
      let less = less_at c.args.h.now.history.opening c.loop-i.i nothing (omega (arith, c.loop-i.auto.i)) (rw c.opening-opening.ensures at c.loop-i-test.true) sorted in
      cc (ap is_lt (rw c.opening-opening.ensures at c.cmp.ensures ∙ less), c.is_lt.ensures, c.if-not-is_lt.true),
)

pub loop-i-preserved : goal.loop-i-preserved
loop-i-preserved c =
    sorted_more c.args.h.now.history.opening c.loop-i.i (omega (arith, c.loop-i.auto.i)) c.loop-i.invariant
    (sym (rw c.opening-opening.ensures at c.cmp.ensures) ∙ less_if c.cmp.result (sym c.is_lt.ensures ∙ c.if-not-is_lt.false))

pub returns : goal.returns
returns c = (λ e. sorted_all c.args.h.now.history.opening c.loop-i.i (rw c.opening-opening.ensures at c.loop-i-test.false) c.loop-i.invariant, λ sorted. cc)
