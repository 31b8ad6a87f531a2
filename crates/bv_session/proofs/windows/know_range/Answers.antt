use Rattle.std.proofs.Common.{[], ◌≡◌, ◌+◌, ◌<◌, ◌≤◌, ℕ, refl, sym, subst, ◌∙◌, arith}
use Rattle.std.specs.Prelude.{Some, Ok, Option}
use Rattle.spec_tree.specs.Tree.{windows_of}
use Rattle.bv_session.specs.Windows.{FetchesSome, KnowsBetween}
use Rattle.bv_session.specs.Sessions.{own}
use Rattle.bv_session.proofs.Moves.{grows_not, stays_join}
use Rattle.bv_session.proofs.RangeLemmas.{finds_known, keeps_join, knows_more, range_failed, some_more, some_none, some_weaken}
use Rattle.bv_session.proofs.WindowLemmas.{same_keeps}
use Rattle.bv_session.specs.Shown.{EndsAt}
use Rattle.spec_session.specs.declared.result.LineResult.{LineResult}
use Rattle.bv_session.proofs.windows.know_range.Goals as goal

pub loop-window-init : goal.loop-window-init
loop-window-init g c = record {
  stays = record { this = c.requires.ready.0; idle = c.requires.ready.1; session = refl; basis = refl; grows = ([], grows_not _) };
  holds = refl;
  idle = refl;
  keeps = same_keeps _ _ refl;
  known = λ w low high. absurd (omega (arith, low, high));
  pages = c.requires.pages;
  some = some_none c.args.who c.args.slot c.args.first c.args.first _ _ refl;
}

pub know_window-requires-clause-holds : goal.know_window-requires-clause-holds
know_window-requires-clause-holds g c =
    let i = c.loop-window.invariant in i.holds ∙ c.requires.holds ∙ (λ j. Some (sym i.keeps.root j, sym i.keeps.size j))

pub know_window-requires-clause-window : goal.know_window-requires-clause-window
know_window-requires-clause-window g c =
    let i = c.loop-window.invariant in
    let low : c.loop-window.window < windows_of c.args.reader.now.size = omega arith in
    subst (λ (n : ℕ). c.loop-window.window < windows_of n) (sym i.keeps.size) low

pub loop-window-preserved : goal.loop-window-preserved
loop-window-preserved g c =
    let i = c.loop-window.invariant in let w = c.in-Ok.ensures in
    let low : c.args.first ≤ c.loop-window.window = omega arith in
    let found = finds_known c.args.who c.args.slot c.loop-window.window c.know_window.new.reader _ _ _ w.finds c.in-None.is in record {
      stays = stays_join _ _ _ _ i.stays w.stays;
      holds = w.holds ∙ i.holds;
      idle = w.idle ∙ i.idle;
      keeps = keeps_join _ _ _ i.keeps w.keeps;
      known = knows_more _ _ c.args.first c.loop-window.window w.keeps i.known found.0;
      pages = w.pages;
      some = some_more c.args.who c.args.slot c.args.first c.loop-window.window _ _ _ low i.some found.1;
    }

pub returns-in-Err-clause-finds : goal.returns-in-Err-clause-finds
returns-in-Err-clause-finds g c =
    let i = c.loop-window.invariant in
    let low : c.args.first ≤ c.loop-window.window = omega arith in
    let next : c.loop-window.window + 1 ≤ c.args.past = omega arith in
    some_weaken c.args.who c.args.slot c.args.first (c.loop-window.window + 1) c.args.past _ _ next (some_more c.args.who c.args.slot c.args.first c.loop-window.window _ _ _ low i.some c.in-Err.ensures.finds)

pub returns-in-Err-clause-keeps : goal.returns-in-Err-clause-keeps
returns-in-Err-clause-keeps g c = keeps_join _ _ _ c.loop-window.invariant.keeps c.in-Err.ensures.keeps

pub returns-in-Err-clause-stays : goal.returns-in-Err-clause-stays
returns-in-Err-clause-stays g c = stays_join _ _ _ _ c.loop-window.invariant.stays c.in-Err.ensures.stays

pub returns-in-Err-clause-idle : goal.returns-in-Err-clause-idle
returns-in-Err-clause-idle g c = c.in-Err.ensures.idle ∙ c.loop-window.invariant.idle

pub returns-in-Some-clause-finds : goal.returns-in-Some-clause-finds
returns-in-Some-clause-finds g c =
    let i = c.loop-window.invariant in
    let low : c.args.first ≤ c.loop-window.window = omega arith in
    let high : c.loop-window.window < c.args.past = omega arith in
    range_failed c.args.who c.args.slot c.args.first c.args.past c.loop-window.window c.know_window.new.reader _ _ _ _ _ low high i.some c.in-Ok.ensures.finds c.in-Some.is

pub returns-in-Some-clause-keeps : goal.returns-in-Some-clause-keeps
returns-in-Some-clause-keeps g c = keeps_join _ _ _ c.loop-window.invariant.keeps c.in-Ok.ensures.keeps

pub returns-in-Some-clause-stays : goal.returns-in-Some-clause-stays
returns-in-Some-clause-stays g c = stays_join _ _ _ _ c.loop-window.invariant.stays c.in-Ok.ensures.stays

pub returns-in-Some-clause-idle : goal.returns-in-Some-clause-idle
returns-in-Some-clause-idle g c = c.in-Ok.ensures.idle ∙ c.loop-window.invariant.idle

pub returns-clause-finds : goal.returns-clause-finds
returns-clause-finds g c =
    let i = c.loop-window.invariant in
    let end : c.loop-window.window ≡ c.args.past = omega arith in (
      subst (λ (n : ℕ). KnowsBetween c.loop-window.reader c.args.first n) end i.known,
      subst (λ (n : ℕ). FetchesSome c.args.who c.args.slot c.args.first n (own c.args.share.now) (own c.loop-window.share)) end i.some,
    )

pub returns-in-Some-clause-shows : goal.returns-in-Some-clause-shows
returns-in-Some-clause-shows g c =
    let i = c.loop-window.invariant in let w = c.in-Ok.ensures in
    let low : c.args.first ≤ c.loop-window.window = omega arith in
    let high : c.loop-window.window < c.args.past = omega arith in
    let known : KnowsBetween c.know_window.new.reader c.args.first c.loop-window.window = λ v from to. w.keeps.known v (i.known v from to) in (
      c.loop-window.window,
      low,
      high,
      known,
      subst (λ (o : Option LineResult). EndsAt c.args.slot c.know_window.new.share c.know_window.new.reader c.loop-window.window (Ok o)) c.in-Some.is w.shows,
    )
