use Rattle.std.proofs.Common.{◌≡◌, ◌-◌, ℕ, ap, ◌∙◌, ◌≤◌, ◌<◌, ◌+◌, arith, subst}
use Rattle.spec_session.specs.Lines.{last_window}
use Rattle.spec_tree.specs.Tree.{windows_of}
use Rattle.bv_session.proofs.OpenLemmas.{open_cut, open_keeps, open_shuts, shut_result}
use Rattle.bv_session.proofs.LookLemmas.{none_known, one_known, opened_shows, shut_shows, window_grows}
use Rattle.bv_session.proofs.SlotLemmas.{slot_none, slot_some, ok_any}
use Rattle.std.specs.Prelude.{Ok, Option, Some}
use Rattle.bv_session.specs.Shown.{EndsAt, open_range}
use Rattle.spec_session.specs.declared.result.LineResult.{LineResult}
use Rattle.bv_session.proofs.RangeLemmas.{finds_known}
use Rattle.bv_session.specs.Sessions.{own}
use Rattle.bv_session.proofs.opening.know_last.Goals as goal

pub returns-in-Err-clause-line : goal.returns-in-Err-clause-line
returns-in-Err-clause-line g c = λ version.
    let place : c.windows-last.result - 1 ≡ last_window c.args.reader.size = ap (λ (n : ℕ). n - 1) (c.windows-last.ensures ∙ ap windows_of c.size.ensures.size) in
    open_cut version c.args.who c.args.slot c.args.reader.root c.args.reader.size _ place _ _ _ c.in-Err.ensures.finds

pub returns-in-None-clause-line : goal.returns-in-None-clause-line
returns-in-None-clause-line g c = λ version.
    let place : c.windows-last.result - 1 ≡ last_window c.args.reader.size = ap (λ (n : ℕ). n - 1) (c.windows-last.ensures ∙ ap windows_of c.size.ensures.size) in
    let know = c.in-Ok.ensures in
    open_keeps version c.args.who c.args.slot c.args.reader.root c.args.reader.size _ place _ c.know_window.new.reader _ _ _ (c.size-size.ensures.size ∙ know.keeps.size) c.size-size.ensures.reading know.keeps.root know.keeps.size know.finds c.in-None.is

pub returns-in-Some-clause-line : goal.returns-in-Some-clause-line
returns-in-Some-clause-line g c = λ version.
    let place : c.windows-last.result - 1 ≡ last_window c.args.reader.size = ap (λ (n : ℕ). n - 1) (c.windows-last.ensures ∙ ap windows_of c.size.ensures.size) in
    open_shuts version c.args.who c.args.slot c.args.reader.root c.args.reader.size _ place _ _ c.know_window.new.reader _ _ _ _ c.in-Ok.ensures.finds c.in-Some.is c.shut.ensures.ok c.shut.ensures.err

pub returns-in-None-clause-slots : goal.returns-in-None-clause-slots
returns-in-None-clause-slots g c = slot_some c.know_window.new.share c.args.slot _ c.know_window.new.reader c.put.ensures.here c.in-Ok.ensures.pages

pub returns-in-None-clause-shows : goal.returns-in-None-clause-shows
returns-in-None-clause-shows g c =
    let place : c.windows-last.result - 1 ≡ last_window c.args.reader.size = ap (λ (n : ℕ). n - 1) (c.windows-last.ensures ∙ ap windows_of c.size.ensures.size) in
    let know = c.in-Ok.ensures in let r = c.know_window.new.reader in
    let found = finds_known c.args.who c.args.slot (c.windows-last.result - 1) r c.in-Ok.found (own c.args.share.now) (own c.know_window.new.share) know.finds c.in-None.is in
    opened_shows _ _ _ know.stays c.args.who c.args.slot r (c.args.reader.root, c.args.reader.size) know.keeps.root know.keeps.size know.pages c.size-size.ensures.reading
    (window_grows _ _ _ know.stays c.args.who c.args.slot (c.windows-last.result - 1) r (Ok c.in-Ok.found) know.finds) (open_range c.args.reader.size) c.size-size.result (one_known r (c.windows-last.result - 1) (last_window c.args.reader.size) place found.0)

pub returns-in-Some-clause-slots : goal.returns-in-Some-clause-slots
returns-in-Some-clause-slots g c = ok_any _ (slot_none c.shut.new.share c.args.slot _ c.take-before.ensures.none)

pub returns-in-Some-clause-shows : goal.returns-in-Some-clause-shows
returns-in-Some-clause-shows g c =
    let place : c.windows-last.result - 1 ≡ last_window c.args.reader.size = ap (λ (n : ℕ). n - 1) (c.windows-last.ensures ∙ ap windows_of c.size.ensures.size) in
    let know = c.in-Ok.ensures in let r = c.know_window.new.reader in let w = c.windows-last.result - 1 in
    let low : last_window c.args.reader.size ≤ w = omega (arith, place) in
    let high : w < last_window c.args.reader.size + 1 = omega (arith, place) in
    let ends : EndsAt c.args.slot c.know_window.new.share r w (Ok (Some c.in-Some.result)) = subst (λ (o : Option LineResult). EndsAt c.args.slot c.know_window.new.share r w (Ok o)) c.in-Some.is know.shows in
    shut_shows _ _ _ know.stays c.args.who c.args.slot r (c.args.reader.root, c.args.reader.size) know.keeps.root know.keeps.size know.pages c.size-size.ensures.reading
    (window_grows _ _ _ know.stays c.args.who c.args.slot (c.windows-last.result - 1) r (Ok c.in-Ok.found) know.finds) (open_range c.args.reader.size) c.shut.new.share c.shut.ensures.stays c.shut.result c.in-Some.result w low high (none_known r w (last_window c.args.reader.size) place) ends (shut_result _ c.shut.result c.in-Some.result c.shut.ensures.ok)
