use Rattle.std.proofs.Common.{ap, ◌∙◌, refl, subst, ℕ}
use Rattle.spec_tree.specs.Tree.{windows_of}
use Rattle.bv_session.proofs.RangeLemmas.{scan_cut_at, scan_found, scan_whole, range_found}
use Rattle.bv_session.proofs.LookLemmas.{failed_shows, range_grows, whole_shows}
use Rattle.bv_session.proofs.SlotLemmas.{slot_some}
use Rattle.bv_session.specs.Shown.{scan_range, EndsWithin}
use Rattle.std.specs.Prelude.{Ok, Option}
use Rattle.spec_session.specs.declared.result.LineResult.{LineResult}
use Rattle.bv_session.specs.Sessions.{own}
use Rattle.bv_session.proofs.ranging.scan_with.Goals as goal

pub returns-in-Err-clause-line : goal.returns-in-Err-clause-line
returns-in-Err-clause-line g c = λ version start holds gained.
    scan_cut_at version start c.args.who c.args.slot _ holds _ _ _ _ (c.windows-past.ensures ∙ ap windows_of c.size.ensures.size) gained c.in-Err.ensures.finds

pub returns-in-Some-clause-line : goal.returns-in-Some-clause-line
returns-in-Some-clause-line g c = λ version start holds gained.
    scan_found version start c.args.who c.args.slot _ holds _ c.know_range.new.reader _ _ _ _ (c.windows-past.ensures ∙ ap windows_of c.size.ensures.size) gained c.in-Ok.ensures.finds c.in-Some.is

pub returns-in-None-clause-line : goal.returns-in-None-clause-line
returns-in-None-clause-line g c = λ version start holds gained.
    let keeps = c.in-Ok.ensures.keeps in
    scan_whole version start c.args.who c.args.slot _ holds _ _ c.know_range.new.reader _ _ _ (c.windows-past.ensures ∙ ap windows_of c.size.ensures.size) gained c.in-Ok.ensures.finds c.in-None.is
    c.size-size.ensures.reading keeps.root keeps.size (c.size-size.ensures.size ∙ keeps.size)

pub returns-in-Some-clause-slots : goal.returns-in-Some-clause-slots
returns-in-Some-clause-slots g c = slot_some c.know_range.new.share c.args.slot _ c.know_range.new.reader c.put.ensures.here c.in-Ok.ensures.pages

pub returns-in-None-clause-slots : goal.returns-in-None-clause-slots
returns-in-None-clause-slots g c = slot_some c.know_range.new.share c.args.slot _ c.know_range.new.reader c.put.ensures.here c.in-Ok.ensures.pages

pub returns-in-Some-clause-shows : goal.returns-in-Some-clause-shows
returns-in-Some-clause-shows g c =
    let know = c.in-Ok.ensures in let r = c.know_range.new.reader in
    let past = c.windows-past.ensures ∙ ap windows_of c.size.ensures.size in
    failed_shows _ _ _ know.stays c.args.who c.args.slot r (c.args.reader.root, c.args.reader.size) know.keeps.root know.keeps.size know.pages c.size-size.ensures.reading
    (range_grows _ _ _ know.stays c.args.who c.args.slot 0 c.windows-past.result r (Ok c.in-Ok.found) know.finds) (scan_range c.args.reader.size) c.in-Some.result
    (subst (λ (x : ℕ × Option LineResult). EndsWithin c.args.slot c.know_range.new.share r 0 x.0 (Ok x.1)) (λ i. (past i, c.in-Some.is i)) know.shows)

pub returns-in-None-clause-shows : goal.returns-in-None-clause-shows
returns-in-None-clause-shows g c =
    let know = c.in-Ok.ensures in let r = c.know_range.new.reader in
    let past = c.windows-past.ensures ∙ ap windows_of c.size.ensures.size in
    whole_shows _ _ _ know.stays c.args.who c.args.slot r (c.args.reader.root, c.args.reader.size) know.keeps.root know.keeps.size know.pages c.size-size.ensures.reading
    (range_grows _ _ _ know.stays c.args.who c.args.slot 0 c.windows-past.result r (Ok c.in-Ok.found) know.finds) (scan_range c.args.reader.size) c.size-size.result
    (range_found c.args.who c.args.slot 0 0 c.windows-past.result (windows_of c.args.reader.size) r c.in-Ok.found (own c.args.share.now) (own c.know_range.new.share) refl past know.finds c.in-None.is)
