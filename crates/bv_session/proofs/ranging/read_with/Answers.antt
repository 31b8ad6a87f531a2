use Rattle.std.proofs.Common.{ap, ◌∙◌, ℕ, subst}
use Rattle.spec_session.specs.Lines.{read_windows}
use Rattle.bv_session.proofs.RangeLemmas.{read_cut_at, read_found, read_whole, range_found}
use Rattle.bv_session.proofs.LookLemmas.{bytes_shows, failed_shows, range_grows}
use Rattle.bv_session.proofs.SlotLemmas.{ok_any, slot_some}
use Rattle.bv_session.specs.Shown.{read_range, EndsWithin}
use Rattle.std.specs.Prelude.{Ok, Option, IfOk}
use Rattle.spec_session.specs.declared.result.LineResult.{LineResult}
use Rattle.spec_served.specs.Answers.{read_of}
use Rattle.spec_served.specs.Device.{IsBytes}
use Rattle.bv_session.specs.Windows.{known_of}
use Rattle.bv_session.specs.Sessions.{own}
use Rattle.bv_session.proofs.ranging.read_with.Goals as goal

pub returns-in-Err-clause-line : goal.returns-in-Err-clause-line
returns-in-Err-clause-line g c = λ version start holds gained.
    let first = c.windows_read-first.ensures.first ∙ ap (λ (n : ℕ). (read_windows n c.args.off c.args.len).first) c.size.ensures.size in
    let past = c.windows_read-first.ensures.past ∙ ap (λ (n : ℕ). (read_windows n c.args.off c.args.len).past) c.size.ensures.size in
    read_cut_at version start c.args.who c.args.slot c.args.off c.args.len _ holds _ _ _ _ _ first past gained c.in-Err.ensures.finds

pub returns-in-Some-clause-line : goal.returns-in-Some-clause-line
returns-in-Some-clause-line g c = λ version start holds gained.
    let first = c.windows_read-first.ensures.first ∙ ap (λ (n : ℕ). (read_windows n c.args.off c.args.len).first) c.size.ensures.size in
    let past = c.windows_read-first.ensures.past ∙ ap (λ (n : ℕ). (read_windows n c.args.off c.args.len).past) c.size.ensures.size in
    read_found version start c.args.who c.args.slot c.args.off c.args.len _ holds _ _ c.know_range.new.reader _ _ _ _ first past gained c.in-Ok.ensures.finds c.in-Some.is

pub returns-in-None-clause-line : goal.returns-in-None-clause-line
returns-in-None-clause-line g c = λ version start holds gained.
    let keeps = c.in-Ok.ensures.keeps in
    let first = c.windows_read-first.ensures.first ∙ ap (λ (n : ℕ). (read_windows n c.args.off c.args.len).first) c.size.ensures.size in
    let past = c.windows_read-first.ensures.past ∙ ap (λ (n : ℕ). (read_windows n c.args.off c.args.len).past) c.size.ensures.size in
    read_whole version start c.args.who c.args.slot c.args.off c.args.len _ holds _ _ c.know_range.new.reader _ _ _ _ first past gained c.in-Ok.ensures.finds c.in-None.is
    c.size-size.ensures.reading keeps.root keeps.size c.bytes_of-given.ensures.bytes

pub returns-in-Some-clause-slots : goal.returns-in-Some-clause-slots
returns-in-Some-clause-slots g c = slot_some c.know_range.new.share c.args.slot _ c.know_range.new.reader c.put.ensures.here c.in-Ok.ensures.pages

pub returns-in-None-clause-slots : goal.returns-in-None-clause-slots
returns-in-None-clause-slots g c = ok_any _ (slot_some c.know_range.new.share c.args.slot _ c.know_range.new.reader c.put-in-None.ensures.here c.in-Ok.ensures.pages)

pub returns-in-Some-clause-shows : goal.returns-in-Some-clause-shows
returns-in-Some-clause-shows g c =
    let know = c.in-Ok.ensures in let r = c.know_range.new.reader in
    let first = c.windows_read-first.ensures.first ∙ ap (λ (n : ℕ). (read_windows n c.args.off c.args.len).first) c.size.ensures.size in
    let past = c.windows_read-first.ensures.past ∙ ap (λ (n : ℕ). (read_windows n c.args.off c.args.len).past) c.size.ensures.size in
    failed_shows _ _ _ know.stays c.args.who c.args.slot r (c.args.reader.root, c.args.reader.size) know.keeps.root know.keeps.size know.pages c.size-size.ensures.reading
    (range_grows _ _ _ know.stays c.args.who c.args.slot c.windows_read-first.result.0 c.windows_read-first.result.1 r (Ok c.in-Ok.found) know.finds) (read_range c.args.reader.size c.args.off c.args.len) c.in-Some.result
    (subst (λ (x : ℕ × ℕ × Option LineResult). EndsWithin c.args.slot c.know_range.new.share r x.0 x.1 (Ok x.2)) (λ i. (first i, past i, c.in-Some.is i)) know.shows)

pub returns-in-None-clause-shows : goal.returns-in-None-clause-shows
returns-in-None-clause-shows g c =
    let know = c.in-Ok.ensures in let r = c.know_range.new.reader in
    let first = c.windows_read-first.ensures.first ∙ ap (λ (n : ℕ). (read_windows n c.args.off c.args.len).first) c.size.ensures.size in
    let past = c.windows_read-first.ensures.past ∙ ap (λ (n : ℕ). (read_windows n c.args.off c.args.len).past) c.size.ensures.size in
    bytes_shows _ _ _ know.stays c.args.who c.args.slot r (c.args.reader.root, c.args.reader.size) know.keeps.root know.keeps.size know.pages c.size-size.ensures.reading
    (range_grows _ _ _ know.stays c.args.who c.args.slot c.windows_read-first.result.0 c.windows_read-first.result.1 r (Ok c.in-Ok.found) know.finds) (read_range c.args.reader.size c.args.off c.args.len) c.bytes_of-given.result
    (range_found c.args.who c.args.slot c.windows_read-first.result.0 (read_windows c.args.reader.size c.args.off c.args.len).first c.windows_read-first.result.1 (read_windows c.args.reader.size c.args.off c.args.len).past r c.in-Ok.found (own c.args.share.now) (own c.know_range.new.share) first past know.finds c.in-None.is)
    (subst (λ (n : ℕ). IfOk c.bytes_of-given.result (IsBytes (read_of n (known_of r) c.args.off c.args.len))) know.keeps.size c.bytes_of-given.ensures.bytes)
