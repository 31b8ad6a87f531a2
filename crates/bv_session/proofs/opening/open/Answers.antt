use Rattle.std.proofs.Common.{ap, refl, ◌∙◌, sym}
use Rattle.spec_session.specs.Own.{add_of}
use Rattle.bv_session.proofs.LineLemmas.{ends_none}
use Rattle.bv_session.proofs.Moves.{add_gains, done_gain, refused_gain, refused_is, done_is}
use Rattle.bv_session.proofs.OpenLemmas.{open_reads, open_refused, open_unread, opened_kept}
use Rattle.bv_session.proofs.WindowLemmas.{opened_holds}
use Rattle.bv_session.proofs.LookLemmas.{opened_knows, shows_line, shows_refused}
use Rattle.bv_session.proofs.SlotLemmas.{share_one, slot_stays}
use Rattle.std.specs.Prelude.{Some}
use Rattle.spec_core.specs.declared.act.Act.TheVariants.{Open}
use Rattle.bv_session.specs.Shown.{open_range}
use Rattle.bv_session.proofs.opening.open.Goals as goal

pub returns-in-Err-clause-line : goal.returns-in-Err-clause-line
returns-in-Err-clause-line g c = λ version. ends_none _ version c.args.who _ _ _ c.in-Err.ensures.err

pub returns-in-Err-clause-idle : goal.returns-in-Err-clause-idle
returns-in-Err-clause-idle g c = ap add_of c.in-Err.ensures.err

pub returns-in-Refused-clause-line : goal.returns-in-Refused-clause-line
returns-in-Refused-clause-line g c = λ version.
    open_refused version c.args.who c.args.slot c.args.root _ _ _ _ (refused_is _ _ c.in-Ok.ensures.refused c.in-Refused.is) (refused_gain _ _ _ _ _ _ _ c.in-Ok.ensures.ok c.in-Refused.is) c.result_of.ensures

pub returns-in-Refused-clause-idle : goal.returns-in-Refused-clause-idle
returns-in-Refused-clause-idle g c = add_gains c.args.who _ _ _ _ (refused_gain _ _ _ _ _ _ _ c.in-Ok.ensures.ok c.in-Refused.is)

pub reader_of-requires : goal.reader_of-requires
reader_of-requires g c = opened_kept c.args.root _ _ c.in-Ok.ensures.done c.in-Done.is

pub know_last-requires-clause-holds : goal.know_last-requires-clause-holds
know_last-requires-clause-holds g c =
    opened_holds c.args.slot c.args.who c.args.root _ _ _ c.in-Ok-reader_of.reader (done_gain _ _ _ _ _ _ _ c.in-Ok.ensures.ok c.in-Done.is) c.in-Ok-reader_of.ensures.named.0 c.in-Ok-reader_of.ensures.named.1

pub returns-in-Ok-reader_of-clause-line : goal.returns-in-Ok-reader_of-clause-line
returns-in-Ok-reader_of-clause-line g c = λ version.
    open_reads version c.args.who c.args.slot c.args.root _ c.in-Ok-reader_of.reader _ _ _ _ c.in-Ok-reader_of.ensures.named.0 c.in-Ok-reader_of.ensures.named.1
    (done_gain _ _ _ _ _ _ _ c.in-Ok.ensures.ok c.in-Done.is) (c.know_last.ensures.line version)

pub returns-in-Ok-reader_of-clause-idle : goal.returns-in-Ok-reader_of-clause-idle
returns-in-Ok-reader_of-clause-idle g c = c.know_last.ensures.idle ∙ add_gains c.args.who _ _ _ _ (done_gain _ _ _ _ _ _ _ c.in-Ok.ensures.ok c.in-Done.is)

pub returns-in-Err-reader_of-clause-line : goal.returns-in-Err-reader_of-clause-line
returns-in-Err-reader_of-clause-line g c = λ version.
    open_unread version c.args.who c.args.slot c.args.root _ _ _ _ _ refl (done_gain _ _ _ _ _ _ _ c.in-Ok.ensures.ok c.in-Done.is)

pub returns-in-Err-reader_of-clause-idle : goal.returns-in-Err-reader_of-clause-idle
returns-in-Err-reader_of-clause-idle g c = add_gains c.args.who _ _ _ _ (done_gain _ _ _ _ _ _ _ c.in-Ok.ensures.ok c.in-Done.is)

pub returns-in-Refused-clause-slots : goal.returns-in-Refused-clause-slots
returns-in-Refused-clause-slots g c =
    let stays = c.in-Ok.ensures.stays in
    slot_stays _ _ _ stays c.args.slot c.args.slots.now.pages.items _ (share_one _ _ _ stays c.args.slot c.args.who _ _ (refused_gain _ _ _ _ _ _ _ c.in-Ok.ensures.ok c.in-Refused.is) (λ x. x)) refl c.requires.pages

pub returns-in-Refused-clause-shows : goal.returns-in-Refused-clause-shows
returns-in-Refused-clause-shows g c =
    shows_refused _ _ _ c.in-Ok.ensures.stays c.args.who (Open c.args.slot c.args.root) _ _ (refused_gain _ _ _ _ _ _ _ c.in-Ok.ensures.ok c.in-Refused.is) (refused_is _ _ c.in-Ok.ensures.refused c.in-Refused.is)

pub know_last-requires-clause-pages : goal.know_last-requires-clause-pages
know_last-requires-clause-pages g c =
    let holds = opened_holds c.args.slot c.args.who c.args.root _ _ _ c.in-Ok-reader_of.reader (done_gain _ _ _ _ _ _ _ c.in-Ok.ensures.ok c.in-Done.is) c.in-Ok-reader_of.ensures.named.0 c.in-Ok-reader_of.ensures.named.1 in
    opened_knows _ _ _ c.in-Ok.ensures.stays c.args.slot _ c.in-Ok-reader_of.reader (done_is _ _ _ c.in-Ok.ensures.there c.in-Done.is) c.in-Ok-reader_of.ensures.kept holds

pub returns-in-Ok-reader_of-clause-shows : goal.returns-in-Ok-reader_of-clause-shows
returns-in-Ok-reader_of-clause-shows g c =
    let r = c.in-Ok-reader_of.reader in let named = c.in-Ok-reader_of.ensures.named in
    let gain = done_gain _ _ _ _ _ _ _ c.in-Ok.ensures.ok c.in-Done.is in
    let holds = opened_holds c.args.slot c.args.who c.args.root _ _ _ r gain named.0 named.1 in
    shows_line _ _ _ c.in-Ok.ensures.stays c.args.who (Open c.args.slot c.args.root) _ gain (r.root, r.size) (open_range r.size) (λ i. Some (sym named.0 i, sym named.1 i)) refl holds c.know_last.new.share c.know_last.result c.know_last.ensures.shows
