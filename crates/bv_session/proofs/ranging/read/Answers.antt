use Rattle.std.proofs.Common.{ap, refl, ◌∙◌}
use Rattle.spec_session.specs.Own.{add_of}
use Rattle.bv_session.specs.Sessions.{own}
use Rattle.bv_session.proofs.LineLemmas.{ends_none}
use Rattle.bv_session.proofs.Moves.{add_gains, done_gain, refused_gain, refused_is}
use Rattle.bv_session.proofs.RangeLemmas.{read_refused, read_unread}
use Rattle.bv_session.proofs.WindowLemmas.{looked, looked_holds, looked_start, slot_gains}
use Rattle.bv_session.proofs.LookLemmas.{shows_line, shows_refused}
use Rattle.bv_session.proofs.SlotLemmas.{reader_kept, reader_stays, same_join, share_one, slot_stays}
use Rattle.spec_core.specs.declared.act.Act.TheVariants.{Read}
use Rattle.bv_session.specs.Shown.{read_range}
use Rattle.bv_session.proofs.ranging.read.Goals as goal

pub returns-in-Err-clause-line : goal.returns-in-Err-clause-line
returns-in-Err-clause-line g c = λ version. ends_none _ version c.args.who _ _ _ c.in-Err.ensures.err

pub returns-in-Err-clause-idle : goal.returns-in-Err-clause-idle
returns-in-Err-clause-idle g c = ap add_of c.in-Err.ensures.err

pub returns-in-Refused-clause-line : goal.returns-in-Refused-clause-line
returns-in-Refused-clause-line g c = λ version.
    read_refused version c.args.who c.args.slot c.args.off c.args.len _ _ _ _ (refused_is _ _ c.in-Ok.ensures.refused c.in-Refused.is) (refused_gain _ _ _ _ _ _ _ c.in-Ok.ensures.ok c.in-Refused.is) c.result_of.ensures

pub returns-in-Refused-clause-idle : goal.returns-in-Refused-clause-idle
returns-in-Refused-clause-idle g c = add_gains c.args.who _ _ _ _ (refused_gain _ _ _ _ _ _ _ c.in-Ok.ensures.ok c.in-Refused.is)

-- the slot's blob
pub read_with-requires-clause-holds : goal.read_with-requires-clause-holds
read_with-requires-clause-holds g c =
    let holds = looked c.args.slot (own c.args.share.now) _ _ c.in-Ok.ensures.done c.in-Done.is in
    let gain = done_gain _ _ _ _ _ _ _ c.in-Ok.ensures.ok c.in-Done.is in
    looked_holds c.args.slot (own c.args.share.now) (own c.look.new.share) _ c.in-Ok-taken.reader holds (slot_gains c.args.slot c.args.who _ _ _ _ gain) c.in-Ok-taken.ensures.named.0 c.in-Ok-taken.ensures.named.1

pub returns-in-Err-taken-clause-line : goal.returns-in-Err-taken-clause-line
returns-in-Err-taken-clause-line g c = λ version.
    let holds = looked c.args.slot (own c.args.share.now) _ _ c.in-Ok.ensures.done c.in-Done.is in
    read_unread version (own c.args.share.now) c.args.who c.args.slot c.args.off c.args.len _ holds _ _ _ (done_gain _ _ _ _ _ _ _ c.in-Ok.ensures.ok c.in-Done.is) refl

pub returns-in-Err-taken-clause-idle : goal.returns-in-Err-taken-clause-idle
returns-in-Err-taken-clause-idle g c = add_gains c.args.who _ _ _ _ (done_gain _ _ _ _ _ _ _ c.in-Ok.ensures.ok c.in-Done.is)

pub returns-in-Ok-taken-clause-line : goal.returns-in-Ok-taken-clause-line
returns-in-Ok-taken-clause-line g c = λ version.
    let holds = looked c.args.slot (own c.args.share.now) _ _ c.in-Ok.ensures.done c.in-Done.is in
    c.read_with.ensures.line version (own c.args.share.now) (looked_start c.args.slot (own c.args.share.now) _ c.in-Ok-taken.reader holds c.in-Ok-taken.ensures.named.0 c.in-Ok-taken.ensures.named.1) (done_gain _ _ _ _ _ _ _ c.in-Ok.ensures.ok c.in-Done.is)

pub returns-in-Ok-taken-clause-idle : goal.returns-in-Ok-taken-clause-idle
returns-in-Ok-taken-clause-idle g c = c.read_with.ensures.idle ∙ add_gains c.args.who _ _ _ _ (done_gain _ _ _ _ _ _ _ c.in-Ok.ensures.ok c.in-Done.is)

pub returns-in-Refused-clause-slots : goal.returns-in-Refused-clause-slots
returns-in-Refused-clause-slots g c =
    let stays = c.in-Ok.ensures.stays in
    slot_stays _ _ _ stays c.args.slot c.args.slots.now.pages.items _ (share_one _ _ _ stays c.args.slot c.args.who _ _ (refused_gain _ _ _ _ _ _ _ c.in-Ok.ensures.ok c.in-Refused.is) (λ x. x)) refl c.requires.pages

pub returns-in-Refused-clause-shows : goal.returns-in-Refused-clause-shows
returns-in-Refused-clause-shows g c =
    shows_refused _ _ _ c.in-Ok.ensures.stays c.args.who (Read c.args.slot c.args.off c.args.len) _ _ (refused_gain _ _ _ _ _ _ _ c.in-Ok.ensures.ok c.in-Refused.is) (refused_is _ _ c.in-Ok.ensures.refused c.in-Refused.is)

pub read_with-requires-clause-pages : goal.read_with-requires-clause-pages
read_with-requires-clause-pages g c =
    let stays = c.in-Ok.ensures.stays in
    let gain = done_gain _ _ _ _ _ _ _ c.in-Ok.ensures.ok c.in-Done.is in
    reader_stays _ _ _ stays c.args.slot c.in-Ok-taken.reader (share_one _ _ _ stays c.args.slot c.args.who _ _ gain (λ x. x))
    (reader_kept c.args.share.now c.args.slot c.args.slots.now.pages.items c.in-Ok-taken.reader c.in-Ok-taken.ensures.kept c.requires.pages)

pub returns-in-Ok-taken-clause-others : goal.returns-in-Ok-taken-clause-others
returns-in-Ok-taken-clause-others g c = same_join c.args.slot c.args.slots.now.pages.items _ _ c.in-Ok-taken.ensures.others c.read_with.ensures.others

pub returns-in-Ok-taken-clause-shows : goal.returns-in-Ok-taken-clause-shows
returns-in-Ok-taken-clause-shows g c =
    let r = c.in-Ok-taken.reader in let named = c.in-Ok-taken.ensures.named in
    let holds = looked c.args.slot (own c.args.share.now) _ _ c.in-Ok.ensures.done c.in-Done.is in
    let gain = done_gain _ _ _ _ _ _ _ c.in-Ok.ensures.ok c.in-Done.is in
    let start = looked_start c.args.slot (own c.args.share.now) _ r holds named.0 named.1 in
    let mid = looked_holds c.args.slot (own c.args.share.now) (own c.look.new.share) _ r holds (slot_gains c.args.slot c.args.who _ _ _ _ gain) named.0 named.1 in
    shows_line _ _ _ c.in-Ok.ensures.stays c.args.who (Read c.args.slot c.args.off c.args.len) _ gain (r.root, r.size) (read_range r.size c.args.off c.args.len) start refl mid c.read_with.new.share c.read_with.result c.read_with.ensures.shows
