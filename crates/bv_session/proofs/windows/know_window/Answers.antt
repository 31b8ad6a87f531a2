use Rattle.std.proofs.Common.{refl, ap, inl, []}
use Rattle.spec_session.specs.Own.{add_of, slot_holds}
use Rattle.bv_session.specs.Events.{IsReadFault}
use Rattle.bv_session.specs.Sessions.{own}
use Rattle.bv_session.proofs.Moves.{add_gains, done_gain, refused_gain, since_none, since_one, done_is}
use Rattle.bv_session.proofs.WindowLemmas.{faults_refuse, fetched_fits, loads_finds, refused_fails, refused_has, same_keeps, slot_gains}
use Rattle.bv_session.proofs.SlotLemmas.{reader_stays, share_moves, share_one}
use Rattle.bv_session.proofs.LookLemmas.{load_pages, load_shows, read_failed}
use Rattle.bv_session.proofs.windows.know_window.Goals as goal

pub returns-in-Err-clause-holds : goal.returns-in-Err-clause-holds
returns-in-Err-clause-holds g c = ap (slot_holds c.args.slot) c.in-Err.ensures.err

pub returns-in-Err-clause-idle : goal.returns-in-Err-clause-idle
returns-in-Err-clause-idle g c = ap add_of c.in-Err.ensures.err

pub returns-in-Err-clause-keeps : goal.returns-in-Err-clause-keeps
returns-in-Err-clause-keeps g c = same_keeps _ _ refl

pub returns-in-Err-clause-finds : goal.returns-in-Err-clause-finds
returns-in-Err-clause-finds g c = inl (since_none c.args.who _ _ c.in-Err.ensures.err)

pub result_of-requires : goal.result_of-requires
result_of-requires g c = faults_refuse _ (refused_has IsReadFault _ _ c.in-Ok.ensures.refused c.in-Refused.is)

pub returns-in-Refused-clause-holds : goal.returns-in-Refused-clause-holds
returns-in-Refused-clause-holds g c = slot_gains c.args.slot c.args.who _ _ _ _ (refused_gain _ _ _ _ _ _ _ c.in-Ok.ensures.ok c.in-Refused.is)

pub returns-in-Refused-clause-idle : goal.returns-in-Refused-clause-idle
returns-in-Refused-clause-idle g c = add_gains c.args.who _ _ _ _ (refused_gain _ _ _ _ _ _ _ c.in-Ok.ensures.ok c.in-Refused.is)

pub returns-in-Refused-clause-keeps : goal.returns-in-Refused-clause-keeps
returns-in-Refused-clause-keeps g c = same_keeps _ _ refl

pub returns-in-Refused-clause-finds : goal.returns-in-Refused-clause-finds
returns-in-Refused-clause-finds g c = (
  _,
  refused_fails _ _ (refused_has IsReadFault _ _ c.in-Ok.ensures.refused c.in-Refused.is) c.result_of.ensures,
  since_one c.args.who _ _ _ _ (refused_gain _ _ _ _ _ _ _ c.in-Ok.ensures.ok c.in-Refused.is),
)

pub load-requires : goal.load-requires
load-requires g c = (fetched_fits c.args.slot c.args.window (own c.args.share.now) _ _ _ _ c.in-Ok.ensures.done c.in-Done.is c.requires.holds).1

pub returns-in-Done-clause-holds : goal.returns-in-Done-clause-holds
returns-in-Done-clause-holds g c = slot_gains c.args.slot c.args.who _ _ _ _ (done_gain _ _ _ _ _ _ _ c.in-Ok.ensures.ok c.in-Done.is)

pub returns-in-Done-clause-idle : goal.returns-in-Done-clause-idle
returns-in-Done-clause-idle g c = add_gains c.args.who _ _ _ _ (done_gain _ _ _ _ _ _ _ c.in-Ok.ensures.ok c.in-Done.is)

pub returns-in-Done-clause-finds : goal.returns-in-Done-clause-finds
returns-in-Done-clause-finds g c =
    loads_finds c.args.who c.args.slot c.args.window _ c.load.new.reader c.load.result _ _ (fetched_fits c.args.slot c.args.window (own c.args.share.now) _ _ _ _ c.in-Ok.ensures.done c.in-Done.is c.requires.holds).0
    c.load.ensures.loads (done_gain _ _ _ _ _ _ _ c.in-Ok.ensures.ok c.in-Done.is)

pub returns-in-Err-clause-pages : goal.returns-in-Err-clause-pages
returns-in-Err-clause-pages g c =
    let stays = c.in-Err.ensures.stays in
    reader_stays _ _ _ stays c.args.slot _ (share_moves _ _ _ stays c.args.slot c.args.who [] (since_none c.args.who _ _ c.in-Err.ensures.err) tt) c.requires.pages

pub returns-in-Refused-clause-pages : goal.returns-in-Refused-clause-pages
returns-in-Refused-clause-pages g c =
    let stays = c.in-Ok.ensures.stays in
    reader_stays _ _ _ stays c.args.slot _ (share_one _ _ _ stays c.args.slot c.args.who _ _ (refused_gain _ _ _ _ _ _ _ c.in-Ok.ensures.ok c.in-Refused.is) (λ x. x)) c.requires.pages

pub returns-in-Refused-clause-shows : goal.returns-in-Refused-clause-shows
returns-in-Refused-clause-shows g c = λ b has.
    read_failed b c.args.slot _ _ c.args.window _ _ (refused_has IsReadFault _ _ c.in-Ok.ensures.refused c.in-Refused.is) c.result_of.ensures

pub returns-in-Done-clause-pages : goal.returns-in-Done-clause-pages
returns-in-Done-clause-pages g c =
    load_pages _ _ _ c.in-Ok.ensures.stays c.args.who c.args.slot c.args.window _ c.load.new.reader c.in-Done.raw
    (fetched_fits c.args.slot c.args.window (own c.args.share.now) _ _ _ _ c.in-Ok.ensures.done c.in-Done.is c.requires.holds).0 c.requires.holds
    (done_gain _ _ _ _ _ _ _ c.in-Ok.ensures.ok c.in-Done.is) c.requires.pages (done_is _ _ _ c.in-Ok.ensures.disk c.in-Done.is) c.load.result c.load.ensures.made

pub returns-in-Done-clause-shows : goal.returns-in-Done-clause-shows
returns-in-Done-clause-shows g c =
    load_shows _ _ _ c.in-Ok.ensures.stays c.args.who c.args.slot c.args.window _ c.load.new.reader c.in-Done.raw
    (fetched_fits c.args.slot c.args.window (own c.args.share.now) _ _ _ _ c.in-Ok.ensures.done c.in-Done.is c.requires.holds).0 c.requires.holds
    (done_gain _ _ _ _ _ _ _ c.in-Ok.ensures.ok c.in-Done.is) c.requires.pages (done_is _ _ _ c.in-Ok.ensures.disk c.in-Done.is) c.load.result c.load.ensures.made
