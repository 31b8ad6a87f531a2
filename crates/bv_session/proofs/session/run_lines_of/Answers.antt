use Rattle.std.specs.Prelude.{not}
use Rattle.bv_turn.specs.Tokens.{session_of}
use Rattle.bv_session.specs.Sessions.{own}
use Rattle.bv_session.proofs.EndLemmas.{goes_does, goes_not_not}
use Rattle.bv_session.proofs.session.run_lines_of.Goals as goal

pub returns : goal.returns
returns g c =
    let s = session_of c.args.share in let whole = c.do_all-whole.result in let es = own c.do_all-whole.new.share in let rs = c.do_all-whole.new.results.items in
    let goes = goes_not_not c.args.version c.args.lines.now s whole es rs c.do_all-whole.ensures.goes in record {
      stays = c.do_all-whole.ensures.stays;
      does = goes_does c.args.version c.args.lines.now s (not (not whole)) es rs goes;
      goes = goes;
      shows = c.do_all-whole.ensures.shows;
    }
