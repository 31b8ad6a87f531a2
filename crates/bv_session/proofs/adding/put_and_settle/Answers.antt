use Rattle.std.proofs.Common.{ap}
use Rattle.spec_session.specs.Own.{OwnAdd}
use Rattle.bv_session.proofs.AddLemmas.{puts_err, refused_puts, done_all, done_puts, puts_refused, puts_go_on, under_way}
use Rattle.bv_session.proofs.Moves.{add_gains}
use Rattle.bv_session.proofs.WrittenLemmas.{has_both}
use Rattle.bv_session.proofs.adding.put_and_settle.Goals as goal

pub retire-requires-clause-add : goal.retire-requires-clause-add
retire-requires-clause-add g c = under_way c.args.adding.now c.args.who _ _ _ c.in-Err.ensures.puts.1

pub returns-in-Err-clause-line : goal.returns-in-Err-clause-line
returns-in-Err-clause-line g c =
    let puts = c.in-Err.ensures.puts in
    puts_err c.args.adding.now c.args.who _ puts.0 _ _ _ _ (ap (λ (t : OwnAdd). t.root) puts.1.is) puts.1.within puts.2 c.retire.ensures.ok

pub returns-in-Err-clause-idle : goal.returns-in-Err-clause-idle
returns-in-Err-clause-idle g c = add_gains c.args.who _ _ _ _ c.retire.ensures.ok

pub retire-requires-in-Refused-clause-add : goal.retire-requires-in-Refused-clause-add
retire-requires-in-Refused-clause-add g c =
    let puts = refused_puts c.args.adding.now c.args.who _ _ _ _ _ c.in-Ok.ensures.puts c.in-Refused.is in
    under_way c.args.adding.now c.args.who _ _ _ puts.2

pub returns-in-Refused-clause-line : goal.returns-in-Refused-clause-line
returns-in-Refused-clause-line g c =
    let puts = refused_puts c.args.adding.now c.args.who _ _ _ _ _ c.in-Ok.ensures.puts c.in-Refused.is in
    puts_refused c.args.adding.now c.args.who _ puts.0 _ _ _ _ _ puts.3 (ap (λ (t : OwnAdd). t.root) puts.2.is) puts.1 puts.4 c.retire-in-Refused.ensures.ok c.result_of.ensures

pub returns-in-Refused-clause-idle : goal.returns-in-Refused-clause-idle
returns-in-Refused-clause-idle g c = add_gains c.args.who _ _ _ _ c.retire-in-Refused.ensures.ok

pub settle-requires-clause-admitted : goal.settle-requires-clause-admitted
settle-requires-clause-admitted g c = (done_puts c.args.adding.now c.args.who _ _ _ _ c.in-Ok.ensures.puts c.in-Done.is).0.is

pub settle-requires-clause-add : goal.settle-requires-clause-add
settle-requires-clause-add g c = (done_puts c.args.adding.now c.args.who _ _ _ _ c.in-Ok.ensures.puts c.in-Done.is).0.add

pub settle-requires-clause-basis : goal.settle-requires-clause-basis
settle-requires-clause-basis g c =
    has_both _ _ _ _ c.in-Ok.ensures.stays.basis c.requires.basis (done_all c.args.adding.now c.args.who _ _ c.in-Ok.ensures.written c.in-Done.is)

pub returns-in-Done-clause-line : goal.returns-in-Done-clause-line
returns-in-Done-clause-line g c =
    puts_go_on c.args.adding.now c.args.who _ _ _ _ (done_puts c.args.adding.now c.args.who _ _ _ _ c.in-Ok.ensures.puts c.in-Done.is).1 c.settle.ensures.line
