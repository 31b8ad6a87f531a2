use Rattle.std.proofs.Common.{◌≡◌, ◌<◌, ◌≤◌, ℕ, arith, refl, subst}
use Rattle.spec_tree.specs.Tree.{need_of}
use Rattle.spec_core.specs.declared.act.Act.TheVariants.{Put}
use Rattle.spec_core.specs.declared.reply.Reply.TheVariants.{Written}
use Rattle.spec_session.specs.Lines.{puts}
use Rattle.bv_session.proofs.AddLemmas.{puts_more}
use Rattle.bv_session.proofs.Moves.{since_more, since_none}
use Rattle.bv_session.specs.Sessions.{Since}
use Rattle.bv_adder.specs.Steps.{HasPuts, put_refusal}
use Rattle.bv_adder.proofs.EventLemmas.{gains_all}
use Rattle.bv_adder.proofs.GoesLemmas.{goes_more, goes_same}
use Rattle.bv_adder.proofs.putting.put_all.Goals as goal

pub loop-index-init : goal.loop-index-init
loop-index-init g c = record {
  goes = goes_same c.args.volume.now c.args.volume.now refl;
  has = c.requires.puts;
  since = since_none c.args.who _ _ refl;
}

pub put_next-requires-clause-low : goal.put_next-requires-clause-low
put_next-requires-clause-low g c = let test = c.loop-index-test.true in let end = c.need-index-end.ensures in omega arith

pub loop-index-preserved : goal.loop-index-preserved
loop-index-preserved g c =
    let i = c.loop-index.invariant in let put = c.in-Ok.ensures in
    record {
      goes = goes_more c.args.volume.now c.loop-index.volume c.put_next.new.volume c.args.who (Put c.loop-index.index) Written i.goes put.happens;
      has = put.ok;
      since = puts_more c.args.adding.now c.args.who c.loop-index.index c.args.volume.now.history.events c.loop-index.volume.history.events c.put_next.new.volume.history.events i.since
          (gains_all c.loop-index.volume c.put_next.new.volume c.args.who (Put c.loop-index.index) Written put.happens);
    }

pub returns-in-Err-clause-goes : goal.returns-in-Err-clause-goes
returns-in-Err-clause-goes g c =
    goes_more c.args.volume.now c.loop-index.volume c.put_next.new.volume c.args.who (Put c.loop-index.index) (put_refusal c.in-Err.fault) c.loop-index.invariant.goes c.in-Err.ensures.happens

pub returns-in-Err-clause-err : goal.returns-in-Err-clause-err
returns-in-Err-clause-err g c =
    let test = c.loop-index-test.true in let end = c.need-index-end.ensures in
    let low : c.loop-index.index < need_of c.args.adding.now.version c.args.adding.now.size = omega arith in
    record {
      count = c.loop-index.index;
      low = low;
      add = c.in-Err.ensures.err;
      since = since_more c.args.who (puts c.loop-index.index) (Put c.loop-index.index) (put_refusal c.in-Err.fault) c.args.volume.now.history.events c.loop-index.volume.history.events c.put_next.new.volume.history.events c.loop-index.invariant.since
          (gains_all c.loop-index.volume c.put_next.new.volume c.args.who (Put c.loop-index.index) (put_refusal c.in-Err.fault) c.in-Err.ensures.happens);
    }

pub returns-clause-ok : goal.returns-clause-ok
returns-clause-ok g c =
    let i = c.loop-index.invariant in let end = c.need-index-end.ensures in
    let past : need_of c.args.adding.now.version c.args.adding.now.size ≤ c.loop-index.index = omega arith in
    let is : c.loop-index.index ≡ need_of c.args.adding.now.version c.args.adding.now.size = omega (arith, i.has.add.within, past) in
    subst (λ (n : ℕ). HasPuts c.args.adding.now n c.args.who.session c.loop-index.volume c.loop-index.add) is i.has

pub returns-clause-since : goal.returns-clause-since
returns-clause-since g c =
    let i = c.loop-index.invariant in let end = c.need-index-end.ensures in
    let past : need_of c.args.adding.now.version c.args.adding.now.size ≤ c.loop-index.index = omega arith in
    let is : c.loop-index.index ≡ need_of c.args.adding.now.version c.args.adding.now.size = omega (arith, i.has.add.within, past) in
    subst (λ (n : ℕ). Since c.args.who (puts n) c.args.volume.now.history.events c.loop-index.volume.history.events) is i.since
