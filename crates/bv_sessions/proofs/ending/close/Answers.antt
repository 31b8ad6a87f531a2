use Rattle.bv_sessions.proofs.CloseLemmas.{gives_roomy, unmounts_roomy}
use Rattle.bv_sessions.proofs.ending.close.Goals as goal

pub returns-clause-closes : goal.returns-clause-closes
returns-clause-closes g c =
    let u = c.unmount in let v = c.args.volume in let r = c.reserve.new.self in let h = u.result.history.history in let s = g.S.Store.seen u.result.store in
    record {
      gives = λ cut. gives_roomy v h s r r.spare c.reserve.ensures.rest (u.ensures.gives cut);
      whole_is = λ whole. cc (c.are_whole.ensures, c.deref.ensures.value, c.if-not-are_whole.false);
      unmounts = λ whole. unmounts_roomy v h s r r.spare c.reserve.ensures.rest (u.ensures.unmounts whole);
    }
