use Rattle.std.proofs.Common.{◌<◌, ◌++◌, List, [], length, take, get_or, sym, ap, ◌∙◌, arith, append_assoc}
use Rattle.spec_tree.specs.declared.Digest.{Digest}
use Rattle.bv_check.specs.declared.waiting.Waiting.{Waiting}
use Rattle.bv_check.specs.Last.{damaged_among, last_digest, unless_found}
use Rattle.bv_check.proofs.WaitingLemmas.{waiting_more, found_at}
use Rattle.bv_check.proofs.waiting.add_damaged.Goals as goal

pub loop-i-preserved : goal.loop-i-preserved
loop-i-preserved c =
    let ws = c.args.waiting.now in
    let i = c.loop-i.i in
    let start = c.args.roots.now.items in
    let low : i < length ws = omega arith in
    let d : Waiting = record { root = record { 0 = [] }; last = record { prefix = []; block = [] } } in
    let one = found_at ws c.last_digests-found.result i d [] low c.last_digests-found.ensures in
    c.in_ok-add_unless.ensures
    ∙ (λ t. c.loop-i.invariant t ++ unless_found (get_or ws i d).root (record { 0 = one t }))
    ∙ append_assoc start (damaged_among (take i ws)) (unless_found (get_or ws i d).root (last_digest (get_or ws i d).last))
    ∙ ap (λ (x : List Digest). start ++ x) (sym (waiting_more ws i d low))
