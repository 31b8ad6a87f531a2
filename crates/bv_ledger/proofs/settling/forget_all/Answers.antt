use Rattle.std.proofs.Common.{◌∙◌, sym, take}
use Rattle.std.proofs.lemmas.List.{take_more}
use Rattle.bv_ledger.proofs.Unlinked.{forgets_none, forgets_one}
use Rattle.bv_ledger.proofs.settling.forget_all.Goals as goal
use Rattle.bv_ledger.proofs.settling.forget_all.Goals.{then-not-contains, else-not-contains}

pub loop-root-preserved : goal.loop-root-preserved
loop-root-preserved c =
    elim c.if-not-contains.branch [
      | then-not-contains w ↦ rw w.unlinked-is (forgets_one c.loop-root.unlinked.keys c.args.unlinked.now.keys c.args.leaving.now.keys (take c.loop-root.root-index c.args.queue.now) _ _ c.loop-root.invariant (take_more c.args.queue.now c.loop-root.root-index _ c.loop-root-test.true) w.remove.new.self.keys (sym c.contains.ensures ∙ w.if-not-contains.true) w.remove.ensures.updates.0)
      | else-not-contains w ↦ rw w.unlinked-is (forgets_none c.loop-root.unlinked.keys c.args.unlinked.now.keys c.args.leaving.now.keys (take c.loop-root.root-index c.args.queue.now) _ _ c.loop-root.invariant (take_more c.args.queue.now c.loop-root.root-index _ c.loop-root-test.true) (sym c.contains.ensures ∙ w.if-not-contains.false))
    ]
