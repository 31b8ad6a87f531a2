use Rattle.std.proofs.Common.{◌∙◌, sym}
use Rattle.bv_ledger.proofs.Unlinked.{moves}
use Rattle.bv_ledger.proofs.opening.let_go.Goals as goal

pub returns-then-not-is_held-clause-unlinked : goal.returns-then-not-is_held-clause-unlinked
returns-then-not-is_held-clause-unlinked c = λ r.
    rw c.push_root.ensures.items
    (moves c.args.leaving.now.keys c.remove.new.self.keys c.args.queue.now.items c.args.root c.remove.ensures.updates.0 (sym c.contains.ensures ∙ c.if-contains.true) r)
