use Rattle.std.proofs.Common.{◌≡◌, ◌∙◌, ◌++◌, ◌∷◌, [], List, false, not, is_some, ap, sym, rules}
use Rattle.spec_tree.specs.declared.Digest.{Digest}
use Rattle.spec_core.specs.State.{among, find}
use Rattle.bv_ledger.proofs.Unlinked.{unlinked_queued, unlinked_leaving, taken_back, not_unlinked}
use Rattle.bv_ledger.proofs.ledger.Ledger.unlink.Goals as goal

pub invariant_of-self-then-not-is_held : goal.invariant_of-self-then-not-is_held
invariant_of-self-then-not-is_held c =
    let same : c.reserve.new.self.items ≡ c.self.inside.queue.items = c.reserve.ensures.items in
    let queue = c.push_root.ensures.items ∙ ap (λ (q : List Digest). q ++ c.args.root ∷ []) same in
    record {
      room = search rules;
      unlinked = λ r. rw queue (unlinked_queued c.self.inside.unlinked.keys c.insert.new.self.keys c.self.inside.leaving.keys c.self.inside.queue.items c.args.root c.self.invariant.unlinked c.in-Ok.ensures.updates.0 r);
      held = c.self.invariant.held;
      adding = c.self.invariant.adding;
      numbers = c.self.invariant.numbers;
      bound = c.self.invariant.bound;
    }

pub invariant_of-self-in-Err-insert : goal.invariant_of-self-in-Err-insert
invariant_of-self-in-Err-insert c =
    let same : c.reserve.new.self.items ≡ c.self.inside.queue.items = c.reserve.ensures.items in
    let absent : among c.self.inside.unlinked.keys c.args.root ≡ false = not_unlinked _ (find c.self.inside.map.entries c.args.root) (ap is_some (sym c.present.ensures) ∙ c.is_none.ensures ∙ ap not c.if-is_none.false) in
    record {
      room = search rules;
      unlinked = λ r. rw (same, c.in-Err-insert.ensures.err) (taken_back c.self.inside.unlinked.keys c.insert.new.self.keys c.remove.new.self.keys c.args.root absent c.in-Ok.ensures.updates.0 c.remove.ensures.updates.0 r ∙ c.self.invariant.unlinked r);
      held = c.self.invariant.held;
      adding = c.self.invariant.adding;
      numbers = c.self.invariant.numbers;
      bound = c.self.invariant.bound;
    }

pub invariant_of-self-in-Ok-insert : goal.invariant_of-self-in-Ok-insert
invariant_of-self-in-Ok-insert c =
    let same : c.reserve.new.self.items ≡ c.self.inside.queue.items = c.reserve.ensures.items in
    record {
      room = search rules;
      unlinked = λ r. rw same (unlinked_leaving c.self.inside.unlinked.keys c.insert.new.self.keys c.self.inside.leaving.keys c.insert-2.new.self.keys c.self.inside.queue.items c.args.root c.self.invariant.unlinked c.in-Ok.ensures.updates.0 c.in-Ok-insert.ensures.updates.0 r);
      held = c.self.invariant.held;
      adding = c.self.invariant.adding;
      numbers = c.self.invariant.numbers;
      bound = c.self.invariant.bound;
    }
