use Rattle.std.proofs.Common.{◌∙◌, ◌++◌, ap, sym, append_assoc}
use Rattle.bv_model.proofs.Flush.{purges_step, changed_step}
use Rattle.bv_text.proofs.purging.purge_all.Goals as goal

pub loop-root-preserved : goal.loop-root-preserved
loop-root-preserved c = record {
  map = rw c.in_ok-purge.ensures.map (sym (changed_step c.loop-root.map.entries c.args.roots.now c.loop-root.root-index _ c.loop-root-test.true) ∙ c.loop-root.invariant.map);
  log = rw (c.in_ok-purge.ensures.log, c.in_ok-purge.ensures.map) (append_assoc c.loop-root.log.items _ _ ∙ ap (λ xs. c.loop-root.log.items ++ xs) (sym (purges_step c.loop-root.map.entries c.args.roots.now c.loop-root.root-index _ c.loop-root-test.true)) ∙ c.loop-root.invariant.log);
}
