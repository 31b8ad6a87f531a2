use Rattle.std.proofs.Common.{List, ap, ◌∙◌, map, take}
use Rattle.std.proofs.lemmas.List.{take_all}
use Rattle.spec_tree.specs.declared.Digest.{Digest}
use Rattle.spec_core.specs.State.{among}
use Rattle.bv_txn.specs.Changes.{change_of}
use Rattle.bv_txn.specs.Metas.{metadata_of}
use Rattle.bv_journaled.specs.Purging.{purge_changes}
use Rattle.bv_journaled.proofs.LookAfterLemmas.{purges_up_to, noted_more, asked_of_set}
use Rattle.bv_journaled.proofs.purging.purges.Goals as goal

pub loop-root-init : goal.loop-root-init
loop-root-init c = record { made = ap (map change_of) c.new-changes.ensures.items; before = λ r. ap (λ (ks : List Digest). among ks r) c.new-before.ensures.empty }

pub loop-root-preserved : goal.loop-root-preserved
loop-root-preserved c = record {
  made = purges_up_to (metadata_of c.args.meta.now) c.args.roots.now c.loop-root.root-index _ (map change_of c.loop-root.changes.items) _ c.requires c.loop-root-test.true c.loop-root.invariant.made
      (asked_of_set (metadata_of c.args.meta.now) c.loop-root.before.keys (take c.loop-root.root-index c.args.roots.now) _ _ _ (c.loop-root.invariant.before _) c.in_ok-add_purge.ensures);
  before = λ r. noted_more c.args.roots.now c.loop-root.root-index _ c.loop-root.before.keys _ r c.loop-root-test.true (c.loop-root.invariant.before r) (c.in_ok-note_root.ensures r);
}

pub returns : goal.returns
returns c =
    c.loop-root.invariant.made ∙ ap (purge_changes (metadata_of c.args.meta.now)) (take_all c.loop-root.root-index c.args.roots.now c.loop-root-test.false)
