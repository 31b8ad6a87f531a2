use Rattle.std.proofs.Common.{◌≡◌, map, take}
use Rattle.spec_tree.specs.declared.Digest.{Digest}
use Rattle.spec_core.specs.State.{among}
use Rattle.bv_txn.specs.Changes.{change_of}
use Rattle.bv_txn.specs.Metas.{metadata_of}
use Rattle.bv_journaled.specs.Purging.{purge_changes}
use Rattle.bv_journaled.proofs.purging.purges.Given as goal

-- the purges of the roots so far, and which these are
abbrev pub invariant-loop-root : goal.invariant-loop-root
invariant-loop-root l = record {
  made : map change_of l.changes.items ≡ purge_changes (metadata_of l.meta) (take l.root-index l.roots);
  before : (r : Digest) → among l.before.keys r ≡ among (take l.root-index l.roots) r;
}
