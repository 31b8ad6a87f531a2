use Rattle.std.proofs.Common.{◌≡◌, ◌++◌, drop}
use Rattle.spec_core.specs.Log.{changed, purges}
use Rattle.bv_text.proofs.purging.purge_all.Given as goal

abbrev pub invariant-loop-root : goal.invariant-loop-root
invariant-loop-root l = record {
  map : changed l.map.entries (purges l.map.entries (drop l.root-index l.roots)) ≡ changed l.fn.map.entries (purges l.fn.map.entries l.fn.roots);
  log : l.log.items ++ purges l.map.entries (drop l.root-index l.roots) ≡ l.fn.log.items ++ purges l.fn.map.entries l.fn.roots;
}
