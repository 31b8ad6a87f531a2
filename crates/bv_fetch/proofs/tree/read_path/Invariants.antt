use Rattle.std.proofs.Common.{◌≡◌, ◌≤◌, map}
use Rattle.std.specs.Prelude.{vec_len, vec_capacity}
use Rattle.std.specs.List.{range_with_len}
use Rattle.spec_window.specs.Window.{index_above}
use Rattle.bv_store.specs.Stored.{blocks_on}
use Rattle.bv_fetch.specs.Reading.{SeesNow}
use Rattle.bv_fetch.specs.Windows.{block_among}
use Rattle.bv_fetch.proofs.Sees.{Stays}
use Rattle.bv_fetch.proofs.tree.read_path.Given as goal

-- all levels so far were read
abbrev pub invariant-loop-below : goal.invariant-loop-below
invariant-loop-below g l = record {
  stays : Stays (g.S.Store.seen l.initial.store) (g.S.Store.seen l.store) (g.S.Store.both l.initial.store) (g.S.Store.both l.store) (g.S.Store.held l.initial.store) (g.S.Store.held l.store);
  len : vec_len l.path ≡ l.below;
  room : vec_capacity l.initial.path ≤ vec_capacity l.path;
  now : SeesNow (g.S.Store.seen l.initial.store) (λ d.
      l.path.items ≡ map (λ level. block_among l.version l.size (blocks_on (g.S.Store.seen l.initial.store).geometry d l.tree) level (index_above l.window level)) (range_with_len 1 l.below));
}
