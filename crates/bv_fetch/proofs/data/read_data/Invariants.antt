use Rattle.std.proofs.Common.{◌≡◌, ◌*◌, ◌≤◌, min, take}
use Rattle.std.specs.Prelude.{vec_len, vec_capacity}
use Rattle.spec_disk.specs.Laws.{AreWhole}
use Rattle.bv_store.specs.Stored.{blocks_on}
use Rattle.bv_fetch.specs.Reading.{SeesNow}
use Rattle.bv_fetch.specs.Windows.{data_window}
use Rattle.bv_fetch.proofs.Sees.{Stays}
use Rattle.bv_fetch.proofs.data.read_data.Given as goal

-- all blocks so far were read, and the bytes are the window's first
abbrev pub invariant-loop-k : goal.invariant-loop-k
invariant-loop-k g l = record {
  stays : Stays (g.S.Store.seen l.initial.store) (g.S.Store.seen l.store) (g.S.Store.both l.initial.store) (g.S.Store.both l.store) (g.S.Store.held l.initial.store) (g.S.Store.held l.store);
  len : vec_len l.out ≡ min l.bytes (8192 * l.k);
  room : vec_capacity l.initial.out ≤ vec_capacity l.out;
  now : SeesNow (g.S.Store.seen l.initial.store) (λ d. AreWhole (blocks_on (g.S.Store.seen l.initial.store).geometry d l.content) → l.out.items ≡ take (8192 * l.k) (data_window l.size l.window (blocks_on (g.S.Store.seen l.initial.store).geometry d l.content)));
}
