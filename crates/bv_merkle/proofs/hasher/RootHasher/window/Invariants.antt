use Rattle.std.proofs.Common.{◌≡◌, ℕ, List, ◌++◌}
use Rattle.bv_merkle.specs.Levels.{data_digests}
use Rattle.bv_merkle.specs.Hasher.{Holds, Stands, shape_of}
use Rattle.bv_merkle.proofs.WindowLemmas.{digests_from}
use Rattle.bv_merkle.proofs.hasher.RootHasher.window.Given as goal

-- the digests of the pieces so far stand after those of the bytes that were taken before
abbrev pub invariant-loop-i : goal.invariant-loop-i
invariant-loop-i l = record {
  shape : shape_of l.self ≡ shape_of l.initial.self;
  taken : l.self.taken ≡ l.initial.self.taken;
  stands : (m : List ℕ) → Holds l.initial.self m
      → Stands l.self 7 0 (data_digests m ++ digests_from l.initial.self.taken l.bytes l.i);
}
