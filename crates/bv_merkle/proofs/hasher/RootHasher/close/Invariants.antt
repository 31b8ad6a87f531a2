use Rattle.std.proofs.Common.{◌≡◌, ℕ, ◌<◌, ◌≤◌, ◌^◌, List}
use Rattle.bv_merkle.specs.Hasher.{Holds, shape_of}
use Rattle.bv_merkle.proofs.CloseLemmas.{Climbed}
use Rattle.bv_merkle.proofs.hasher.RootHasher.close.Given as goal

abbrev pub invariant-levels : goal.invariant-levels
invariant-levels l = record {
  shape : shape_of l.self ≡ shape_of l.initial.self;
  many : 1 < l.count;
  few : l.count ≤ 2 ^ 51;
  climbed : (m : List ℕ) → Holds l.initial.self m → Climbed m l.self l.level l.count;
}
