use Rattle.std.proofs.Common.{◌≡◌, ℕ, ◌+◌, ◌-◌, ◌≤◌, List, ◌++◌, take, length}
use Rattle.bv_merkle.specs.Builder.{Builds, built, size_of}
use Rattle.bv_merkle.proofs.builder.Builder.push.Given as goal

-- the bytes so far were added
abbrev pub invariant-loop-at : goal.invariant-loop-at
invariant-loop-at l = record {
  within : l.at ≤ length l.bytes;
  size : size_of l.self ≡ size_of l.initial.self;
  built : built l.self ≡ built l.initial.self + l.at;
  builds : (m : List ℕ) → Builds l.initial.self m → Builds l.self (m ++ take l.at l.bytes);
}

abbrev pub decreases-loop-at : goal.decreases-loop-at
decreases-loop-at l = length l.bytes - l.at
