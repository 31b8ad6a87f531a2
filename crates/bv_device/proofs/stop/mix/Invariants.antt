use Rattle.std.proofs.Common.{◌≡◌, ◌<◌, ◌≤◌, ◌+◌, ◌*◌, ℕ, ◌∷◌}
use Rattle.spec_disk.specs.Disk.{sector}
use Rattle.spec_disk.specs.Images.{written_to}
use Rattle.bv_device.specs.Stop.{byte_for, nth_or_last}
use Rattle.bv_device.proofs.stop.mix.Given as goal

-- the sectors so far are chosen, and the others as they were
abbrev pub invariant-loop-s : goal.invariant-loop-s
invariant-loop-s l = record {
  synced : l.synced ≡ l.fn.block;
  chosen : (t : ℕ) → t < l.s → sector l.block t ≡ sector (nth_or_last (l.fn.block ∷ written_to l.at l.since) (byte_for l.choice (16 * l.opened + t))) t;
  rest : (t : ℕ) → l.s ≤ t → sector l.block t ≡ sector l.fn.block t;
}
