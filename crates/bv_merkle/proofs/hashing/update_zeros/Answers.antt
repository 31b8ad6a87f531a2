use Rattle.std.proofs.Common.{ℕ, ◌++◌, take, replicate}
use Rattle.std.proofs.lemmas.List.{take-replicate}
use Rattle.sha2.specs.Hashers.{Holds256}
use Rattle.bv_merkle.proofs.hashing.update_zeros.Goals as goal

-- the first bytes of a block of zeros are so many zeros
pub returns : goal.returns
returns c = λ m held.
    let h : Holds256 c.update.new.self (m ++ take c.args.count (replicate 8192 0)) = c.update.ensures m held in
    rw (take-replicate {X = ℕ} c.args.count 8192 0 c.requires) at h
