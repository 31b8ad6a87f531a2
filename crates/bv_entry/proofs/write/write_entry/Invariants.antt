use Rattle.std.proofs.Common.{◌≡◌, ◌∷◌, take, map}
use Rattle.spec_record.specs.EntryBlocks.{header_bytes}
use Rattle.bv_entry.proofs.WriteLemmas.{entry_with, stored_at}
use Rattle.bv_entry.proofs.write.write_entry.Given as goal

-- the header and the payloads so far
abbrev pub invariant-loop-payload : goal.invariant-loop-payload
invariant-loop-payload l = l.blocks.items ≡ header_bytes (entry_with l.number l.targets) ∷ map stored_at (take l.payload-index l.targets)
