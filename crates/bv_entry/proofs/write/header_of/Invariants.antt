use Rattle.std.proofs.Common.{length, take, map}
use Rattle.spec_record.specs.Field.{IsBlock}
use Rattle.spec_record.specs.EntryBlocks.{flag_of}
use Rattle.spec_record.proofs.PlaceLemmas.{HeaderFields}
use Rattle.bv_entry.proofs.write.header_of.Given as goal

-- the places so far are used, and no others
abbrev pub invariant-loop-place : goal.invariant-loop-place
invariant-loop-place l = record {
  block : IsBlock l.header;
  places : HeaderFields l.header l.number (length l.targets) (map (λ t. t.0) (take l.place l.targets)) (map (λ t. flag_of t.1) (take l.place l.targets));
}
