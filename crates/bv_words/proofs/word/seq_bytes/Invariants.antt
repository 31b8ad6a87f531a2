use Rattle.std.proofs.Common.{◌≡◌, map}
use Rattle.std.specs.List.{range_with_len}
use Rattle.spec_script.specs.Tasks.{seq_byte}
use Rattle.bv_words.proofs.word.seq_bytes.Given as goal

abbrev pub invariant-loop-i : goal.invariant-loop-i
invariant-loop-i l = l.bytes.items ≡ map (seq_byte l.base) (range_with_len 0 l.i)
