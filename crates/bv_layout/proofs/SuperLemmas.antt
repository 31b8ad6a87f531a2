-- What the laws of the superblock say of one that is read or written.
use Rattle.std.proofs.Common.{◌≡◌, ◌≤◌, ℕ, List, replicate, Result, Ok, Err, IfOk, refl, ap, sym}
use Rattle.std.specs.Result.{result_ok}
use Rattle.spec_record.specs.declared.superblock.Super.{Super}
use Rattle.spec_record.specs.declared.super_fault.SuperFault.{SuperFault}
use Rattle.spec_record.specs.Field.{IsBlock, field, fields, number_of}
use Rattle.spec_record.specs.Geometry.{total_blocks}
use Rattle.spec_record.specs.Superblock.{super_or_fault, super_bytes, super_widths, IsSuper}
use Rattle.spec_record.specs.Laws.{SpellsSuper}
use Rattle.spec_record.proofs.SuperLemmas.{super_is_read, super_is_block}
use Rattle.spec_record.proofs.TestLemmas.{some_ok}

-- what is read is spelled so
pub read_is_spelled : (bytes : List ℕ) (device_blocks : ℕ) (r : Result Super SuperFault) → IsBlock bytes → r ≡ super_or_fault bytes device_blocks → IfOk r (λ s. SpellsSuper bytes device_blocks s)
read_is_spelled bytes device_blocks (Ok s) block e =
    (super_is_read bytes device_blocks s block).0 (ap result_ok (sym e))
read_is_spelled bytes device_blocks (Err fault) block e = tt

-- what is spelled so is read
pub spelling_is_read : (s : Super) (device_blocks : ℕ) → IsSuper s → total_blocks s.geometry ≤ device_blocks → super_or_fault (super_bytes s) device_blocks ≡ Ok s
spelling_is_read s device_blocks l room =
    some_ok (super_or_fault (super_bytes s) device_blocks) s
    ((super_is_read (super_bytes s) device_blocks s (super_is_block s l)).1 (record {
      lawful = l;
      room = room;
      bytes_are = refl;
    }))

-- the rows of a block of zeros
pub zero_rows : fields 0 super_widths (replicate 8192 0) ≡ replicate 13 0
unfolding field number_of
zero_rows = refl
