-- A block that spells a superblock is read as that one.
use Rattle.std.proofs.Common.{◌≡◌, ◌≤◌, ℕ, List, Ok, sym, ◌∙◌, subst}
use Rattle.spec_record.specs.declared.geometry.Geometry.{Geometry}
use Rattle.spec_record.specs.declared.superblock.Super.{Super}
use Rattle.spec_record.specs.Field.{IsBlock}
use Rattle.spec_record.specs.Geometry.{total_blocks}
use Rattle.spec_record.specs.Laws.{SpellsSuper}
use Rattle.spec_record.specs.Superblock.{super_or_fault}
use Rattle.spec_record.proofs.SuperLemmas.{super_is_read, super_is_block, super_is_one}
use Rattle.spec_record.proofs.TestLemmas.{some_ok}
use Rattle.spec_meta.specs.Blocks.{counts_in}
use Rattle.bv_mount.specs.Opens.{IsSpelled}

-- on a device that has room for it
pub spelled_read : (g : Geometry) (bytes : List ℕ) (n : ℕ) → IsSpelled g bytes → total_blocks g ≤ n → super_or_fault bytes n ≡ Ok (counts_in g bytes)
spelled_read g bytes n is room =
    let s : Super = counts_in g bytes in
    let block : IsBlock bytes = subst IsBlock (sym is.bytes_are) (super_is_block s is.lawful) in
    some_ok (super_or_fault bytes n) s ((super_is_read bytes n s block).1 (record { lawful = is.lawful; room = room; bytes_are = is.bytes_are }))

-- and as no other
pub spelled_one : (g : Geometry) (bytes : List ℕ) (n : ℕ) (s : Super) → IsSpelled g bytes → SpellsSuper bytes n s → s ≡ counts_in g bytes
spelled_one g bytes n s is read = super_is_one s (counts_in g bytes) read.lawful is.lawful (sym read.bytes_are ∙ is.bytes_are)
