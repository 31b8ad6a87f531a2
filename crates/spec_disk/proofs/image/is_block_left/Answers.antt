-- The sectors so far, and all sixteen of them.
use Rattle.std.proofs.Common.{arith}
use Rattle.std.specs.List.{Contains}
use Rattle.spec_disk.specs.Disk.{sector}
use Rattle.spec_disk.proofs.ProgramLemmas.{told_true, told_false, holds_at, fails_at, left_in, more_sectors, all_sectors}
use Rattle.spec_disk.proofs.image.is_block_left.Goals as goal

pub returns-then-not-is_sector_left : goal.returns-then-not-is_sector_left
returns-then-not-is_sector_left c = told_false _ (λ each. fails_at c.is_sector_left.result _ c.is_sector_left.ensures c.if-not-is_sector_left.true (each c.loop-s.s))

pub loop-s-preserved : goal.loop-s-preserved
loop-s-preserved c =
    let a = c.args in
    more_sectors (λ s. Contains (left_in a.synced.now a.at a.since.now s) (sector a.block.now s)) c.loop-s.s c.loop-s.invariant
    (holds_at c.is_sector_left.result _ c.is_sector_left.ensures c.if-not-is_sector_left.false)

pub returns : goal.returns
returns c =
    let a = c.args in
    told_true _ (all_sectors a.block.now a.synced.now a.at a.since.now (omega (arith, c.told-block)) (omega (arith, c.told-synced)) (λ s below. c.loop-s.invariant s (omega arith)))
