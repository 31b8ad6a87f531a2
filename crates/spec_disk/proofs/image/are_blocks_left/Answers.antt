-- The blocks so far.
use Rattle.std.proofs.Common.{ℕ, arith}
use Rattle.std.specs.List.{Contains}
use Rattle.spec_disk.specs.Disk.{block, sector}
use Rattle.spec_disk.proofs.ProgramLemmas.{told_true, told_false, holds_at, fails_at, left_in, more_sectors}
use Rattle.spec_disk.proofs.image.are_blocks_left.Goals as goal

pub returns-then-not-is_block_left : goal.returns-then-not-is_block_left
returns-then-not-is_block_left c =
    told_false _ (λ each. fails_at c.is_block_left.result _ c.is_block_left.ensures c.if-not-is_block_left.true (λ s. each c.loop-b.b s c.loop-b-test.true))

pub loop-b-preserved : goal.loop-b-preserved
loop-b-preserved c =
    let a = c.args in
    let so_far = more_sectors (λ b. (s : ℕ) → Contains (left_in (block a.synced.now b) b a.since.now s) (sector (block a.image.now b) s)) c.loop-b.b
    (λ b below s. c.loop-b.invariant b s below) (holds_at c.is_block_left.result _ c.is_block_left.ensures c.if-not-is_block_left.false) in
    λ b s below. so_far b below s

pub returns : goal.returns
returns c = told_true _ (λ b s below. c.loop-b.invariant b s (omega (arith, below, c.loop-b-test.false)))
