use Rattle.std.proofs.Common.{◌≡◌, ◌<◌, List, length, ap, ◌∙◌, arith}
use Rattle.std.proofs.lemmas.Option.{get_or_from_slice_get}
use Rattle.spec_tree.specs.declared.Digest.{Digest}
use Rattle.spec_tree.specs.Tree.{data_blocks, digest_block}
use Rattle.bv_check.proofs.LastLemmas.{digests_more, digests_all}
use Rattle.bv_check.proofs.last_block.digests_of.Goals as goal

pub loop-i-preserved : goal.loop-i-preserved
loop-i-preserved c =
    let bytes = c.args.bytes.now in
    let i = c.loop-i.i in
    let low : i < data_blocks (length bytes) = omega (arith, c.loop-i-test.true, c.div_ceil-i-end.ensures) in
    digests_more bytes i c.loop-i.block c.put_digest.new.block _ (omega (arith, low, c.requires.window)) c.loop-i.invariant
    (get_or_from_slice_get c.window_digests-digests.result i _ _ (c.window_digests-digests.ensures i low)) c.put_digest.ensures

pub returns : goal.returns
returns c =
    let bytes = c.args.bytes.now in
    let all : c.loop-i.i ≡ data_blocks (length bytes) = omega (arith, c.loop-i-test.false, c.loop-i.auto.i-end, c.div_ceil-i-end.ensures) in
    c.loop-i.invariant ∙ ap (λ (ds : List Digest). digest_block ds 0) (digests_all bytes c.loop-i.i (omega (arith, c.requires.some)) all)
