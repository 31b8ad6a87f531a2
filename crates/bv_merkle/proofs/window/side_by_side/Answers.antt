use Rattle.std.proofs.Common.{◌≡◌, ◌+◌, ◌*◌, ◌/◌, ◌++◌, length, refl, ◌∙◌, arith}
use Rattle.spec_tree.specs.Tree.{heading}
use Rattle.bv_merkle.proofs.SideLemmas.{side_digest}
use Rattle.bv_merkle.proofs.window.side_by_side.Goals as goal

pub returns : goal.returns
returns c i lt =
    let whole = c.as_chunks.result.0.now in
    let rest = c.as_chunks.result.1.now in
    let many : length whole ≡ length c.args.bytes.now / 8192 = c.as_chunks.ensures.front_len in
    let all = c.div_ceil-count.ensures in
    let messages = c.window_messages-messages.ensures in
    rw c.named.ensures
    (side_digest c.args.bytes.now rest c.args.offset c.div_ceil-count.result i whole c.window_messages-messages.result _ c.digests.result
    c.as_chunks.ensures.front c.as_chunks.ensures.back all (omega (arith, messages.eight, all, c.requires.window)) (omega (arith, lt, all))
    (λ k low. messages.whole k (omega (arith, many, low)))
    (λ far. messages.last i (omega (arith, many, far)) (omega (arith, lt, all, c.requires.window))
    ∙ (λ t. heading 0 (c.args.offset + 8192 * many t) (length rest) ++ c.filled-last.ensures t))
    refl c.digests.ensures)
