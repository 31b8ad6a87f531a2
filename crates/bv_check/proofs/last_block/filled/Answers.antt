use Rattle.std.proofs.Common.{ℕ, ◌++◌, drop, length, replicate, ap, ◌∙◌}
use Rattle.std.proofs.lemmas.List.{drop-replicate}
use Rattle.bv_check.proofs.last_block.filled.Goals as goal

-- after the bytes stand the zeros that were there before
pub returns : goal.returns
returns c =
    let bytes = c.args.bytes.now in
    ap (λ x. x ++ drop (length bytes) (replicate 8192 0)) c.copy_from_slice.ensures.after
    ∙ ap (λ x. bytes ++ x) (drop-replicate {X = ℕ} (length bytes) 8192 0)
