-- One more block, until all are taken.
use Rattle.std.proofs.Common.{◌≡◌, ◌+◌, ◌∙◌, ◌++◌, ◌∷◌, ℕ, List, [], take, get_or, ap, sym, arith, refl}
use Rattle.std.specs.List.{concat}
use Rattle.std.proofs.lemmas.List.{take_more, take_all, append-nil}
use Rattle.std.proofs.lemmas.List.Folds.{concat-append}
use Rattle.spec_record.specs.Crc.{crc32}
use Rattle.bv_entry.proofs.read.checksum_of.Goals as goal

pub loop-block-init : goal.loop-block-init
unfolding crc32
loop-block-init c = refl

pub loop-block-preserved : goal.loop-block-preserved
loop-block-preserved c =
    let blocks : List (List ℕ) = c.args.blocks.now in
    let i : ℕ = c.loop-block.block-index in
    let block : List ℕ = get_or blocks i [] in
    let more : concat (take (i + 1) blocks) ≡ concat (take i blocks) ++ block =
    ap concat (take_more blocks i [] c.loop-block-test.true) ∙ concat-append (take i blocks) (block ∷ []) ∙ ap (λ (bytes : List ℕ). concat (take i blocks) ++ bytes) (append-nil block) in
    c.crc_more-sum.ensures.message (concat (take i blocks)) c.loop-block.invariant ∙ ap crc32 (sym more)

pub returns : goal.returns
returns c =
    let blocks : List (List ℕ) = c.args.blocks.now in
    c.loop-block.invariant ∙ ap (λ (bs : List (List ℕ)). crc32 (concat bs)) (take_all c.loop-block.block-index blocks (omega arith))
