use Rattle.std.proofs.Common.{◌≡◌, ◌≤◌, ℕ, List, [], ◌++◌, take, get_or, ap, sym, ◌∙◌, subst, arith}
use Rattle.spec_record.specs.declared.extent.Extent.{Extent}
use Rattle.spec_image.specs.Chain.{BlobRecord}
use Rattle.spec_image.specs.Stored.{blocks_of}
use Rattle.bv_claims.specs.Blocks.{times, HasEachOnce}
use Rattle.bv_claims.specs.Tokens.{boss_owned}
use Rattle.bv_mounted.specs.Mounts.{blocks_of_all}
use Rattle.bv_mounted.proofs.HoldLemmas.{none_before}
use Rattle.bv_mounted.proofs.holding.hold_blobs.Goals as goal

pub hold_extents-requires-clause-once : goal.hold_extents-requires-clause-once
hold_extents-requires-clause-once c b =
    let rs : List BlobRecord = c.args.blobs.now in
    let i : ℕ = c.loop-blob.blob-index in
    let r : BlobRecord = c.blob-item.result in
    let once : HasEachOnce (blocks_of_all (take i rs) ++ blocks_of (get_or rs i r).extents) = none_before (λ (x : BlobRecord). blocks_of x.extents) [] rs i r (omega arith) c.requires.once in
    let here : c.extents.result.now ≡ (get_or rs i r).extents = c.extents.ensures ∙ ap (λ (x : BlobRecord). x.extents) c.blob-item.is in
    let all : boss_owned c.loop-blob.boss ++ blocks_of c.extents.result.now ≡ blocks_of_all (take i rs) ++ blocks_of (get_or rs i r).extents =
    ap (λ (l : List ℕ). l ++ blocks_of c.extents.result.now) c.loop-blob.invariant.owned
    ∙ ap (λ (es : List Extent). blocks_of_all (take i rs) ++ blocks_of es) here in
    subst (λ (l : List ℕ). times b l ≤ 1) (sym all) (once b)
