use Rattle.std.proofs.Common.{◌≡◌, ◌+◌, ◌∷◌, [], ◌++◌, List, None, take, ap, sym, ◌∙◌, arith}
use Rattle.std.proofs.lemmas.List.{take_all, take_more}
use Rattle.spec_tree.specs.declared.Digest.{Digest}
use Rattle.spec_image.specs.Chain.{BlobRecord}
use Rattle.bv_device.proofs.ReadsLemmas.{Reads-append, Reads-weaker}
use Rattle.spec_inspect.specs.Report.{damaged_in}
use Rattle.bv_mount.specs.Opens.{IsOutside}
use Rattle.bv_mount.specs.Reports.{reported_by}
use Rattle.bv_check.specs.Last.{damaged_of}
use Rattle.bv_check.proofs.CheckLemmas.{damaged_stopped}
use Rattle.bv_check.proofs.WaitingLemmas.{damaged_more}
use Rattle.bv_check.proofs.damage.damaged_by.Goals as goal

pub loop-blob-preserved : goal.loop-blob-preserved
loop-blob-preserved g c =
    let i = c.loop-blob.blob-index in
    let v = c.args.geometry.now in
    let bs = c.args.blobs.now in
    let b = c.blob-item.result in
    let old = damaged_of c.loop-blob.looked in
    let one : take (i + 1) bs ≡ take i bs ++ b ∷ [] = take_more bs i b (omega arith) ∙ ap (λ (x : BlobRecord). take i bs ++ x ∷ []) (sym c.blob-item.is) in
    record {
      idle = c.in_ok-look_at.ensures.idle;
      few = c.in_ok-look_at.ensures.few;
      reads =
          Reads-append None _ _ _ (λ j. old ≡ damaged_in v j (take i bs)) (λ j. damaged_of c.look_at.new.looked ≡ old ++ damaged_in v j (b ∷ [])) _ c.loop-blob.invariant.reads c.in_ok-look_at.ensures.reads
          (λ j before more.
          more ∙ ap (λ (ds : List Digest). ds ++ damaged_in v j (b ∷ [])) before
          ∙ damaged_more v j (take i bs) b
          ∙ ap (damaged_in v j) (sym one));
    }

pub returns-in-Ok : goal.returns-in-Ok
returns-in-Ok g c =
    let v = c.args.geometry.now in
    let bs = c.args.blobs.now in
    let i = c.loop-blob.blob-index in
    let all : take i bs ≡ bs = take_all i bs (omega arith) in
    Reads-weaker None _ _ (λ j. damaged_of c.loop-blob.looked ≡ damaged_in v j (take i bs)) _ c.loop-blob.invariant.reads
    (λ j is. c.in-Ok.ensures ∙ is ∙ ap (λ (xs : List BlobRecord). damaged_in v j xs) all)

pub returns-in_err-look_at : goal.returns-in_err-look_at
returns-in_err-look_at g c =
    let v = c.args.geometry.now in
    let bs = c.args.blobs.now in
    let f = c.in_err-look_at.field-0.0 in
    damaged_stopped c.from_residual.result f _ _ (λ roots j. roots.items ≡ damaged_in v j bs) c.from_residual.ensures.1
    (Reads-append (reported_by f) _ _ _ (λ j. damaged_of c.loop-blob.looked ≡ damaged_in v j (take c.loop-blob.blob-index bs)) (λ j. IsOutside f) _ c.loop-blob.invariant.reads
    c.in_err-look_at.ensures.reads (λ j before outside. outside))
