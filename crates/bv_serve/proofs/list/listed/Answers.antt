use Rattle.std.proofs.Common.{List, None, ap, ◌∙◌}
use Rattle.spec_image.specs.Blobs.{blob_map}
use Rattle.spec_image.specs.Chain.{BlobRecord}
use Rattle.bv_device.proofs.ReadsLemmas.{Reads-weaker}
use Rattle.bv_mount.specs.Inspects.{IsInspected}
use Rattle.bv_serve.specs.Lines.{list_text}
use Rattle.bv_serve.specs.List.{in_order}
use Rattle.bv_serve.proofs.CommandLemmas.{list_is}
use Rattle.bv_serve.proofs.list.listed.Goals as goal

pub returns : goal.returns
returns g c =
    let i = c.in_ok-survey.field-0-0 in
    let bs = c.in_ok-survey.survey.blobs.items in
    Reads-weaker None _ _ (λ j. IsInspected j i) _ c.in_ok-survey.ensures.reads
    (λ j is. list_is j i bs c.in_ok-text.text.items is.is c.in_ok-survey.ensures.blobs
    (c.in_ok-text.ensures ∙ ap (λ (xs : List BlobRecord). list_text (in_order (blob_map xs))) c.deref.ensures.value))
