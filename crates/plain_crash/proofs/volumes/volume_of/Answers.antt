use Rattle.std.proofs.Common.{◌≡◌, Some, ap, sym, refl, ◌∙◌, rules}
use Rattle.spec_image.specs.Blobs.{blob_map}
use Rattle.spec_inspect.specs.Inspection.{inspect_of}
use Rattle.spec_inspect.proofs.OutcomeLemmas.{volume_or_none, found_blobs}
use Rattle.bv_mount.specs.Inspects.{IsInspected, RefusesMount, inspection}
use Rattle.plain_crash.proofs.VolumeLemmas.{seen_now, has_volume, has_none}
use Rattle.plain_crash.proofs.volumes.volume_of.Goals as goal

pub returns-in-Ok : goal.returns-in-Ok
returns-in-Ok c =
    let image = c.args.image.now in
    let i = inspection c.in-Ok.inspected in
    let found = seen_now image (λ j. IsInspected j c.in-Ok.inspected) _ (ap (λ m. m.disk) c.in_ok-dev.ensures) c.in-Ok.ensures.reads.now in
    let held = c.in_ok-blobs-in-Ok.blobs in
    let are : held.entries ≡ blob_map c.in-Ok.survey.blobs.items = search rules in
    has_volume image i _ found.is refl
    (found_blobs image i (volume_or_none image) found.is ∙ ap (λ bs. Some (blob_map bs)) (sym c.in-Ok.ensures.blobs) ∙ ap (λ es. Some es) (sym are))
    (volume_or_none image)

pub returns-in-Err : goal.returns-in-Err
returns-in-Err c =
    let image = c.args.image.now in
    let refused = seen_now image (λ j. RefusesMount (inspect_of j) c.in-Err.fault) _ (ap (λ m. m.disk) c.in_ok-dev.ensures) c.in-Err.ensures.reads.now in
    has_none image c.in-Err.fault (c.is_of_image.ensures c.if-is_of_image.true _ refused) (volume_or_none image)
