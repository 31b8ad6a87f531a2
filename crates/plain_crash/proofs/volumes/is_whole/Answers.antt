use Rattle.std.proofs.Common.{◌≡◌, Ok, ap}
use Rattle.bv_mount.specs.Opens.{Refuses}
use Rattle.bv_check.specs.Checks.{findings}
use Rattle.spec_inspect.specs.Report.{report_of}
use Rattle.plain_crash.proofs.VolumeLemmas.{seen_now, clean_where_whole, refused_not_whole}
use Rattle.plain_crash.proofs.volumes.is_whole.Goals as goal

pub returns-in-Ok : goal.returns-in-Ok
returns-in-Ok c =
    let image = c.args.image.now in
    let found = seen_now image (λ j. report_of j ≡ Ok (findings c.in-Ok.report)) _ (ap (λ m. m.disk) c.in_ok-dev.ensures) c.in-Ok.ensures.now in
    let same = clean_where_whole image (findings c.in-Ok.report) found in (
      λ yes. same.0 (c.is_clean.ensures.0 yes),
      λ whole. c.is_clean.ensures.1 (same.1 whole),
    )

pub returns-in-Err : goal.returns-in-Err
returns-in-Err c =
    let image = c.args.image.now in
    let refused = seen_now image (λ j. Refuses (report_of j) c.in-Err.fault) _ (ap (λ m. m.disk) c.in_ok-dev.ensures) c.in-Err.ensures.now in (
      λ yes. absurd cc,
      λ whole. absurd (refused_not_whole image c.in-Err.fault (c.is_of_metadata.ensures c.if-is_of_metadata.true _ refused) whole.0 whole.1),
    )
