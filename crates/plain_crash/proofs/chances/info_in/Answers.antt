use Rattle.std.proofs.Common.{◌≡◌, sym, ◌∙◌, rules}
use Rattle.spec_disk.specs.Disk.{block}
use Rattle.spec_record.specs.Geometry.{info_at, ring_slots}
use Rattle.spec_record.specs.Info.{info_of}
use Rattle.plain_crash.proofs.VolumeLemmas.{info_there}
use Rattle.plain_crash.proofs.chances.info_in.Goals as goal

pub returns-clause-value : goal.returns-clause-value
returns-clause-value c =
    let g = c.args.geometry.now in
    let read : c.info_of_block.result ≡ info_of (block c.args.image.now (info_at g)) (ring_slots g) = search rules in
    read ∙ sym (info_there g c.args.image.now)
