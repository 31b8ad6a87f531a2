use Rattle.std.proofs.Common.{sym, subst}
use Rattle.spec_disk.specs.Disk.{Blocks, block}
use Rattle.bv_mount.specs.Opens.{IsSpelled}
use Rattle.bv_mount.proofs.OpenLemmas.{is_spelled}
use Rattle.bv_mount.proofs.first_conditions.replayed_super.Goals as goal

pub returns-then-eq-clause-spelled : goal.returns-then-eq-clause-spelled
returns-then-eq-clause-spelled c =
    let s = c.in-Ok.superblock in
    let bytes = block c.blocks-2.result.now 0 in
    subst (λ (bs : Blocks). IsSpelled s.geometry (block bs 0)) c.blocks-2.ensures.value (is_spelled bytes c.args.device_blocks s (sym c.in-Ok.ensures.value) c.in-Ok.ensures.ok)
