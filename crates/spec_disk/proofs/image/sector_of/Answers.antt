-- The range is a sector long.
use Rattle.std.proofs.Common.{◌≡◌, ◌+◌, ◌-◌, ◌*◌, arith, refl}
use Rattle.spec_disk.proofs.image.sector_of.Goals as goal

pub returns : goal.returns
returns c =
    let long : 512 * c.args.s + 512 - 512 * c.args.s ≡ 512 = omega arith in
    rw long refl
