-- A write of this sector stands among all the events exactly if one stands among those that are left.
use Rattle.std.proofs.Common.{◌↔◌, drop, map}
use Rattle.std.specs.List.{Contains}
use Rattle.spec_disk.specs.Disk.{sector}
use Rattle.spec_disk.specs.Images.{written_to}
use Rattle.spec_disk.proofs.image.is_written.Given as goal

abbrev pub invariant-loop-event : goal.invariant-loop-event
invariant-loop-event l =
    Contains (map (λ w. sector w l.fn.s) (written_to l.fn.at (drop l.event-index l.since))) l.fn.piece
    ↔ Contains (map (λ w. sector w l.fn.s) (written_to l.fn.at l.since)) l.fn.piece
