use Rattle.std.proofs.Common.{◌<◌, ℕ, List, length, ap, ◌∙◌, arith, []}
use Rattle.std.proofs.lemmas.List.{get_or_read}
use Rattle.spec_disk.specs.Disk.{block}
use Rattle.bv_device.specs.Told.{Disk, now_of}
use Rattle.bv_device.proofs.TracedLemmas.{IsTraced-length}
use Rattle.bv_device.proofs.traced.TracedDisk.block.Goals as goal

pub index-requires : goal.index-requires
index-requires c = omega (arith, c.requires, IsTraced-length c.args.self.now _ c.self.inside.current.items c.self.inside.trace.items c.self.invariant (ap (λ (d : Disk). d.base) c.self.view_is))

pub returns : goal.returns
returns c =
    let below : c.args.at < length c.self.inside.current.items = omega (arith, c.requires, IsTraced-length c.args.self.now _ c.self.inside.current.items c.self.inside.trace.items c.self.invariant (ap (λ (d : Disk). d.base) c.self.view_is)) in
    get_or_read c.self.inside.current.items c.args.at c.index.result.now below c.index.ensures []
    ∙ ap (λ (b : List (List ℕ)). block b c.args.at) c.self.invariant.is
    ∙ ap (λ (d : Disk). block (now_of d) c.args.at) c.self.view_is
