use Rattle.std.proofs.Common.{subst}
use Rattle.std.specs.Prelude.{IfSome}
use Rattle.bv_store.specs.Stored.{HasWholeBlocks}
use Rattle.bv_journaled.specs.Standing.{Standing}
use Rattle.bv_journaled.proofs.ReadLemmas.{told_whole}
use Rattle.bv_journaled.proofs.store.JournaledStore.counts.Goals as goal

pub returns-clause-whole : goal.returns-clause-whole
returns-clause-whole g c =
    let inside = c.self.inside in
    let dev = g.D.Device.seen inside.dev in
    subst (λ (s : Standing). IfSome s.device.told (HasWholeBlocks s.meta.geometry)) c.self.view_is
    (told_whole inside.meta.geometry dev.block_count dev.told c.self.invariant.total (g.met.D.Device.told_blocks inside.dev) c.blocks-count.ensures.whole)
