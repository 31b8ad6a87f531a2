use Rattle.std.proofs.Common.{◌≡◌, ℕ, None, Ok, Err, ◌∙◌, subst}
use Rattle.spec_disk.specs.Disk.{block}
use Rattle.bv_device.proofs.ReadsLemmas.{Reads-weaker, Reads-append}
use Rattle.spec_inspect.specs.Readable.{super_or_why, info_or_why, or_moved}
use Rattle.bv_mount.specs.Opens.{Refuses, IsFirst, kept_super}
use Rattle.bv_mount.specs.Reports.{reported_by}
use Rattle.bv_mount.proofs.OpenLemmas.{refuse_super, refuse_first}
use Rattle.bv_mount.proofs.PartLemmas.{Parts, parts_read, parts_are_read, parts_are_lawful, open_stopped, moved_stopped}
use Rattle.bv_mount.proofs.first_conditions.open_volume.Goals as goal

pub returns-in_err-geometry-clause-reads : goal.returns-in_err-geometry-clause-reads
returns-in_err-geometry-clause-reads g c =
    let f = c.in_err-geometry.field-0.0 in
    open_stopped c.from_residual.result f _ _ c.from_residual.ensures.1
    (Reads-weaker (reported_by f) _ _ (λ j. Refuses (super_or_why j) f) _ c.in_err-geometry.ensures.reads (λ j refuses. refuse_super j f refuses))

pub returns-in_err-replay-clause-reads : goal.returns-in_err-replay-clause-reads
returns-in_err-replay-clause-reads g c =
    let f = c.in_err-replay.field-0.0 in
    let s0 = c.in_ok-geometry.field-0 in
    open_stopped c.from_residual-in_err-replay.result f _ _ c.from_residual-in_err-replay.ensures.1
    (Reads-append (reported_by f) _ _ _ (λ j. IsFirst j s0) (λ j. Refuses (info_or_why s0.geometry j) f) _ c.in_ok-geometry.ensures.reads c.in_err-replay.ensures.reads
    (λ j first refuses. refuse_first j s0 first.read f refuses))

pub returns-in_err-superblock-clause-reads : goal.returns-in_err-superblock-clause-reads
returns-in_err-superblock-clause-reads g c =
    let s0 = c.in_ok-geometry.field-0 in
    let old = g.D.Device.seen c.args.dev.now in
    let parts = parts_read old _ _ _ s0 c.in_ok-replay.replay c.in_ok-meta.meta (g.met.D.Device.told_blocks c.args.dev.now) c.in_ok-geometry.ensures.reads c.in_ok-replay.ensures.reads c.in_ok-meta.ensures.reads in
    let blocks : c.blocks-2.result ≡ old.block_count = c.blocks-2.ensures.count ∙ parts.only.blocks in
    moved_stopped c.from_residual-in_err-superblock.result c.in_err-superblock.field-0.0 old _ s0 c.in_ok-replay.replay c.in_ok-meta.meta c.from_residual-in_err-superblock.ensures.1
    (subst (λ (n : ℕ). Err c.in_err-superblock.field-0.0 ≡ or_moved (kept_super s0.geometry (block c.in_ok-meta.meta.blocks 0) n)) blocks c.in_err-superblock.ensures.value) parts

pub invariant_of-result : goal.invariant_of-result
invariant_of-result g c = record {
  lawful =
      parts_are_lawful c.blocks-2.result c.in_ok-geometry.field-0 c.in_ok-replay.replay c.in_ok-meta.meta c.in_ok-superblock.superblock c.in_ok-superblock.ensures.value
      c.in_ok-geometry.ensures.fits.limits c.in_ok-meta.ensures.geometry c.in_ok-superblock.ensures.spelled c.in_ok-replay.ensures.within;
}

pub returns-clause-reads : goal.returns-clause-reads
returns-clause-reads g c =
    let s0 = c.in_ok-geometry.field-0 in
    let old = g.D.Device.seen c.args.dev.now in
    let s = c.in_ok-superblock.superblock in
    let parts = parts_read old _ _ _ s0 c.in_ok-replay.replay c.in_ok-meta.meta (g.met.D.Device.told_blocks c.args.dev.now) c.in_ok-geometry.ensures.reads c.in_ok-replay.ensures.reads c.in_ok-meta.ensures.reads in
    let blocks : c.blocks-2.result ≡ old.block_count = c.blocks-2.ensures.count ∙ parts.only.blocks in
    let is : Ok s ≡ or_moved (kept_super s0.geometry (block c.in_ok-meta.meta.blocks 0) old.block_count) =
    subst (λ (n : ℕ). Ok s ≡ or_moved (kept_super s0.geometry (block c.in_ok-meta.meta.blocks 0) n)) blocks c.in_ok-superblock.ensures.value in
    Reads-weaker None _ _ (Parts old.block_count s0 c.in_ok-replay.replay c.in_ok-meta.meta) _ parts (λ j p. parts_are_read old.block_count s0 c.in_ok-replay.replay c.in_ok-meta.meta s j p is)
