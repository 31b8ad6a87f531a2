use Rattle.std.proofs.Common.{◌≡◌, ◌∙◌, sym, length, Err, None}
use Rattle.spec_disk.specs.Disk.{block}
use Rattle.bv_device.proofs.ReadsLemmas.{Reads-nothing, Reads-weaker, Reads-append, Sees-length}
use Rattle.bv_mount.proofs.OpenLemmas.{no_super, super_read, first_read}
use Rattle.bv_mount.proofs.first_conditions.read_first.Goals as goal

pub returns-then-blocks-eq0-clause-reads : goal.returns-then-blocks-eq0-clause-reads
returns-then-blocks-eq0-clause-reads g c =
    let s = g.D.Device.seen c.args.dev.now in
    let none : s.block_count ≡ 0 = cc in
    Reads-weaker None s s (λ j. length j ≡ s.block_count) _ (Reads-nothing s (λ j. length j ≡ s.block_count) (Sees-length s (g.met.D.Device.told_blocks c.args.dev.now)))
    (λ j e. no_super j (e ∙ none))

pub returns-in-Ok-clause-reads : goal.returns-in-Ok-clause-reads
returns-in-Ok-clause-reads g c =
    let s = g.D.Device.seen c.args.dev.now in
    Reads-append None s s _ (λ j. length j ≡ s.block_count) (λ j. c.in_ok-block.block ≡ block j 0) _
    (Reads-nothing s (λ j. length j ≡ s.block_count) (Sees-length s (g.met.D.Device.told_blocks c.args.dev.now))) c.in_ok-block.ensures.reads
    (λ j count is. first_read j c.in_ok-block.block c.blocks-blocks.result c.in-Ok.superblock c.in-Ok.ensures.value c.in-Ok.ensures.ok (count ∙ sym c.blocks-blocks.ensures.count) is)

pub returns-in-Err-clause-reads : goal.returns-in-Err-clause-reads
returns-in-Err-clause-reads g c =
    let s = g.D.Device.seen c.args.dev.now in
    Reads-append None s s _ (λ j. length j ≡ s.block_count) (λ j. c.in_ok-block.block ≡ block j 0) _
    (Reads-nothing s (λ j. length j ≡ s.block_count) (Sees-length s (g.met.D.Device.told_blocks c.args.dev.now))) c.in_ok-block.ensures.reads
    (λ j count is. super_read j c.in_ok-block.block c.blocks-blocks.result (Err c.in-Err.fault) c.in-Err.ensures.value (count ∙ sym c.blocks-blocks.ensures.count) is)
