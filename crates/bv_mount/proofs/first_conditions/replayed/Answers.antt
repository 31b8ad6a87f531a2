use Rattle.std.proofs.Common.{◌+◌, List, get_or, sym, ap, ◌∙◌, arith, drop}
use Rattle.spec_record.specs.Entry.{Entry}
use Rattle.spec_image.specs.After.{payloads_of}
use Rattle.spec_meta.specs.Blocks.{patched}
use Rattle.bv_mount.proofs.PatchLemmas.{one_entry_more}
use Rattle.bv_mount.proofs.first_conditions.replayed.Goals as goal

pub loop-entry-preserved : goal.loop-entry-preserved
loop-entry-preserved c =
    let es = c.args.replay.now.entries.items in
    let i = c.loop-entry.entry-index in
    record {
      geometry = c.apply.ensures.geometry ∙ c.loop-entry.invariant.geometry;
      blocks =
          ap (patched (payloads_of (drop (i + 1) es))) c.apply.ensures.blocks
          ∙ sym (one_entry_more es i c.entry-item.result c.loop-entry.meta.blocks (omega arith) (c.entry-item.is ∙ ap (λ (xs : List Entry). get_or xs i c.entry-item.result) c.deref-entry-items.ensures.value))
          ∙ c.loop-entry.invariant.blocks;
    }
