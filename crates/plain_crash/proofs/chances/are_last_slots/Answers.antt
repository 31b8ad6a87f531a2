-- One slot more around the ring.
use Rattle.std.proofs.Common.{◌≡◌, ◌+◌, ◌%◌, ℕ, ap, subst, ◌∙◌}
use Rattle.spec_disk.specs.Disk.{block}
use Rattle.spec_disk.proofs.ProgramLemmas.{holds_at, more_sectors}
use Rattle.spec_record.specs.Geometry.{ring_slots, slot_at}
use Rattle.plain_crash.proofs.ChanceLemmas.{next_at}
use Rattle.plain_crash.proofs.chances.are_last_slots.Goals as goal

pub loop-ahead-preserved : goal.loop-ahead-preserved
loop-ahead-preserved c =
    let g = c.args.geometry.now in
    let l = c.loop-ahead in
    let same_at : ℕ → Type 0 = λ (at : ℕ). block c.args.image.now at ≡ block c.args.last.now at in
    let here = holds_at c.is_last_block.result _ c.is_last_block.ensures c.if-not-is_last_block.false in
    record {
      at_is = ap (λ (n : ℕ). (l.at + 1) % n) c.ring-ring.ensures ∙ next_at c.args.slot l._ahead l.at (ring_slots g) l.invariant.at_is;
      same = more_sectors (λ (k : ℕ). same_at (slot_at g ((c.args.slot + k) % ring_slots g))) l._ahead l.invariant.same
          (subst same_at (c.slot_at.ensures ∙ ap (slot_at g) l.invariant.at_is) here);
    }
