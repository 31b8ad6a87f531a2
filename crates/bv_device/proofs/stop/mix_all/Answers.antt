use Rattle.std.proofs.Common.{rules, ◌<◌, ◌+◌, ◌∙◌, ap, sym, true, false, length, arith, [], ℕ}
use Rattle.std.proofs.lemmas.List.{get_or_default}
use Rattle.bv_device.proofs.StopLemmas.{Mixed-none, Mixed-written, Mixed-unwritten, open_blocks-more, none_written}
use Rattle.bv_device.proofs.stop.mix_all.Goals as goal
use Rattle.bv_device.proofs.stop.mix_all.Goals.{then-is_written, else-is_written}

pub loop-b-init : goal.loop-b-init
loop-b-init c = record { opened = search rules; few = omega arith; mixed = Mixed-none c.args.image.now c.args.since.now c.args.choice.now }

pub loop-b-preserved : goal.loop-b-preserved
loop-b-preserved c =
    let below : c.loop-b.b < length c.loop-b.image = omega arith in
    elim c.if-is_written.branch [
      | then-is_written w ↦ rw (w.opened-is, w.image-is) (record {
        opened = ap (λ (n : ℕ). n + 1) c.loop-b.invariant.opened ∙ sym (open_blocks-more c.args.since.now c.loop-b.b true (sym w.if-is_written.true ∙ c.is_written.ensures));
        few = omega arith;
        mixed = Mixed-written c.args.image.now c.loop-b.image c.args.since.now c.args.choice.now c.loop-b.b w.mix.new.block _ c.loop-b.opened c.loop-b.invariant.mixed below
            (get_or_default c.loop-b.image c.loop-b.b _ [] below) c.loop-b.invariant.opened w.mix.ensures.chosen w.mix.ensures.left;
      })
      | else-is_written w ↦ rw (w.opened-is, w.image-is) (record {
        opened = omega (arith, open_blocks-more c.args.since.now c.loop-b.b false (sym w.if-is_written.false ∙ c.is_written.ensures));
        few = omega arith;
        mixed = Mixed-unwritten c.args.image.now c.loop-b.image c.args.since.now c.args.choice.now c.loop-b.b c.loop-b.invariant.mixed
            (none_written c.is_written.result _ c.is_written.ensures w.if-is_written.false);
      })
    ]

pub returns-clause-left : goal.returns-clause-left
returns-clause-left c b s below = c.loop-b.invariant.mixed.left b s (omega arith)
