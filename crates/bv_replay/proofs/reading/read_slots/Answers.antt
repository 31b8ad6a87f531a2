use Rattle.std.proofs.Common.{◌∙◌, sym, subst, arith}
use Rattle.std.proofs.lemmas.List.{take_more_set}
use Rattle.bv_device.specs.Seen.{Seen}
use Rattle.bv_device.proofs.ReadsLemmas.{OnlyReads-same}
use Rattle.bv_replay.specs.Slots.{Tells}
use Rattle.bv_replay.proofs.ReadLemmas.{slots_more}
use Rattle.bv_replay.proofs.reading.read_slots.Goals as goal

pub loop-ahead-preserved : goal.loop-ahead-preserved
loop-ahead-preserved g c =
    let l = c.loop-ahead in
    record {
      seen = OnlyReads-same _ _ c.in_ok-read_slot.ensures.reads ∙ l.invariant.seen;
      so_far = λ image tells before.
          let told : Tells (g.D.Device.seen l.dev) image = subst (λ (s : Seen). Tells s image) (sym l.invariant.seen) tells in
          slots_more c.args.geometry.now image c.args.slot l.ahead _ _ c.read_slot.new.into (l.invariant.so_far image tells before)
          (c.in_ok-read_slot.ensures.block image told) (take_more_set l.blocks l.ahead c.read_slot.new.into (omega arith));
    }
