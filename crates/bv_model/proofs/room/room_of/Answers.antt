use Rattle.std.proofs.Common.{◌≡◌, ◌∙◌, ◌-◌, ap, ℕ, length, arith}
use Rattle.bv_model.proofs.Rescans.{state_at_end}
use Rattle.bv_model.proofs.Rooms.{taken_more, room_taken}
use Rattle.spec_core.specs.declared.setting.Setting.{Setting}
use Rattle.bv_model.proofs.room.room_of.Goals as goal
use Rattle.bv_model.proofs.room.room_of.Goals.{After-left_of}

pub next-taken-requires : goal.next-taken-requires
next-taken-requires c = omega (arith, c.loop-i.invariant.bound, c.loop-i-test.true)

pub loop-i-preserved : goal.loop-i-preserved
loop-i-preserved c = record {
  taken = λ next legal. rw (c.next-taken.ensures.step, c.standing_for-root.ensures next legal, c.deed_of.ensures, c.events.ensures) (taken_more c.args.h.now.history next c.loop-i.i c.event_need.result _ c.loop-i.taken legal (rw c.events-i-end.ensures at c.loop-i-test.true) (rw c.events.ensures at (c.event_need.ensures next legal)) (c.loop-i.invariant.taken next legal));
  bound = omega (arith, c.next-taken.ensures.bound, c.loop-i.invariant.bound);
}

done : (c : After-left_of) → c.loop-i.i ≡ length c.args.h.now.history.events
done c = omega (arith, ap length c.events-i-end.ensures, c.loop-i-test.false, c.loop-i.auto.i-end)

pub returns : goal.returns
returns c =
    let h = c.args.h.now.history in
    let next : ℕ = c.requires.legal.0 in
    c.left_of.ensures ∙ ap (λ (g : Setting). g.blocks - 1 - c.loop-i.taken.all - c.loop-i.taken.again) c.setting.ensures ∙ room_taken h next c.loop-i.taken (rw (state_at_end h next c.loop-i.i (done c)) at (c.loop-i.invariant.taken next c.requires.legal.1))
