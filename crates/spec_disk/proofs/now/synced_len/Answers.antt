-- One event more: after an Ok sync the synced part is all, after another event what it was.
use Rattle.std.proofs.Common.{take, arith, refl, ap, sym, ◌∙◌}
use Rattle.spec_disk.specs.declared.event.Event.TheVariants.{Write, Sync}
use Rattle.std.proofs.lemmas.List.{length-take}
use Rattle.spec_disk.proofs.EventLemmas.{length-synced_part}
use Rattle.spec_disk.proofs.ProgramLemmas.{synced_len-sync, synced_len-other}
use Rattle.spec_disk.proofs.now.synced_len.Goals.{in-Sync+then-ok, in-Sync+else-ok, in_default}
use Rattle.spec_disk.proofs.now.synced_len.Goals as goal

pub loop-i-preserved : goal.loop-i-preserved
loop-i-preserved c = elim c.match-event.branch [
  | in-Sync+then-ok w ↦
      w.len-is ∙ sym (synced_len-sync c.args.events.now c.loop-i.i _ c.loop-i-test.true (w.in-Sync.is ∙ ap (λ t. Sync t) w.if-ok.true))
  | in-Sync+else-ok w ↦
      w.len-is ∙ c.loop-i.invariant ∙ sym (synced_len-other c.args.events.now c.loop-i.i _ (Sync w.in-Sync.ok) c.loop-i-test.true w.in-Sync.is w.if-ok.false)
  | in_default w ↦
      w.len-is ∙ c.loop-i.invariant ∙ sym (synced_len-other c.args.events.now c.loop-i.i _ (Write w.in_default.field-0 w.in_default.field-1 w.in_default.field-2) c.loop-i-test.true w.in_default.is refl)
]

pub returns-clause-within : goal.returns-clause-within
returns-clause-within c = omega (arith, c.loop-i.invariant, length-synced_part (take c.loop-i.i c.args.events.now), length-take c.loop-i.i c.args.events.now)
