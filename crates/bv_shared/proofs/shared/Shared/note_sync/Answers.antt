use Rattle.std.proofs.Common.{refl}
use Rattle.spec_core.specs.declared.act.Act.TheVariants as acts
use Rattle.bv_volume.specs.Answers as V
use Rattle.bv_shared.proofs.GainLemmas.{gains_by, basis_by}
use Rattle.bv_shared.proofs.KeptLemmas.{pages_by}
use Rattle.bv_shared.proofs.SinceLemmas.{since_by}
use Rattle.bv_shared.proofs.shared.Shared.note_sync.Goals as goal

pub invariant_of-self : goal.invariant_of-self
invariant_of-self g c = record {
  since = since_by c.args.self.now.opening.value c.args.self.now.volume c.sync-answer.new.self c.requires.within c.args.who (acts.Sync) (V.sync_reply c.sync-answer.result) c.sync-answer.ensures.row refl (c.history-after.ensures.located, c.history-after.ensures.shown, c.history-after.ensures.sound, c.history-after.ensures.contents, c.history-after.ensures.counted) c.args.self.now.since;
  pages = pages_by c.args.self.now.volume c.sync-answer.new.self c.requires.within c.args.who (acts.Sync) (V.sync_reply c.sync-answer.result) c.args.self.now.kept c.sync-answer.ensures.row (λ reply. refl) c.args.self.now.pages;
}

pub returns-clause-basis : goal.returns-clause-basis
returns-clause-basis g c = basis_by c.args.self.now.volume c.sync-answer.new.self c.args.who (acts.Sync) (V.sync_reply c.sync-answer.result) c.sync-answer.ensures.row

pub returns-clause-gains : goal.returns-clause-gains
returns-clause-gains g c = gains_by c.args.self.now.volume c.sync-answer.new.self c.requires.within c.args.who (acts.Sync) (V.sync_reply c.sync-answer.result) c.sync-answer.ensures.row
