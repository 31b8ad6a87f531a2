use Rattle.std.proofs.Common.{Some, refl}
use Rattle.spec_core.specs.declared.act.Act.TheVariants as acts
use Rattle.bv_volume.specs.Answers.{put_reply}
use Rattle.bv_shared.proofs.GainLemmas.{basis_by}
use Rattle.bv_shared.proofs.KeptLemmas.{pages_by}
use Rattle.bv_shared.proofs.SinceLemmas.{since_by}
use Rattle.bv_shared.proofs.WroteLemmas.{put_notes}
use Rattle.bv_shared.proofs.shared.Shared.note_put.Goals as goal

pub invariant_of-self : goal.invariant_of-self
invariant_of-self g c = record {
  since = since_by c.args.self.now.opening.value c.args.self.now.volume c.put-answer.new.self c.requires.within c.args.who (acts.Put c.args.add.now.put) (Some (put_reply c.put-answer.result)) c.put-answer.ensures.row refl (c.history-after.ensures.located, c.history-after.ensures.shown, c.history-after.ensures.sound, c.history-after.ensures.contents, c.history-after.ensures.counted) c.args.self.now.since;
  pages = pages_by c.args.self.now.volume c.put-answer.new.self c.requires.within c.args.who (acts.Put c.args.add.now.put) (Some (put_reply c.put-answer.result)) c.args.self.now.kept c.put-answer.ensures.row (λ reply. refl) c.args.self.now.pages;
}

pub returns-clause-basis : goal.returns-clause-basis
returns-clause-basis g c = basis_by c.args.self.now.volume c.put-answer.new.self c.args.who (acts.Put c.args.add.now.put) (Some (put_reply c.put-answer.result)) c.put-answer.ensures.row

pub returns-clause-gains : goal.returns-clause-gains
returns-clause-gains g c = put_notes c.args.self.now.opening.value c.args.self.now.volume c.put-answer.new.self c.args.self.now.since c.requires.within c.args.who c.args.add.now c.args.block.now c.put-answer.result c.put-answer.ensures.row c.put-answer.ensures.wrote c.history-after.ensures.counted
