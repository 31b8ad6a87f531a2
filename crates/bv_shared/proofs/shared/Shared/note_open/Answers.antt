use Rattle.std.proofs.Common.{refl}
use Rattle.spec_core.specs.declared.act.Act.TheVariants as acts
use Rattle.bv_ledger.specs.Answers as A
use Rattle.bv_shared.proofs.GainLemmas.{basis_by}
use Rattle.bv_shared.proofs.OpenLemmas.{opens_kept}
use Rattle.bv_shared.proofs.KeptLemmas.{pages_by}
use Rattle.bv_shared.proofs.SinceLemmas.{since_by}
use Rattle.bv_shared.proofs.shared.Shared.note_open.Goals as goal

pub invariant_of-self : goal.invariant_of-self
invariant_of-self g c = record {
  since = since_by c.args.self.now.opening.value c.args.self.now.volume c.open_slot-answer.new.self c.requires.within c.args.who (acts.Open c.args.slot c.args.root) (A.open_reply c.open_slot-answer.result) c.open_slot-answer.ensures.row refl (c.history-after.ensures.located, c.history-after.ensures.shown, c.history-after.ensures.sound, c.history-after.ensures.contents, c.history-after.ensures.counted) c.args.self.now.since;
  pages = pages_by c.args.self.now.volume c.open_slot-answer.new.self c.requires.within c.args.who (acts.Open c.args.slot c.args.root) (A.open_reply c.open_slot-answer.result) c.args.self.now.kept c.open_slot-answer.ensures.row (λ reply. refl) c.args.self.now.pages;
}

pub returns-clause-basis : goal.returns-clause-basis
returns-clause-basis g c = basis_by c.args.self.now.volume c.open_slot-answer.new.self c.args.who (acts.Open c.args.slot c.args.root) (A.open_reply c.open_slot-answer.result) c.open_slot-answer.ensures.row

pub returns-clause-gains : goal.returns-clause-gains
returns-clause-gains g c =
    opens_kept c.args.self.now.opening.value c.args.self.now.volume c.open_slot-answer.new.self (since_by c.args.self.now.opening.value c.args.self.now.volume c.open_slot-answer.new.self c.requires.within c.args.who (acts.Open c.args.slot c.args.root) (A.open_reply c.open_slot-answer.result) c.open_slot-answer.ensures.row refl (c.history-after.ensures.located, c.history-after.ensures.shown, c.history-after.ensures.sound, c.history-after.ensures.contents, c.history-after.ensures.counted) c.args.self.now.since)
    c.requires.within c.history-after.ensures.legal c.history-after.ensures.counted c.args.self.now.opening.value.store.faults c.args.who c.args.slot c.args.root c.open_slot-answer.result c.open_slot-answer.ensures.row
