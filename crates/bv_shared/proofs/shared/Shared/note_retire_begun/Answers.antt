use Rattle.std.proofs.Common.{Some, refl}
use Rattle.spec_core.specs.declared.act.Act.TheVariants as acts
use Rattle.bv_shared.proofs.GainLemmas.{basis_by, gains_by}
use Rattle.bv_shared.proofs.KeptLemmas.{pages_by}
use Rattle.bv_shared.proofs.SinceLemmas.{are_within, since_by}
use Rattle.spec_core.specs.declared.reply.Reply.TheVariants.{Retired}
use Rattle.bv_shared.proofs.shared.Shared.note_retire_begun.Goals as goal

pub invariant_of-self : goal.invariant_of-self
invariant_of-self g c = record {
  since = since_by c.args.self.now.opening.value c.args.self.now.volume c.retire_begun.new.self (are_within c.args.self.now.volume c.history-history.ensures.legal.calls c.history-history.ensures.calls c.history-history.ensures.counted) c.args.who (acts.Retire c.args.begun.root) (Some Retired) c.retire_begun.ensures.row refl (c.history-after.ensures.located, c.history-after.ensures.shown, c.history-after.ensures.sound, c.history-after.ensures.contents, c.history-after.ensures.counted) c.args.self.now.since;
  pages = pages_by c.args.self.now.volume c.retire_begun.new.self (are_within c.args.self.now.volume c.history-history.ensures.legal.calls c.history-history.ensures.calls c.history-history.ensures.counted) c.args.who (acts.Retire c.args.begun.root) (Some Retired) c.args.self.now.kept c.retire_begun.ensures.row (λ reply. refl) c.args.self.now.pages;
}

pub returns-clause-basis : goal.returns-clause-basis
returns-clause-basis g c = basis_by c.args.self.now.volume c.retire_begun.new.self c.args.who (acts.Retire c.args.begun.root) (Some Retired) c.retire_begun.ensures.row

pub returns-clause-gains : goal.returns-clause-gains
returns-clause-gains g c = gains_by c.args.self.now.volume c.retire_begun.new.self (are_within c.args.self.now.volume c.history-history.ensures.legal.calls c.history-history.ensures.calls c.history-history.ensures.counted) c.args.who (acts.Retire c.args.begun.root) (Some Retired) c.retire_begun.ensures.row
