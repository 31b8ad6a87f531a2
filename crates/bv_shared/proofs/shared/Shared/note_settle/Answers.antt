use Rattle.std.proofs.Common.{refl}
use Rattle.spec_core.specs.declared.act.Act.TheVariants as acts
use Rattle.bv_shared.proofs.GainLemmas.{basis_by, gains_by}
use Rattle.bv_shared.proofs.KeptLemmas.{pages_settled}
use Rattle.bv_shared.proofs.SinceLemmas.{since_by}
use Rattle.bv_volume.specs.Answers.{settle_reply}
use Rattle.bv_shared.proofs.WroteLemmas.{has_put}
use Rattle.bv_shared.proofs.shared.Shared.note_settle.Goals as goal

pub settle_anew-requires-clause-put : goal.settle_anew-requires-clause-put
settle_anew-requires-clause-put g c = has_put c.args.self.now.opening.value c.args.self.now.volume c.args.who.session c.args.add c.args.self.now.since c.requires.within c.history-history.ensures.puts c.requires.all c.requires.written

pub invariant_of-self : goal.invariant_of-self
invariant_of-self g c = record {
  since = since_by c.args.self.now.opening.value c.args.self.now.volume c.settle_anew.new.volume c.requires.within c.args.who (acts.Settle c.args.add.root) (settle_reply c.settle_anew.result) c.settle_anew.ensures.row refl c.settle_anew.ensures.now c.args.self.now.since;
  pages = pages_settled c.args.self.now.volume c.settle_anew.new.volume c.requires.within c.args.who c.args.add.root (settle_reply c.settle_anew.result) c.args.self.now.kept c.settle_anew.new.kept c.settle_anew.ensures.row c.settle_anew.ensures.kept c.args.self.now.pages;
}

pub returns-clause-basis : goal.returns-clause-basis
returns-clause-basis g c = basis_by c.args.self.now.volume c.settle_anew.new.volume c.args.who (acts.Settle c.args.add.root) (settle_reply c.settle_anew.result) c.settle_anew.ensures.row

pub returns-clause-gains : goal.returns-clause-gains
returns-clause-gains g c = gains_by c.args.self.now.volume c.settle_anew.new.volume c.requires.within c.args.who (acts.Settle c.args.add.root) (settle_reply c.settle_anew.result) c.settle_anew.ensures.row
