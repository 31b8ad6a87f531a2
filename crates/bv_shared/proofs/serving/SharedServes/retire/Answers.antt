use Rattle.std.proofs.Common.{◌≡◌, Some, subst}
use Rattle.spec_session.specs.Own.{add_of}
use Rattle.bv_shared.proofs.AddLemmas.{own_add}
use Rattle.bv_shared.proofs.GainLemmas.{own_is}
use Rattle.bv_shared.proofs.ServeLemmas.{basis_after}
use Rattle.bv_shared.proofs.serving.SharedServes.retire.Goals as goal

pub note_retire-requires : goal.note_retire-requires
note_retire-requires g c = record { add = subst (λ es. add_of es ≡ Some (own_add c.args.add)) (own_is c.args.self.now.volume 0 c.args.who.session) c.requires.add.is }

pub returns-clause-basis : goal.returns-clause-basis
returns-clause-basis g c = basis_after c.args.self.now.volume c.note_retire.new.self.volume c.args.self.now.opening.value c.note_retire.new.self.opening.value c.note_retire.ensures.opening c.note_retire.ensures.basis
