use Rattle.std.proofs.Common.{◌≡◌, Some, subst}
use Rattle.spec_session.specs.Own.{add_of, new_add}
use Rattle.bv_shared.proofs.GainLemmas.{own_is}
use Rattle.bv_shared.proofs.ServeLemmas.{basis_after}
use Rattle.bv_shared.proofs.serving.SharedServes.retire_begun.Goals as goal

pub note_retire_begun-requires-clause-begun : goal.note_retire_begun-requires-clause-begun
note_retire_begun-requires-clause-begun g c = subst (λ es. add_of es ≡ Some (new_add c.args.add.root c.args.add.size)) (own_is c.args.self.now.volume 0 c.args.who.session) c.requires.add.is

pub note_retire_begun-requires-clause-claimed : goal.note_retire_begun-requires-clause-claimed
note_retire_begun-requires-clause-claimed g c = record { table = c.requires.table; budget = c.requires.need }

pub returns-clause-basis : goal.returns-clause-basis
returns-clause-basis g c = basis_after c.args.self.now.volume c.note_retire_begun.new.self.volume c.args.self.now.opening.value c.note_retire_begun.new.self.opening.value c.note_retire_begun.ensures.opening c.note_retire_begun.ensures.basis
