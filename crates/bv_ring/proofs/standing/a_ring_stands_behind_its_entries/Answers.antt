use Rattle.std.proofs.Common.{refl}
use Rattle.spec_record.specs.EntryBlocks.{entry_slots}
use Rattle.bv_ring.proofs.CursorLemmas.{stands-new, stands-past, stands-emptied}
use Rattle.bv_ring.proofs.standing.a_ring_stands_behind_its_entries.Goals as goal

pub returns-clause-new : goal.returns-clause-new
returns-clause-new c = stands-new

pub returns-clause-past : goal.returns-clause-past
returns-clause-past c = λ at i es e fits behind. stands-past at i es e (entry_slots e) refl fits behind

pub returns-clause-emptied : goal.returns-clause-emptied
returns-clause-emptied c = stands-emptied
