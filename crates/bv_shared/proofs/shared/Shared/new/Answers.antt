use Rattle.bv_shared.proofs.PagesLemmas.{pages_fresh}
use Rattle.bv_shared.proofs.SinceLemmas.{since_fresh}
use Rattle.bv_shared.proofs.shared.Shared.new.Goals as goal

pub invariant_of-result : goal.invariant_of-result
invariant_of-result g c = record { since = since_fresh _ _ c.of-opening.ensures c.requires.fresh c.requires.disk; pages = pages_fresh c.args.volume c.in-Ok.kept c.in-Ok.ensures }
