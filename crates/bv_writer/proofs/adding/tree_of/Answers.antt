use Rattle.std.proofs.Common.{◌≡◌, List, ℕ, subst}
use Rattle.std.specs.Prelude.{IfOk}
use Rattle.bv_writer.proofs.PlacedLemmas.{padded}
use Rattle.bv_writer.proofs.adding.tree_of.Goals as goal

pub returns-else-version-eq2 : goal.returns-else-version-eq2
returns-else-version-eq2 c =
    subst (λ (xs : List (List ℕ)). IfOk c.joined.result (λ tree. tree.items ≡ xs))
    (padded _ c.args.levels.now c.args.version c.args.bytes.now c.if-version-eq2.false c.requires) c.joined.ensures
