use Rattle.std.proofs.Common.{◌≡◌, ◌==◌, ◌∙◌, sym, refl, false, List, [], ◌∷◌, ◌++◌, length}
use Rattle.spec_tree.specs.declared.Digest.{Digest}
use Rattle.spec_core.specs.Choice.{is_empty}
use Rattle.plain_core.proofs.lookups.is_nothing.Goals as goal

has_some : (xs ys : List Digest) → (length xs == 0) ≡ false → is_empty (xs ++ ys) ≡ false
has_some [] ys h = cc
has_some (x ∷ xs) ys h = refl

pub returns-else-is_empty : goal.returns-else-is_empty
returns-else-is_empty c =
    c.if-is_empty.false ∙ sym (has_some c.args.queue.now c.args.leaving.now.keys (sym c.is_empty.ensures ∙ c.if-is_empty.false))
