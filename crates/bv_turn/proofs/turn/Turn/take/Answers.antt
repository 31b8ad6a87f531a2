use Rattle.std.proofs.Common.{ap, sym, ◌∙◌, ◌∷◌, Some}
use Rattle.atomic_table.specs.Table.{rest}
use Rattle.bv_turn.proofs.turn.Turn.take.Goals as goal

pub exchange-requires : goal.exchange-requires
exchange-requires g c = let out = c.requires.out in
    (c.requires.this, (Some out.0, out.1 ∙ (λ i. (0, Some out.0) ∷ sym (ap rest out.1) i)))
