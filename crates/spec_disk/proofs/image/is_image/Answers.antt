-- The blocks that a stop may leave are those of an image, and past the last there are none.
use Rattle.std.proofs.Common.{ℕ, List, length, ap, sym, ◌∙◌}
use Rattle.spec_disk.proofs.EventLemmas.{length-synced_after}
use Rattle.spec_disk.proofs.ProgramLemmas.{image-by_blocks, since-is}
use Rattle.spec_disk.proofs.image.is_image.Goals as goal

pub are_blocks_left-requires : goal.are_blocks_left-requires
are_blocks_left-requires c =
    c.if-image-base.false ∙ sym (length-synced_after c.args.base.now c.args.events.now)
    ∙ ap (λ (d : List (List ℕ)). length d) (sym (c.deref.ensures.value ∙ c.in_ok-synced.ensures))

pub returns : goal.returns
returns c =
    let a = c.args in
    image-by_blocks a.base.now a.image.now _ a.events.now _ c.are_blocks_left.result c.if-image-base.false (c.deref.ensures.value ∙ c.in_ok-synced.ensures)
    (since-is a.events.now c.synced_len.result c.synced_len.ensures.exact) c.are_blocks_left.ensures
