-- The entries and the blocks that are compared are those of the definition.
use Rattle.std.proofs.Common.{map, ap, sym, refl, ◌∙◌}
use Rattle.plain_crash.specs.Placed.{placed_entry}
use Rattle.plain_crash.proofs.ChanceLemmas.{reads_as, no_chance_read}
use Rattle.plain_crash.proofs.chances.is_no_chance.Goals as goal

pub returns : goal.returns
returns c =
    let a = c.args in
    let accepted = map placed_entry c.deref-2.result.now in
    let synced = map placed_entry c.deref-3.result.now in
    no_chance_read a.base.now a.events.now a.image.now c.in-Some.superblock accepted synced c.deref-4.result.now c.are_known.result
    (sym c.super_of_image.ensures.value ∙ c.in-Some.is)
    (reads_as accepted _ a.image.now a.image.now (ap (map placed_entry) c.deref-2.ensures.value) refl c.in_ok-accepted.ensures)
    (reads_as synced _ _ _ (ap (map placed_entry) c.deref-3.ensures.value) (c.deref.ensures.value ∙ c.in_ok-synced_of.ensures) c.in_ok-synced.ensures)
    (c.deref-4.ensures.value ∙ c.in_ok-last.ensures) c.are_known.ensures
