-- The order of the places that hold open blobs (this project's profile; as the derived `Ord`
-- compares).
use Rattle.std.specs.declared.cmp.Ordering.{Ordering}
use Rattle.std.specs.Ordering.{nat_cmp, ordering_then}
use Rattle.spec_core.specs.declared.place.Place.{Place}

-- places by session, then by slot
abbrev pub place_cmp : Place → Place → Ordering
place_cmp a b = ordering_then (nat_cmp a.session b.session) (nat_cmp a.slot b.slot)
