-- What the handles in memory stand for, and what they keep.
use Rattle.std.specs.Prelude.{◌≡◌, List}
use Rattle.spec_tree.specs.declared.Digest.{Digest}
use Rattle.spec_core.specs.State.{holders}
use Rattle.spec_core.specs.declared.place.Place.{Place}
use Rattle.bv_handles.specs.Counted.{Stands, counted}
use Rattle.bv_handles.specs.declared.handles.Handles.TheInside.{Inside}

-- place by place
abbrev pub slots_of : Inside → List (Place × Digest)
slots_of h = h.slots.entries

-- each root's number is that of the slots that hold it
pub record Kept (h : Inside) : Type 0 where
  pub stands : Stands h.holders
  pub counts : (r : Digest) → counted h.holders r ≡ holders h.slots.entries r
