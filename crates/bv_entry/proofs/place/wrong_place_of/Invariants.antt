use Rattle.std.proofs.Common.{◌≡◌, ◌-◌}
use Rattle.spec_record.specs.Places.{first_failing, is_place}
use Rattle.bv_entry.proofs.place.wrong_place_of.Given as goal

-- the first wrong place is among those that are left
abbrev pub invariant-loop-place : goal.invariant-loop-place
invariant-loop-place l = first_failing (is_place l.blocks l.meta) l.place (679 - l.place) ≡ first_failing (is_place l.blocks l.meta) 0 679
