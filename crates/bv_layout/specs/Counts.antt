-- The counts with which a volume is made, and the first of them that is out of its limits.
use Rattle.std.specs.Prelude.{Bool, List, [], ◌∷◌, Result}
use Rattle.spec_record.specs.declared.geometry.Geometry.{Geometry}
use Rattle.spec_record.specs.declared.field_name.FieldName.TheVariants as names
use Rattle.spec_record.specs.Tests.{value_or_fault}
use Rattle.spec_record.specs.Geometry.{is_block_count, is_node_count, is_journal_count}
use Rattle.bv_layout.specs.declared.counts.WrongCount.{WrongCount}

-- each count with its limits, in the order of the refusals
abbrev pub count_tests : Geometry → List (Bool × WrongCount)
count_tests g =
    (is_block_count g.version g.blocks, record { field = names.Blocks; value = g.blocks })
    ∷ (is_node_count g.version g.nodes, record { field = names.Nodes; value = g.nodes })
    ∷ (is_journal_count g, record { field = names.Journal; value = g.journal })
    ∷ []

-- nothing where each count is within its limits, else the first that isn't
abbrev pub counts_or_fault : Geometry → Result (Unit {0}) WrongCount
counts_or_fault g = value_or_fault (count_tests g) tt
