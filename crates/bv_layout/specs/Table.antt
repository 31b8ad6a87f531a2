-- The rows of the superblock as the code has them.
use Rattle.std.specs.Prelude.{ℕ, List, [], ◌∷◌}
use Rattle.bv_layout.specs.declared.table.Row.{Row}

-- the numbers of the rows, from the top; the last row of the table isn't among them
abbrev pub numbers : Row → List ℕ
numbers row =
    row.magic ∷ row.second_magic ∷ row.version ∷ row.reserved ∷ row.blocks ∷ row.nodes
    ∷ row.journal ∷ row.bitmap_blocks ∷ row.node_blocks ∷ row.blobs ∷ row.used_blocks
    ∷ row.used_nodes ∷ []
