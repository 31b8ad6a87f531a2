-- What a builder of a tree holds: the bytes that were pushed.
use Rattle.std.specs.Prelude.{◌≡◌, ℕ, ◌+◌, List, length, take, drop, Some}
use Rattle.bv_merkle.specs.declared.builder.Builder.{Builder}
use Rattle.bv_merkle.specs.Hasher.{Holds, shape_of}
use Rattle.bv_merkle.specs.TreeShape.{tree_shape}

-- the size that the builder was made for
abbrev pub size_of : Builder → ℕ
size_of builder = builder.size

-- how many bytes were pushed
abbrev pub built : Builder → ℕ
built builder = builder.hasher.taken + builder.held

-- these bytes were pushed: the hasher has taken their whole windows, and the rest is pending
pub record Builds (builder : Builder) (bytes : List ℕ) : Type 0 where
  pub count : built builder ≡ length bytes
  pub front : Holds builder.hasher (take builder.hasher.taken bytes)
  pub rest : drop builder.hasher.taken bytes ≡ take builder.held builder.pending.items
  pub shape : shape_of builder.hasher ≡ Some (tree_shape builder.size)
