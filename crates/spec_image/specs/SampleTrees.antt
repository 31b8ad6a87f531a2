-- Blocks by hand of a blob with 257 data blocks, the last of one byte, and two levels of digests:
-- two blocks and one. The data blocks are shorter than a device's, and in version 1 those of
-- digests too.
use Rattle.std.specs.Prelude.{ℕ, List, [], ◌∷◌, ◌++◌, map, take, drop, replicate}
use Rattle.std.specs.List.{range_with_len, flat_map}
use Rattle.spec_tree.specs.Tree.{filled}
use Rattle.spec_image.specs.Chain.{BlobRecord}

-- the blob, in this version of the layout
abbrev pub blob : ℕ → BlobRecord
blob version = record {
  root = record { 0 = [] };
  size = 2097153;
  version = version;
  extents = [];
  nodes = [];
}

-- so many blocks shorter than a device's, each of one byte that is its number
abbrev pub numbered : ℕ → List (List ℕ)
numbered n = map (λ k. k ∷ []) (range_with_len 0 n)

-- digest k has 32 bytes k
abbrev pub digest : ℕ → List ℕ
digest k = replicate 32 k

-- 259 digests joined
abbrev pub joined : List ℕ
joined = flat_map digest (range_with_len 0 259)

-- the blocks in version 2: the data, and the digests
abbrev pub compact : List (List ℕ)
compact = numbered 257 ++ take 8192 joined ∷ filled (drop 8192 joined) ∷ []
