-- Blocks and nodes that blobs take (this project's profile).
use Rattle.std.specs.Prelude.{ℕ, ◌+◌, ◌-◌, List, drop}
use Rattle.std.specs.List.{sum_by}
use Rattle.std.specs.Map.{values_of}
use Rattle.spec_record.specs.Node.{nodes_for}
use Rattle.spec_tree.specs.Tree.{need_of}
use Rattle.spec_tree.specs.declared.Digest.{Digest}
use Rattle.spec_core.specs.Log.{without}
use Rattle.spec_core.specs.State.{State}
use Rattle.spec_tree.specs.declared.blob.Blob.{Blob}
use Rattle.spec_core.specs.declared.map_change.MapChange.{MapChange}
use Rattle.spec_core.specs.declared.map_change.MapChange.TheVariants.{Publish, Purge}
use Rattle.spec_core.specs.declared.setting.Setting.{Setting}

-- the blocks of a blob (a version other than 1 or 2 counts as 1)
abbrev pub blob_need : Blob → ℕ
blob_need blob = need_of blob.version blob.size

-- the blocks that a change of the log sets free once it is durable
abbrev pub purge_need : MapChange → ℕ
purge_need (Publish r blob) = 0
purge_need (Purge r blob) = blob_need blob

-- the blocks that are taken: by the blobs of the map, by the adds under way, which get the
-- volume's version, and by the purges in the log past what is durable
abbrev pub taken : Setting → State → ℕ
taken g s =
    sum_by blob_need (values_of s.map) + sum_by (need_of g.version) (values_of s.adds)
    + sum_by purge_need (drop s.durable s.log)

-- the room: block 0 is no blob's, and where more is taken than there is, 0
abbrev pub room_in : Setting → State → ℕ
room_in g s = g.blocks - 1 - taken g s

-- the most nodes that a blob can take: as if each block were an extent (a version other than 1 or 2
-- counts as 1)
abbrev pub worst_nodes : ℕ → ℕ → ℕ
worst_nodes version size = nodes_for (need_of version size)

-- the most nodes of a blob of the map
abbrev pub blob_worst : Blob → ℕ
blob_worst blob = worst_nodes blob.version blob.size

-- the most nodes of the blobs of the map and of these adds
abbrev pub worst_nodes_with : Setting → State → List (Digest × ℕ) → ℕ
worst_nodes_with g s adds =
    sum_by blob_worst (values_of s.map) + sum_by (worst_nodes g.version) (values_of adds)

-- the most nodes of the blobs of the map and of the adds under way
abbrev pub worst_sum_in : Setting → State → ℕ
worst_sum_in g s = worst_nodes_with g s s.adds

-- the nodes that are free for this add, whatever extents all others have
abbrev pub least_free : Setting → State → Digest → ℕ
least_free g s r = g.nodes - worst_nodes_with g s (without s.adds r)
