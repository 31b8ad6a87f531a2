-- What the boss of the reservations owns in a mounted volume.
use Rattle.std.specs.Prelude.{◌≡◌, ◌≤◌, ◌<◌, ◌⊎◌, ◌+◌, ◌-◌, ◌++◌, ℕ, List, [], length, sum, Option, Some, None, false}
use Rattle.std.specs.List.{sum_by}
use Rattle.std.specs.Map.{values_of}
use Rattle.spec_tree.specs.Tree.{need_of}
use Rattle.spec_tree.specs.declared.Digest.{Digest}
use Rattle.spec_tree.specs.declared.blob.Blob.{Blob}
use Rattle.std.specs.Global.{Vec}
use Rattle.spec_record.specs.Node.{nodes_for}
use Rattle.bv_node.specs.Runs.{runs}
use Rattle.spec_core.specs.History.{History}
use Rattle.spec_core.specs.Room.{blob_need}
use Rattle.spec_core.specs.Log.{without}
use Rattle.spec_core.specs.State.{find, among}
use Rattle.spec_core.specs.declared.setting.Setting.{Setting}
use Rattle.spec_rest.specs.Rest.{Map}
use Rattle.bv_claims.specs.Blocks.{times, HasEachOnce, HaveSameBlocks, Rises}
use Rattle.bv_claims.specs.Tokens.{block_count}
use Rattle.bv_model.specs.Sole.{Sole}
use Rattle.bv_space.specs.Owned.{Owned, times_in}
use Rattle.bv_ledger.specs.Tables.{Tables}
use Rattle.bv_store.specs.Stored.{Stored}

-- how often a block stands in where blobs lie
abbrev pub times_placed : ℕ → List (Digest × List ℕ) → ℕ
times_placed b placed = sum_by (times b) (values_of placed)

-- a blob lies at as many blocks as it needs, and where there is none nothing lies
abbrev pub LiesAt : Option Blob → Option (List ℕ) → Type 0
LiesAt (Some blob) (Some blocks) = length blocks ≡ blob_need blob
LiesAt (Some blob) None = ⊥
LiesAt None lies = lies ≡ None

-- each blob of the map lies somewhere, and no other does
abbrev pub LieAll : Map → List (Digest × List ℕ) → Type 0
LieAll map placed = (r : Digest) → LiesAt (find map r) (find placed r)

-- while no write or sync has failed, the boss owns exactly the blocks of the map's blobs, of the adds
-- and of the purges past what is durable, and gives out what is left; what keeps the blobs holds on
-- to no others
pub record Exactly (t : Tables) (o : Owned) (s : Stored) (Held : ℕ → Type 0) : Type 0 where
  pub owned : (b : ℕ) → times b o.owned
      ≡ times_placed b s.placed + times_in b o.adds + times b o.gone
  pub room : o.room + (sum_by blob_need (values_of t.map)
      + sum_by (need_of t.setting.version) (values_of t.adds) + t.purged) ≡ t.setting.blocks - 1
  pub gone : length o.gone ≡ t.purged
  pub held : (b : ℕ) → Held b → 0 < times_placed b s.placed + times b o.gone
  pub lie : LieAll t.map s.placed
  pub sole : Sole s.placed

-- the nodes that a blob at these blocks takes: they stand in the fewest extents
abbrev pub nodes_at : List ℕ → ℕ
nodes_at blocks = nodes_for (length (runs blocks))

-- an add under way has no blocks, or as many as its blob needs, in rising order
pub record HasSpace (g : Setting) (n : ℕ) (blocks : List ℕ) : Type 0 where
  pub need : (blocks ≡ []) ⊎ (length blocks ≡ need_of g.version n)
  pub rising : Rises 1 blocks g.blocks
  pub few : need_of g.version n ≤ 65535

-- the add of a root has its blocks, and a root without an add has none
abbrev pub SpaceAt : Setting → Option ℕ → Option (Vec ℕ) → Type 0
SpaceAt g (Some n) (Some v) = HasSpace g n v.items
SpaceAt g (Some n) None = ⊥
SpaceAt g None o = o ≡ None

-- nodes are set aside for an add that has all its blocks, as many as it takes
abbrev pub NodesAt : Setting → Option ℕ → Option (Vec ℕ) → Option ℕ → Type 0
NodesAt g adds spaces None = Unit {0}
NodesAt g (Some n) (Some v) (Some k) = (k ≡ nodes_at v.items) × (length v.items ≡ need_of g.version n)
NodesAt g adds spaces (Some k) = ⊥

-- the nodes that the map's blobs take and those that are set aside are no more than there are
pub record Noded (t : Tables) (o : Owned) (s : Stored) : Type 0 where
  pub count : s.geometry.nodes ≡ t.setting.nodes
  pub room : s.used_nodes + sum (values_of o.nodes) ≤ t.setting.nodes
  pub at : (r : Digest) → NodesAt t.setting (find t.adds r) (find o.adds r) (find o.nodes r)
  pub sole : Sole o.nodes

-- the table is the volume's; the boss owns each block once, and whatever failed, those of the map's
-- blobs, of the adds and of the purges; a blob that isn't queued lies somewhere
pub record Spaced (t : Tables) (o : Owned) (s : Stored) (Held : ℕ → Type 0) : Type 0 where
  pub table : block_count o.claims ≡ t.setting.blocks
  pub blocks : 2 ≤ t.setting.blocks
  pub geometry : (s.geometry.blocks ≡ t.setting.blocks) × (s.geometry.version ≡ t.setting.version)
  pub once : HasEachOnce o.owned
  pub within : (b : ℕ) → times_placed b s.placed + times_in b o.adds + times b o.gone
      ≤ times b o.owned
  pub adds : (r : Digest) → SpaceAt t.setting (find t.adds r) (find o.adds r)
  pub sole : Sole o.adds
  pub lie : (r : Digest) → among t.queue r ≡ false → LiesAt (find t.map r) (find s.placed r)
  pub nodes : Noded t o s
  pub exactly : t.stopped ≡ None → Exactly t o s Held

-- as a mount begins, the boss owns the blocks of the opening's blobs and no add is under way; what is
-- left may be given out
pub record IsFresh (h : History) (map : Map) (o : Owned) (s : Stored) (Held : ℕ → Type 0)
    : Type 0 where
  pub table : (block_count o.claims ≡ h.blocks) × (2 ≤ h.blocks)
  pub geometry : (s.geometry.blocks ≡ h.blocks) × (s.geometry.version ≡ h.version)
  pub nodes : (s.geometry.nodes ≡ h.nodes) × (s.used_nodes ≤ h.nodes)
  pub once : HasEachOnce o.owned
  pub owned : (b : ℕ) → times b o.owned ≡ times_placed b s.placed
  pub room : o.room + sum_by blob_need (values_of map) ≡ h.blocks - 1
  pub none : (o.adds ≡ []) × (o.gone ≡ []) × (o.nodes ≡ [])
  pub held : (b : ℕ) → Held b → 0 < times_placed b s.placed
  pub lie : LieAll map s.placed
  pub sole : Sole s.placed

-- the blocks of all purges are free, and these blocks besides
pub record Freed (old new : Owned) (blocks : List ℕ) : Type 0 where
  pub owned : HaveSameBlocks old.owned (new.owned ++ (old.gone ++ blocks))
  pub room : new.room ≡ old.room + (length old.gone + length blocks)
  pub gone : new.gone ≡ []
  pub claims : new.claims ≡ old.claims
  pub adds : new.adds ≡ old.adds
  pub nodes : new.nodes ≡ old.nodes
  pub once : HasEachOnce new.owned

-- the add's blocks and nodes are handed over, and the blocks of the purges are buried
pub record Handed (o o' : Owned) (r : Digest) (buried : List ℕ) : Type 0 where
  pub owned : o'.owned ≡ o.owned
  pub room : o'.room ≡ o.room
  pub adds : o'.adds ≡ without o.adds r
  pub nodes : o'.nodes ≡ without o.nodes r
  pub claims : o'.claims ≡ o.claims
  pub gone : o'.gone ≡ o.gone ++ buried
