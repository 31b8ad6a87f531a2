-- The adds under way as the tokens tell of them.
use Rattle.std.specs.Prelude.{◌≡◌, ◌≤◌, ◌+◌, ◌-◌, ◌++◌, ◌∷◌, ℕ, [], List, length, slice_index, is_some, true, None, Some, IfSome}
use Rattle.std.specs.BTreeMap.{insert_entry}
use Rattle.std.specs.Global.{Vec}
use Rattle.std.specs.List.Sorted.{IsStrictlySortedBy}
use Rattle.std.specs.Map.{keys_of}
use Rattle.spec_core.specs.Log.{without}
use Rattle.bv_volume.specs.Spaced.{nodes_at}
use Rattle.spec_disk.specs.declared.event.Event.TheVariants as device
use Rattle.spec_record.specs.Geometry.{block_at}
use Rattle.spec_tree.specs.Tree.{need_of}
use Rattle.spec_tree.specs.Order.{digest_cmp}
use Rattle.spec_tree.specs.declared.Digest.{Digest}
use Rattle.spec_core.specs.History.{last_state}
use Rattle.spec_core.specs.State.{find}
use Rattle.bv_claims.specs.Blocks.{HasEachOnce, HaveSameBlocks, Rises}
use Rattle.bv_claims.specs.Tokens.{block_count, IsClaimedOf, claimed_gained, claimed_left}
use Rattle.bv_claims.specs.declared.claimed.Claimed.{Claimed}
use Rattle.bv_claims.specs.declared.claims.Claims.{Claims}
use Rattle.bv_ledger.specs.Entries.{Grants}
use Rattle.bv_ledger.specs.Tables.{Tables}
use Rattle.bv_space.specs.Owned.{Owned}
use Rattle.bv_store.specs.Stored.{Grows, blocks_on}
use Rattle.bv_writer.specs.Blocks.{IsBlobOf}
use Rattle.bv_volume.specs.Seen.{Seen}
use Rattle.bv_volume.specs.declared.tokens.Admitted.{Admitted}
use Rattle.bv_volume.specs.declared.tokens.Begun.{Begun}

-- the add is under way, and isn't admitted: it has no blocks yet
pub record IsBegun (v : Seen) (b : Begun) : Type 0 where
  pub under_way : find (last_state v.history v.next).adds b.root ≡ Some b.size
  pub blocks : Vec ℕ
  pub has : find v.space.adds b.root ≡ Some blocks
  pub none : blocks.items ≡ []
  pub nodes : find v.space.nodes b.root ≡ None

-- a claim is of this table, and what was gained and what is left are so many blocks
pub record ClaimsFor (claims : Claims) (claimed : Claimed) (need : ℕ) : Type 0 where
  pub table : IsClaimedOf claims claimed
  pub budget : length (claimed_gained claimed) + claimed_left claimed ≡ need

-- the add is under way and admitted: it has as many blocks as its blob needs, of which so many were
-- put
pub record IsAdmitted (v : Seen) (a : Admitted) : Type 0 where
  pub under_way : find (last_state v.history v.next).adds a.root ≡ Some a.size
  pub blocks : Vec ℕ
  pub has : find v.space.adds a.root ≡ Some blocks
  pub need : length blocks.items ≡ need_of v.history.version a.size
  pub put : a.put ≤ length blocks.items
  pub nodes : is_some (find v.space.nodes a.root) ≡ true

-- an add is put under way, without blocks, and the room falls by what it needs
pub record Begins (t new : Tables) (o o' : Owned) (r : Digest) (n : ℕ) : Type 0 where
  pub tables : Grants t new r n
  pub blocks : Vec ℕ
  pub none : blocks.items ≡ []
  pub space : o' ≡ record o {
    room = o.room - need_of t.setting.version n;
    adds = insert_entry digest_cmp o.adds r blocks;
  }

-- the disk has gained one write, of these bytes at the add's next block
pub record Writes (old new : Seen) (a : Admitted) (bytes : List ℕ) : Type 0 where
  pub blocks : Vec ℕ
  pub has : find old.space.adds a.root ≡ Some blocks
  pub next : Grows old.store.told new.store.told (λ d more. more
      ≡ device.Write (block_at old.store.geometry (slice_index blocks.items a.put)) bytes true ∷ [])

-- all blocks of the add were put and, where the device tells, they are the blocks, tree and data in
-- their order, of bytes with its root and size
pub record IsPut (v : Seen) (a : Admitted) : Type 0 where
  pub all : a.put ≡ need_of v.history.version a.size
  pub there : IfSome v.store.told (λ d. IfSome (find v.space.adds a.root) (λ x.
      IsBlobOf v.history.version a.root a.size (blocks_on v.store.geometry d x.items)))

-- a claim was gathered: its blocks are the add's, so many, and the nodes that they take, of so many
-- that are free, are set aside
pub record Admitting (old new : Owned) (r : Digest) (free sum : ℕ) : Type 0 where
  pub blocks : Vec ℕ
  pub owned : HaveSameBlocks new.owned (old.owned ++ blocks.items)
  pub rising : Rises 1 blocks.items (block_count old.claims)
  pub count : length blocks.items ≡ sum
  pub is : new ≡ record old {
    owned = new.owned;
    adds = insert_entry digest_cmp old.adds r blocks;
    nodes = insert_entry digest_cmp old.nodes r (nodes_at blocks.items);
  }
  pub enough : nodes_at blocks.items ≤ free
  pub once : HasEachOnce new.owned
  pub sorted : IsStrictlySortedBy digest_cmp (keys_of old.adds)
      × IsStrictlySortedBy digest_cmp (keys_of new.adds)
  pub sorted_nodes : IsStrictlySortedBy digest_cmp (keys_of old.nodes)
      × IsStrictlySortedBy digest_cmp (keys_of new.nodes)

-- a claim was gathered and its blocks freed again, so many, and the add ended
pub record Ending (old new : Owned) (r : Digest) (count : ℕ) : Type 0 where
  pub owned : HaveSameBlocks new.owned old.owned
  pub room : new.room ≡ old.room + count
  pub is : new ≡ record old {
    owned = new.owned;
    room = new.room;
    adds = without old.adds r;
    nodes = without old.nodes r;
  }
  pub once : HasEachOnce new.owned
