-- An add is published: the tables and the space go on together.
use Rattle.std.proofs.Common.{◌≡◌, ◌≤◌, ◌<◌, ◌⊎◌, inl, inr, ℕ, ◌+◌, ◌++◌, ◌∷◌, [], Bool, true, false, cond, List, length, Option, Some, None, ap, sym, ◌∙◌, arith}
use Rattle.std.specs.BTreeMap.{insert_entry}
use Rattle.std.specs.Global.{Vec}
use Rattle.std.specs.List.{sum_by, Contains}
use Rattle.std.proofs.lemmas.List.{length-append}
use Rattle.std.proofs.lemmas.List.Sums.{sum_by-append, sum_by-cons}
use Rattle.spec_tree.specs.Order.{digest_cmp, same_digest}
use Rattle.spec_tree.specs.Tree.{need_of}
use Rattle.spec_tree.specs.declared.Digest.{Digest}
use Rattle.spec_tree.specs.declared.blob.Blob.{Blob}
use Rattle.spec_core.proofs.EntryLemmas.{lookup-insert_entry}
use Rattle.spec_core.proofs.Holding.{digest_total, changed-append}
use Rattle.spec_core.specs.Change.{blob_of}
use Rattle.spec_core.specs.Log.{without, changed, purges}
use Rattle.spec_core.specs.Room.{blob_need, purge_need}
use Rattle.spec_core.specs.State.{State, find, among}
use Rattle.spec_core.specs.declared.act.Act.TheVariants.{Settle}
use Rattle.spec_core.specs.declared.map_change.MapChange.{MapChange}
use Rattle.spec_core.specs.declared.map_change.MapChange.TheVariants.{Publish}
use Rattle.spec_core.specs.declared.reply.Reply.TheVariants.{Published, DeviceFault}
use Rattle.spec_core.specs.declared.who.Who.{Who}
use Rattle.spec_rest.specs.Rest.{Map}
use Rattle.bv_claims.specs.Blocks.{times}
use Rattle.bv_claims.proofs.Counts.{times-append}
use Rattle.bv_model.specs.Sole.{Sole}
use Rattle.bv_model.proofs.Adds.{sole-insert, sole-without, find-purged_none}
use Rattle.bv_model.proofs.Takings.{purged-need}
use Rattle.bv_space.specs.Owned.{Owned, times_in}
use Rattle.bv_ledger.specs.Tables as L
use Rattle.bv_ledger.specs.Tables.{Tables, Accounts}
use Rattle.bv_ledger.proofs.Rows.{purged_more}
use Rattle.bv_ledger.proofs.Sums.{sum_less, sum_more}
use Rattle.bv_store.specs.Stored.{Stored, placed_without}
use Rattle.bv_volume.specs.Spaced.{times_placed, nodes_at, LiesAt, LieAll, Handed, Noded, Spaced}
use Rattle.bv_volume.proofs.Adds.{noded_ends, nodes_less, space_less, sum_entries}
use Rattle.bv_volume.proofs.Freed.{counted}
use Rattle.bv_volume.proofs.Placed.{Places, taken_from, lie_purged, sole_placed, taken_need, times_purged, find_other}

-- ---- the tables

-- an add was published, and the queue purged before it
pub record Settled (t new : Tables) (r : Digest) (blob : Blob) : Type 0 where
  pub setting : new.setting ≡ t.setting
  pub map : new.map ≡ insert_entry digest_cmp (changed t.map (purges t.map t.queue)) r blob
  pub adds : new.adds ≡ without t.adds r
  pub queue : new.queue ≡ []
  pub purged : new.purged ≡ t.purged + sum_by purge_need (purges t.map t.queue)

pub settled_tables : (t new : Tables) (log : List MapChange) (durable : ℕ) (who : Who) (r : Digest) (size : ℕ) → Accounts t log durable → t.stopped ≡ None → find t.adds r ≡ Some size → L.Does t new who (Settle r) (Some Published) → Settled t new r (record { size = size; version = t.setting.version })
settled_tables t new log durable who r size accounts going under does =
    let goes = does.1 log durable accounts in
    let blob : Blob = blob_of t.setting (find t.adds r) in
    let is : blob ≡ record { size = size; version = t.setting.version } = ap (λ (o : Option ℕ). blob_of t.setting o) under in
    let cs : List MapChange = purges t.map t.queue ++ Publish r blob ∷ [] in
    let stopped : new.stopped ≡ None = sym (ap (λ (x : State). x.stopped) goes.state) ∙ going in
    record {
      setting = does.0;
      map = sym (ap (λ (x : State). x.map) goes.state) ∙ changed-append t.map (purges t.map t.queue) (Publish r blob ∷ []) ∙ ap (λ (b : Blob). insert_entry digest_cmp (changed t.map (purges t.map t.queue)) r b) is;
      adds = sym (ap (λ (x : State). x.adds) goes.state);
      queue = sym (ap (λ (x : State). x.queue) goes.state);
      purged = goes.accounts.purged stopped ∙ omega (arith, accounts.purged going, purged_more log cs durable accounts.within, sum_two (purges t.map t.queue) r blob);
    }
  where
    sum_two : (xs : List MapChange) (r : Digest) (b : Blob) → sum_by purge_need (xs ++ Publish r b ∷ []) ≡ sum_by purge_need xs
    sum_two xs r b = omega (arith, sum_by-append purge_need xs (Publish r b ∷ []), sum_by-cons purge_need (Publish r b) [])

-- the device failed
pub record Unsettled (t new : Tables) (r : Digest) : Type 0 where
  pub setting : new.setting ≡ t.setting
  pub map : new.map ≡ t.map
  pub adds : new.adds ≡ without t.adds r
  pub queue : new.queue ≡ t.queue
  pub fault : ℕ
  pub stopped : new.stopped ≡ Some fault

pub unsettled_tables : (t new : Tables) (log : List MapChange) (durable : ℕ) (who : Who) (r : Digest) (f : ℕ) → Accounts t log durable → L.Does t new who (Settle r) (Some (DeviceFault f)) → Unsettled t new r
unsettled_tables t new log durable who r f accounts does =
    let goes = does.1 log durable accounts in
    record {
      setting = does.0;
      map = sym (ap (λ (x : State). x.map) goes.state);
      adds = sym (ap (λ (x : State). x.adds) goes.state);
      queue = sym (ap (λ (x : State). x.queue) goes.state);
      fault = f;
      stopped = sym (ap (λ (x : State). x.stopped) goes.state);
    }

-- ---- the space

lie_put : (m : Map) (placed : Places) (r : Digest) (blob : Blob) (bs : List ℕ) → length bs ≡ blob_need blob → LieAll m placed → LieAll (insert_entry digest_cmp m r blob) (insert_entry digest_cmp placed r bs)
lie_put m placed r blob bs need lie x = rw (lookup-insert_entry digest_total m r blob x, lookup-insert_entry digest_total placed r bs x) (go (same_digest x r))
  where
    go : (b : Bool) → LiesAt (cond b (Some blob) (find m x)) (cond b (Some bs) (find placed x))
    go true = need
    go false = lie x

pub lies_none : (m : Option Blob) (l : Option (List ℕ)) → LiesAt m l → m ≡ None → l ≡ None
lies_none None l h e = h
lies_none (Some b) l h e = cc

held_there : (Held : ℕ → Type 0) (b : ℕ) (after before : Places) (bs gone taken : List ℕ) (was : ℕ) → times_placed b after ≡ times b bs + times_placed b before → times_placed b before + times b taken ≡ was → (Held b → 0 < was + times b gone) → Held b ⊎ Contains bs b → 0 < times_placed b after + times b (gone ++ taken)
held_there Held b after before bs gone taken was more purged old (inl h) = omega (arith, more, purged, old h, times-append b gone taken)
held_there Held b after before bs gone taken was more purged old (inr has) = omega (arith, more, counted b bs has)

-- the nodes that were set aside are the blob's now
noded_published : (t new : Tables) (o o' : Owned) (s s' : Stored) (r : Digest) (k : ℕ) → new.setting ≡ t.setting → new.adds ≡ without t.adds r → o'.adds ≡ without o.adds r → o'.nodes ≡ without o.nodes r → s'.geometry ≡ s.geometry → s'.used_nodes ≤ s.used_nodes + k → find o.nodes r ≡ Some k → Sole t.adds → Sole o.adds → Noded t o s → Noded new o' s'
noded_published t new o o' s s' r k setting adds spaces aside geometry used is a b n = record {
  count = rw (geometry, setting) n.count;
  room = rw (aside, setting) (omega (arith, n.room, used, sum_entries (without o.nodes r), sum_entries o.nodes, sum_less (λ (x : ℕ). x) o.nodes r k is));
  at = λ x. rw (setting, adds, spaces, aside) (nodes_less t.setting r x t.adds o.adds o.nodes a b n.sole (n.at x));
  sole = rw aside (sole-without o.nodes r n.sole);
}

module _ (t new : Tables) (o o' : Owned) (s s' : Stored) (Held New : ℕ → Type 0) (r : Digest) (size : ℕ) (v : Vec ℕ) (spaced : Spaced t o s Held) (under : find t.adds r ≡ Some size) (has : find o.adds r ≡ Some v) (need : length v.items ≡ need_of t.setting.version size) (adds_sole : Sole t.adds) (geometry : s'.geometry ≡ s.geometry) where
  less : (x : ℕ) → times_in x (without o.adds r) + times x v.items ≡ times_in x o.adds
  less x = sum_less (λ (w : Vec ℕ). times x w.items) o.adds r v has

  -- the entry is written
  pub spaced_settled : t.stopped ≡ None → Sole t.map → find t.map r ≡ None → among t.queue r ≡ false → Settled t new r (record { size = size; version = t.setting.version }) → s'.placed ≡ insert_entry digest_cmp (placed_without s.placed t.queue) r v.items
      → ((b : ℕ) → New b → Held b ⊎ Contains v.items b) → s'.used_nodes ≤ s.used_nodes + nodes_at v.items → find o.nodes r ≡ Some (nodes_at v.items) → Handed o o' r (taken_from s.placed t.queue) → Spaced new o' s' New
  spaced_settled going sole free unqueued settled placed held used aside handed =
      let e = spaced.exactly going in
      let blob : Blob = record { size = size; version = t.setting.version } in
      let m : Map = changed t.map (purges t.map t.queue) in
      let p : Places = placed_without s.placed t.queue in
      let taken : List ℕ = taken_from s.placed t.queue in
      let absent : find p r ≡ None = find_other s.placed t.queue r unqueued ∙ lies_none (find t.map r) (find s.placed r) (e.lie r) free in
      let lie : LieAll new.map s'.placed = rw (settled.map, placed) (lie_put m p r blob v.items need (lie_purged t.map s.placed t.queue sole e.sole e.lie)) in
      let more : (x : ℕ) → times_placed x s'.placed ≡ times x v.items + times_placed x p = λ x. rw placed (sum_more (times x) p r v.items absent) in
      let owned : (x : ℕ) → times x o'.owned ≡ times_placed x s'.placed + times_in x o'.adds + times x o'.gone = λ x. rw (handed.owned, handed.adds, handed.gone)
      (omega (arith, e.owned x, more x, less x, times-append x o.gone taken, times_purged x s.placed t.queue)) in
      let missing : find m r ≡ None = find-purged_none t.map t.map t.queue r sole free in
      record {
        table = rw (settled.setting, handed.claims) spaced.table;
        blocks = rw (settled.setting) spaced.blocks;
        geometry = rw (geometry, settled.setting) spaced.geometry;
        once = rw (handed.owned) spaced.once;
        within = λ x. omega (arith, owned x);
        adds = λ x. rw (settled.setting, settled.adds, handed.adds) (space_less t.setting r x t.adds o.adds adds_sole spaced.sole (spaced.adds x));
        sole = rw (handed.adds) (sole-without o.adds r spaced.sole);
        lie = λ x h. lie x;
        nodes = noded_published t new o o' s s' r (nodes_at v.items) settled.setting settled.adds handed.adds handed.nodes geometry used aside adds_sole spaced.sole spaced.nodes;
        exactly = λ none. record {
          owned = owned;
          room = rw (settled.map, settled.adds, settled.setting, settled.purged, handed.room) (omega (arith, e.room, purged-need t.map t.queue, sum_more blob_need m r blob missing, sum_less (need_of t.setting.version) t.adds r size under));
          gone = rw (handed.gone, settled.purged) (omega (arith, length-append o.gone taken, e.gone, taken_need t.map s.placed t.queue sole e.sole e.lie));
          held = λ b h. rw (handed.gone) (held_there Held b s'.placed p v.items o.gone taken (times_placed b s.placed) (more b) (times_purged b s.placed t.queue) (e.held b) (held b h));
          lie = lie;
          sole = rw placed (sole-insert p r v.items absent (sole_placed s.placed t.queue e.sole));
        };
      }

  -- the device failed
  pub spaced_unsettled : Unsettled t new r → s'.placed ≡ s.placed → s'.used_nodes ≤ s.used_nodes → Handed o o' r [] → Spaced new o' s' New
  spaced_unsettled u placed used handed = record {
    table = rw (u.setting, handed.claims) spaced.table;
    blocks = rw (u.setting) spaced.blocks;
    geometry = rw (geometry, u.setting) spaced.geometry;
    once = rw (handed.owned) spaced.once;
    within = λ x. rw (placed, handed.owned, handed.adds, handed.gone) (omega (arith, spaced.within x, less x, times-append x o.gone []));
    adds = λ x. rw (u.setting, u.adds, handed.adds) (space_less t.setting r x t.adds o.adds adds_sole spaced.sole (spaced.adds x));
    sole = rw (handed.adds) (sole-without o.adds r spaced.sole);
    lie = λ x h. rw (u.map, placed) (spaced.lie x (rw (u.queue) at h));
    nodes = noded_ends t new o o' s s' r u.setting u.adds handed.adds handed.nodes geometry used adds_sole spaced.sole spaced.nodes;
    exactly = λ none. let both : Some u.fault ≡ None = sym u.stopped ∙ none in cc;
  }
