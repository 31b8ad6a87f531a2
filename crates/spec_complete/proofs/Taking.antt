-- What an event takes: blocks, nodes and numbers, where its reply is one that comes where nothing
-- fails.
use Rattle.std.proofs.Common.{◌≡◌, ℕ, ◌+◌, ◌≤◌, Bool, true, false, cond, not, ◌&&◌, Option, None, Some, List, [], ◌∷◌, ◌++◌, drop, length, refl, ap, arith}
use Rattle.std.specs.List.{sum_by}
use Rattle.std.specs.BTreeMap.{insert_entry, is_at}
use Rattle.std.specs.BTreeSet.{insert_key}
use Rattle.std.specs.Map.{remove_entry, values_of}
use Rattle.std.specs.Set.{remove_key}
use Rattle.std.specs.Option.{unwrap_or, option_map}
use Rattle.std.proofs.lemmas.List.{drop_all}
use Rattle.std.proofs.lemmas.List.Sums.{sum_by-append, sum_by-cons}
use Rattle.std.proofs.lemmas.Map.Entries.{sum_by-remove_entry}
use Rattle.spec_tree.specs.declared.Digest.{Digest}
use Rattle.spec_tree.specs.declared.blob.Blob.{Blob}
use Rattle.spec_tree.specs.Order.{digest_cmp}
use Rattle.spec_tree.specs.Tree.{need_of}
use Rattle.spec_core.specs.Order.{place_cmp}
use Rattle.spec_core.specs.Change.{blob_of, change, emptied, let_go, made_durable, slots_emptied}
use Rattle.spec_core.specs.Choice.{choice, if_added, is_empty, place_of, settle_choice, unless_stopped}
use Rattle.spec_core.specs.Log.{changed, purges, queued, without}
use Rattle.spec_core.specs.Room.{blob_need, blob_worst, purge_need, taken, worst_nodes, worst_sum_in}
use Rattle.spec_core.specs.State.{State, among, find, held, is_held}
use Rattle.spec_core.specs.Step.{Chosen}
use Rattle.spec_core.specs.declared.act.Act.{Act}
use Rattle.spec_core.specs.declared.act.Act.TheVariants.{Begin, Admit, Put, Settle, Retire, Open, Fetch, Read, Scan, Close, Unlink, Sync, List as ListAll, Unmount}
use Rattle.spec_core.specs.declared.map_change.MapChange.{MapChange}
use Rattle.spec_core.specs.declared.map_change.MapChange.TheVariants.{Publish, Purge}
use Rattle.spec_core.specs.declared.place.Place.{Place}
use Rattle.spec_core.specs.declared.reply.Reply.{Reply}
use Rattle.spec_core.specs.declared.reply.Reply.TheVariants as replies
use Rattle.spec_core.specs.declared.setting.Setting.{Setting}
use Rattle.spec_core.specs.declared.who.Who.{Who}
use Rattle.spec_complete.specs.Good.{IsGood}
use Rattle.spec_complete.proofs.Sums.{dropped-le, freed, inserted-le, purged-le}
use Rattle.spec_complete.proofs.Weights.{weight}

-- what two states say of all that is counted: t has no more than s and these, and no write or sync
-- has failed there either
pub record Takes (g : Setting) (need worst entries : ℕ) (s t : State) : Type 0 where
  pub blocks : taken g t ≤ taken g s + need
  pub nodes : worst_sum_in g t ≤ worst_sum_in g s + worst
  pub number : t.next ≤ s.next + entries
  pub stopped : t.stopped ≡ s.stopped

-- the map, the adds, the log and the rest that is counted are those of s
itself : (g : Setting) (s : State) → Takes g 0 0 0 s s
itself g s = record { blocks = omega arith; nodes = omega arith; number = omega arith; stopped = refl }

-- what is counted of t is that of s
same : (g : Setting) (s t : State) → t.map ≡ s.map → t.log ≡ s.log → t.durable ≡ s.durable → t.adds ≡ s.adds → t.next ≡ s.next → t.stopped ≡ s.stopped → Takes g 0 0 0 s t
same g s t map log durable adds next stopped = record {
  blocks = omega (
    arith,
    ap (λ (m : List (Digest × Blob)). sum_by blob_need (values_of m)) map,
    ap (λ (m : List (Digest × ℕ)). sum_by (need_of g.version) (values_of m)) adds,
    ap (λ (cs : List MapChange). sum_by purge_need (drop t.durable cs)) log,
    ap (λ (d : ℕ). sum_by purge_need (drop d s.log)) durable,
  );
  nodes = omega (arith, ap (λ (m : List (Digest × Blob)). sum_by blob_worst (values_of m)) map, ap (λ (m : List (Digest × ℕ)). sum_by (worst_nodes g.version) (values_of m)) adds);
  number = omega (arith, next);
  stopped = stopped;
}

module _ (g : Setting) (s : State) where
  -- an add begins
  granted : (r : Digest) (n : ℕ) → Takes g (need_of g.version n) (worst_nodes g.version n) 0 s (record s { adds = insert_entry digest_cmp s.adds r n })
  granted r n = record {
    blocks = omega (arith, inserted-le (need_of g.version) digest_cmp r n s.adds);
    nodes = omega (arith, inserted-le (worst_nodes g.version) digest_cmp r n s.adds);
    number = omega arith;
    stopped = refl;
  }

  -- and ends
  retired : (r : Digest) → Takes g 0 0 0 s (record s { adds = without s.adds r })
  retired r = record {
    blocks = omega (arith, sum_by-remove_entry (need_of g.version) (is_at (digest_cmp r)) s.adds);
    nodes = omega (arith, sum_by-remove_entry (worst_nodes g.version) (is_at (digest_cmp r)) s.adds);
    number = omega arith;
    stopped = refl;
  }

  -- the weights of the map, where f weighs a blob
  module _ (f : Blob → ℕ) where
    abbrev of_map : List (Digest × Blob) → ℕ
    of_map m = sum_by f (values_of m)

    -- the queue is purged
    purged : (m : List (Digest × Blob)) (rs : List Digest) → of_map (changed m (purges m rs ++ [])) + sum_by (freed f) (purges m rs) ≤ of_map m + 0
    purged m rs = purged-le f [] 0 (λ m. omega arith) m rs

    -- and a blob is published behind that
    flushed-le : (r : Digest) (b : Blob) (m : List (Digest × Blob)) (rs : List Digest) → of_map (changed m (purges m rs ++ Publish r b ∷ [])) + sum_by (freed f) (purges m rs) ≤ of_map m + f b
    flushed-le r b m rs = purged-le f (Publish r b ∷ []) (f b) (λ m. inserted-le f digest_cmp r b m) m rs

  -- what a log's purges free past what is durable
  frees : (cs : List MapChange) → sum_by (freed blob_need) cs ≡ sum_by purge_need cs
  frees [] = refl
  frees (Publish r b ∷ cs) = omega (arith, frees cs, sum_by-cons (freed blob_need) (Publish r b) cs, sum_by-cons purge_need (Publish r b) cs)
  frees (Purge r b ∷ cs) = omega (arith, frees cs, sum_by-cons (freed blob_need) (Purge r b) cs, sum_by-cons purge_need (Purge r b) cs)

  -- the queue is purged, and a blob is published that was being added
  settled_takes : (r : Digest) (n : ℕ) → find s.adds r ≡ Some n
      → Takes g 0 0 1 s (record s {
        log = s.log ++ (queued s ++ Publish r (blob_of g (Some n)) ∷ []);
        map = changed s.map (queued s ++ Publish r (blob_of g (Some n)) ∷ []);
        queue = [];
        adds = without s.adds r;
        next = s.next + 1;
      })
  settled_takes r n is =
      let b : Blob = blob_of g (Some n) in
      let cs : List MapChange = queued s in
      record {
        blocks = omega (
          arith,
          flushed-le blob_need r b s.map s.queue,
          frees cs,
          dropped-le purge_need s.durable s.log (cs ++ Publish r b ∷ []),
          sum_by-append purge_need cs (Publish r b ∷ []),
          sum_by-remove_entry (need_of g.version) (is_at (digest_cmp r)) s.adds,
          ap (λ (o : Option ℕ). unwrap_or (option_map (need_of g.version) o) 0) is,
        );
        nodes = omega (
          arith,
          flushed-le blob_worst r b s.map s.queue,
          sum_by-remove_entry (worst_nodes g.version) (is_at (digest_cmp r)) s.adds,
          ap (λ (o : Option ℕ). unwrap_or (option_map (worst_nodes g.version) o) 0) is,
        );
        number = omega arith;
        stopped = refl;
      }

  one_more : (b : Bool) (n : ℕ) → cond b n (n + 1) ≤ n + 1
  one_more true n = omega arith
  one_more false n = omega arith

  -- the queue is purged, and the whole log is durable
  durable_takes : Takes g 0 0 1 s (made_durable s)
  durable_takes =
      let log : List MapChange = s.log ++ (queued s ++ []) in
      record {
        blocks = omega (arith, purged blob_need s.map s.queue, ap (sum_by purge_need) (drop_all (length log) log (omega arith)));
        nodes = omega (arith, purged blob_worst s.map s.queue);
        number = one_more (is_empty s.queue) s.next;
        stopped = refl;
      }

  -- ---- slots

  let_go_same : (r : Digest) → Takes g 0 0 0 s (let_go s r)
  let_go_same r = go (among s.leaving r && not (is_held s.slots r)) where
    go : (b : Bool) → Takes g 0 0 0 s (cond b (record s { leaving = remove_key (is_at (digest_cmp r)) s.leaving; queue = s.queue ++ r ∷ [] }) s)
    go true = same g s (record s { leaving = remove_key (is_at (digest_cmp r)) s.leaving; queue = s.queue ++ r ∷ [] }) refl refl refl refl refl refl
    go false = itself g s

  unlinked_same : (r : Digest) → Takes g 0 0 0 s (change g s (record { session = 0; line = 0 }) (Unlink r) replies.Unlinked)
  unlinked_same r = go (is_held s.slots r) where
    go : (b : Bool) → Takes g 0 0 0 s (cond b (record s { leaving = insert_key digest_cmp s.leaving r }) (record s { queue = s.queue ++ r ∷ [] }))
    go true = same g s (record s { leaving = insert_key digest_cmp s.leaving r }) refl refl refl refl refl refl
    go false = same g s (record s { queue = s.queue ++ r ∷ [] }) refl refl refl refl refl refl

emptied_same : (g : Setting) (s : State) (p : Place) (o : Option Digest) → Takes g 0 0 0 s (emptied s p o)
emptied_same g s p None = itself g s
emptied_same g s p (Some r) =
    let t : State = record s { slots = remove_entry (is_at (place_cmp p)) s.slots } in
    let rest = let_go_same g t r in
    record { blocks = rest.blocks; nodes = rest.nodes; number = rest.number; stopped = rest.stopped }

-- ---- any event

-- what an act takes at most
abbrev pub TakesBy : Setting → Act → State → State → Type 0
TakesBy g act s t =
    Takes g (weight (need_of g.version) 0 act) (weight (worst_nodes g.version) 0 act) (weight (λ n. 0) 1 act) s t

module _ (g : Setting) (s : State) (who : Who) where
  nothing : (act : Act) (t : State) → Takes g 0 0 0 s t → TakesBy g act s t
  nothing act t k = record { blocks = omega (arith, k.blocks); nodes = omega (arith, k.nodes); number = omega (arith, k.number); stopped = k.stopped }

  begin_takes : (r : Digest) (n : ℕ) (q : Reply) → TakesBy g (Begin r n) s (change g s who (Begin r n) q)
  begin_takes r n replies.Granted = granted g s r n
  begin_takes r n q = nothing (Begin r n) s (itself g s)

  settle_takes : (r : Digest) → Chosen (choice g s who (Settle r)) replies.Published → TakesBy g (Settle r) s (change g s who (Settle r) replies.Published)
  settle_takes r fits = by (find s.adds r) refl fits where
    by : (o : Option ℕ) → find s.adds r ≡ o → Chosen (if_added o (λ n. unless_stopped s.stopped (settle_choice s))) replies.Published
        → TakesBy g (Settle r) s (record s {
          log = s.log ++ (queued s ++ Publish r (blob_of g o) ∷ []);
          map = changed s.map (queued s ++ Publish r (blob_of g o) ∷ []);
          queue = [];
          adds = without s.adds r;
          next = s.next + 1;
        })
    by None is fits = absurd fits
    by (Some n) is fits = settled_takes g s r n is

  open_takes : (slot : ℕ) (r : Digest) (q : Reply) → TakesBy g (Open slot r) s (change g s who (Open slot r) q)
  open_takes slot r (replies.Opened n) = same g s (record s { slots = insert_entry place_cmp s.slots (place_of who slot) r }) refl refl refl refl refl refl
  open_takes slot r q = itself g s

  close_takes : (slot : ℕ) (q : Reply) → TakesBy g (Close slot) s (change g s who (Close slot) q)
  close_takes slot replies.Closed = emptied_same g s (place_of who slot) (held s.slots (place_of who slot))
  close_takes slot q = itself g s

  unlink_takes : (r : Digest) (q : Reply) → TakesBy g (Unlink r) s (change g s who (Unlink r) q)
  unlink_takes r replies.Unlinked = unlinked_same g s r
  unlink_takes r q = itself g s

  unmount_takes : TakesBy g Unmount s (made_durable (slots_emptied s))
  unmount_takes =
      let rest = durable_takes g (slots_emptied s) in
      record { blocks = rest.blocks; nodes = rest.nodes; number = rest.number; stopped = rest.stopped }

  pub takes : (act : Act) (q : Reply) → IsGood act q → Chosen (choice g s who act) q → TakesBy g act s (change g s who act q)
  takes (Begin r n) q good fits = begin_takes r n q
  takes (Admit r) replies.Admitted good fits = itself g s
  takes (Put i) replies.Written good fits = itself g s
  takes (Settle r) replies.Published good fits = settle_takes r fits
  takes (Retire r) q good fits = retired g s r
  takes (Open slot r) q good fits = open_takes slot r q
  takes (Fetch slot w) q good fits = itself g s
  takes (Read slot off len) q good fits = itself g s
  takes (Scan slot) q good fits = itself g s
  takes (Close slot) q good fits = close_takes slot q
  takes (Unlink r) q good fits = unlink_takes r q
  takes Sync replies.Synced good fits = durable_takes g s
  takes ListAll q good fits = itself g s
  takes Unmount replies.Unmounted good fits = unmount_takes
  takes act q good fits = absurd good
