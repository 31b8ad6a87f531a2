-- An add that is under way is new: its root isn't in the map.
use Rattle.std.proofs.Common.{◌≡◌, ℕ, ◌+◌, ◌≤◌, Bool, true, false, cond, not, ◌&&◌, is_some, nat_lt, Option, Some, None, List, [], ◌∷◌, ◌++◌, refl, ap, sym, ◌∙◌, arith}
use Rattle.std.specs.declared.cmp.Ordering.{Ordering}
use Rattle.std.specs.List.{count_by}
use Rattle.std.specs.Ordering.{eq_by_cmp}
use Rattle.std.specs.BTreeMap.{insert_entry, is_at}
use Rattle.std.specs.BTreeSet.{insert_key}
use Rattle.std.specs.Map.{lookup, remove_entry}
use Rattle.std.specs.Set.{remove_key}
use Rattle.spec_tree.specs.Tree.{need_of}
use Rattle.spec_tree.specs.declared.Digest.{Digest}
use Rattle.spec_tree.specs.declared.blob.Blob.{Blob}
use Rattle.spec_tree.specs.Order.{digest_cmp, same_digest}
use Rattle.spec_core.proofs.Counting.{count-insert_entry, count-remove_entry-le, none-counted, none-left}
use Rattle.spec_core.proofs.EntryLemmas.{lookup-insert_entry}
use Rattle.spec_core.proofs.Holding.{digest_total, one_digest, changed-append}
use Rattle.spec_core.specs.Change.{add_ends, admitted, begun, change, blob_of, closed, emptied, let_go, made_durable, opened, put_done, settled, slots_emptied, sync_done, unlinked, unmount_done}
use Rattle.spec_core.specs.Choice.{choice, if_added, settle_choice, unless_stopped, place_of}
use Rattle.spec_core.specs.Log.{changed, purges, purge_of, queued, without}
use Rattle.spec_core.specs.Room.{room_in}
use Rattle.spec_core.specs.Order.{place_cmp}
use Rattle.spec_core.specs.State.{State, among, find, held, holders, is_held, is_unlinked}
use Rattle.spec_core.specs.Step.{Chosen}
use Rattle.spec_core.specs.declared.act.Act.{Act}
use Rattle.spec_core.specs.declared.act.Act.TheVariants.{Begin, Admit, Put, Settle, Retire, Open, Fetch, Read, Scan, Close, Unlink, Sync, List as ListAll, Unmount}
use Rattle.spec_core.specs.declared.choice.Choice.{Choice}
use Rattle.spec_core.specs.declared.choice.Choice.TheVariants.{Only}
use Rattle.spec_core.specs.declared.map_change.MapChange.TheVariants.{Publish}
use Rattle.spec_core.specs.declared.place.Place.{Place}
use Rattle.spec_core.specs.declared.reply.Reply.{Reply}
use Rattle.spec_core.specs.declared.reply.Reply.TheVariants.{Granted, Admitted, Published, Opened, Closed, Unlinked, Synced, Unmounted, DeviceFault, Exists, Leaving, InFlight, NoSpace}
use Rattle.spec_core.specs.declared.setting.Setting.{Setting}
use Rattle.spec_core.specs.declared.who.Who.{Who}
use Rattle.spec_orderly.proofs.Ordered.{closed_adds, opened_adds, unlinked_adds}

-- ---- entries whose keys stand once

abbrev pub Once : {K X : Type 0} → (K → K → Ordering) → List (K × X) → Type 0
Once {K = K} R es = (k : K) → count_by (λ e. is_at (R k) e.0) es ≤ 1

one_more : (b : Bool) (n : ℕ) → n ≤ 1 → (b ≡ true → n ≡ 0) → cond b 1 0 + n ≤ 1
one_more true n h f = omega (arith, f refl)
one_more false n h f = omega (arith, h)

module _ {K X : Type 0} (R : K → K → Ordering) where
  pub once_insert : ((a b : K) → eq_by_cmp R a b ≡ true → a ≡ b) → (es : List (K × X)) (k : K) (v : X) → lookup (is_at (R k)) es ≡ None → Once R es → Once R (insert_entry R es k v)
  once_insert one es k v free once q =
      rw (count-insert_entry (λ (e : K × X). is_at (R q) e.0) R es k v free)
      (one_more (is_at (R q) k) (count_by (λ e. is_at (R q) e.0) es) (once q)
      (λ e. none-counted (is_at (R q)) es (ap (λ (x : K). lookup (is_at (R x)) es) (one q k e) ∙ free)))

  pub once_remove : (es : List (K × X)) (k : K) → Once R es → Once R (remove_entry (is_at (R k)) es)
  once_remove es k once q = omega (arith, once q, count-remove_entry-le (λ (e : K × X). is_at (R q) e.0) (is_at (R k)) es)

-- ---- what isn't found isn't found in less

none_removed : {K X : Type 0} (test other : K → Bool) (es : List (K × X)) → lookup test es ≡ None → lookup test (remove_entry other es) ≡ None
none_removed test other [] h = refl
none_removed {X = X} test other (e ∷ es) h = go (test e.0) (other e.0) refl (none_removed test other es) h
  where
    go : (b c : Bool) → test e.0 ≡ b → (lookup test es ≡ None → lookup test (remove_entry other es) ≡ None) → cond b (Some e.1) (lookup test es) ≡ None → lookup test (cond c es (e ∷ remove_entry other es)) ≡ None
    go true c is later none = cc
    go false true is later none = none
    go false false is later none = rw is (later none)

some_removed : (es : List (Digest × ℕ)) (k r : Digest) → is_some (find (without es k) r) ≡ true → is_some (find es r) ≡ true
some_removed es k r h = go (find es r) refl
  where
    go : (o : Option ℕ) → find es r ≡ o → is_some o ≡ true
    go None e = let none = none_removed (is_at (digest_cmp r)) (is_at (digest_cmp k)) es e in cc
    go (Some n) e = refl

none_purged_one : (o : Option Blob) (m : List (Digest × Blob)) (x r : Digest) → find m r ≡ None → find (changed m (purge_of o x)) r ≡ None
none_purged_one None m x r h = h
none_purged_one (Some b) m x r h = none_removed (is_at (digest_cmp r)) (is_at (digest_cmp x)) m h

pub none_purged : (from m : List (Digest × Blob)) (rs : List Digest) (r : Digest) → find m r ≡ None → find (changed m (purges from rs)) r ≡ None
none_purged from m [] r h = h
none_purged from m (x ∷ rs) r h =
    ap (λ es. find es r) (changed-append m (purge_of (find from x) x) (purges (without from x) rs))
    ∙ none_purged (without from x) (changed m (purge_of (find from x) x)) rs r (none_purged_one (find from x) m x r h)

-- ---- what a reply tells

granted_new : (o : Option ℕ) (f : Option Blob) (b c d : Bool) (h need room : ℕ) → Chosen (unless_stopped o (cond (is_some (cond b None f)) (Only Exists) (cond b (Only (Leaving h)) (cond c (Only InFlight) (cond d (Only (NoSpace need room)) (Only Granted)))))) Granted → (f ≡ None) × (c ≡ false)
granted_new (Some t) f b c d h need room k = cc
granted_new None f true c d h need room k = cc
granted_new None (Some x) false c d h need room k = cc
granted_new None None false true d h need room k = cc
granted_new None None false false d h need room k = (refl, refl)

nothing : (o : Option ℕ) → is_some o ≡ false → o ≡ None
nothing None h = refl
nothing (Some x) h = cc

added : (o : Option ℕ) (c : Choice) (q : Reply) → Chosen (if_added o (λ n. c)) q → is_some o ≡ true
added None c q h = absurd h
added (Some n) c q h = refl

-- ---- adds under way

-- each add's root stands once, and isn't in the map
pub record Fresh (s : State) : Type 0 where
  pub once : Once digest_cmp s.adds
  pub new : (r : Digest) → is_some (find s.adds r) ≡ true → find s.map r ≡ None

-- a root that settles isn't in the map
pub settles_new : (g : Setting) (s : State) (w : Who) (r : Digest) (q : Reply) → Fresh s → Chosen (choice g s w (Settle r)) q → find s.map r ≡ None
settles_new g s w r q k c = k.new r (added (find s.adds r) (unless_stopped s.stopped (settle_choice s)) q c)

module _ (s : State) (k : Fresh s) where
  fresh_same : (t : State) → t.map ≡ s.map → t.adds ≡ s.adds → Fresh t
  fresh_same t map adds = record {
    once = rw adds k.once;
    new = λ r h. ap (λ m. find m r) map ∙ k.new r (ap (λ m. is_some (find m r)) (sym adds) ∙ h);
  }

  fresh_ended : (r : Digest) → Fresh (add_ends s r)
  fresh_ended r = record {
    once = once_remove digest_cmp s.adds r k.once;
    new = λ x h. k.new x (some_removed s.adds r x h);
  }

  -- the queue is purged
  fresh_purged : (t : State) → t.map ≡ changed s.map (queued s ++ []) → t.adds ≡ s.adds → Fresh t
  fresh_purged t map adds = record {
    once = rw adds k.once;
    new = λ r h. ap (λ m. find m r) (map ∙ changed-append s.map (queued s) []) ∙ none_purged s.map s.map s.queue r (k.new r (ap (λ m. is_some (find m r)) (sym adds) ∙ h));
  }

  fresh_granted : (r : Digest) (n : ℕ) → find s.map r ≡ None → find s.adds r ≡ None → Fresh (begun s r n Granted)
  fresh_granted r n free none = record {
    once = once_insert digest_cmp one_digest s.adds r n none k.once;
    new = λ x h. pick x (same_digest x r) refl (ap is_some (sym (lookup-insert_entry digest_total s.adds r n x)) ∙ h);
  }
    where
      pick : (x : Digest) (b : Bool) → same_digest x r ≡ b → is_some (cond b (Some n) (find s.adds x)) ≡ true → find s.map x ≡ None
      pick x true e h = ap (find s.map) (one_digest x r e) ∙ free
      pick x false e h = k.new x h

  fresh_published : (r : Digest) (b : Blob) → Fresh (settled s r b Published)
  fresh_published r b = record {
    once = once_remove digest_cmp s.adds r k.once;
    new = λ x h. ap (λ m. find m x) (changed-append s.map (queued s) (Publish r b ∷ [])) ∙ lookup-insert_entry digest_total (changed s.map (queued s)) r b x ∙ pick x (same_digest x r) refl h;
  }
    where
      pick : (x : Digest) (c : Bool) → same_digest x r ≡ c → is_some (find (without s.adds r) x) ≡ true → cond c (Some b) (find (changed s.map (queued s)) x) ≡ None
      pick x true e h = let gone = ap (λ (y : Digest). find (without s.adds y) x) (sym (one_digest x r e)) ∙ none-left (is_at (digest_cmp x)) s.adds (k.once x) in cc
      pick x false e h = none_purged s.map s.map s.queue x (k.new x (some_removed s.adds r x h))

module _ (g : Setting) (s : State) (w : Who) (k : Fresh s) where
  fresh_begun : (r : Digest) (n : ℕ) (q : Reply) → Chosen (choice g s w (Begin r n)) q → Fresh (begun s r n q)
  fresh_begun r n Granted c =
      let e = granted_new s.stopped (find s.map r) (is_unlinked s r) (is_some (find s.adds r)) (nat_lt (room_in g s) (need_of g.version n)) (holders s.slots r) (need_of g.version n) (room_in g s) c in
      fresh_granted s k r n e.0 (nothing (find s.adds r) e.1)
  fresh_begun r n _ c = k

  fresh_admitted : (r : Digest) (q : Reply) → Fresh (admitted s r q)
  fresh_admitted r Admitted = k
  fresh_admitted r _ = fresh_ended s k r

  fresh_settled : (r : Digest) (b : Blob) (q : Reply) → Fresh (settled s r b q)
  fresh_settled r b Published = fresh_published s k r b
  fresh_settled r b (DeviceFault f) = record { once = (fresh_ended s k r).once; new = (fresh_ended s k r).new }
  fresh_settled r b _ = fresh_ended s k r

  fresh_synced : (q : Reply) → Fresh (sync_done s q)
  fresh_synced Synced = fresh_purged s k (made_durable s) refl refl
  fresh_synced (DeviceFault f) = record { once = k.once; new = k.new }
  fresh_synced _ = k

  fresh_unmounted : (q : Reply) → Fresh (unmount_done s q)
  fresh_unmounted Unmounted = fresh_purged s k (made_durable s) refl refl
  fresh_unmounted (DeviceFault f) = record { once = k.once; new = k.new }
  fresh_unmounted _ = k

fresh_put : (s : State) (q : Reply) → Fresh s → Fresh (put_done s q)
fresh_put s (DeviceFault f) k = record { once = k.once; new = k.new }
fresh_put s _ k = k

-- ---- events that leave the map

let_go_map : (s : State) (r : Digest) → (let_go s r).map ≡ s.map
let_go_map s r = go (among s.leaving r && not (is_held s.slots r))
  where
    go : (b : Bool) → (cond b (record s { leaving = remove_key (is_at (digest_cmp r)) s.leaving; queue = s.queue ++ r ∷ [] }) s).map ≡ s.map
    go true = refl
    go false = refl

pub emptied_map : (s : State) (p : Place) (o : Option Digest) → (emptied s p o).map ≡ s.map
emptied_map s p None = refl
emptied_map s p (Some r) = let_go_map (record s { slots = remove_entry (is_at (place_cmp p)) s.slots }) r

pub closed_map : (s : State) (p : Place) (q : Reply) → (closed s p q).map ≡ s.map
closed_map s p Closed = emptied_map s p (held s.slots p)
closed_map s p _ = refl

pub opened_map : (s : State) (p : Place) (r : Digest) (q : Reply) → (opened s p r q).map ≡ s.map
opened_map s p r (Opened n) = refl
opened_map s p r _ = refl

pub unlinked_map : (s : State) (r : Digest) (q : Reply) → (unlinked s r q).map ≡ s.map
unlinked_map s r Unlinked = go (is_held s.slots r)
  where
    go : (b : Bool) → (cond b (record s { leaving = insert_key digest_cmp s.leaving r }) (record s { queue = s.queue ++ r ∷ [] })).map ≡ s.map
    go true = refl
    go false = refl
unlinked_map s r _ = refl

-- ---- one event

pub fresh_change : (g : Setting) (s : State) (w : Who) (a : Act) (q : Reply) → Fresh s → Chosen (choice g s w a) q → Fresh (change g s w a q)
fresh_change g s w (Begin r n) q k c = fresh_begun g s w k r n q c
fresh_change g s w (Admit r) q k c = fresh_admitted g s w k r q
fresh_change g s w (Put i) q k c = fresh_put s q k
fresh_change g s w (Settle r) q k c = fresh_settled g s w k r (blob_of g (find s.adds r)) q
fresh_change g s w (Retire r) q k c = fresh_ended s k r
fresh_change g s w (Open slot r) q k c = fresh_same s k (opened s (place_of w slot) r q) (opened_map s (place_of w slot) r q) (opened_adds s (place_of w slot) r q)
fresh_change g s w (Fetch slot i) q k c = k
fresh_change g s w (Read slot off len) q k c = k
fresh_change g s w (Scan slot) q k c = k
fresh_change g s w (Close slot) q k c = fresh_same s k (closed s (place_of w slot) q) (closed_map s (place_of w slot) q) (closed_adds s (place_of w slot) q)
fresh_change g s w (Unlink r) q k c = fresh_same s k (unlinked s r q) (unlinked_map s r q) (unlinked_adds s r q)
fresh_change g s w Sync q k c = fresh_synced g s w k q
fresh_change g s w ListAll q k c = k
fresh_change g s w Unmount q k c = fresh_unmounted g (slots_emptied s) w (record { once = k.once; new = k.new }) q
