-- The adds under way: each root once, and none of them in the map. What is known of a root by them.
use Rattle.std.proofs.Common.{◌≡◌, ℕ, ◌+◌, ◌≤◌, Bool, true, false, cond, not, is_some, ◌&&◌, nat_lt, Option, Some, None, List, [], ◌∷◌, ◌++◌, length, length-append, refl, ap, sym, ◌∙◌, arith}
use Rattle.std.specs.Cmp.{eq_by_cmp_equiv}
use Rattle.std.specs.List.{count_by, IsDistinct}
use Rattle.std.specs.List.Sorted.{IsStrictlySortedBy}
use Rattle.std.specs.BTreeMap.{insert_entry, is_at}
use Rattle.std.specs.BTreeSet.{insert_key}
use Rattle.std.specs.Map.{remove_entry, keys_of}
use Rattle.std.specs.Set.{remove_key}
use Rattle.std.specs.Ordering.{eq_by_cmp}
use Rattle.std.proofs.lemmas.Bool.Decides.{nat_tests}
use Rattle.std.proofs.lemmas.Map.{lookup-none}
use Rattle.std.proofs.lemmas.Map.Entries.{none_past_head}
use Rattle.std.proofs.lemmas.Map.Keys.{IsDistinct-from_sorted, IsDistinct-tail}
use Rattle.spec_tree.specs.Tree.{need_of}
use Rattle.spec_tree.specs.declared.Digest.{Digest}
use Rattle.spec_tree.specs.declared.blob.Blob.{Blob}
use Rattle.spec_tree.specs.Order.{digest_cmp, same_digest}
use Rattle.spec_core.proofs.Counting.{count-cons, count-insert_entry, count-remove_entry-le, none-counted, none-left}
use Rattle.spec_core.proofs.EntryLemmas.{lookup-insert_entry, lookup-remove_other}
use Rattle.spec_core.proofs.Holding.{digest_total, one_digest, changed-append}
use Rattle.bv_model.proofs.Rescans.{steps_to}
use Rattle.spec_core.specs.Change.{change, begun, admitted, put_done, blob_of, settled, opened, let_go, emptied, closed, unlinked, sync_done, slots_emptied, unmount_done, made_durable, add_ends}
use Rattle.spec_core.specs.Choice.{choice, settle_choice, if_added, place_of, unless_stopped}
use Rattle.spec_core.specs.History.{History, setting_of, opening_map, first_state, Legal}
use Rattle.spec_core.specs.Log.{changed, purges, purge_of, without, queued, failed}
use Rattle.spec_core.specs.Order.{place_cmp}
use Rattle.bv_model.specs.Rescan.{state_at}
use Rattle.bv_model.specs.Sole.{Sole, entries_at}
use Rattle.spec_core.specs.Room.{room_in}
use Rattle.spec_core.specs.State.{State, find, among, held, holders, is_held, is_unlinked, present}
use Rattle.spec_core.specs.Step.{Chosen, after, state_after, Steps}
use Rattle.spec_core.specs.declared.act.Act.{Act}
use Rattle.spec_core.specs.declared.act.Act.TheVariants.{Begin, Admit, Put, Settle, Retire, Open, Fetch, Read, Scan, Close, Unlink, Sync, List as ListAll, Unmount}
use Rattle.spec_core.specs.declared.choice.Choice.{Choice}
use Rattle.spec_core.specs.declared.choice.Choice.TheVariants.{Only}
use Rattle.spec_core.specs.declared.event.CoreEvent.{CoreEvent}
use Rattle.spec_core.specs.declared.map_change.MapChange.{MapChange}
use Rattle.spec_core.specs.declared.map_change.MapChange.TheVariants.{Publish}
use Rattle.spec_core.specs.declared.place.Place.{Place}
use Rattle.spec_core.specs.declared.reply.Reply.{Reply}
use Rattle.spec_core.specs.declared.reply.Reply.TheVariants.{Granted, Admitted, Published, Opened, Closed, Unlinked, Synced, Unmounted, DeviceFault, Exists, Leaving, InFlight, NoSpace}
use Rattle.spec_core.specs.declared.setting.Setting.{Setting}
use Rattle.spec_core.specs.declared.who.Who.{Who}

-- ---- entries at a root

one_more : (b : Bool) (n : ℕ) → n ≤ 1 → (b ≡ true → n ≡ 0) → cond b 1 0 + n ≤ 1
one_more true n h f = omega (arith, f refl)
one_more false n h f = omega (arith, h)

module _ {X : Type 0} where
  pub sole-insert : (es : List (Digest × X)) (k : Digest) (v : X) → find es k ≡ None → Sole es → Sole (insert_entry digest_cmp es k v)
  sole-insert es k v free o r =
      rw (count-insert_entry (λ e. is_at (digest_cmp r) e.0) digest_cmp es k v free)
      (one_more (same_digest r k) (entries_at r es) (o r) (λ e. none-counted (is_at (digest_cmp r)) es (ap (find es) (one_digest r k e) ∙ free)))

  pub sole-without : (es : List (Digest × X)) (k : Digest) → Sole es → Sole (without es k)
  sole-without es k o r = omega (arith, o r, count-remove_entry-le (λ e. is_at (digest_cmp r) e.0) (is_at (digest_cmp k)) es)

  pub find-without : (es : List (Digest × X)) (k r : Digest) → Sole es → find (without es k) r ≡ cond (same_digest r k) None (find es r)
  find-without es k r o = go (same_digest r k) refl
    where
      go : (b : Bool) → same_digest r k ≡ b → find (without es k) r ≡ cond b None (find es r)
      go true e = ap (λ (x : Digest). find (without es x) r) (sym (one_digest r k e)) ∙ none-left (is_at (digest_cmp r)) es (o r)
      go false e = lookup-remove_other digest_total es k r ((eq_by_cmp_equiv digest_total).symm k r ∙ e)

  distinct_sole : (es : List (Digest × X)) → IsDistinct (eq_by_cmp digest_cmp) (keys_of es) → Sole es
  distinct_sole [] d r = omega arith
  distinct_sole (e ∷ es) d r =
      rw (count-cons (λ (x : Digest × X). is_at (digest_cmp r) x.0) e es)
      (one_more (same_digest r e.0) (entries_at r es) (distinct_sole es (IsDistinct-tail (eq_by_cmp digest_cmp) e.0 (keys_of es) d) r) (λ same. none-counted (is_at (digest_cmp r)) es (lookup-none (is_at (digest_cmp r)) es (none_past_head (eq_by_cmp_equiv digest_total) r e es d same))))

  pub sorted_sole : (es : List (Digest × X)) → IsStrictlySortedBy digest_cmp (keys_of es) → Sole es
  sorted_sole es h = distinct_sole es (IsDistinct-from_sorted digest_cmp (keys_of es) h)

-- ---- purges take entries away, and change none

purged-one : (m : List (Digest × Blob)) (o : Option Blob) (x r : Digest) (blob : Blob) → Sole m → find (changed m (purge_of o x)) r ≡ Some blob → find m r ≡ Some blob
purged-one m None x r blob s h = h
purged-one m (Some b) x r blob s h = go (same_digest r x) (sym (find-without m x r s) ∙ h)
  where
    go : (c : Bool) → cond c None (find m r) ≡ Some blob → find m r ≡ Some blob
    go true e = cc
    go false e = e

sole-purge_of : (m : List (Digest × Blob)) (o : Option Blob) (x : Digest) → Sole m → Sole (changed m (purge_of o x))
sole-purge_of m None x s = s
sole-purge_of m (Some b) x s = sole-without m x s

pub sole-purges : (from m : List (Digest × Blob)) (rs : List Digest) → Sole m → Sole (changed m (purges from rs))
sole-purges from m [] s = s
sole-purges from m (x ∷ rs) s =
    let left : List (Digest × Blob) = without from x in
    rw (changed-append m (purge_of (find from x) x) (purges left rs)) (sole-purges left (changed m (purge_of (find from x) x)) rs (sole-purge_of m (find from x) x s))

pub find-purged : (from m : List (Digest × Blob)) (rs : List Digest) (r : Digest) (blob : Blob) → Sole m → find (changed m (purges from rs)) r ≡ Some blob → find m r ≡ Some blob
find-purged from m [] r blob s h = h
find-purged from m (x ∷ rs) r blob s h =
    let left : List (Digest × Blob) = without from x in
    purged-one m (find from x) x r blob s (find-purged left (changed m (purge_of (find from x) x)) rs r blob (sole-purge_of m (find from x) x s) (ap (λ es. find es r) (sym (changed-append m (purge_of (find from x) x) (purges left rs))) ∙ h))

pub find-purged_none : (from m : List (Digest × Blob)) (rs : List Digest) (r : Digest) → Sole m → find m r ≡ None → find (changed m (purges from rs)) r ≡ None
find-purged_none from m rs r s none = go (find (changed m (purges from rs)) r) refl
  where
    go : (o : Option Blob) → find (changed m (purges from rs)) r ≡ o → o ≡ None
    go None e = refl
    go (Some blob) e = let was = find-purged from m rs r blob s e in cc

-- ---- what the replies tell

granted : (o : Option ℕ) (a b c d : Bool) (h need room : ℕ) → Chosen (unless_stopped o (cond a (Only Exists) (cond b (Only (Leaving h)) (cond c (Only InFlight) (cond d (Only (NoSpace need room)) (Only Granted)))))) Granted → (a ≡ false) × (b ≡ false) × (c ≡ false) × (d ≡ false)
granted (Some f) a b c d h need room k = cc
granted None true b c d h need room k = cc
granted None false true c d h need room k = cc
granted None false false true d h need room k = cc
granted None false false false true h need room k = cc
granted None false false false false h need room k = (refl, refl, refl, refl)

nothing : {X : Type 0} (o : Option X) → is_some o ≡ false → o ≡ None
nothing None h = refl
nothing (Some x) h = cc

not_present : (b : Bool) (o : Option Blob) → is_some (cond b None o) ≡ false → b ≡ false → o ≡ None
not_present true o h e = cc
not_present false o h e = nothing o h

module _ (g : Setting) (s : State) (w : Who) (r : Digest) (n : ℕ) (c : Chosen (choice g s w (Begin r n)) Granted) where
  told : (is_some (present s r) ≡ false) × (is_unlinked s r ≡ false) × (is_some (find s.adds r) ≡ false) × (nat_lt (room_in g s) (need_of g.version n) ≡ false)
  told = granted s.stopped (is_some (present s r)) (is_unlinked s r) (is_some (find s.adds r)) (nat_lt (room_in g s) (need_of g.version n)) (holders s.slots r) (need_of g.version n) (room_in g s) c

  -- an add that is granted is new
  pub granted_new : (find s.map r ≡ None) × (find s.adds r ≡ None)
  granted_new = (not_present (is_unlinked s r) (find s.map r) told.0 told.1, nothing (find s.adds r) told.2)

  -- and there is room for it
  pub granted_fits : need_of g.version n ≤ room_in g s
  granted_fits = let fits = told.3 in grind (arith, nat_tests)

added : (o : Option ℕ) (c : Choice) (q : Reply) → Chosen (if_added o (λ n. c)) q → is_some o ≡ true
added None c q h = absurd h
added (Some n) c q h = refl

-- an add that settles is under way
pub settled_added : (g : Setting) (s : State) (w : Who) (r : Digest) (q : Reply) → Chosen (choice g s w (Settle r)) q → is_some (find s.adds r) ≡ true
settled_added g s w r q c = added (find s.adds r) (unless_stopped s.stopped (settle_choice s)) q c

-- ---- the lists of a state

pub record Tabled (s : State) : Type 0 where
  pub map : Sole s.map
  pub adds : Sole s.adds
  pub new : (r : Digest) → is_some (find s.adds r) ≡ true → find s.map r ≡ None
  pub durable : s.durable ≤ length s.log

module _ (s : State) (t : Tabled s) where
  tabled_ended : (r : Digest) → Tabled (add_ends s r)
  tabled_ended r = record {
    map = t.map;
    adds = sole-without s.adds r t.adds;
    new = λ x h. t.new x (still (find s.adds x) (same_digest x r) (ap is_some (sym (find-without s.adds r x t.adds)) ∙ h));
    durable = t.durable;
  }
    where
      still : (o : Option ℕ) (b : Bool) → is_some (cond b None o) ≡ true → is_some o ≡ true
      still o true h = cc
      still o false h = h

  tabled_granted : (r : Digest) (n : ℕ) → find s.map r ≡ None → find s.adds r ≡ None → Tabled (record s { adds = insert_entry digest_cmp s.adds r n })
  tabled_granted r n free none = record {
    map = t.map;
    adds = sole-insert s.adds r n none t.adds;
    new = λ x h. pick x (same_digest x r) refl (ap is_some (sym (lookup-insert_entry digest_total s.adds r n x)) ∙ h);
    durable = t.durable;
  }
    where
      pick : (x : Digest) (b : Bool) → same_digest x r ≡ b → is_some (cond b (Some n) (find s.adds x)) ≡ true → find s.map x ≡ None
      pick x true e h = ap (find s.map) (one_digest x r e) ∙ free
      pick x false e h = t.new x h

  tabled_begun : (r : Digest) (n : ℕ) (g : Setting) (w : Who) (q : Reply) → Chosen (choice g s w (Begin r n)) q → Tabled (begun s r n q)
  tabled_begun r n g w Granted c = let k = granted_new g s w r n c in tabled_granted r n k.0 k.1
  tabled_begun r n g w _ c = t

  tabled_admitted : (r : Digest) (q : Reply) → Tabled (admitted s r q)
  tabled_admitted r Admitted = t
  tabled_admitted r _ = tabled_ended r

  tabled_put : (q : Reply) → Tabled (put_done s q)
  tabled_put (DeviceFault f) = record { map = t.map; adds = t.adds; new = t.new; durable = t.durable }
  tabled_put _ = t

  tabled_published : (r : Digest) (blob : Blob) → is_some (find s.adds r) ≡ true → Tabled (settled s r blob Published)
  tabled_published r blob here = record {
    map = rw (changed-append s.map (queued s) (Publish r blob ∷ [])) (sole-insert (changed s.map (queued s)) r blob (find-purged_none s.map s.map s.queue r t.map (t.new r here)) (sole-purges s.map s.map s.queue t.map));
    adds = sole-without s.adds r t.adds;
    new = λ x h. ap (λ es. find es x) (changed-append s.map (queued s) (Publish r blob ∷ [])) ∙ lookup-insert_entry digest_total (changed s.map (queued s)) r blob x ∙ pick x (same_digest x r) (ap is_some (sym (find-without s.adds r x t.adds)) ∙ h);
    durable = omega (arith, t.durable, length-append s.log (queued s ++ Publish r blob ∷ []));
  }
    where
      pick : (x : Digest) (b : Bool) → is_some (cond b None (find s.adds x)) ≡ true → cond b (Some blob) (find (changed s.map (queued s)) x) ≡ None
      pick x true h = cc
      pick x false h = find-purged_none s.map s.map s.queue x t.map (t.new x h)

  tabled_failed : (cs : List MapChange) (f : ℕ) → Tabled (failed s cs f)
  tabled_failed cs f = record { map = t.map; adds = t.adds; new = t.new; durable = omega (arith, t.durable, length-append s.log (queued s ++ cs)) }

  tabled_durable : Tabled (made_durable s)
  tabled_durable = record {
    map = rw (changed-append s.map (queued s) []) (sole-purges s.map s.map s.queue t.map);
    adds = t.adds;
    new = λ x h. ap (λ es. find es x) (changed-append s.map (queued s) []) ∙ find-purged_none s.map s.map s.queue x t.map (t.new x h);
    durable = omega arith;
  }

  tabled_sync : (q : Reply) → Tabled (sync_done s q)
  tabled_sync Synced = tabled_durable
  tabled_sync (DeviceFault f) = tabled_failed [] f
  tabled_sync _ = t

  tabled_unmount : (q : Reply) → Tabled (unmount_done s q)
  tabled_unmount Unmounted = tabled_durable
  tabled_unmount (DeviceFault f) = tabled_failed [] f
  tabled_unmount _ = t

  tabled_opened : (p : Place) (r : Digest) (q : Reply) → Tabled (opened s p r q)
  tabled_opened p r (Opened n) = record { map = t.map; adds = t.adds; new = t.new; durable = t.durable }
  tabled_opened p r _ = t

  tabled_let_go : (r : Digest) → Tabled (let_go s r)
  tabled_let_go r = go (among s.leaving r && not (is_held s.slots r))
    where
      go : (b : Bool) → Tabled (cond b (record s { leaving = remove_key (is_at (digest_cmp r)) s.leaving; queue = s.queue ++ r ∷ [] }) s)
      go true = record { map = t.map; adds = t.adds; new = t.new; durable = t.durable }
      go false = t

  tabled_unlinked : (r : Digest) (q : Reply) → Tabled (unlinked s r q)
  tabled_unlinked r Unlinked = go (is_held s.slots r)
    where
      go : (b : Bool) → Tabled (cond b (record s { leaving = insert_key digest_cmp s.leaving r }) (record s { queue = s.queue ++ r ∷ [] }))
      go true = record { map = t.map; adds = t.adds; new = t.new; durable = t.durable }
      go false = record { map = t.map; adds = t.adds; new = t.new; durable = t.durable }
  tabled_unlinked r _ = t

tabled_settled : (s : State) (t : Tabled s) (r : Digest) (blob : Blob) (q : Reply) → is_some (find s.adds r) ≡ true → Tabled (settled s r blob q)
tabled_settled s t r blob Published here = tabled_published s t r blob here
tabled_settled s t r blob (DeviceFault f) here = tabled_ended (failed s (Publish r blob ∷ []) f) (tabled_failed s t (Publish r blob ∷ []) f) r
tabled_settled s t r blob _ here = tabled_ended s t r

tabled_emptied : (s : State) (t : Tabled s) (p : Place) (o : Option Digest) → Tabled (emptied s p o)
tabled_emptied s t p (Some r) = tabled_let_go (record s { slots = remove_entry (is_at (place_cmp p)) s.slots }) (record { map = t.map; adds = t.adds; new = t.new; durable = t.durable }) r
tabled_emptied s t p None = t

tabled_closed : (s : State) (t : Tabled s) (p : Place) (q : Reply) → Tabled (closed s p q)
tabled_closed s t p Closed = tabled_emptied s t p (held s.slots p)
tabled_closed s t p _ = t

pub tabled_slots_emptied : (s : State) → Tabled s → Tabled (slots_emptied s)
tabled_slots_emptied s t = record { map = t.map; adds = t.adds; new = t.new; durable = t.durable }

tabled_change : (g : Setting) (s : State) (w : Who) (a : Act) (q : Reply) → Tabled s → Chosen (choice g s w a) q → Tabled (change g s w a q)
tabled_change g s w (Begin r n) q t c = tabled_begun s t r n g w q c
tabled_change g s w (Admit r) q t c = tabled_admitted s t r q
tabled_change g s w (Put i) q t c = tabled_put s t q
tabled_change g s w (Settle r) q t c = tabled_settled s t r (blob_of g (find s.adds r)) q (settled_added g s w r q c)
tabled_change g s w (Retire r) q t c = tabled_ended s t r
tabled_change g s w (Open slot r) q t c = tabled_opened s t (place_of w slot) r q
tabled_change g s w (Fetch slot i) q t c = t
tabled_change g s w (Read slot off len) q t c = t
tabled_change g s w (Scan slot) q t c = t
tabled_change g s w (Close slot) q t c = tabled_closed s t (place_of w slot) q
tabled_change g s w (Unlink r) q t c = tabled_unlinked s t r q
tabled_change g s w Sync q t c = tabled_sync s t q
tabled_change g s w ListAll q t c = t
tabled_change g s w Unmount q t c = tabled_unmount (slots_emptied s) (tabled_slots_emptied s t) q

tabled_run : (g : Setting) (s : State) (es : List CoreEvent) → Tabled s → Steps g s es → Tabled (state_after g s es)
tabled_run g s [] t a = t
tabled_run g s (e ∷ es) t a = tabled_run g (after g s e) es (tabled_change g s e.who e.act e.reply t a.0) a.1

pub tabled_first : (blobs : List (Digest × Blob)) (next : ℕ) → IsStrictlySortedBy digest_cmp (keys_of blobs) → Tabled (first_state blobs next)
tabled_first blobs next h = record { map = sorted_sole blobs h; adds = λ r. omega arith; new = λ r e. cc; durable = omega arith }

pub tabled_at : (h : History) (next i : ℕ) → Legal h next → Tabled (state_at h next i)
tabled_at h next i legal = tabled_run (setting_of h) (first_state (opening_map h) next) _ (tabled_first (opening_map h) next legal.sorted) (steps_to h next legal i)
