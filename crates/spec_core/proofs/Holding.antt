-- A root that a slot holds stays in the map.
use Rattle.std.proofs.Common.{◌≡◌, ℕ, Bool, true, false, cond, not, is_some, ◌&&◌, ◌||◌, Option, Some, None, List, [], ◌∷◌, ◌++◌, refl, ap, ◌∙◌}
use Rattle.std.specs.declared.cmp.Ordering.{Ordering}
use Rattle.std.specs.declared.cmp.Ordering.TheVariants.{Less, Equal, Greater}
use Rattle.std.specs.Ordering.{is_eq}
use Rattle.std.specs.Cmp.{IsTotalOrder, eq_by_cmp_equiv}
use Rattle.std.specs.Cmp.Lexicographic.{nat_list_cmp_total}
use Rattle.std.specs.BTreeMap.{insert_entry, is_at}
use Rattle.std.specs.BTreeSet.{insert_key}
use Rattle.std.specs.Map.{remove_entry}
use Rattle.std.specs.Set.{remove_key}
use Rattle.std.proofs.lemmas.Cmp.{on_total}
use Rattle.std.proofs.lemmas.Map.Lookups.{exact_bytes}
use Rattle.std.proofs.lemmas.List.Folds.{list_any-append}
use Rattle.spec_tree.specs.declared.Digest.{Digest}
use Rattle.spec_core.proofs.EntryLemmas.{lookup-insert_entry, lookup-remove_other, any-remove_entry, any-insert_entry}
use Rattle.spec_core.specs.Change.{change, begun, admitted, put_done, blob_of, settled, opened, let_go, emptied, closed, unlinked, sync_done, slots_emptied, unmount_done}
use Rattle.spec_core.specs.Choice.{choice, open_choice, place_of}
use Rattle.spec_core.specs.History.{setting_of, opening_map, first_state}
use Rattle.spec_core.specs.Laws.{HeldRootsStay}
use Rattle.spec_core.specs.Log.{changed, purges, purge_of, queued, flushed, without}
use Rattle.spec_tree.specs.Order.{digest_cmp, same_digest}
use Rattle.spec_core.specs.Order.{place_cmp}
use Rattle.spec_core.specs.State.{State, find, among, held, is_held, is_unlinked, present}
use Rattle.spec_core.specs.Step.{Chosen, Steps, after, state_after}
use Rattle.spec_core.specs.declared.act.Act.{Act}
use Rattle.spec_core.specs.declared.act.Act.TheVariants.{Begin, Admit, Put, Settle, Retire, Open, Fetch, Read, Scan, Close, Unlink, Sync, List as ListAll, Unmount}
use Rattle.spec_tree.specs.declared.blob.Blob.{Blob}
use Rattle.spec_core.specs.declared.event.CoreEvent.{CoreEvent}
use Rattle.spec_core.specs.declared.map_change.MapChange.{MapChange}
use Rattle.spec_core.specs.declared.map_change.MapChange.TheVariants.{Publish, Purge}
use Rattle.spec_core.specs.declared.place.Place.{Place}
use Rattle.spec_core.specs.declared.reply.Reply.{Reply}
use Rattle.spec_core.specs.declared.reply.Reply.TheVariants.{Granted, Admitted, Published, Opened, Closed, Unlinked, Synced, Unmounted, DeviceFault}
use Rattle.spec_core.specs.declared.setting.Setting.{Setting}
use Rattle.spec_core.specs.declared.who.Who.{Who}

pub digest_total : IsTotalOrder digest_cmp
digest_total = on_total (λ (d : Digest). d.0) nat_list_cmp_total

is_Equal : (o : Ordering) → is_eq o ≡ true → o ≡ Equal
is_Equal Less h = cc
is_Equal Equal h = refl
is_Equal Greater h = cc

pub one_digest : (r x : Digest) → same_digest r x ≡ true → r ≡ x
one_digest r x h = ap (λ (b : List ℕ). record { 0 = b }) (exact_bytes r.0 x.0 (is_Equal _ h))

pub same_self : (r : Digest) → same_digest r r ≡ true
same_self r = (eq_by_cmp_equiv digest_total).refl r

pub or_false : (a b : Bool) → (a || b) ≡ false → (a ≡ false) × (b ≡ false)
or_false true b h = cc
or_false false b h = (refl, h)

both_false : (a b : Bool) → a ≡ false → b ≡ false → (a || b) ≡ false
both_false true b h g = h
both_false false b h g = g

pub or_true : {P : Type 0} (a b : Bool) → (a || b) ≡ true → (a ≡ true → P) → (b ≡ true → P) → P
or_true true b h f g = f refl
or_true false b h f g = g h

pub if_present : (b : Bool) (o : Option Blob) → is_some (cond b None o) ≡ true → (b ≡ false) × (is_some o ≡ true)
if_present true o h = cc
if_present false o h = (refl, h)

present_means : (s : State) (r : Digest) → is_some (present s r) ≡ true → (is_some (find s.map r) ≡ true) × (among s.queue r ≡ false)
present_means s r h =
    let p = if_present (is_unlinked s r) (find s.map r) h in (p.1, (or_false (among s.leaving r) (among s.queue r) p.0).1)

was_present : (o : Option Blob) (h : Option Digest) (n : ℕ) → Chosen (open_choice o h) (Opened n) → is_some o ≡ true
was_present None h n c = cc
was_present (Some b) h n c = refl

pub changed-append : (m : List (Digest × Blob)) (cs bs : List MapChange) → changed m (cs ++ bs) ≡ changed (changed m cs) bs
changed-append m [] bs = refl
changed-append m (Publish r b ∷ cs) bs = changed-append (insert_entry digest_cmp m r b) cs bs
changed-append m (Purge r b ∷ cs) bs = changed-append (without m r) cs bs

find-purge_of : (o : Option Blob) (m : List (Digest × Blob)) (x r : Digest) → same_digest r x ≡ false → find (changed m (purge_of o x)) r ≡ find m r
find-purge_of None m x r h = refl
find-purge_of (Some b) m x r h = lookup-remove_other digest_total m x r ((eq_by_cmp_equiv digest_total).symm x r ∙ h)

-- purges leave what is at other roots
pub find-purges : (from m : List (Digest × Blob)) (rs : List Digest) (r : Digest) → among rs r ≡ false → find (changed m (purges from rs)) r ≡ find m r
find-purges from m [] r h = refl
find-purges from m (x ∷ rs) r h =
    let p = or_false (same_digest r x) (among rs r) h in
    let left : List (Digest × Blob) = without from x in
    ap (λ es. find es r) (changed-append m (purge_of (find from x) x) (purges left rs)) ∙ find-purges left (changed m (purge_of (find from x) x)) rs r p.1 ∙ find-purge_of (find from x) m x r p.0

-- a root that a slot holds is in the map, and isn't queued
abbrev pub Keeps : State → Type 0
Keeps s = (r : Digest) → is_held s.slots r ≡ true → (is_some (find s.map r) ≡ true) × (among s.queue r ≡ false)

unlike : (s : State) (r x : Digest) → is_held s.slots r ≡ true → is_held s.slots x ≡ false → (b : Bool) → same_digest r x ≡ b → b ≡ false
unlike s r x h free true e = let j = rw (one_digest r x e) at h in cc
unlike s r x h free false e = refl

module _ (s : State) (x : Digest) (k : Keeps s) where
  queued_keeps : is_held s.slots x ≡ false → Keeps (record s { queue = s.queue ++ x ∷ [] })
  queued_keeps free r h =
      ((k r h).0, list_any-append (same_digest r) s.queue (x ∷ []) ∙ both_false (among s.queue r) _ (k r h).1 (both_false _ false (unlike s r x h free _ refl) refl))

  held_more : (p : Place) → is_some (present s x) ≡ true → Keeps (record s { slots = insert_entry place_cmp s.slots p x })
  held_more p h r was =
      or_true (same_digest r x) (is_held s.slots r) (any-insert_entry (same_digest r) place_cmp s.slots p x was)
      (λ e. rw (one_digest r x e) (present_means s x h))
      (λ a. k r a)

  let_go_keeps : Keeps (let_go s x)
  let_go_keeps = go (among s.leaving x) (is_held s.slots x) refl
    where
      go : (a b : Bool) → is_held s.slots x ≡ b → Keeps (cond (a && not b) (record s { leaving = remove_key (is_at (digest_cmp x)) s.leaving; queue = s.queue ++ x ∷ [] }) s)
      go true false e = queued_keeps e
      go true true e = k
      go false b e = k

  unlinked_keeps : (q : Reply) → Keeps (unlinked s x q)
  unlinked_keeps Unlinked = go (is_held s.slots x) refl
    where
      go : (b : Bool) → is_held s.slots x ≡ b → Keeps (cond b (record s { leaving = insert_key digest_cmp s.leaving x }) (record s { queue = s.queue ++ x ∷ [] }))
      go true e = k
      go false e = queued_keeps e
  unlinked_keeps _ = k

module _ (s : State) (k : Keeps s) where
  held_less : (p : Place) → Keeps (record s { slots = remove_entry (is_at (place_cmp p)) s.slots })
  held_less p r h = k r (any-remove_entry (same_digest r) (is_at (place_cmp p)) s.slots h)

  purged_keeps : (r : Digest) → is_held s.slots r ≡ true → is_some (find (changed s.map (queued s)) r) ≡ true
  purged_keeps r h = ap is_some (find-purges s.map s.map s.queue r (k r h).1) ∙ (k r h).0

  flush_keeps : Keeps (flushed s [])
  flush_keeps r h = (ap (λ es. is_some (find es r)) (changed-append s.map (queued s) []) ∙ purged_keeps r h, refl)

  published_keeps : (x : Digest) (b : Blob) → Keeps (flushed s (Publish x b ∷ []))
  published_keeps x b r h =
      (ap (λ es. is_some (find es r)) (changed-append s.map (queued s) (Publish x b ∷ [])) ∙ ap is_some (lookup-insert_entry digest_total (changed s.map (queued s)) x b r) ∙ still (same_digest r x) _ (purged_keeps r h), refl)
    where
      still : (t : Bool) (o : Option Blob) → is_some o ≡ true → is_some (cond t (Some b) o) ≡ true
      still true o e = refl
      still false o e = e

  settled_keeps : (x : Digest) (b : Blob) (q : Reply) → Keeps (settled s x b q)
  settled_keeps x b Published = published_keeps x b
  settled_keeps x b _ = k

  begun_keeps : (x : Digest) (n : ℕ) (q : Reply) → Keeps (begun s x n q)
  begun_keeps x n Granted = k
  begun_keeps x n _ = k

  admitted_keeps : (x : Digest) (q : Reply) → Keeps (admitted s x q)
  admitted_keeps x Admitted = k
  admitted_keeps x _ = k

  put_keeps : (q : Reply) → Keeps (put_done s q)
  put_keeps (DeviceFault f) = k
  put_keeps _ = k

  opened_keeps : (p : Place) (x : Digest) (q : Reply) → Chosen (open_choice (present s x) (held s.slots p)) q → Keeps (opened s p x q)
  opened_keeps p x (Opened n) c = held_more s x k p (was_present (present s x) (held s.slots p) n c)
  opened_keeps p x _ c = k

  emptied_keeps : (p : Place) (o : Option Digest) → Keeps (emptied s p o)
  emptied_keeps p (Some r) = let_go_keeps (record s { slots = remove_entry (is_at (place_cmp p)) s.slots }) r (held_less p)
  emptied_keeps p None = k

  closed_keeps : (p : Place) (q : Reply) → Keeps (closed s p q)
  closed_keeps p Closed = emptied_keeps p (held s.slots p)
  closed_keeps p _ = k

  sync_keeps : (q : Reply) → Keeps (sync_done s q)
  sync_keeps Synced = flush_keeps
  sync_keeps (DeviceFault f) = k
  sync_keeps _ = k

  unmount_keeps : (q : Reply) → Keeps (unmount_done (slots_emptied s) q)
  unmount_keeps Unmounted r h = cc
  unmount_keeps (DeviceFault f) r h = cc
  unmount_keeps _ r h = cc

  pub Keeps-change : (g : Setting) (w : Who) (a : Act) (q : Reply) → Chosen (choice g s w a) q → Keeps (change g s w a q)
  Keeps-change g w (Begin r n) q c = begun_keeps r n q
  Keeps-change g w (Admit r) q c = admitted_keeps r q
  Keeps-change g w (Put i) q c = put_keeps q
  Keeps-change g w (Settle r) q c = settled_keeps r (blob_of g (find s.adds r)) q
  Keeps-change g w (Retire r) q c = k
  Keeps-change g w (Open slot r) q c = opened_keeps (place_of w slot) r q c
  Keeps-change g w (Fetch slot i) q c = k
  Keeps-change g w (Read slot off len) q c = k
  Keeps-change g w (Scan slot) q c = k
  Keeps-change g w (Close slot) q c = closed_keeps (place_of w slot) q
  Keeps-change g w (Unlink r) q c = unlinked_keeps s r k q
  Keeps-change g w Sync q c = sync_keeps q
  Keeps-change g w ListAll q c = k
  Keeps-change g w Unmount q c = unmount_keeps q

pub Keeps-run : (g : Setting) (s : State) (es : List CoreEvent) → Keeps s → Steps g s es → Keeps (state_after g s es)
Keeps-run g s [] k a = k
Keeps-run g s (e ∷ es) k a = Keeps-run g (after g s e) es (Keeps-change s k g e.who e.act e.reply a.0) a.1

pub held_roots_stay : HeldRootsStay
held_roots_stay h next r legal = Keeps-run (setting_of h) (first_state (opening_map h) next) h.events (λ x a. cc) legal.steps r
