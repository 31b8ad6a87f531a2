-- What is known of a root, event by event.
use Rattle.std.proofs.Common.{◌≡◌, ℕ, ◌+◌, ◌<◌, Bool, true, false, cond, not, is_some, ◌&&◌, Option, Some, None, [], ◌∷◌, ◌++◌, length, get_or, refl, ap, sym, ◌∙◌}
use Rattle.std.specs.BTreeMap.{insert_entry, is_at}
use Rattle.std.specs.BTreeSet.{insert_key}
use Rattle.std.specs.Map.{remove_entry}
use Rattle.std.specs.Option.{unwrap_or, option_map}
use Rattle.std.specs.Set.{remove_key}
use Rattle.spec_tree.specs.declared.Digest.{Digest}
use Rattle.spec_tree.specs.declared.blob.Blob.{Blob}
use Rattle.spec_tree.specs.Order.{digest_cmp, same_digest}
use Rattle.spec_tree.specs.Tree.{need_of}
use Rattle.bv_model.proofs.Adds.{Tabled, find-without, find-purged, granted_new, settled_added, tabled_at}
use Rattle.spec_core.proofs.EntryLemmas.{lookup-insert_entry}
use Rattle.spec_core.proofs.Holding.{digest_total, one_digest, changed-append}
use Rattle.bv_model.proofs.Rescans.{fits_at, state_more}
use Rattle.spec_core.specs.Change.{change, begun, admitted, put_done, blob_of, settled, opened, let_go, emptied, closed, unlinked, sync_done, slots_emptied, unmount_done, made_durable, add_ends}
use Rattle.spec_core.specs.Choice.{choice, place_of}
use Rattle.spec_core.specs.History.{History, setting_of, opening_map, Legal}
use Rattle.spec_core.specs.Log.{changed, queued}
use Rattle.spec_core.specs.Order.{place_cmp}
use Rattle.bv_model.specs.Rescan.{state_at}
use Rattle.spec_core.specs.Room.{blob_need}
use Rattle.spec_core.specs.State.{State, find, among, held, is_held}
use Rattle.spec_core.specs.Step.{Chosen}
use Rattle.bv_model.specs.Taking.{Knows, known_next, adding_of, begin_adding, admit_adding, settle_adding, add_need, NeedsAt}
use Rattle.spec_core.specs.declared.act.Act.{Act}
use Rattle.spec_core.specs.declared.act.Act.TheVariants.{Begin, Admit, Put, Settle, Retire, Open, Fetch, Read, Scan, Close, Unlink, Sync, List as ListAll, Unmount}
use Rattle.bv_model.specs.declared.adding.AddEffect.TheVariants.{Begins, Ends, Publishes}
use Rattle.spec_core.specs.declared.event.CoreEvent.{CoreEvent}
use Rattle.spec_core.specs.declared.map_change.MapChange.TheVariants.{Publish}
use Rattle.spec_core.specs.declared.place.Place.{Place}
use Rattle.spec_core.specs.declared.reply.Reply.{Reply}
use Rattle.spec_core.specs.declared.reply.Reply.TheVariants.{Granted, Admitted, Published, Opened, Closed, Unlinked, Synced, Unmounted, DeviceFault}
use Rattle.bv_model.specs.declared.room.Known.{Known}
use Rattle.spec_core.specs.declared.setting.Setting.{Setting}
use Rattle.spec_core.specs.declared.who.Who.{Who}

module _ (g : Setting) (s : State) (r : Digest) (k : Known) (n : Knows g s r k) (t : Tabled s) where
  knows_granted : (x : Digest) (size : ℕ) → find s.map x ≡ None → Knows g (record s { adds = insert_entry digest_cmp s.adds x size }) r (known_next r k g.version (Begins x size))
  knows_granted x size free = go (same_digest r x) refl (lookup-insert_entry digest_total s.adds x size r)
    where
      go : (b : Bool) → same_digest r x ≡ b → find (insert_entry digest_cmp s.adds x size) r ≡ cond b (Some size) (find s.adds r) → Knows g (record s { adds = insert_entry digest_cmp s.adds x size }) r (cond b (record { blob = record { size = size; version = g.version }; adding = true }) k)
      go true e h = record { adds = h; version = λ _. refl; map = λ blob was. let none = sym (ap (find s.map) (one_digest r x e) ∙ free) ∙ was in cc }
      go false e h = record { adds = h ∙ n.adds; version = n.version; map = n.map }

  knows_begun : (x : Digest) (size : ℕ) (w : Who) (q : Reply) → Chosen (choice g s w (Begin x size)) q → Knows g (begun s x size q) r (known_next r k g.version (begin_adding x size q))
  knows_begun x size w Granted c = knows_granted x size (granted_new g s w x size c).0
  knows_begun x size w _ c = n

  knows_ended : (x : Digest) → Knows g (add_ends s x) r (known_next r k g.version (Ends x))
  knows_ended x = go (same_digest r x) (find-without s.adds x r t.adds)
    where
      go : (b : Bool) → find (add_ends s x).adds r ≡ cond b None (find s.adds r) → Knows g (add_ends s x) r (cond b (record k { adding = false }) k)
      go true h = record { adds = h; version = λ e. cc; map = n.map }
      go false h = record { adds = h ∙ n.adds; version = n.version; map = n.map }

  knows_admitted : (x : Digest) (q : Reply) → Knows g (admitted s x q) r (known_next r k g.version (admit_adding x q))
  knows_admitted x Admitted = n
  knows_admitted x _ = knows_ended x

  -- the blob of an add under way is known
  its_blob : (b : Bool) → k.adding ≡ b → is_some (find s.adds r) ≡ true → blob_of g (find s.adds r) ≡ k.blob
  its_blob true e h = ap (blob_of g) (n.adds ∙ ap (λ (b : Bool). cond b (Some k.blob.size) None) e) ∙ ap (λ (v : ℕ). record { size = k.blob.size; version = v }) (sym (n.version e))
  its_blob false e h = let none = sym (ap is_some (n.adds ∙ ap (λ (b : Bool). cond b (Some k.blob.size) None) e)) ∙ h in cc

  knows_published : (x : Digest) → is_some (find s.adds x) ≡ true → Knows g (settled s x (blob_of g (find s.adds x)) Published) r (known_next r k g.version (Publishes x))
  knows_published x here =
      let blob : Blob = blob_of g (find s.adds x) in
      go blob refl (same_digest r x) refl (find-without s.adds x r t.adds) (ap (λ es. find es r) (changed-append s.map (queued s) (Publish x blob ∷ [])) ∙ lookup-insert_entry digest_total (changed s.map (queued s)) x blob r)
    where
      the_same : (a b : Blob) → Some a ≡ Some b → a ≡ b
      the_same a b h = cc

      go : (blob : Blob) → blob ≡ blob_of g (find s.adds x) → (b : Bool) → same_digest r x ≡ b → find (settled s x blob Published).adds r ≡ cond b None (find s.adds r) → find (settled s x blob Published).map r ≡ cond b (Some blob) (find (changed s.map (queued s)) r)
          → Knows g (settled s x blob Published) r (cond b (record k { adding = false }) k)
      go blob is true e h m = record {
        adds = h;
        version = λ a. cc;
        map = λ b was. sym (its_blob k.adding refl (ap (λ (y : Digest). is_some (find s.adds y)) (one_digest r x e) ∙ here)) ∙ ap (λ (y : Digest). blob_of g (find s.adds y)) (one_digest r x e) ∙ sym is ∙ the_same blob b (sym m ∙ was);
      }
      go blob is false e h m = record { adds = h ∙ n.adds; version = n.version; map = λ b was. n.map b (find-purged s.map s.map s.queue r b t.map (sym m ∙ was)) }

  knows_settled : (x : Digest) (q : Reply) → is_some (find s.adds x) ≡ true → Knows g (settled s x (blob_of g (find s.adds x)) q) r (known_next r k g.version (settle_adding x q))
  knows_settled x Published here = knows_published x here
  knows_settled x (DeviceFault f) here = let e = knows_ended x in record { adds = e.adds; version = e.version; map = e.map }
  knows_settled x _ here = knows_ended x

  knows_put : (q : Reply) → Knows g (put_done s q) r k
  knows_put (DeviceFault f) = record { adds = n.adds; version = n.version; map = n.map }
  knows_put _ = n

  knows_durable : Knows g (made_durable s) r k
  knows_durable = record {
    adds = n.adds;
    version = n.version;
    map = λ b was. n.map b (find-purged s.map s.map s.queue r b t.map (sym (ap (λ es. find es r) (changed-append s.map (queued s) [])) ∙ was));
  }

  knows_sync : (q : Reply) → Knows g (sync_done s q) r k
  knows_sync Synced = knows_durable
  knows_sync (DeviceFault f) = record { adds = n.adds; version = n.version; map = n.map }
  knows_sync _ = n

  knows_opened : (p : Place) (x : Digest) (q : Reply) → Knows g (opened s p x q) r k
  knows_opened p x (Opened m) = record { adds = n.adds; version = n.version; map = n.map }
  knows_opened p x _ = n

  knows_let_go : (u : State) (x : Digest) → u.adds ≡ s.adds → u.map ≡ s.map → Knows g (let_go u x) r k
  knows_let_go u x a m = go (among u.leaving x && not (is_held u.slots x))
    where
      go : (b : Bool) → Knows g (cond b (record u { leaving = remove_key (is_at (digest_cmp x)) u.leaving; queue = u.queue ++ x ∷ [] }) u) r k
      go true = record { adds = rw a n.adds; version = n.version; map = rw m n.map }
      go false = record { adds = rw a n.adds; version = n.version; map = rw m n.map }

  knows_emptied : (p : Place) (o : Option Digest) → Knows g (emptied s p o) r k
  knows_emptied p (Some x) = knows_let_go (record s { slots = remove_entry (is_at (place_cmp p)) s.slots }) x refl refl
  knows_emptied p None = n

  knows_closed : (p : Place) (q : Reply) → Knows g (closed s p q) r k
  knows_closed p Closed = knows_emptied p (held s.slots p)
  knows_closed p _ = n

  knows_unlinked : (x : Digest) (q : Reply) → Knows g (unlinked s x q) r k
  knows_unlinked x Unlinked = go (is_held s.slots x)
    where
      go : (b : Bool) → Knows g (cond b (record s { leaving = insert_key digest_cmp s.leaving x }) (record s { queue = s.queue ++ x ∷ [] })) r k
      go true = record { adds = n.adds; version = n.version; map = n.map }
      go false = record { adds = n.adds; version = n.version; map = n.map }
  knows_unlinked x _ = n

knows_unmount : (g : Setting) (s : State) (r : Digest) (k : Known) → Knows g s r k → Tabled s → (q : Reply) → Knows g (unmount_done s q) r k
knows_unmount g s r k n t Unmounted = knows_durable g s r k n t
knows_unmount g s r k n t (DeviceFault f) = record { adds = n.adds; version = n.version; map = n.map }
knows_unmount g s r k n t _ = n

knows_change : (g : Setting) (s : State) (w : Who) (a : Act) (q : Reply) (r : Digest) (k : Known) → Knows g s r k → Tabled s → Chosen (choice g s w a) q → Knows g (change g s w a q) r (known_next r k g.version (adding_of a q))
knows_change g s w (Begin x size) q r k n t c = knows_begun g s r k n t x size w q c
knows_change g s w (Admit x) q r k n t c = knows_admitted g s r k n t x q
knows_change g s w (Put i) q r k n t c = knows_put g s r k n t q
knows_change g s w (Settle x) q r k n t c = knows_settled g s r k n t x q (settled_added g s w x q c)
knows_change g s w (Retire x) q r k n t c = knows_ended g s r k n t x
knows_change g s w (Open slot x) q r k n t c = knows_opened g s r k n t (place_of w slot) x q
knows_change g s w (Fetch slot i) q r k n t c = n
knows_change g s w (Read slot off len) q r k n t c = n
knows_change g s w (Scan slot) q r k n t c = n
knows_change g s w (Close slot) q r k n t c = knows_closed g s r k n t (place_of w slot) q
knows_change g s w (Unlink x) q r k n t c = knows_unlinked g s r k n t x q
knows_change g s w Sync q r k n t c = knows_sync g s r k n t q
knows_change g s w ListAll q r k n t c = n
knows_change g s w Unmount q r k n t c =
    knows_unmount g (slots_emptied s) r k (record { adds = n.adds; version = n.version; map = n.map }) (record { map = t.map; adds = t.adds; new = t.new; durable = t.durable }) q

-- before any event
pub knows_first : (h : History) (next : ℕ) (r : Digest) (o : Option Blob) (none : Blob) → o ≡ find (opening_map h) r → Knows (setting_of h) (state_at h next 0) r (record { blob = unwrap_or o none; adding = false })
knows_first h next r o none e = record { adds = refl; version = λ a. cc; map = λ b was. ap (λ (o : Option Blob). unwrap_or o none) (e ∙ was) }

-- after one event more
pub knows_more : (h : History) (next i : ℕ) (d : CoreEvent) (r : Digest) (k : Known) → Legal h next → i < length h.events → Knows (setting_of h) (state_at h next i) r k
    → Knows (setting_of h) (state_at h next (i + 1)) r (known_next r k h.version (adding_of (get_or h.events i d).act (get_or h.events i d).reply))
knows_more h next i d r k legal short n =
    let e : CoreEvent = get_or h.events i d in
    rw (state_more h next i d short) (knows_change (setting_of h) (state_at h next i) e.who e.act e.reply r k n (tabled_at h next i legal) (fits_at h next legal i d short))

-- what is known tells the blocks
pub knows_add : (g : Setting) (s : State) (r : Digest) (k : Known) → Knows g s r k → (b : Bool) → k.adding ≡ b → cond b (need_of g.version k.blob.size) 0 ≡ add_need g s r
knows_add g s r k n true e = ap (λ (o : Option ℕ). unwrap_or (option_map (need_of g.version) o) 0) (sym (n.adds ∙ ap (λ (b : Bool). cond b (Some k.blob.size) None) e))
knows_add g s r k n false e = ap (λ (o : Option ℕ). unwrap_or (option_map (need_of g.version) o) 0) (sym (n.adds ∙ ap (λ (b : Bool). cond b (Some k.blob.size) None) e))

pub knows_blob : (g : Setting) (s : State) (r : Digest) (k : Known) → Knows g s r k → NeedsAt s r (blob_need k.blob)
knows_blob g s r k n blob was = ap blob_need (n.map blob was)
