-- The blocks that are taken, event by event.
use Rattle.std.proofs.Common.{◌≡◌, ℕ, ◌+◌, ◌-◌, ◌<◌, ◌≤◌, ◌==◌, Bool, true, false, cond, not, is_some, ◌&&◌, Option, Some, None, List, [], ◌∷◌, ◌++◌, length, drop, get_or, refl, ap, sym, ◌∙◌, arith, drop_of_length-le}
use Rattle.std.specs.BTreeMap.{insert_entry, is_at}
use Rattle.std.specs.BTreeSet.{insert_key}
use Rattle.std.specs.List.{sum_by}
use Rattle.std.specs.Map.{values_of}
use Rattle.std.specs.Option.{option_map, unwrap_or}
use Rattle.std.specs.Set.{remove_key}
use Rattle.std.proofs.lemmas.List.{drop-append-le}
use Rattle.std.proofs.lemmas.List.Sums.{sum_by-append, sum_by-cons}
use Rattle.std.proofs.lemmas.Map.Entries.{sum_by-remove_entry}
use Rattle.spec_tree.specs.Tree.{need_of}
use Rattle.spec_tree.specs.declared.Digest.{Digest}
use Rattle.spec_tree.specs.declared.blob.Blob.{Blob}
use Rattle.spec_tree.specs.Order.{digest_cmp, same_digest}
use Rattle.bv_model.proofs.Adds.{Tabled, granted_new, settled_added, find-purged_none, tabled_slots_emptied, tabled_at}
use Rattle.spec_core.proofs.Deeds.{ready, went, settle_went, unmount_went}
use Rattle.spec_core.proofs.Holding.{one_digest, changed-append, same_self}
use Rattle.spec_core.proofs.Once.{Once, once_slots_emptied}
use Rattle.bv_model.proofs.Lengths.{once_at}
use Rattle.spec_core.proofs.Numbers.{numbers_are_apart}
use Rattle.spec_core.proofs.Leaving.{is_held_by_count, less, holders_less}
use Rattle.bv_model.proofs.Rescans.{fits_at, state_more}
use Rattle.bv_model.proofs.Sums.{sum_by-push}
use Rattle.bv_model.proofs.Takings.{need_in, need_at, need_found, purged-need, queued-need, leaving-flushed, leaving-published, leaving_blob, sum-insert_entry, sum-insert_key, sum-remove_key}
use Rattle.spec_core.specs.Change.{change, begun, admitted, put_done, blob_of, settled, opened, emptied, closed, unlinked, sync_done, slots_emptied, unmount_done, made_durable, add_ends}
use Rattle.spec_core.specs.Choice.{choice, is_empty, place_of, settle_choice, sync_choice}
use Rattle.spec_core.specs.History.{History, setting_of, opening_map, last_state, room, Legal}
use Rattle.spec_core.specs.Log.{changed, queued, failed}
use Rattle.spec_core.specs.Deeds.{deed_of}
use Rattle.bv_model.specs.Rescan.{state_at, standing_of_root, standing_for}
use Rattle.spec_core.specs.Room.{blob_need, purge_need, taken, room_in}
use Rattle.spec_core.specs.State.{State, find, among, held, holders}
use Rattle.spec_core.specs.Step.{Chosen}
use Rattle.bv_model.specs.Taking.{add_need, NeedsAt, NeedsOf, all_freed, all_let_go, taken_next}
use Rattle.spec_core.specs.declared.act.Act.{Act}
use Rattle.spec_core.specs.declared.act.Act.TheVariants.{Begin, Admit, Put, Settle, Retire, Open, Fetch, Read, Scan, Close, Unlink, Sync, List as ListAll, Unmount}
use Rattle.spec_core.specs.declared.event.CoreEvent.{CoreEvent}
use Rattle.spec_core.specs.declared.map_change.MapChange.{MapChange}
use Rattle.spec_core.specs.declared.map_change.MapChange.TheVariants.{Publish}
use Rattle.spec_core.specs.declared.place.Place.{Place}
use Rattle.spec_core.specs.declared.reply.Reply.{Reply}
use Rattle.spec_core.specs.declared.reply.Reply.TheVariants.{Granted, Admitted, Published, Opened, Closed, Unlinked, Synced, Unmounted, DeviceFault}
use Rattle.bv_model.specs.declared.room.Taken.{Taken}
use Rattle.spec_core.specs.declared.setting.Setting.{Setting}
use Rattle.spec_core.specs.declared.who.Who.{Who}

-- the blocks of purges, of the queue and of what leaves, while nothing failed
pub record Counts (s : State) (t : Taken) : Type 0 where
  pub again : t.again ≡ 0
  pub purged : t.purged ≡ sum_by purge_need (drop s.durable s.log)
  pub queued : t.queued ≡ need_in s.map s.queue
  pub leaving : t.leaving ≡ need_in s.map s.leaving

pub record TakenOf (g : Setting) (s : State) (t : Taken) : Type 0 where
  pub taken : taken g s ≡ t.all + t.again
  pub adds : sum_by (need_of g.version) (values_of s.adds) ≤ t.all
  pub going : s.stopped ≡ None → Counts s t

-- ---- adds

-- the blocks of purges in a log that grew
log-need : (log xs cs : List MapChange) (d : ℕ) → d ≤ length log → sum_by purge_need (drop d (log ++ (xs ++ cs))) ≡ sum_by purge_need (drop d log) + sum_by purge_need xs + sum_by purge_need cs
log-need log xs cs d h = ap (sum_by purge_need) (drop-append-le d log (xs ++ cs) h) ∙ omega (arith, sum_by-append purge_need (drop d log) (xs ++ cs), sum_by-append purge_need xs cs)

blob_same : (g : Setting) (o : Option ℕ) → is_some o ≡ true → blob_need (blob_of g o) ≡ unwrap_or (option_map (need_of g.version) o) 0
blob_same g (Some n) h = refl
blob_same g None h = cc

module _ (g : Setting) (s : State) (t : Taken) (k : TakenOf g s t) where
  taken_granted : (r : Digest) (n need : ℕ) → find s.adds r ≡ None → need ≡ need_of g.version n → TakenOf g (record s { adds = insert_entry digest_cmp s.adds r n }) (record t { all = t.all + need })
  taken_granted r n need free e =
      let more = sum-insert_entry (need_of g.version) digest_cmp s.adds r n free in
      record {
        taken = omega (arith, k.taken, more, e);
        adds = omega (arith, k.adds, more, e);
        going = λ h. let c = k.going h in record { again = c.again; purged = c.purged; queued = c.queued; leaving = c.leaving };
      }

  taken_ended : (r : Digest) (need : ℕ) → need ≡ add_need g s r → TakenOf g (add_ends s r) (record t { all = t.all - need })
  taken_ended r need e =
      let fewer = sum_by-remove_entry (need_of g.version) (is_at (digest_cmp r)) s.adds in
      record {
        taken = omega (arith, k.taken, k.adds, fewer, e);
        adds = omega (arith, k.adds, fewer, e);
        going = λ h. let c = k.going h in record { again = c.again; purged = c.purged; queued = c.queued; leaving = c.leaving };
      }

  taken_begun : (w : Who) (r : Digest) (n : ℕ) (q : Reply) (need : ℕ) → NeedsOf g s w (Begin r n) q need → Chosen (choice g s w (Begin r n)) q → TakenOf g (begun s r n q) (taken_next t (standing_for s (deed_of w (Begin r n) q)) need w (Begin r n) q)
  taken_begun w r n Granted need e c = taken_granted r n need (granted_new g s w r n c).1 e
  taken_begun w r n _ need e c = k

  taken_admitted : (w : Who) (r : Digest) (q : Reply) (need : ℕ) → NeedsOf g s w (Admit r) q need → TakenOf g (admitted s r q) (taken_next t (standing_for s (deed_of w (Admit r) q)) need w (Admit r) q)
  taken_admitted w r Admitted need e = k
  taken_admitted w r _ need e = taken_ended r need e

  taken_put : (q : Reply) → TakenOf g (put_done s q) t
  taken_put (DeviceFault f) = record { taken = k.taken; adds = k.adds; going = λ h. cc }
  taken_put _ = k

  taken_opened : (p : Place) (r : Digest) (q : Reply) → TakenOf g (opened s p r q) t
  taken_opened p r (Opened n) = record { taken = k.taken; adds = k.adds; going = λ h. let c = k.going h in record { again = c.again; purged = c.purged; queued = c.queued; leaving = c.leaving } }
  taken_opened p r _ = k

  -- ---- flushes

  taken_published : (r : Digest) (blob : Blob) → Tabled s → Once s → s.stopped ≡ None → is_some (find s.adds r) ≡ true → blob_need blob ≡ add_need g s r → TakenOf g (settled s r blob Published) (record t { purged = t.purged + t.queued; queued = 0 })
  taken_published r blob d o go here e =
      let free = d.new r here in
      let c = k.going go in
      let fewer = sum_by-remove_entry (need_of g.version) (is_at (digest_cmp r)) s.adds in
      let map = ap (λ es. sum_by blob_need (values_of es)) (changed-append s.map (queued s) (Publish r blob ∷ [])) ∙ sum-insert_entry blob_need digest_cmp (changed s.map (queued s)) r blob (find-purged_none s.map s.map s.queue r d.map free) in
      let log = log-need s.log (queued s) (Publish r blob ∷ []) s.durable d.durable in
      let one = sum_by-cons purge_need (Publish r blob) [] in
      record {
        taken = omega (arith, k.taken, map, purged-need s.map s.queue, log, one, fewer, e);
        adds = omega (arith, k.adds, fewer);
        going = λ h. record {
          again = c.again;
          purged = omega (arith, c.purged, c.queued, log, one, queued-need s o);
          queued = refl;
          leaving = c.leaving ∙ sym (leaving-published s o r blob free);
        };
      }

  taken_failed : (cs : List MapChange) (f : ℕ) → Tabled s → Once s → s.stopped ≡ None → sum_by purge_need cs ≡ 0 → TakenOf g (failed s cs f) (record t { again = t.queued })
  taken_failed cs f d o go none =
      let c = k.going go in
      record {
        taken = omega (arith, k.taken, c.again, c.queued, queued-need s o, log-need s.log (queued s) cs s.durable d.durable, none);
        adds = k.adds;
        going = λ h. cc;
      }

  taken_durable : Tabled s → Once s → s.stopped ≡ None → TakenOf g (made_durable s) (all_freed t)
  taken_durable d o go =
      let c = k.going go in
      let log : List MapChange = s.log ++ (queued s ++ []) in
      let none = ap (sum_by purge_need) (drop_of_length-le log {i = length log} (omega arith)) in
      let map = ap (λ es. sum_by blob_need (values_of es)) (changed-append s.map (queued s) []) in
      let all = purged-need s.map s.queue in
      record {
        taken = omega (arith, k.taken, c.again, c.purged, c.queued, queued-need s o, none, map, all);
        adds = omega (arith, k.taken, c.again, c.purged, c.queued, queued-need s o, all);
        going = λ h. record {
          again = c.again;
          purged = sym none;
          queued = refl;
          leaving = c.leaving ∙ sym (ap (λ es. need_in es s.leaving) (changed-append s.map (queued s) []) ∙ leaving-flushed s o);
        };
      }

  taken_sync : (w : Who) (q : Reply) (need : ℕ) → Tabled s → Once s → Chosen (choice g s w Sync) q → TakenOf g (sync_done s q) (taken_next t (standing_for s (deed_of w Sync q)) need w Sync q)
  taken_sync w Synced need d o c = taken_durable d o (went s.stopped (sync_choice s s.queue Synced) Synced (λ f e. cc) c)
  taken_sync w (DeviceFault f) need d o c = taken_failed [] f d o (went s.stopped (sync_choice s s.queue Synced) (DeviceFault f) (λ f e. cc) c) refl
  taken_sync w _ need d o c = k

  -- ---- slots and the queue

  taken_slots_emptied : TakenOf g (slots_emptied s) (all_let_go t)
  taken_slots_emptied = record {
    taken = k.taken;
    adds = k.adds;
    going = λ h. let c = k.going h in record {
      again = c.again;
      purged = c.purged;
      queued = omega (arith, c.queued, c.leaving, sum_by-append (need_at s.map) s.queue s.leaving);
      leaving = refl;
    };
  }

  taken_unlinked : (x : Digest) (need : ℕ) → is_some (find s.map x) ≡ true → among s.leaving x ≡ false → NeedsAt s x need → TakenOf g (unlinked s x Unlinked) (cond (holders s.slots x == 0) (record t { queued = t.queued + need }) (record t { leaving = t.leaving + need }))
  taken_unlinked x need here free e = rw (is_held_by_count s x) (go (holders s.slots x == 0) (its (find s.map x) refl here))
    where
      its : (o : Option Blob) → find s.map x ≡ o → is_some o ≡ true → need ≡ need_at s.map x
      its None f h = cc
      its (Some blob) f h = e blob f ∙ sym (need_found s.map x blob f)

      go : (b : Bool) → need ≡ need_at s.map x → TakenOf g (cond (not b) (record s { leaving = insert_key digest_cmp s.leaving x }) (record s { queue = s.queue ++ x ∷ [] })) (cond b (record t { queued = t.queued + need }) (record t { leaving = t.leaving + need }))
      go true same = record {
        taken = k.taken;
        adds = k.adds;
        going = λ h. let c = k.going h in record { again = c.again; purged = c.purged; queued = omega (arith, c.queued, same, sum_by-push (need_at s.map) s.queue x); leaving = c.leaving };
      }
      go false same = record {
        taken = k.taken;
        adds = k.adds;
        going = λ h. let c = k.going h in record { again = c.again; purged = c.purged; queued = c.queued; leaving = omega (arith, c.leaving, same, sum-insert_key (need_at s.map) digest_cmp s.leaving x free) };
      }

  taken_emptied : (p : Place) (o : Option Digest) (need : ℕ) → Once s → held s.slots p ≡ o → ((x : Digest) → o ≡ Some x → NeedsAt s x need)
      → TakenOf g (emptied s p o) (cond ((standing_of_root s o).leaving && ((standing_of_root s o).holders - 1 == 0)) (record t { leaving = t.leaving - need; queued = t.queued + need }) t)
  taken_emptied p None need one h e = k
  taken_emptied p (Some x) need one h e =
      let self : cond (same_digest x x) 1 0 ≡ 1 = ap (λ (b : Bool). cond {A = ℕ} b 1 0) (same_self x) in
      let fewer : holders s.slots x - 1 ≡ holders (less s p x h).slots x = omega (arith, holders_less s p x h x, self) in
      rw (is_held_by_count (less s p x h) x, fewer) (go (among s.leaving x) (holders (less s p x h).slots x == 0) refl)
    where
      same : among s.leaving x ≡ true → need ≡ need_at s.map x
      same l = let b = leaving_blob s one x l in e x refl b.0 b.1 ∙ sym (need_found s.map x b.0 b.1)

      still : TakenOf g (less s p x h) t
      still = record { taken = k.taken; adds = k.adds; going = λ a. let c = k.going a in record { again = c.again; purged = c.purged; queued = c.queued; leaving = c.leaving } }

      go : (a b : Bool) → among s.leaving x ≡ a → TakenOf g (cond (a && not (not b)) (record (less s p x h) { leaving = remove_key (is_at (digest_cmp x)) s.leaving; queue = s.queue ++ x ∷ [] }) (less s p x h)) (cond (a && b) (record t { leaving = t.leaving - need; queued = t.queued + need }) t)
      go true true l = record {
        taken = k.taken;
        adds = k.adds;
        going = λ a. let c = k.going a in record {
          again = c.again;
          purged = c.purged;
          queued = omega (arith, c.queued, same l, sum_by-push (need_at s.map) s.queue x);
          leaving = omega (arith, c.leaving, same l, sum-remove_key (need_at s.map) (is_at (digest_cmp x)) x (one_digest x) s.leaving l);
        };
      }
      go true false l = still
      go false b l = still

  taken_closed : (w : Who) (slot : ℕ) (q : Reply) (need : ℕ) → Once s → NeedsOf g s w (Close slot) q need → TakenOf g (closed s (place_of w slot) q) (taken_next t (standing_for s (deed_of w (Close slot) q)) need w (Close slot) q)
  taken_closed w slot Closed need o e = taken_emptied (place_of w slot) (held s.slots (place_of w slot)) need o refl e
  taken_closed w slot _ need o e = k

  taken_unlink : (w : Who) (x : Digest) (q : Reply) (need : ℕ) → NeedsOf g s w (Unlink x) q need → Chosen (choice g s w (Unlink x)) q → TakenOf g (unlinked s x q) (taken_next t (standing_for s (deed_of w (Unlink x) q)) need w (Unlink x) q)
  taken_unlink w x Unlinked need e c = let a = ready g s w (Unlink x) Unlinked c in taken_unlinked x need a.0 a.1 e
  taken_unlink w x _ need e c = k

taken_settled : (g : Setting) (s : State) (t : Taken) (w : Who) (r : Digest) (q : Reply) (need : ℕ) → TakenOf g s t → Tabled s → Once s → NeedsOf g s w (Settle r) q need → Chosen (choice g s w (Settle r)) q
    → TakenOf g (settled s r (blob_of g (find s.adds r)) q) (taken_next t (standing_for s (deed_of w (Settle r) q)) need w (Settle r) q)
taken_settled g s t w r Published need k d o e c =
    let here = settled_added g s w r Published c in
    taken_published g s t k r (blob_of g (find s.adds r)) d o (settle_went (find s.adds r) s.stopped (settle_choice s) Published (λ f e. cc) c) here (blob_same g (find s.adds r) here)
taken_settled g s t w r (DeviceFault f) need k d o e c =
    let blob : Blob = blob_of g (find s.adds r) in
    let fail = taken_failed g s t k (Publish r blob ∷ []) f d o (settle_went (find s.adds r) s.stopped (settle_choice s) (DeviceFault f) (λ f e. cc) c) (sum_by-cons purge_need (Publish r blob) []) in
    taken_ended g (failed s (Publish r blob ∷ []) f) (record t { again = t.queued }) fail r need e
taken_settled g s t w r _ need k d o e c = taken_ended g s t k r need e

taken_unmount : (g : Setting) (s : State) (t : Taken) (w : Who) (q : Reply) (need : ℕ) → TakenOf g s t → Tabled s → Once s → Chosen (choice g s w Unmount) q
    → TakenOf g (unmount_done (slots_emptied s) q) (taken_next t (standing_for s (deed_of w Unmount q)) need w Unmount q)
taken_unmount g s t w Unmounted need k d o c =
    taken_durable g (slots_emptied s) (all_let_go t) (taken_slots_emptied g s t k) (tabled_slots_emptied s d) (once_slots_emptied s o) (unmount_went (is_empty s.adds) s.stopped (sync_choice s (s.queue ++ s.leaving) Unmounted) Unmounted (λ f e. cc) c)
taken_unmount g s t w (DeviceFault f) need k d o c =
    taken_failed g (slots_emptied s) (all_let_go t) (taken_slots_emptied g s t k) [] f (tabled_slots_emptied s d) (once_slots_emptied s o) (unmount_went (is_empty s.adds) s.stopped (sync_choice s (s.queue ++ s.leaving) Unmounted) (DeviceFault f) (λ f e. cc) c) refl
taken_unmount g s t w _ need k d o c = taken_slots_emptied g s t k

pub taken_change : (g : Setting) (s : State) (t : Taken) (w : Who) (a : Act) (q : Reply) (need : ℕ) → TakenOf g s t → Tabled s → Once s → NeedsOf g s w a q need → Chosen (choice g s w a) q
    → TakenOf g (change g s w a q) (taken_next t (standing_for s (deed_of w a q)) need w a q)
taken_change g s t w (Begin r n) q need k d o e c = taken_begun g s t k w r n q need e c
taken_change g s t w (Admit r) q need k d o e c = taken_admitted g s t k w r q need e
taken_change g s t w (Put i) q need k d o e c = taken_put g s t k q
taken_change g s t w (Settle r) q need k d o e c = taken_settled g s t w r q need k d o e c
taken_change g s t w (Retire r) q need k d o e c = taken_ended g s t k r need e
taken_change g s t w (Open slot r) q need k d o e c = taken_open w slot r q
  where
    taken_open : (w : Who) (slot : ℕ) (r : Digest) (q : Reply) → TakenOf g (opened s (place_of w slot) r q) (taken_next t (standing_for s (deed_of w (Open slot r) q)) need w (Open slot r) q)
    taken_open w slot r (Opened n) = taken_opened g s t k (place_of w slot) r (Opened n)
    taken_open w slot r _ = k
taken_change g s t w (Fetch slot i) q need k d o e c = k
taken_change g s t w (Read slot off len) q need k d o e c = k
taken_change g s t w (Scan slot) q need k d o e c = k
taken_change g s t w (Close slot) q need k d o e c = taken_closed g s t k w slot q need o e
taken_change g s t w (Unlink x) q need k d o e c = taken_unlink g s t k w x q need e c
taken_change g s t w Sync q need k d o e c = taken_sync g s t k w q need d o c
taken_change g s t w ListAll q need k d o e c = k
taken_change g s t w Unmount q need k d o e c = taken_unmount g s t w q need k d o c

-- ---- of a history

pub taken_first : (h : History) (next all : ℕ) → all ≡ sum_by blob_need (values_of (opening_map h)) → TakenOf (setting_of h) (state_at h next 0) (record { all = all; purged = 0; queued = 0; leaving = 0; again = 0 })
taken_first h next all e = record {
  taken = omega (arith, e);
  adds = omega arith;
  going = λ a. record { again = refl; purged = refl; queued = refl; leaving = refl };
}

pub taken_more : (h : History) (next i need : ℕ) (d : CoreEvent) (t : Taken) → Legal h next → i < length h.events → NeedsOf (setting_of h) (state_at h next i) (get_or h.events i d).who (get_or h.events i d).act (get_or h.events i d).reply need → TakenOf (setting_of h) (state_at h next i) t
    → TakenOf (setting_of h) (state_at h next (i + 1)) (taken_next t (standing_for (state_at h next i) (deed_of (get_or h.events i d).who (get_or h.events i d).act (get_or h.events i d).reply)) need (get_or h.events i d).who (get_or h.events i d).act (get_or h.events i d).reply)
taken_more h next i need d t legal short e k =
    let event : CoreEvent = get_or h.events i d in
    rw (state_more h next i d short) (taken_change (setting_of h) (state_at h next i) t event.who event.act event.reply need k (tabled_at h next i legal) (once_at h next i legal) e (fits_at h next legal i d short))

-- the room of a history, by what is taken after its last event
pub room_taken : (h : History) (next : ℕ) (t : Taken) → TakenOf (setting_of h) (last_state h next) t → h.blocks - 1 - t.all - t.again ≡ room h
room_taken h next t k =
    let same : room_in (setting_of h) (last_state h next) ≡ room h = ap (room_in (setting_of h)) (numbers_are_apart h next) in
    let left : h.blocks - 1 - t.all - t.again ≡ room_in (setting_of h) (last_state h next) = omega (arith, k.taken) in
    left ∙ same
