-- Events after which the blobs are where they were: the space stays right.
use Rattle.std.proofs.Common.{◌≡◌, ◌≤◌, ℕ, drop, arith, Bool, true, false, cond, not, ◌&&◌, Option, Some, None, List, [], ◌∷◌, ◌++◌, refl, ap, sym, ◌∙◌}
use Rattle.std.specs.BTreeMap.{is_at}
use Rattle.std.specs.BTreeSet.{insert_key}
use Rattle.std.specs.List.{sum_by}
use Rattle.std.specs.Map.{remove_entry}
use Rattle.std.specs.Set.{remove_key}
use Rattle.spec_tree.specs.declared.Digest.{Digest}
use Rattle.spec_tree.specs.Order.{digest_cmp}
use Rattle.spec_core.specs.Change.{change, put_done, opened, let_go, emptied, closed, unlinked, sync_done, slots_emptied, unmount_done}
use Rattle.spec_core.specs.Choice.{place_of}
use Rattle.spec_core.specs.Order.{place_cmp}
use Rattle.spec_core.specs.Room.{purge_need}
use Rattle.spec_core.specs.State.{State, among, held, is_held}
use Rattle.spec_core.specs.declared.act.Act.{Act}
use Rattle.spec_core.specs.declared.act.Act.TheVariants.{Begin, Admit, Put, Settle, Retire, Open, Fetch, Read, Scan, Close, Unlink, Sync, List as ListAll, Unmount}
use Rattle.spec_core.specs.declared.map_change.MapChange.{MapChange}
use Rattle.spec_core.specs.declared.place.Place.{Place}
use Rattle.spec_core.specs.declared.reply.Reply.{Reply}
use Rattle.spec_core.specs.declared.reply.Reply.TheVariants.{Opened, Closed, Unlinked, Synced, Unmounted, DeviceFault}
use Rattle.spec_core.specs.declared.setting.Setting.{Setting}
use Rattle.spec_core.specs.declared.who.Who.{Who}
use Rattle.spec_rest.specs.Rest.{IsQuiet}
use Rattle.bv_space.specs.Owned.{Owned}
use Rattle.bv_ledger.specs.Tables as L
use Rattle.bv_ledger.specs.Tables.{Tables, Accounts}
use Rattle.bv_store.specs.Stored.{Stored}
use Rattle.bv_volume.specs.Spaced.{Noded, Spaced}
use Rattle.bv_volume.proofs.Growing.{Grown, queue_grown}
use Rattle.bv_volume.proofs.Quiet.{is_quiet, quiet, silent_quiet}
use Rattle.bv_volume.proofs.Ties.{IsSilent}

-- ---- tables that differ by adds, slots and what is unlinked alone

pub record Still (t new : Tables) : Type 0 where
  pub setting : new.setting ≡ t.setting
  pub map : new.map ≡ t.map
  pub queue : Grown t.queue new.queue
  pub stopped : new.stopped ≡ t.stopped
  pub purged : t.stopped ≡ None → new.purged ≡ t.purged

pub still : (t new : Tables) (log : List MapChange) (durable : ℕ) (who : Who) (act : Act) (q : Reply) → Accounts t log durable → L.Does t new who act (Some q) → is_quiet q ≡ true → Still t new
still t new log durable who act q accounts does h =
    let goes = does.1 log durable accounts in
    let s : State = L.state_with t log durable in
    let k : IsQuiet s (change t.setting s who act q) = quiet t.setting s who act q h in
    let stopped : new.stopped ≡ t.stopped = sym (ap (λ (x : State). x.stopped) goes.state) ∙ k.stopped in
    record {
      setting = does.0;
      map = sym (ap (λ (x : State). x.map) goes.state) ∙ k.map;
      queue = λ r none. queue_grown t.setting s who act q h r (ap (λ (x : State). among x.queue r) goes.state ∙ none);
      stopped = stopped;
      purged = λ going. goes.accounts.purged (stopped ∙ going) ∙ ap (λ (n : ℕ). sum_by purge_need (drop n (change t.setting s who act q).log)) k.durable ∙ ap (λ (l : List MapChange). sum_by purge_need (drop durable l)) k.log ∙ sym (accounts.purged going);
    }

-- the nodes of the same adds
pub noded_same : (t new : Tables) (o o' : Owned) (s s' : Stored) → new.setting ≡ t.setting → new.adds ≡ t.adds → o'.adds ≡ o.adds → o'.nodes ≡ o.nodes → s'.geometry ≡ s.geometry → s'.used_nodes ≤ s.used_nodes → Noded t o s → Noded new o' s'
noded_same t new o o' s s' setting adds spaces aside geometry used n = record {
  count = rw (geometry, setting) n.count;
  room = rw (aside, setting) (omega (arith, n.room, used));
  at = λ r. rw (setting, adds, spaces, aside) (n.at r);
  sole = rw aside n.sole;
}

-- the space of such tables with the same adds
pub spaced_still : (t new : Tables) (o : Owned) (s : Stored) (Held : ℕ → Type 0) → Still t new → new.adds ≡ t.adds → Spaced t o s Held → Spaced new o s Held
spaced_still t new o s Held k adds spaced = record {
  table = rw (k.setting) spaced.table;
  blocks = rw (k.setting) spaced.blocks;
  geometry = rw (k.setting) spaced.geometry;
  once = spaced.once;
  within = spaced.within;
  adds = λ r. rw (k.setting, adds) (spaced.adds r);
  sole = spaced.sole;
  lie = λ r h. rw (k.map) (spaced.lie r (k.queue r h));
  nodes = noded_same t new o o s s k.setting adds refl refl refl (omega arith) spaced.nodes;
  exactly = λ none.
      let going : t.stopped ≡ None = sym k.stopped ∙ none in
      let e = spaced.exactly going in
      record {
        owned = e.owned;
        room = rw (k.setting, k.map, adds, k.purged going) e.room;
        gone = rw (k.purged going) e.gone;
        held = e.held;
        lie = rw (k.map) e.lie;
        sole = e.sole;
      };
}

-- ---- events that leave the adds as they were

abbrev pub KeepsAdds : Act → Type 0
KeepsAdds (Begin r n) = ⊥
KeepsAdds (Admit r) = ⊥
KeepsAdds (Settle r) = ⊥
KeepsAdds (Retire r) = ⊥
KeepsAdds _ = Unit {0}

opened_adds : (s : State) (p : Place) (r : Digest) (q : Reply) → (opened s p r q).adds ≡ s.adds
opened_adds s p r (Opened n) = refl
opened_adds s p r _ = refl

let_go_adds : (s : State) (r : Digest) → (let_go s r).adds ≡ s.adds
let_go_adds s r = go (among s.leaving r && not (is_held s.slots r))
  where
    go : (b : Bool) → (cond b (record s { leaving = remove_key (is_at (digest_cmp r)) s.leaving; queue = s.queue ++ r ∷ [] }) s).adds ≡ s.adds
    go true = refl
    go false = refl

emptied_adds : (s : State) (p : Place) (o : Option Digest) → (emptied s p o).adds ≡ s.adds
emptied_adds s p (Some r) = let_go_adds (record s { slots = remove_entry (is_at (place_cmp p)) s.slots }) r
emptied_adds s p None = refl

closed_adds : (s : State) (p : Place) (q : Reply) → (closed s p q).adds ≡ s.adds
closed_adds s p Closed = emptied_adds s p (held s.slots p)
closed_adds s p _ = refl

unlinked_adds : (s : State) (r : Digest) (q : Reply) → (unlinked s r q).adds ≡ s.adds
unlinked_adds s r Unlinked = go (is_held s.slots r)
  where
    go : (b : Bool) → (cond b (record s { leaving = insert_key digest_cmp s.leaving r }) (record s { queue = s.queue ++ r ∷ [] })).adds ≡ s.adds
    go true = refl
    go false = refl
unlinked_adds s r _ = refl

put_adds : (s : State) (q : Reply) → (put_done s q).adds ≡ s.adds
put_adds s (DeviceFault f) = refl
put_adds s _ = refl

sync_adds : (s : State) (q : Reply) → (sync_done s q).adds ≡ s.adds
sync_adds s Synced = refl
sync_adds s (DeviceFault f) = refl
sync_adds s _ = refl

unmount_adds : (s : State) (q : Reply) → (unmount_done (slots_emptied s) q).adds ≡ s.adds
unmount_adds s Unmounted = refl
unmount_adds s (DeviceFault f) = refl
unmount_adds s _ = refl

adds_kept : (g : Setting) (s : State) (w : Who) (a : Act) (q : Reply) → KeepsAdds a → (change g s w a q).adds ≡ s.adds
adds_kept g s w (Begin r n) q k = absurd k
adds_kept g s w (Admit r) q k = absurd k
adds_kept g s w (Put i) q k = put_adds s q
adds_kept g s w (Settle r) q k = absurd k
adds_kept g s w (Retire r) q k = absurd k
adds_kept g s w (Open slot r) q k = opened_adds s (place_of w slot) r q
adds_kept g s w (Fetch slot i) q k = refl
adds_kept g s w (Read slot off len) q k = refl
adds_kept g s w (Scan slot) q k = refl
adds_kept g s w (Close slot) q k = closed_adds s (place_of w slot) q
adds_kept g s w (Unlink r) q k = unlinked_adds s r q
adds_kept g s w Sync q k = sync_adds s q
adds_kept g s w ListAll q k = refl
adds_kept g s w Unmount q k = unmount_adds s q

-- a whole event that makes no call and leaves the adds, or want of memory
pub spaced_silent : (t new : Tables) (o : Owned) (s : Stored) (Held : ℕ → Type 0) (log : List MapChange) (durable : ℕ) (who : Who) (act : Act) (q : Option Reply) → Accounts t log durable → L.Does t new who act q → IsSilent q → KeepsAdds act → Spaced t o s Held → Spaced new o s Held
spaced_silent t new o s Held log durable who act None accounts does h k spaced = rw does spaced
spaced_silent t new o s Held log durable who act (Some q) accounts does h k spaced =
    let goes = does.1 log durable accounts in
    spaced_still t new o s Held (still t new log durable who act q accounts does (silent_quiet q h.0)) (sym (ap (λ (x : State). x.adds) goes.state) ∙ adds_kept t.setting (L.state_with t log durable) who act q k) spaced
