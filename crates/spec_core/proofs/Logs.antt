-- How a step moves the log and the map.
use Rattle.std.proofs.Common.{◌≡◌, ℕ, Bool, true, false, cond, not, is_some, ◌&&◌, ◌⊎◌, inl, inr, Option, Some, None, List, [], ◌∷◌, ◌++◌, refl, ap, sym, ◌∙◌}
use Rattle.std.specs.BTreeMap.{is_at}
use Rattle.std.specs.BTreeSet.{insert_key}
use Rattle.std.specs.Map.{remove_entry}
use Rattle.std.specs.Set.{remove_key}
use Rattle.spec_tree.specs.declared.Digest.{Digest}
use Rattle.spec_core.proofs.Holding.{changed-append}
use Rattle.spec_core.specs.Change.{change, begun, admitted, put_done, blob_of, settled, opened, let_go, emptied, closed, unlinked, sync_done, slots_emptied, unmount_done}
use Rattle.spec_core.specs.Choice.{place_of}
use Rattle.spec_core.specs.History.{setting_of, opening_map, first_state}
use Rattle.spec_core.specs.Laws.{LogMakesMap}
use Rattle.spec_core.specs.Log.{changed, queued}
use Rattle.spec_tree.specs.Order.{digest_cmp}
use Rattle.spec_core.specs.Order.{place_cmp}
use Rattle.spec_core.specs.State.{State, find, among, held, is_held}
use Rattle.spec_core.specs.Step.{after, state_after}
use Rattle.spec_core.specs.declared.act.Act.{Act}
use Rattle.spec_core.specs.declared.act.Act.TheVariants.{Begin, Admit, Put, Settle, Retire, Open, Fetch, Read, Scan, Close, Unlink, Sync, List as ListAll, Unmount}
use Rattle.spec_tree.specs.declared.blob.Blob.{Blob}
use Rattle.spec_core.specs.declared.event.CoreEvent.{CoreEvent}
use Rattle.spec_core.specs.declared.map_change.MapChange.{MapChange}
use Rattle.spec_core.specs.declared.map_change.MapChange.TheVariants.{Publish}
use Rattle.spec_core.specs.declared.place.Place.{Place}
use Rattle.spec_core.specs.declared.reply.Reply.{Reply}
use Rattle.spec_core.specs.declared.reply.Reply.TheVariants.{Granted, Admitted, Published, Opened, Closed, Unlinked, Synced, Unmounted, DeviceFault}
use Rattle.spec_core.specs.declared.setting.Setting.{Setting}
use Rattle.spec_core.specs.declared.who.Who.{Who}

-- the log has gained changes, and so has the map, or the volume is stopped
abbrev pub Moved : State → State → Type 0
Moved s t =
    (cs : List MapChange) × (t.log ≡ s.log ++ cs) × (((t.map ≡ changed s.map cs) × (t.stopped ≡ s.stopped)) ⊎ (is_some t.stopped ≡ true))

append_nil : (xs : List MapChange) → xs ++ [] ≡ xs
append_nil [] = refl
append_nil (x ∷ xs) = ap (λ ys. x ∷ ys) (append_nil xs)

module _ (s : State) where
  -- log, map and stopped are as they were
  same : Moved s s
  same = ([], sym (append_nil s.log), inl (refl, refl))

  let_go_moved : (r : Digest) → Moved s (let_go s r)
  let_go_moved r = go (among s.leaving r && not (is_held s.slots r))
    where
      go : (b : Bool) → Moved s (cond b (record s { leaving = remove_key (is_at (digest_cmp r)) s.leaving; queue = s.queue ++ r ∷ [] }) s)
      go true = same
      go false = same

  begun_moved : (x : Digest) (n : ℕ) (q : Reply) → Moved s (begun s x n q)
  begun_moved x n Granted = same
  begun_moved x n _ = same

  admitted_moved : (x : Digest) (q : Reply) → Moved s (admitted s x q)
  admitted_moved x Admitted = same
  admitted_moved x _ = same

  put_moved : (q : Reply) → Moved s (put_done s q)
  put_moved (DeviceFault f) = ([], sym (append_nil s.log), inr refl)
  put_moved _ = same

  settled_moved : (x : Digest) (b : Blob) (q : Reply) → Moved s (settled s x b q)
  settled_moved x b Published = (queued s ++ Publish x b ∷ [], refl, inl (refl, refl))
  settled_moved x b (DeviceFault f) = (queued s ++ Publish x b ∷ [], refl, inr refl)
  settled_moved x b _ = same

  opened_moved : (p : Place) (x : Digest) (q : Reply) → Moved s (opened s p x q)
  opened_moved p x (Opened n) = same
  opened_moved p x _ = same

  unlinked_moved : (x : Digest) (q : Reply) → Moved s (unlinked s x q)
  unlinked_moved x Unlinked = go (is_held s.slots x)
    where
      go : (b : Bool) → Moved s (cond b (record s { leaving = insert_key digest_cmp s.leaving x }) (record s { queue = s.queue ++ x ∷ [] }))
      go true = same
      go false = same
  unlinked_moved x _ = same

  sync_moved : (q : Reply) → Moved s (sync_done s q)
  sync_moved Synced = (queued s ++ [], refl, inl (refl, refl))
  sync_moved (DeviceFault f) = (queued s ++ [], refl, inr refl)
  sync_moved _ = same

emptied_moved : (s : State) (p : Place) (o : Option Digest) → Moved s (emptied s p o)
emptied_moved s p (Some r) = let_go_moved (record s { slots = remove_entry (is_at (place_cmp p)) s.slots }) r
emptied_moved s p None = same s

closed_moved : (s : State) (p : Place) (q : Reply) → Moved s (closed s p q)
closed_moved s p Closed = emptied_moved s p (held s.slots p)
closed_moved s p _ = same s

unmount_moved : (s : State) (q : Reply) → Moved s (unmount_done (slots_emptied s) q)
unmount_moved s Unmounted = (queued (slots_emptied s) ++ [], refl, inl (refl, refl))
unmount_moved s (DeviceFault f) = (queued (slots_emptied s) ++ [], refl, inr refl)
unmount_moved s _ = same s

pub moves : (g : Setting) (s : State) (w : Who) (a : Act) (q : Reply) → Moved s (change g s w a q)
moves g s w (Begin r n) q = begun_moved s r n q
moves g s w (Admit r) q = admitted_moved s r q
moves g s w (Put i) q = put_moved s q
moves g s w (Settle r) q = settled_moved s r (blob_of g (find s.adds r)) q
moves g s w (Retire r) q = same s
moves g s w (Open slot r) q = opened_moved s (place_of w slot) r q
moves g s w (Fetch slot i) q = same s
moves g s w (Read slot off len) q = same s
moves g s w (Scan slot) q = same s
moves g s w (Close slot) q = closed_moved s (place_of w slot) q
moves g s w (Unlink r) q = unlinked_moved s r q
moves g s w Sync q = sync_moved s q
moves g s w ListAll q = same s
moves g s w Unmount q = unmount_moved s q

-- ---- the map while nothing failed

abbrev Made : List (Digest × Blob) → State → Type 0
Made opening s = s.stopped ≡ None → s.map ≡ changed opening s.log

made_moved : (opening : List (Digest × Blob)) (s t : State) → Moved s t → Made opening s → Made opening t
made_moved opening s t (cs, l, inl m) made none =
    m.0 ∙ ap (λ map. changed map cs) (made (sym m.1 ∙ none)) ∙ sym (changed-append opening s.log cs) ∙ ap (changed opening) (sym l)
made_moved opening s t (cs, l, inr stops) made none = let h = rw none at stops in cc

made_run : (g : Setting) (opening : List (Digest × Blob)) (s : State) (es : List CoreEvent) → Made opening s → Made opening (state_after g s es)
made_run g opening s [] made = made
made_run g opening s (e ∷ es) made = made_run g opening (after g s e) es (made_moved opening s (after g s e) (moves g s e.who e.act e.reply) made)

pub log_makes_map : LogMakesMap
log_makes_map h next = made_run (setting_of h) (opening_map h) (first_state (opening_map h) next) h.events (λ e. refl)
