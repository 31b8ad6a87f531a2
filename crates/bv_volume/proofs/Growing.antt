-- The queue of unlinked roots only grows, but where an entry purges it.
use Rattle.std.proofs.Common.{◌≡◌, ℕ, Bool, true, false, cond, not, ◌&&◌, Option, Some, None, List, [], ◌∷◌, ◌++◌, sym, ◌∙◌}
use Rattle.std.specs.BTreeMap.{is_at}
use Rattle.std.specs.BTreeSet.{insert_key}
use Rattle.std.specs.Map.{remove_entry}
use Rattle.std.specs.Set.{remove_key}
use Rattle.std.proofs.lemmas.List.Folds.{list_any-append}
use Rattle.spec_tree.specs.declared.Digest.{Digest}
use Rattle.spec_tree.specs.declared.blob.Blob.{Blob}
use Rattle.spec_tree.specs.Order.{digest_cmp, same_digest}
use Rattle.spec_core.proofs.Holding.{or_false}
use Rattle.spec_core.specs.Change.{change, begun, admitted, put_done, blob_of, settled, opened, let_go, emptied, closed, unlinked, sync_done, slots_emptied, unmount_done}
use Rattle.spec_core.specs.Choice.{place_of}
use Rattle.spec_core.specs.Order.{place_cmp}
use Rattle.spec_core.specs.State.{State, find, among, held, is_held}
use Rattle.spec_core.specs.declared.act.Act.{Act}
use Rattle.spec_core.specs.declared.act.Act.TheVariants.{Begin, Admit, Put, Settle, Retire, Open, Fetch, Read, Scan, Close, Unlink, Sync, List as ListAll, Unmount}
use Rattle.spec_core.specs.declared.place.Place.{Place}
use Rattle.spec_core.specs.declared.reply.Reply.{Reply}
use Rattle.spec_core.specs.declared.reply.Reply.TheVariants.{Granted, Admitted, Published, Opened, Closed, Unlinked, Synced, Unmounted, DeviceFault}
use Rattle.spec_core.specs.declared.setting.Setting.{Setting}
use Rattle.spec_core.specs.declared.who.Who.{Who}
use Rattle.bv_volume.proofs.Quiet.{is_quiet}

abbrev pub Grown : List Digest → List Digest → Type 0
Grown old new = (r : Digest) → among new r ≡ false → among old r ≡ false

grown_more : (q more : List Digest) → Grown q (q ++ more)
grown_more q more r h = (or_false (among q r) (among more r) (sym (list_any-append (same_digest r) q more) ∙ h)).0

module _ (s : State) where
  let_go_grown : (r : Digest) → Grown s.queue (let_go s r).queue
  let_go_grown r = go (among s.leaving r && not (is_held s.slots r))
    where
      go : (b : Bool) → Grown s.queue (cond b (record s { leaving = remove_key (is_at (digest_cmp r)) s.leaving; queue = s.queue ++ r ∷ [] }) s).queue
      go true = grown_more s.queue (r ∷ [])
      go false = λ x h. h

  unlinked_grown : (r : Digest) (q : Reply) → Grown s.queue (unlinked s r q).queue
  unlinked_grown r Unlinked = go (is_held s.slots r)
    where
      go : (b : Bool) → Grown s.queue (cond b (record s { leaving = insert_key digest_cmp s.leaving r }) (record s { queue = s.queue ++ r ∷ [] })).queue
      go true = λ x h. h
      go false = grown_more s.queue (r ∷ [])
  unlinked_grown r _ = λ x h. h

  begun_grown : (r : Digest) (n : ℕ) (q : Reply) → Grown s.queue (begun s r n q).queue
  begun_grown r n Granted = λ x h. h
  begun_grown r n _ = λ x h. h

  admitted_grown : (r : Digest) (q : Reply) → Grown s.queue (admitted s r q).queue
  admitted_grown r Admitted = λ x h. h
  admitted_grown r _ = λ x h. h

  put_grown : (q : Reply) → Grown s.queue (put_done s q).queue
  put_grown (DeviceFault f) = λ x h. h
  put_grown _ = λ x h. h

  settled_grown : (r : Digest) (b : Blob) (q : Reply) → is_quiet q ≡ true → Grown s.queue (settled s r b q).queue
  settled_grown r b Published h = cc
  settled_grown r b (DeviceFault f) h = λ x h. h
  settled_grown r b _ h = λ x h. h

  opened_grown : (p : Place) (r : Digest) (q : Reply) → Grown s.queue (opened s p r q).queue
  opened_grown p r (Opened n) = λ x h. h
  opened_grown p r _ = λ x h. h

  sync_grown : (q : Reply) → is_quiet q ≡ true → Grown s.queue (sync_done s q).queue
  sync_grown Synced h = cc
  sync_grown (DeviceFault f) h = λ x h. h
  sync_grown _ h = λ x h. h

emptied_grown : (s : State) (p : Place) (o : Option Digest) → Grown s.queue (emptied s p o).queue
emptied_grown s p (Some r) = let_go_grown (record s { slots = remove_entry (is_at (place_cmp p)) s.slots }) r
emptied_grown s p None = λ x h. h

closed_grown : (s : State) (p : Place) (q : Reply) → Grown s.queue (closed s p q).queue
closed_grown s p Closed = emptied_grown s p (held s.slots p)
closed_grown s p _ = λ x h. h

unmount_grown : (s : State) (q : Reply) → is_quiet q ≡ true → Grown s.queue (unmount_done (slots_emptied s) q).queue
unmount_grown s Unmounted h = cc
unmount_grown s (DeviceFault f) h = cc
unmount_grown s _ h = grown_more s.queue s.leaving

pub queue_grown : (g : Setting) (s : State) (w : Who) (a : Act) (q : Reply) → is_quiet q ≡ true → Grown s.queue (change g s w a q).queue
queue_grown g s w (Begin r n) q h = begun_grown s r n q
queue_grown g s w (Admit r) q h = admitted_grown s r q
queue_grown g s w (Put i) q h = put_grown s q
queue_grown g s w (Settle r) q h = settled_grown s r (blob_of g (find s.adds r)) q h
queue_grown g s w (Retire r) q h = λ x k. k
queue_grown g s w (Open slot r) q h = opened_grown s (place_of w slot) r q
queue_grown g s w (Fetch slot i) q h = λ x k. k
queue_grown g s w (Read slot off len) q h = λ x k. k
queue_grown g s w (Scan slot) q h = λ x k. k
queue_grown g s w (Close slot) q h = closed_grown s (place_of w slot) q
queue_grown g s w (Unlink r) q h = unlinked_grown s r q
queue_grown g s w Sync q h = sync_grown s q h
queue_grown g s w ListAll q h = λ x k. k
queue_grown g s w Unmount q h = unmount_grown s q h
