-- An event by what it does to the slots and to the blobs.
use Rattle.std.proofs.Common.{◌≡◌, ℕ, Bool, true, false, cond, not, is_some, ◌&&◌, Option, Some, None, List, [], ◌∷◌, ◌++◌, length, refl}
use Rattle.std.specs.BTreeMap.{insert_entry, is_at}
use Rattle.std.specs.BTreeSet.{insert_key}
use Rattle.std.specs.Map.{remove_entry}
use Rattle.std.specs.Set.{remove_key}
use Rattle.spec_tree.specs.declared.Digest.{Digest}
use Rattle.spec_tree.specs.Order.{digest_cmp}
use Rattle.spec_core.proofs.Holding.{or_false, if_present}
use Rattle.spec_core.proofs.Slots.{was_empty}
use Rattle.spec_core.specs.Change.{change, begun, admitted, put_done, blob_of, settled, opened, let_go, emptied, closed, unlinked, sync_done, slots_emptied, unmount_done}
use Rattle.spec_core.specs.Choice.{choice, if_added, is_empty, open_choice, place_of, settle_choice, sync_choice, unless_stopped}
use Rattle.spec_core.specs.Log.{flushed, queued}
use Rattle.spec_core.specs.Order.{place_cmp}
use Rattle.spec_core.specs.Deeds.{deed_of, settle_deed, open_deed, close_deed, unlink_deed, sync_deed, unmount_deed, is_failure, fails, published_by}
use Rattle.spec_core.specs.State.{State, find, among, held, is_held, is_unlinked, present}
use Rattle.spec_core.specs.Step.{Chosen}
use Rattle.spec_core.specs.declared.act.Act.{Act}
use Rattle.spec_core.specs.declared.act.Act.TheVariants.{Begin, Admit, Put, Settle, Retire, Open, Fetch, Read, Scan, Close, Unlink, Sync, List as ListAll, Unmount}
use Rattle.spec_core.specs.declared.choice.Choice.{Choice}
use Rattle.spec_core.specs.declared.choice.Choice.TheVariants.{Only, Never}
use Rattle.spec_core.specs.declared.deed.Deed.{Deed}
use Rattle.spec_core.specs.declared.deed.Deed.TheVariants.{Nothing, Opens, Closes, Unlinks, Publishes, Purges, Empties}
use Rattle.spec_core.specs.declared.event.CoreEvent.{CoreEvent}
use Rattle.spec_core.specs.declared.map_change.MapChange.{MapChange}
use Rattle.spec_core.specs.declared.map_change.MapChange.TheVariants.{Publish}
use Rattle.spec_core.specs.declared.place.Place.{Place}
use Rattle.spec_core.specs.declared.reply.Reply.{Reply}
use Rattle.spec_core.specs.declared.reply.Reply.TheVariants.{Granted, Admitted, Published, Opened, Closed, Unlinked, Synced, Unmounted, Stopped, NotFound, DeviceFault}
use Rattle.spec_core.specs.declared.setting.Setting.{Setting}
use Rattle.spec_core.specs.declared.who.Who.{Who}

-- the deed of an event
abbrev pub its_deed : CoreEvent → Deed
its_deed e = deed_of e.who e.act e.reply

-- the state after a deed, in slots, leaving, queue, log and map
abbrev pub by_deed : Setting → State → Deed → State
by_deed g s Nothing = s
by_deed g s (Opens p r) = record s { slots = insert_entry place_cmp s.slots p r }
by_deed g s (Closes p) = emptied s p (held s.slots p)
by_deed g s (Unlinks r) = unlinked s r Unlinked
by_deed g s (Publishes r) = flushed s (Publish r (blob_of g (find s.adds r)) ∷ [])
by_deed g s Purges = flushed s []
by_deed g s (Empties true) = flushed (slots_emptied s) []
by_deed g s (Empties false) = slots_emptied s

-- slots, leaving, queue and map are t's, and so is the log unless an entry failed
pub record Alike (failed : Bool) (s t : State) : Type 0 where
  pub slots : s.slots ≡ t.slots
  pub leaving : s.leaving ≡ t.leaving
  pub queue : s.queue ≡ t.queue
  pub map : s.map ≡ t.map
  pub going : s.stopped ≡ None → t.stopped ≡ None
  pub log : failed ≡ false → s.log ≡ t.log

itself : (b : Bool) (s : State) → Alike b s s
itself b s = record { slots = refl; leaving = refl; queue = refl; map = refl; going = λ h. h; log = λ h. refl }

module _ (g : Setting) (s : State) where
  begun_alike : (x : Digest) (n : ℕ) (q : Reply) → Alike false (begun s x n q) s
  begun_alike x n Granted = record { slots = refl; leaving = refl; queue = refl; map = refl; going = λ h. h; log = λ h. refl }
  begun_alike x n _ = itself false s

  admitted_alike : (x : Digest) (q : Reply) → Alike false (admitted s x q) s
  admitted_alike x Admitted = itself false s
  admitted_alike x _ = record { slots = refl; leaving = refl; queue = refl; map = refl; going = λ h. h; log = λ h. refl }

  put_alike : (q : Reply) → Alike false (put_done s q) s
  put_alike (DeviceFault f) = record { slots = refl; leaving = refl; queue = refl; map = refl; going = λ h. cc; log = λ h. refl }
  put_alike _ = itself false s

  settled_alike : (x : Digest) (q : Reply) → Alike (is_failure q) (settled s x (blob_of g (find s.adds x)) q) (by_deed g s (settle_deed x q))
  settled_alike x Published = record { slots = refl; leaving = refl; queue = refl; map = refl; going = λ h. h; log = λ h. refl }
  settled_alike x (DeviceFault f) = record { slots = refl; leaving = refl; queue = refl; map = refl; going = λ h. cc; log = λ h. cc }
  settled_alike x _ = record { slots = refl; leaving = refl; queue = refl; map = refl; going = λ h. h; log = λ h. refl }

  opened_alike : (p : Place) (x : Digest) (q : Reply) → Alike false (opened s p x q) (by_deed g s (open_deed p x q))
  opened_alike p x (Opened n) = record { slots = refl; leaving = refl; queue = refl; map = refl; going = λ h. h; log = λ h. refl }
  opened_alike p x _ = itself false s

  closed_alike : (p : Place) (q : Reply) → Alike false (closed s p q) (by_deed g s (close_deed p q))
  closed_alike p Closed = itself false (emptied s p (held s.slots p))
  closed_alike p _ = itself false s

  unlinked_alike : (x : Digest) (q : Reply) → Alike false (unlinked s x q) (by_deed g s (unlink_deed x q))
  unlinked_alike x Unlinked = itself false (unlinked s x Unlinked)
  unlinked_alike x _ = itself false s

  sync_alike : (q : Reply) → Alike (is_failure q) (sync_done s q) (by_deed g s (sync_deed q))
  sync_alike Synced = record { slots = refl; leaving = refl; queue = refl; map = refl; going = λ h. h; log = λ h. refl }
  sync_alike (DeviceFault f) = record { slots = refl; leaving = refl; queue = refl; map = refl; going = λ h. cc; log = λ h. cc }
  sync_alike _ = itself false s

  unmount_alike : (q : Reply) → Alike (is_failure q) (unmount_done (slots_emptied s) q) (by_deed g s (unmount_deed q))
  unmount_alike Unmounted = record { slots = refl; leaving = refl; queue = refl; map = refl; going = λ h. h; log = λ h. refl }
  unmount_alike (DeviceFault f) = record { slots = refl; leaving = refl; queue = refl; map = refl; going = λ h. cc; log = λ h. cc }
  unmount_alike _ = itself false (slots_emptied s)

  pub alike : (w : Who) (a : Act) (q : Reply) → Alike (fails a q) (change g s w a q) (by_deed g s (deed_of w a q))
  alike w (Begin r n) q = begun_alike r n q
  alike w (Admit r) q = admitted_alike r q
  alike w (Put i) q = put_alike q
  alike w (Settle r) q = settled_alike r q
  alike w (Retire r) q = record { slots = refl; leaving = refl; queue = refl; map = refl; going = λ h. h; log = λ h. refl }
  alike w (Open slot r) q = opened_alike (place_of w slot) r q
  alike w (Fetch slot i) q = itself false s
  alike w (Read slot off len) q = itself false s
  alike w (Scan slot) q = itself false s
  alike w (Close slot) q = closed_alike (place_of w slot) q
  alike w (Unlink r) q = unlinked_alike r q
  alike w Sync q = sync_alike q
  alike w ListAll q = itself false s
  alike w Unmount q = unmount_alike q

  let_go_stopped : (r : Digest) → (let_go s r).stopped ≡ s.stopped
  let_go_stopped r = go (among s.leaving r && not (is_held s.slots r))
    where
      go : (b : Bool) → (cond b (record s { leaving = remove_key (is_at (digest_cmp r)) s.leaving; queue = s.queue ++ r ∷ [] }) s).stopped ≡ s.stopped
      go true = refl
      go false = refl

  unlinked_stopped : (r : Digest) → (unlinked s r Unlinked).stopped ≡ s.stopped
  unlinked_stopped r = go (is_held s.slots r)
    where
      go : (b : Bool) → (cond b (record s { leaving = insert_key digest_cmp s.leaving r }) (record s { queue = s.queue ++ r ∷ [] })).stopped ≡ s.stopped
      go true = refl
      go false = refl

emptied_stopped : (s : State) (p : Place) (o : Option Digest) → (emptied s p o).stopped ≡ s.stopped
emptied_stopped s p (Some r) = let_go_stopped (record { blocks = 0; nodes = 0; version = 0 }) (record s { slots = remove_entry (is_at (place_cmp p)) s.slots }) r
emptied_stopped s p None = refl

pub deed_stopped : (g : Setting) (s : State) (d : Deed) → (by_deed g s d).stopped ≡ s.stopped
deed_stopped g s Nothing = refl
deed_stopped g s (Opens p r) = refl
deed_stopped g s (Closes p) = emptied_stopped s p (held s.slots p)
deed_stopped g s (Unlinks r) = unlinked_stopped g s r
deed_stopped g s (Publishes r) = refl
deed_stopped g s Purges = refl
deed_stopped g s (Empties true) = refl
deed_stopped g s (Empties false) = refl

-- what an event logs past its deed as the device fails: the queue's purges, and what it publishes
abbrev pub Failing : Act → State → State → Type 0
Failing a s t =
    (cs : List MapChange) × (length cs ≡ published_by a) × (s.log ≡ t.log ++ (queued t ++ cs)) × (is_some s.stopped ≡ true)

module _ (g : Setting) (s : State) where
  settle_failing : (x : Digest) (q : Reply) → is_failure q ≡ true → Failing (Settle x) (settled s x (blob_of g (find s.adds x)) q) (by_deed g s (settle_deed x q))
  settle_failing x (DeviceFault f) h = (Publish x (blob_of g (find s.adds x)) ∷ [], refl, refl, refl)
  settle_failing x _ h = cc

  sync_failing : (q : Reply) → is_failure q ≡ true → Failing Sync (sync_done s q) (by_deed g s (sync_deed q))
  sync_failing (DeviceFault f) h = ([], refl, refl, refl)
  sync_failing _ h = cc

  unmount_failing : (q : Reply) → is_failure q ≡ true → Failing Unmount (unmount_done (slots_emptied s) q) (by_deed g s (unmount_deed q))
  unmount_failing (DeviceFault f) h = ([], refl, refl, refl)
  unmount_failing _ h = cc

  pub failing : (w : Who) (a : Act) (q : Reply) → fails a q ≡ true → Failing a (change g s w a q) (by_deed g s (deed_of w a q))
  failing w (Settle r) q h = settle_failing r q h
  failing w Sync q h = sync_failing q h
  failing w Unmount q h = unmount_failing q h
  failing w _ q h = cc

-- ---- what the replies tell of a failure

pub went : (o : Option ℕ) (c : Choice) (q : Reply) → ((f : ℕ) → ¬ (q ≡ Stopped f)) → Chosen (unless_stopped o c) q → o ≡ None
went (Some f) c q other h = absurd (other f h)
went None c q other h = refl

pub settle_went : (p o : Option ℕ) (c : Choice) (q : Reply) → ((f : ℕ) → ¬ (q ≡ Stopped f)) → Chosen (if_added p (λ n. unless_stopped o c)) q → o ≡ None
settle_went None o c q other h = absurd h
settle_went (Some n) o c q other h = went o c q other h

pub unmount_went : (b : Bool) (o : Option ℕ) (c : Choice) (q : Reply) → ((f : ℕ) → ¬ (q ≡ Stopped f)) → Chosen (cond b (unless_stopped o c) Never) q → o ≡ None
unmount_went true o c q other h = went o c q other h
unmount_went false o c q other h = absurd h

is_not_stopped : (q : Reply) → is_failure q ≡ true → (f : ℕ) → ¬ (q ≡ Stopped f)
is_not_stopped q h f e = let no = rw e at h in cc

-- an entry fails while nothing failed before
pub was_going : (g : Setting) (s : State) (w : Who) (a : Act) (q : Reply) → fails a q ≡ true → Chosen (choice g s w a) q → s.stopped ≡ None
was_going g s w (Settle r) q h c = settle_went (find s.adds r) s.stopped (settle_choice s) q (is_not_stopped q h) c
was_going g s w Sync q h c = went s.stopped (sync_choice s s.queue Synced) q (is_not_stopped q h) c
was_going g s w Unmount q h c = unmount_went (is_empty s.adds) s.stopped (sync_choice s (s.queue ++ s.leaving) Unmounted) q (is_not_stopped q h) c
was_going g s w _ q h c = cc

-- what holds before a deed that may come
abbrev pub Ready : State → Deed → Type 0
Ready s (Opens p r) = held s.slots p ≡ None
Ready s (Unlinks r) = (is_some (find s.map r) ≡ true) × (among s.leaving r ≡ false) × (among s.queue r ≡ false)
Ready s _ = Unit {0}

present_means : (s : State) (r : Digest) → is_some (present s r) ≡ true → Ready s (Unlinks r)
present_means s r h =
    let p = if_present (is_unlinked s r) (find s.map r) h in let u = or_false (among s.leaving r) (among s.queue r) p.0 in (p.1, u.0, u.1)

was_unlinked : (o : Option ℕ) (b : Bool) → Chosen (unless_stopped o (cond b (Only Unlinked) (Only NotFound))) Unlinked → b ≡ true
was_unlinked (Some f) b c = cc
was_unlinked None true c = refl
was_unlinked None false c = cc

module _ (s : State) where
  settle_ready : (r : Digest) (q : Reply) → Ready s (settle_deed r q)
  settle_ready r Published = tt
  settle_ready r _ = tt

  open_ready : (p : Place) (r : Digest) (q : Reply) → Chosen (open_choice (present s r) (held s.slots p)) q → Ready s (open_deed p r q)
  open_ready p r (Opened n) c = was_empty (present s r) (held s.slots p) n c
  open_ready p r _ c = tt

  close_ready : (p : Place) (q : Reply) → Ready s (close_deed p q)
  close_ready p Closed = tt
  close_ready p _ = tt

  unlink_ready : (r : Digest) (q : Reply) → Chosen (unless_stopped s.stopped (cond (is_some (present s r)) (Only Unlinked) (Only NotFound))) q → Ready s (unlink_deed r q)
  unlink_ready r Unlinked c = present_means s r (was_unlinked s.stopped (is_some (present s r)) c)
  unlink_ready r _ c = tt

  sync_ready : (q : Reply) → Ready s (sync_deed q)
  sync_ready Synced = tt
  sync_ready _ = tt

  unmount_ready : (q : Reply) → Ready s (unmount_deed q)
  unmount_ready Unmounted = tt
  unmount_ready _ = tt

pub ready : (g : Setting) (s : State) (w : Who) (a : Act) (q : Reply) → Chosen (choice g s w a) q → Ready s (deed_of w a q)
ready g s w (Settle r) q c = settle_ready s r q
ready g s w (Open slot r) q c = open_ready s (place_of w slot) r q c
ready g s w (Close slot) q c = close_ready s (place_of w slot) q
ready g s w (Unlink r) q c = unlink_ready s r q c
ready g s w Sync q c = sync_ready s q
ready g s w Unmount q c = unmount_ready s q
ready g s w _ q c = tt
