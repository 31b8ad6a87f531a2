-- The number of the next entry changes nothing else.
use Rattle.std.proofs.Common.{◌≡◌, ℕ, Bool, true, false, cond, not, ◌&&◌, Option, Some, None, List, [], ◌∷◌, ◌++◌, length, refl, ap, sym, ◌∙◌, subst}
use Rattle.std.specs.BTreeMap.{is_at}
use Rattle.std.specs.BTreeSet.{insert_key}
use Rattle.std.specs.Map.{remove_entry}
use Rattle.std.specs.Set.{remove_key}
use Rattle.spec_tree.specs.declared.Digest.{Digest}
use Rattle.spec_core.specs.Change.{change, begun, admitted, put_done, blob_of, settled, opened, let_go, emptied, closed, unlinked, sync_done, slots_emptied, unmount_done}
use Rattle.spec_core.specs.Choice.{place_of}
use Rattle.spec_core.specs.History.{setting_of, opening_map, first_state}
use Rattle.spec_core.specs.Laws.{NumbersAreApart}
use Rattle.spec_tree.specs.Order.{digest_cmp}
use Rattle.spec_core.specs.Order.{place_cmp}
use Rattle.spec_core.specs.State.{State, find, among, held, is_held}
use Rattle.spec_core.specs.Step.{after, state_after}
use Rattle.spec_core.specs.Synced.{lengths_from}
use Rattle.spec_core.specs.declared.act.Act.{Act}
use Rattle.spec_core.specs.declared.act.Act.TheVariants.{Begin, Admit, Put, Settle, Retire, Open, Fetch, Read, Scan, Close, Unlink, Sync, List as ListAll, Unmount}
use Rattle.spec_tree.specs.declared.blob.Blob.{Blob}
use Rattle.spec_core.specs.declared.event.CoreEvent.{CoreEvent}
use Rattle.spec_core.specs.declared.place.Place.{Place}
use Rattle.spec_core.specs.declared.reply.Reply.{Reply}
use Rattle.spec_core.specs.declared.reply.Reply.TheVariants.{Granted, Admitted, Published, Opened, Closed, Unlinked, Synced, Unmounted, DeviceFault}
use Rattle.spec_core.specs.declared.setting.Setting.{Setting}
use Rattle.spec_core.specs.declared.who.Who.{Who}

-- t is s with another number of the next entry
abbrev pub Renumbered : State → State → Type 0
Renumbered s t = t ≡ record s { next = t.next }

module _ (s : State) (n : ℕ) where
  abbrev t : State
  t = record s { next = n }

  let_go_apart : (r : Digest) → Renumbered (let_go s r) (let_go t r)
  let_go_apart r = go (among s.leaving r && not (is_held s.slots r))
    where
      go : (b : Bool) → Renumbered (cond b (record s { leaving = remove_key (is_at (digest_cmp r)) s.leaving; queue = s.queue ++ r ∷ [] }) s) (cond b (record t { leaving = remove_key (is_at (digest_cmp r)) s.leaving; queue = s.queue ++ r ∷ [] }) t)
      go true = refl
      go false = refl

  begun_apart : (x : Digest) (m : ℕ) (q : Reply) → Renumbered (begun s x m q) (begun t x m q)
  begun_apart x m Granted = refl
  begun_apart x m _ = refl

  admitted_apart : (x : Digest) (q : Reply) → Renumbered (admitted s x q) (admitted t x q)
  admitted_apart x Admitted = refl
  admitted_apart x _ = refl

  put_apart : (q : Reply) → Renumbered (put_done s q) (put_done t q)
  put_apart (DeviceFault f) = refl
  put_apart _ = refl

  settled_apart : (x : Digest) (b : Blob) (q : Reply) → Renumbered (settled s x b q) (settled t x b q)
  settled_apart x b Published = refl
  settled_apart x b (DeviceFault f) = refl
  settled_apart x b _ = refl

  opened_apart : (p : Place) (x : Digest) (q : Reply) → Renumbered (opened s p x q) (opened t p x q)
  opened_apart p x (Opened m) = refl
  opened_apart p x _ = refl

  unlinked_apart : (x : Digest) (q : Reply) → Renumbered (unlinked s x q) (unlinked t x q)
  unlinked_apart x Unlinked = go (is_held s.slots x)
    where
      go : (b : Bool) → Renumbered (cond b (record s { leaving = insert_key digest_cmp s.leaving x }) (record s { queue = s.queue ++ x ∷ [] })) (cond b (record t { leaving = insert_key digest_cmp s.leaving x }) (record t { queue = s.queue ++ x ∷ [] }))
      go true = refl
      go false = refl
  unlinked_apart x _ = refl

  sync_apart : (q : Reply) → Renumbered (sync_done s q) (sync_done t q)
  sync_apart Synced = refl
  sync_apart (DeviceFault f) = refl
  sync_apart _ = refl

  unmount_apart : (q : Reply) → Renumbered (unmount_done (slots_emptied s) q) (unmount_done (slots_emptied t) q)
  unmount_apart Unmounted = refl
  unmount_apart (DeviceFault f) = refl
  unmount_apart _ = refl

emptied_apart : (s : State) (n : ℕ) (p : Place) (o : Option Digest) → Renumbered (emptied s p o) (emptied (record s { next = n }) p o)
emptied_apart s n p (Some r) = let_go_apart (record s { slots = remove_entry (is_at (place_cmp p)) s.slots }) n r
emptied_apart s n p None = refl

closed_apart : (s : State) (n : ℕ) (p : Place) (q : Reply) → Renumbered (closed s p q) (closed (record s { next = n }) p q)
closed_apart s n p Closed = emptied_apart s n p (held s.slots p)
closed_apart s n p _ = refl

change_apart : (g : Setting) (s : State) (n : ℕ) (w : Who) (a : Act) (q : Reply) → Renumbered (change g s w a q) (change g (record s { next = n }) w a q)
change_apart g s n w (Begin r m) q = begun_apart s n r m q
change_apart g s n w (Admit r) q = admitted_apart s n r q
change_apart g s n w (Put i) q = put_apart s n q
change_apart g s n w (Settle r) q = settled_apart s n r (blob_of g (find s.adds r)) q
change_apart g s n w (Retire r) q = refl
change_apart g s n w (Open slot r) q = opened_apart s n (place_of w slot) r q
change_apart g s n w (Fetch slot i) q = refl
change_apart g s n w (Read slot off len) q = refl
change_apart g s n w (Scan slot) q = refl
change_apart g s n w (Close slot) q = closed_apart s n (place_of w slot) q
change_apart g s n w (Unlink r) q = unlinked_apart s n r q
change_apart g s n w Sync q = sync_apart s n q
change_apart g s n w ListAll q = refl
change_apart g s n w Unmount q = unmount_apart s n q

pub after_apart : (g : Setting) (s t : State) (e : CoreEvent) → Renumbered s t → Renumbered (after g s e) (after g t e)
after_apart g s t e same = subst (λ (u : State). Renumbered (after g s e) (after g u e)) (sym same) (change_apart g s t.next e.who e.act e.reply)

pub run_apart : (g : Setting) (s t : State) (es : List CoreEvent) → Renumbered s t → Renumbered (state_after g s es) (state_after g t es)
run_apart g s t [] same = same
run_apart g s t (e ∷ es) same = run_apart g (after g s e) (after g t e) es (after_apart g s t e same)

pub lengths_apart : (g : Setting) (s t : State) (es : List CoreEvent) → Renumbered s t → lengths_from g s es ≡ lengths_from g t es
lengths_apart g s t [] same = refl
lengths_apart g s t (e ∷ es) same =
    let next = after_apart g s t e same in
    ap (λ (n : ℕ). (e, n) ∷ lengths_from g (after g s e) es) (sym (ap (λ (u : State). length u.log) next)) ∙ ap (λ ps. (e, length (after g t e).log) ∷ ps) (lengths_apart g (after g s e) (after g t e) es next)

pub numbers_are_apart : NumbersAreApart
numbers_are_apart h next = run_apart (setting_of h) (first_state (opening_map h) 0) (first_state (opening_map h) next) h.events refl
