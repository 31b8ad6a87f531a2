-- What a sync has made durable is what is synced once all calls are reached.
use Rattle.std.proofs.Common.{◌≡◌, ℕ, ◌≤◌, Bool, true, false, cond, not, ◌&&◌, nat_le, Option, Some, None, List, [], ◌∷◌, ◌++◌, length, refl, ap, sym, ◌∙◌, arith}
use Rattle.std.specs.BTreeMap.{is_at}
use Rattle.std.specs.BTreeSet.{insert_key}
use Rattle.std.specs.List.{All}
use Rattle.std.specs.Map.{remove_entry}
use Rattle.std.specs.Set.{remove_key}
use Rattle.std.proofs.lemmas.Bool.Decides.{nat_tests}
use Rattle.std.proofs.lemmas.List.Elements.{All-head, All-tail}
use Rattle.spec_tree.specs.declared.Digest.{Digest}
use Rattle.spec_tree.specs.declared.blob.Blob.{Blob}
use Rattle.spec_tree.specs.Order.{digest_cmp}
use Rattle.spec_core.proofs.Numbers.{lengths_apart}
use Rattle.spec_core.proofs.Replies.{lacks, lacks_sync, lacks_unmount}
use Rattle.spec_core.proofs.Timing.{synced, synced_next}
use Rattle.spec_core.specs.Change.{change, begun, admitted, put_done, blob_of, settled, opened, let_go, emptied, closed, unlinked, sync_done, slots_emptied, unmount_done}
use Rattle.spec_core.specs.Choice.{choice, is_empty, place_of, sync_choice, unless_stopped}
use Rattle.spec_core.specs.declared.choice.Choice.TheVariants.{Never}
use Rattle.spec_core.specs.History.{setting_of, opening_map, first_state}
use Rattle.spec_core.specs.Order.{place_cmp}
use Rattle.spec_core.specs.State.{State, find, among, held, is_held}
use Rattle.spec_core.specs.Step.{Chosen, Steps, after, state_after}
use Rattle.spec_core.specs.Synced.{lengths_from, tells_durable}
use Rattle.spec_core.specs.SyncedLaws.{SyncedIsDurable}
use Rattle.spec_core.specs.declared.act.Act.{Act}
use Rattle.spec_core.specs.declared.act.Act.TheVariants.{Begin, Admit, Put, Settle, Retire, Open, Fetch, Read, Scan, Close, Unlink, Sync, List as ListAll, Unmount}
use Rattle.spec_core.specs.declared.event.CoreEvent.{CoreEvent}
use Rattle.spec_core.specs.declared.place.Place.{Place}
use Rattle.spec_core.specs.declared.reply.Reply.{Reply}
use Rattle.spec_core.specs.declared.reply.Reply.TheVariants.{Granted, Admitted, Published, Opened, Closed, Unlinked, Synced, Unmounted, DeviceFault}
use Rattle.spec_core.specs.declared.setting.Setting.{Setting}
use Rattle.spec_core.specs.declared.who.Who.{Who}

-- ---- events that make nothing durable

module _ (s : State) where
  begun_leaves : (x : Digest) (n : ℕ) (q : Reply) → (begun s x n q).durable ≡ s.durable
  begun_leaves x n Granted = refl
  begun_leaves x n _ = refl

  admitted_leaves : (x : Digest) (q : Reply) → (admitted s x q).durable ≡ s.durable
  admitted_leaves x Admitted = refl
  admitted_leaves x _ = refl

  put_leaves : (q : Reply) → (put_done s q).durable ≡ s.durable
  put_leaves (DeviceFault f) = refl
  put_leaves _ = refl

  settled_leaves : (x : Digest) (b : Blob) (q : Reply) → (settled s x b q).durable ≡ s.durable
  settled_leaves x b Published = refl
  settled_leaves x b (DeviceFault f) = refl
  settled_leaves x b _ = refl

  opened_leaves : (p : Place) (x : Digest) (q : Reply) → (opened s p x q).durable ≡ s.durable
  opened_leaves p x (Opened n) = refl
  opened_leaves p x _ = refl

  let_go_leaves : (x : Digest) → (let_go s x).durable ≡ s.durable
  let_go_leaves x = go (among s.leaving x && not (is_held s.slots x))
    where
      go : (b : Bool) → (cond b (record s { leaving = remove_key (is_at (digest_cmp x)) s.leaving; queue = s.queue ++ x ∷ [] }) s).durable ≡ s.durable
      go true = refl
      go false = refl

  unlinked_leaves : (x : Digest) (q : Reply) → (unlinked s x q).durable ≡ s.durable
  unlinked_leaves x Unlinked = go (is_held s.slots x)
    where
      go : (b : Bool) → (cond b (record s { leaving = insert_key digest_cmp s.leaving x }) (record s { queue = s.queue ++ x ∷ [] })).durable ≡ s.durable
      go true = refl
      go false = refl
  unlinked_leaves x _ = refl

emptied_leaves : (s : State) (p : Place) (o : Option Digest) → (emptied s p o).durable ≡ s.durable
emptied_leaves s p (Some x) = let_go_leaves (record s { slots = remove_entry (is_at (place_cmp p)) s.slots }) x
emptied_leaves s p None = refl

closed_leaves : (s : State) (p : Place) (q : Reply) → (closed s p q).durable ≡ s.durable
closed_leaves s p Closed = emptied_leaves s p (held s.slots p)
closed_leaves s p _ = refl

-- ---- one event

-- the whole log is durable after an event that tells so, and as much as before after any other
abbrev Told : State → Reply → State → Type 0
Told s q t = t.durable ≡ cond (tells_durable q) (length t.log) s.durable

-- acts other than sync and unmount tell nothing
module _ (g : Setting) (s : State) (w : Who) (q : Reply) where
  quiet : (a : Act) → ¬ (a ≡ Sync) → ¬ (a ≡ Unmount) → Chosen (choice g s w a) q → (change g s w a q).durable ≡ s.durable → Told s q (change g s w a q)
  quiet a sync unmount c same = go (tells_durable q) refl
    where
      go : (b : Bool) → tells_durable q ≡ b → (change g s w a q).durable ≡ cond b (length (change g s w a q).log) s.durable
      go true e = absurd (lacks q e g s w a sync unmount c)
      go false e = same

sync_told : (s : State) (q : Reply) → Chosen (unless_stopped s.stopped (sync_choice s s.queue Synced)) q → Told s q (sync_done s q)
sync_told s Synced c = refl
sync_told s Unmounted c = absurd (lacks_sync Unmounted refl s s.queue Synced (λ e. cc) c)
sync_told s (DeviceFault f) c = refl
sync_told s _ c = refl

unmount_told : (s : State) (q : Reply) → Chosen (cond (is_empty s.adds) (unless_stopped s.stopped (sync_choice s (s.queue ++ s.leaving) Unmounted)) Never) q → Told s q (unmount_done (slots_emptied s) q)
unmount_told s Unmounted c = refl
unmount_told s Synced c = absurd (lacks_unmount Synced refl s (s.queue ++ s.leaving) (λ e. cc) c)
unmount_told s (DeviceFault f) c = refl
unmount_told s _ c = refl

told : (g : Setting) (s : State) (w : Who) (a : Act) (q : Reply) → Chosen (choice g s w a) q → Told s q (change g s w a q)
told g s w (Begin r n) q c = quiet g s w q (Begin r n) (λ e. cc) (λ e. cc) c (begun_leaves s r n q)
told g s w (Admit r) q c = quiet g s w q (Admit r) (λ e. cc) (λ e. cc) c (admitted_leaves s r q)
told g s w (Put i) q c = quiet g s w q (Put i) (λ e. cc) (λ e. cc) c (put_leaves s q)
told g s w (Settle r) q c = quiet g s w q (Settle r) (λ e. cc) (λ e. cc) c (settled_leaves s r (blob_of g (find s.adds r)) q)
told g s w (Retire r) q c = quiet g s w q (Retire r) (λ e. cc) (λ e. cc) c refl
told g s w (Open slot r) q c = quiet g s w q (Open slot r) (λ e. cc) (λ e. cc) c (opened_leaves s (place_of w slot) r q)
told g s w (Fetch slot i) q c = quiet g s w q (Fetch slot i) (λ e. cc) (λ e. cc) c refl
told g s w (Read slot off len) q c = quiet g s w q (Read slot off len) (λ e. cc) (λ e. cc) c refl
told g s w (Scan slot) q c = quiet g s w q (Scan slot) (λ e. cc) (λ e. cc) c refl
told g s w (Close slot) q c = quiet g s w q (Close slot) (λ e. cc) (λ e. cc) c (closed_leaves s (place_of w slot) q)
told g s w (Unlink r) q c = quiet g s w q (Unlink r) (λ e. cc) (λ e. cc) c (unlinked_leaves s r q)
told g s w Sync q c = sync_told s q c
told g s w ListAll q c = quiet g s w q ListAll (λ e. cc) (λ e. cc) c refl
told g s w Unmount q c = unmount_told s q c

-- ---- all events

within : (m n : ℕ) → m ≤ n → nat_le m n ≡ true
within m n h = grind (arith, nat_tests)

told_by : (b c : Bool) (now before after : ℕ) → c ≡ true → after ≡ cond b now before → cond (b && c) now before ≡ after
told_by true c now before after made e = rw made (sym e)
told_by false c now before after made e = sym e

synced_run : (calls : ℕ) (g : Setting) (s : State) (es : List CoreEvent) → Steps g s es → All (λ (e : CoreEvent). e.calls ≤ calls) es → synced calls s.durable (lengths_from g s es) ≡ (state_after g s es).durable
synced_run calls g s [] a made = refl
synced_run calls g s (e ∷ es) a made =
    let now : ℕ = length (after g s e).log in
    let rest : List (CoreEvent × ℕ) = lengths_from g (after g s e) es in
    let one : e.calls ≤ calls = All-head (λ (e : CoreEvent). e.calls ≤ calls) e es made in
    synced_next calls s.durable (e, now) rest
    ∙ ap (λ (n : ℕ). synced calls n rest) (told_by (tells_durable e.reply) (nat_le e.calls calls) now s.durable (after g s e).durable (within e.calls calls one) (told g s e.who e.act e.reply a.0))
    ∙ synced_run calls g (after g s e) es a.1 (All-tail (λ (e : CoreEvent). e.calls ≤ calls) e es made)

pub synced_is_durable : SyncedIsDurable
synced_is_durable h next calls legal made =
    let g : Setting = setting_of h in
    let first : State = first_state (opening_map h) next in
    ap (synced calls 0) (lengths_apart g (first_state (opening_map h) 0) first h.events refl) ∙ synced_run calls g first h.events legal.steps made
