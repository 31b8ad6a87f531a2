-- A slot keeps its root.
use Rattle.std.proofs.Common.{◌≡◌, ℕ, Bool, true, false, cond, not, ◌&&◌, Option, Some, None, [], ◌∷◌, ◌++◌, refl, ap, sym, ◌∙◌}
use Rattle.std.specs.declared.cmp.Ordering.{Ordering}
use Rattle.std.specs.declared.cmp.Ordering.TheVariants.{Less, Equal, Greater}
use Rattle.std.specs.Ordering.{is_eq, nat_cmp, ordering_then, eq_by_cmp}
use Rattle.std.specs.Cmp.{IsTotalOrder, ranked}
use Rattle.std.specs.BTreeMap.{is_at}
use Rattle.std.specs.BTreeSet.{insert_key}
use Rattle.std.specs.Map.{remove_entry}
use Rattle.std.specs.Set.{remove_key}
use Rattle.std.proofs.lemmas.Cmp.{on_total, then_total, nat_cmp_total}
use Rattle.spec_tree.specs.declared.Digest.{Digest}
use Rattle.spec_core.proofs.EntryLemmas.{lookup-insert_entry, lookup-remove_other}
use Rattle.spec_core.specs.Change.{change, begun, admitted, put_done, blob_of, settled, opened, let_go, emptied, closed, unlinked, sync_done}
use Rattle.spec_core.specs.Choice.{choice, open_choice, place_of}
use Rattle.spec_core.specs.Laws.{Empties, SlotsStay}
use Rattle.spec_tree.specs.Order.{digest_cmp}
use Rattle.spec_core.specs.Order.{place_cmp}
use Rattle.spec_core.specs.State.{State, find, among, held, is_held, present}
use Rattle.spec_core.specs.Step.{Chosen}
use Rattle.spec_core.specs.declared.act.Act.{Act}
use Rattle.spec_core.specs.declared.act.Act.TheVariants.{Begin, Admit, Put, Settle, Retire, Open, Fetch, Read, Scan, Close, Unlink, Sync, List as ListAll, Unmount}
use Rattle.spec_tree.specs.declared.blob.Blob.{Blob}
use Rattle.spec_core.specs.declared.place.Place.{Place}
use Rattle.spec_core.specs.declared.reply.Reply.{Reply}
use Rattle.spec_core.specs.declared.reply.Reply.TheVariants.{Granted, Admitted, Published, Opened, Closed, Unlinked, Synced, DeviceFault}
use Rattle.spec_core.specs.declared.setting.Setting.{Setting}
use Rattle.spec_core.specs.declared.who.Who.{Who}

pub place_total : IsTotalOrder place_cmp
place_total = then_total (on_total (λ (p : Place). p.session) nat_cmp_total) (on_total (λ (p : Place). p.slot) nat_cmp_total)

both_equal : (a b : Ordering) → is_eq (ordering_then a b) ≡ true → (a ≡ Equal) × (b ≡ Equal)
both_equal Less b h = cc
both_equal Greater b h = cc
both_equal Equal Less h = cc
both_equal Equal Greater h = cc
both_equal Equal Equal h = (refl, refl)

nat_equal : (m n : ℕ) → nat_cmp m n ≡ Equal → m ≡ n
nat_equal m n h = ranked m n Equal (sym h)

pub one_place : (p q : Place) → eq_by_cmp place_cmp p q ≡ true → p ≡ q
one_place p q h =
    let e = both_equal (nat_cmp p.session q.session) (nat_cmp p.slot q.slot) h in
    ap (λ (n : ℕ). record { session = n; slot = p.slot }) (nat_equal p.session q.session e.0) ∙ ap (λ (n : ℕ). record { session = q.session; slot = n }) (nat_equal p.slot q.slot e.1)

unlike : (p q : Place) → ¬ (p ≡ q) → eq_by_cmp place_cmp p q ≡ false
unlike p q f = go (eq_by_cmp place_cmp p q) refl
  where
    go : (b : Bool) → eq_by_cmp place_cmp p q ≡ b → b ≡ false
    go true h = absurd (f (one_place p q h))
    go false h = refl

pub was_empty : (o : Option Blob) (slot : Option Digest) (n : ℕ) → Chosen (open_choice o slot) (Opened n) → slot ≡ None
was_empty None slot n c = cc
was_empty (Some b) (Some r) n c = cc
was_empty (Some b) None n c = refl

pub let_go_slots : (s : State) (r : Digest) → (let_go s r).slots ≡ s.slots
let_go_slots s r = go (among s.leaving r && not (is_held s.slots r))
  where
    go : (b : Bool) → (cond b (record s { leaving = remove_key (is_at (digest_cmp r)) s.leaving; queue = s.queue ++ r ∷ [] }) s).slots ≡ s.slots
    go true = refl
    go false = refl

module _ (s : State) (p : Place) (r : Digest) (was : held s.slots p ≡ Some r) where
  opened_stays : (q : Place) (x : Digest) (reply : Reply) → Chosen (open_choice (present s x) (held s.slots q)) reply → held (opened s q x reply).slots p ≡ Some r
  opened_stays q x (Opened n) c = lookup-insert_entry place_total s.slots q x p ∙ go (eq_by_cmp place_cmp p q) refl
    where
      go : (b : Bool) → eq_by_cmp place_cmp p q ≡ b → cond b (Some x) (held s.slots p) ≡ Some r
      go true h = let e = sym was ∙ ap (held s.slots) (one_place p q h) ∙ was_empty (present s x) (held s.slots q) n c in cc
      go false h = was
  opened_stays q x _ c = was

  emptied_stays : (q : Place) (o : Option Digest) → ¬ (q ≡ p) → held (emptied s q o).slots p ≡ Some r
  emptied_stays q (Some x) f =
      ap (λ slots. held slots p) (let_go_slots (record s { slots = remove_entry (is_at (place_cmp q)) s.slots }) x) ∙ lookup-remove_other place_total s.slots q p (unlike q p f) ∙ was
  emptied_stays q None f = was

  closed_stays : (q : Place) (reply : Reply) → ¬ (q ≡ p) → held (closed s q reply).slots p ≡ Some r
  closed_stays q Closed f = emptied_stays q (held s.slots q) f
  closed_stays q _ f = was

  begun_stays : (x : Digest) (n : ℕ) (reply : Reply) → held (begun s x n reply).slots p ≡ Some r
  begun_stays x n Granted = was
  begun_stays x n _ = was

  admitted_stays : (x : Digest) (reply : Reply) → held (admitted s x reply).slots p ≡ Some r
  admitted_stays x Admitted = was
  admitted_stays x _ = was

  put_stays : (reply : Reply) → held (put_done s reply).slots p ≡ Some r
  put_stays (DeviceFault f) = was
  put_stays _ = was

  settled_stays : (x : Digest) (b : Blob) (reply : Reply) → held (settled s x b reply).slots p ≡ Some r
  settled_stays x b Published = was
  settled_stays x b (DeviceFault f) = was
  settled_stays x b _ = was

  unlinked_stays : (x : Digest) (reply : Reply) → held (unlinked s x reply).slots p ≡ Some r
  unlinked_stays x Unlinked = go (is_held s.slots x)
    where
      go : (b : Bool) → held (cond b (record s { leaving = insert_key digest_cmp s.leaving x }) (record s { queue = s.queue ++ x ∷ [] })).slots p ≡ Some r
      go true = was
      go false = was
  unlinked_stays x _ = was

  sync_stays : (reply : Reply) → held (sync_done s reply).slots p ≡ Some r
  sync_stays Synced = was
  sync_stays (DeviceFault f) = was
  sync_stays _ = was

  stays : (g : Setting) (w : Who) (a : Act) (q : Reply) → Chosen (choice g s w a) q → ¬ Empties p w a → held (change g s w a q).slots p ≡ Some r
  stays g w (Begin x n) q c f = begun_stays x n q
  stays g w (Admit x) q c f = admitted_stays x q
  stays g w (Put i) q c f = put_stays q
  stays g w (Settle x) q c f = settled_stays x (blob_of g (find s.adds x)) q
  stays g w (Retire x) q c f = was
  stays g w (Open slot x) q c f = opened_stays (place_of w slot) x q c
  stays g w (Fetch slot i) q c f = was
  stays g w (Read slot off len) q c f = was
  stays g w (Scan slot) q c f = was
  stays g w (Close slot) q c f = closed_stays (place_of w slot) q f
  stays g w (Unlink x) q c f = unlinked_stays x q
  stays g w Sync q c f = sync_stays q
  stays g w ListAll q c f = was
  stays g w Unmount q c f = absurd (f tt)

pub slots_stay : SlotsStay
slots_stay g s e p r fits was = stays s p r was g e.who e.act e.reply fits
