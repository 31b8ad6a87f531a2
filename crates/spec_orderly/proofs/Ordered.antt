-- The adds of sessions that are in order, step by step.
use Rattle.std.proofs.Common.{◌≡◌, ℕ, ◌==◌, Bool, true, false, cond, not, is_some, ◌&&◌, nat_lt, Option, Some, None, List, [], ◌∷◌, ◌++◌, refl, sym, ap, ◌∙◌, subst, append_assoc}
use Rattle.std.specs.Prelude.{if◌then◌else◌}
use Rattle.std.specs.BTreeMap.{insert_entry, is_at}
use Rattle.std.specs.BTreeSet.{insert_key}
use Rattle.std.specs.Set.{remove_key}
use Rattle.std.proofs.lemmas.Bool.{eqb-true, eqb-false}
use Rattle.std.proofs.lemmas.List.{append-nil}
use Rattle.std.proofs.lemmas.List.Elements.{filter-append}
use Rattle.spec_tree.specs.Tree.{need_of}
use Rattle.spec_tree.specs.declared.Digest.{Digest}
use Rattle.spec_tree.specs.Order.{digest_cmp, same_digest}
use Rattle.spec_core.proofs.EntryLemmas.{lookup-insert_entry, lookup-remove_other}
use Rattle.spec_core.proofs.Holding.{digest_total, one_digest, same_self}
use Rattle.spec_core.specs.Change.{change, begun, admitted, put_done, blob_of, settled, opened, let_go, emptied, closed, unlinked, sync_done, slots_emptied, unmount_done}
use Rattle.spec_core.specs.Choice.{choice, place_of, unless_stopped}
use Rattle.spec_core.specs.History.{History, Legal, first_state, last_state, opening_map, setting_of}
use Rattle.spec_core.specs.Log.{without}
use Rattle.spec_core.specs.Room.{room_in}
use Rattle.spec_core.specs.State.{State, among, find, held, holders, is_held, is_unlinked, present}
use Rattle.spec_core.specs.Step.{Chosen, Steps, after, state_after}
use Rattle.spec_core.specs.declared.act.Act.{Act}
use Rattle.spec_core.specs.declared.act.Act.TheVariants.{Begin, Admit, Put, Settle, Retire, Open, Fetch, Read, Scan, Close, Unlink, Sync, List as ListAll, Unmount}
use Rattle.spec_core.specs.declared.choice.Choice.TheVariants.{Only}
use Rattle.spec_core.specs.declared.event.CoreEvent.{CoreEvent}
use Rattle.spec_core.specs.declared.place.Place.{Place}
use Rattle.spec_core.specs.declared.reply.Reply.{Reply}
use Rattle.spec_core.specs.declared.reply.Reply.TheVariants.{Granted, Admitted, Written, Published, Opened, Closed, Unlinked, Synced, Unmounted, DeviceFault, Exists, Leaving, InFlight, NoSpace}
use Rattle.spec_core.specs.declared.setting.Setting.{Setting}
use Rattle.spec_core.specs.declared.who.Who.{Who}
use Rattle.spec_session.specs.Conform.{events_of}
use Rattle.spec_session.specs.Own.{OwnAdd, add_after, add_from, add_of, admitted_add, new_add, put_add, with_add}
use Rattle.spec_orderly.specs.Orderly.{AreInOrder, HasRoot, IsInOrder}

abbrev pub Adds : Type 0
Adds = List (Digest × ℕ)

-- what each session has under way
abbrev pub Own : Type 0
Own = ℕ → Option OwnAdd

-- each is under way in the core, and no two have one root
pub record Agrees (own : Own) (adds : Adds) : Type 0 where
  pub mine : (s : ℕ) (a : OwnAdd) → own s ≡ Some a → find adds a.root ≡ Some a.size
  pub apart : (s t : ℕ) (a b : OwnAdd) → ¬ (s ≡ t) → own s ≡ Some a → own t ≡ Some b → ¬ (a.root ≡ b.root)

-- one session's add is another one now
abbrev pub with_own : Own → ℕ → Option OwnAdd → Own
with_own own s add t = if s == t then add else own t

-- the add is as it was, but for how far it is
abbrev IsAlike : Option OwnAdd → Option OwnAdd → Type 0
IsAlike old new = (b : OwnAdd) → new ≡ Some b → (a : OwnAdd) × (old ≡ Some a) × (a.root ≡ b.root) × (a.size ≡ b.size)

-- ---- what becomes of the adds

module _ (own : Own) (adds : Adds) (k : Agrees own adds) (s : ℕ) where
  -- what a session has now, where it isn't this one, or is
  others : (add : Option OwnAdd) (P : Option OwnAdd → Type 0) (t : ℕ) → ((s ≡ t) → P add) → (¬ (s ≡ t) → P (own t)) → P (with_own own s add t)
  others add P t here there = by_test (s == t) refl where
    by_test : (b : Bool) → (s == t) ≡ b → P (if b then add else own t)
    by_test true e = here (eqb-true s t e)
    by_test false e = there (eqb-false s t e)

  -- it is alike
  keeps : (add : Option OwnAdd) → IsAlike (own s) add → Agrees (with_own own s add) adds
  keeps add alike = record {
    mine = λ t b is. let o = was t b is in subst (λ (x : Digest × ℕ). find adds x.0 ≡ Some x.1) (λ i. (o.2 i, o.3 i)) (k.mine t o.0 o.1);
    apart = λ t u a b other p q same. let o = was t a p in let r = was u b q in k.apart t u o.0 r.0 other o.1 r.1 (o.2 ∙ same ∙ sym r.2);
  } where
    was : (t : ℕ) (b : OwnAdd) → with_own own s add t ≡ Some b → (a : OwnAdd) × (own t ≡ Some a) × (a.root ≡ b.root) × (a.size ≡ b.size)
    was t b = others add (λ o. o ≡ Some b → (a : OwnAdd) × (own t ≡ Some a) × (a.root ≡ b.root) × (a.size ≡ b.size)) t
        (λ here. subst (λ (u : ℕ). add ≡ Some b → (a : OwnAdd) × (own u ≡ Some a) × (a.root ≡ b.root) × (a.size ≡ b.size)) here (alike b))
        (λ there is. (b, is, refl, refl))

  -- one is begun, of a root that has none
  begins : (r : Digest) (n : ℕ) → find adds r ≡ None → Agrees (with_own own s (Some (new_add r n))) (insert_entry digest_cmp adds r n)
  begins r n free = record {
    mine = λ t a. others (Some (new_add r n)) (λ o. o ≡ Some a → find (insert_entry digest_cmp adds r n) a.root ≡ Some a.size) t
        (λ here is. let same : new_add r n ≡ a = cc in subst (λ (x : OwnAdd). find (insert_entry digest_cmp adds r n) x.root ≡ Some x.size) same at_new)
        (λ there is. lookup-insert_entry digest_total adds r n a.root ∙ rw (unlike a.root (foreign t a is)) (k.mine t a is));
    apart = λ t u a b other. others (Some (new_add r n)) (λ o. o ≡ Some a → with_own own s (Some (new_add r n)) u ≡ Some b → ¬ (a.root ≡ b.root)) t
        (λ here is. others (Some (new_add r n)) (λ o. o ≡ Some b → ¬ (a.root ≡ b.root)) u
        (λ too is_too. absurd (other (sym here ∙ too)))
        (λ there is_too same. let new : r ≡ a.root = cc in foreign u b is_too (sym same ∙ sym new)))
        (λ there is. others (Some (new_add r n)) (λ o. o ≡ Some b → ¬ (a.root ≡ b.root)) u
        (λ too is_too same. let new : r ≡ b.root = cc in foreign t a is (same ∙ sym new))
        (λ too is_too. k.apart t u a b other is is_too));
  } where
    foreign : (t : ℕ) (a : OwnAdd) → own t ≡ Some a → ¬ (a.root ≡ r)
    foreign t a is same = let there : find adds r ≡ Some a.size = subst (λ (x : Digest). find adds x ≡ Some a.size) same (k.mine t a is) in absurd (cc)

    unlike : (x : Digest) → ¬ (x ≡ r) → same_digest x r ≡ false
    unlike x other = by_test (same_digest x r) refl where
      by_test : (b : Bool) → same_digest x r ≡ b → b ≡ false
      by_test true e = absurd (other (one_digest x r e))
      by_test false e = refl

    at_new : find (insert_entry digest_cmp adds r n) r ≡ Some n
    at_new = lookup-insert_entry digest_total adds r n r ∙ rw (same_self r) refl

  -- it ends
  ends : (r : Digest) → HasRoot (own s) r → Agrees (with_own own s None) (without adds r)
  ends r has = record {
    mine = λ t a. others None (λ o. o ≡ Some a → find (without adds r) a.root ≡ Some a.size) t
        (λ here is. absurd (cc))
        (λ there is. lookup-remove_other digest_total adds r a.root (unlike a.root (foreign t a there is)) ∙ k.mine t a is);
    apart = λ t u a b other. others None (λ o. o ≡ Some a → with_own own s None u ≡ Some b → ¬ (a.root ≡ b.root)) t
        (λ here is. absurd (cc))
        (λ there is. others None (λ o. o ≡ Some b → ¬ (a.root ≡ b.root)) u
        (λ too is_too. absurd (cc))
        (λ too is_too. k.apart t u a b other is is_too));
  } where
    foreign : (t : ℕ) (a : OwnAdd) → ¬ (s ≡ t) → own t ≡ Some a → ¬ (r ≡ a.root)
    foreign t a other is same = by_own (own s) refl has where
      by_own : (o : Option OwnAdd) → own s ≡ o → HasRoot o r → ⊥
      by_own None e h = h
      by_own (Some b) e h = k.apart s t b a other e is (h ∙ same)

    unlike : (x : Digest) → ¬ (r ≡ x) → same_digest r x ≡ false
    unlike x other = by_test (same_digest r x) refl where
      by_test : (b : Bool) → same_digest r x ≡ b → b ≡ false
      by_test true e = absurd (other (one_digest r x e))
      by_test false e = refl

-- ---- what an event makes of them

alike_own : (o : Option OwnAdd) → IsAlike o o
alike_own o b is = (b, is, refl, refl)

alike_admitted : (o : Option OwnAdd) → IsAlike o (with_add admitted_add o)
alike_admitted None b is = absurd (cc)
alike_admitted (Some a) b is = let e : admitted_add a ≡ b = cc in (a, refl, ap (λ (x : OwnAdd). x.root) e, ap (λ (x : OwnAdd). x.size) e)

alike_put : (o : Option OwnAdd) → IsAlike o (with_add put_add o)
alike_put None b is = absurd (cc)
alike_put (Some a) b is = let e : put_add a ≡ b = cc in (a, refl, ap (λ (x : OwnAdd). x.root) e, ap (λ (x : OwnAdd). x.size) e)

pub granted : (o : Option ℕ) (a b c d : Bool) (h need room : ℕ) → Chosen (unless_stopped o (cond a (Only Exists) (cond b (Only (Leaving h)) (cond c (Only InFlight) (cond d (Only (NoSpace need room)) (Only Granted)))))) Granted → c ≡ false
granted (Some f) a b c d h need room k = cc
granted None true b c d h need room k = cc
granted None false true c d h need room k = cc
granted None false false true d h need room k = cc
granted None false false false true h need room k = cc
granted None false false false false h need room k = refl

pub none_of : (o : Option ℕ) → is_some o ≡ false → o ≡ None
none_of None e = refl
none_of (Some n) e = absurd (cc)

pub let_go_adds : (s : State) (r : Digest) → (let_go s r).adds ≡ s.adds
let_go_adds s r = go (among s.leaving r && not (is_held s.slots r)) where
  go : (b : Bool) → (cond b (record s { leaving = remove_key (is_at (digest_cmp r)) s.leaving; queue = s.queue ++ r ∷ [] }) s).adds ≡ s.adds
  go true = refl
  go false = refl

pub emptied_adds : (s : State) (p : Place) (o : Option Digest) → (emptied s p o).adds ≡ s.adds
emptied_adds s p None = refl
emptied_adds s p (Some r) = let_go_adds _ r

pub unlinked_adds : (s : State) (r : Digest) (reply : Reply) → (unlinked s r reply).adds ≡ s.adds
unlinked_adds s r Unlinked = go (is_held s.slots r) where
  go : (b : Bool) → (cond b (record s { leaving = insert_key digest_cmp s.leaving r }) (record s { queue = s.queue ++ r ∷ [] })).adds ≡ s.adds
  go true = refl
  go false = refl
unlinked_adds s r _ = refl

pub closed_adds : (s : State) (p : Place) (reply : Reply) → (closed s p reply).adds ≡ s.adds
closed_adds s p Closed = emptied_adds s p (held s.slots p)
closed_adds s p _ = refl

pub opened_adds : (s : State) (p : Place) (r : Digest) (reply : Reply) → (opened s p r reply).adds ≡ s.adds
opened_adds s p r (Opened n) = refl
opened_adds s p r _ = refl

pub sync_adds : (s : State) (reply : Reply) → (sync_done s reply).adds ≡ s.adds
sync_adds s Synced = refl
sync_adds s (DeviceFault f) = refl
sync_adds s _ = refl

pub unmount_adds : (s : State) (reply : Reply) → (unmount_done (slots_emptied s) reply).adds ≡ s.adds
unmount_adds s Unmounted = refl
unmount_adds s (DeviceFault f) = refl
unmount_adds s _ = refl

module _ (g : Setting) (st : State) (who : Who) (own : Own) (k : Agrees own st.adds) where
  abbrev mine_now : Option OwnAdd
  mine_now = own who.session

  stays : (new : State) → new.adds ≡ st.adds → Agrees (with_own own who.session mine_now) new.adds
  stays new same = subst (λ (x : Adds). Agrees (with_own own who.session mine_now) x) (sym same) (keeps own st.adds k who.session mine_now (alike_own mine_now))

  by_begin : (r : Digest) (n : ℕ) (reply : Reply) → Chosen (choice g st who (Begin r n)) reply → Agrees (with_own own who.session (add_after mine_now (Begin r n) reply)) (begun st r n reply).adds
  by_begin r n Granted c =
      begins own st.adds k who.session r n (none_of (find st.adds r)
      (granted st.stopped (is_some (present st r)) (is_unlinked st r) (is_some (find st.adds r)) (nat_lt (room_in g st) (need_of g.version n)) (holders st.slots r) (need_of g.version n) (room_in g st) c))
  by_begin r n _ c = keeps own st.adds k who.session mine_now (alike_own mine_now)

  by_admit : (r : Digest) (reply : Reply) → HasRoot mine_now r → Agrees (with_own own who.session (add_after mine_now (Admit r) reply)) (admitted st r reply).adds
  by_admit r Admitted has = keeps own st.adds k who.session (with_add admitted_add mine_now) (alike_admitted mine_now)
  by_admit r _ has = ends own st.adds k who.session r has

  by_put : (index : ℕ) (reply : Reply) → Agrees (with_own own who.session (add_after mine_now (Put index) reply)) (put_done st reply).adds
  by_put index Written = keeps own st.adds k who.session (with_add put_add mine_now) (alike_put mine_now)
  by_put index (DeviceFault f) = keeps own st.adds k who.session mine_now (alike_own mine_now)
  by_put index _ = keeps own st.adds k who.session mine_now (alike_own mine_now)

  by_settle : (r : Digest) (o : Option ℕ) (reply : Reply) → HasRoot mine_now r → Agrees (with_own own who.session None) (settled st r (blob_of g o) reply).adds
  by_settle r o Published has = ends own st.adds k who.session r has
  by_settle r o (DeviceFault f) has = ends own st.adds k who.session r has
  by_settle r o _ has = ends own st.adds k who.session r has

  -- one event that may come, and is in order
  pub agrees_after : (act : Act) (reply : Reply) → Chosen (choice g st who act) reply → IsInOrder mine_now act reply → Agrees (with_own own who.session (add_after mine_now act reply)) (change g st who act reply).adds
  agrees_after (Begin r n) reply c o = by_begin r n reply c
  agrees_after (Admit r) reply c o = by_admit r reply o
  agrees_after (Put index) reply c o = by_put index reply
  agrees_after (Settle r) reply c o = by_settle r (find st.adds r) reply o
  agrees_after (Retire r) reply c o = ends own st.adds k who.session r o
  agrees_after (Open slot r) reply c o = stays (opened st (place_of who slot) r reply) (opened_adds st (place_of who slot) r reply)
  agrees_after (Fetch slot window) reply c o = stays st refl
  agrees_after (Read slot off len) reply c o = stays st refl
  agrees_after (Scan slot) reply c o = stays st refl
  agrees_after (Close slot) reply c o = stays (closed st (place_of who slot) reply) (closed_adds st (place_of who slot) reply)
  agrees_after (Unlink r) reply c o = stays (unlinked st r reply) (unlinked_adds st r reply)
  agrees_after Sync reply c o = stays (sync_done st reply) (sync_adds st reply)
  agrees_after ListAll reply c o = stays st refl
  agrees_after Unmount reply c o = stays (unmount_done (slots_emptied st) reply) (unmount_adds st reply)

-- ---- events one after another

-- what sessions have under way after these events
abbrev pub owns : List CoreEvent → Own
owns before t = add_of (events_of t before)

add_from-append : (add : Option OwnAdd) (es fs : List CoreEvent) → add_from add (es ++ fs) ≡ add_from (add_from add es) fs
add_from-append add [] fs = refl
add_from-append add (e ∷ es) fs = add_from-append (add_after add e.act e.reply) es fs

pub owns_more : (before : List CoreEvent) (e : CoreEvent) (t : ℕ) → owns (before ++ e ∷ []) t ≡ with_own (owns before) e.who.session (add_after (owns before e.who.session) e.act e.reply) t
owns_more before e t = ap add_of (filter-append (λ (x : CoreEvent). x.who.session == t) before (e ∷ [])) ∙ by_test (e.who.session == t) refl where
  by_test : (b : Bool) → (e.who.session == t) ≡ b → add_of (events_of t before ++ cond b (e ∷ []) []) ≡ (if b then add_after (owns before e.who.session) e.act e.reply else owns before t)
  by_test true same =
      add_from-append None (events_of t before) (e ∷ [])
      ∙ ap (λ (u : ℕ). add_after (owns before u) e.act e.reply) (sym (eqb-true e.who.session t same))
  by_test false other = ap add_of (append-nil (events_of t before))

agrees_same : (own new : Own) (adds : Adds) → ((t : ℕ) → new t ≡ own t) → Agrees own adds → Agrees new adds
agrees_same own new adds same k = record {
  mine = λ s a is. k.mine s a (sym (same s) ∙ is);
  apart = λ s t a b other p q. k.apart s t a b other (sym (same s) ∙ p) (sym (same t) ∙ q);
}

agrees_all : (g : Setting) (st : State) (before es : List CoreEvent) → Agrees (owns before) st.adds → Steps g st es → AreInOrder before es → Agrees (owns (before ++ es)) (state_after g st es).adds
agrees_all g st before [] k steps order = subst (λ (xs : List CoreEvent). Agrees (owns xs) st.adds) (sym (append-nil before)) k
agrees_all g st before (e ∷ es) k steps order =
    let step : Agrees (owns (before ++ e ∷ [])) (after g st e).adds =
    agrees_same _ (owns (before ++ e ∷ [])) (after g st e).adds (owns_more before e) (agrees_after g st e.who (owns before) k e.act e.reply steps.0 order.0) in
    subst (λ (xs : List CoreEvent). Agrees (owns xs) (state_after g (after g st e) es).adds) (append_assoc before (e ∷ []) es)
    (agrees_all g (after g st e) (before ++ e ∷ []) es step steps.1 order.1)

-- of a legal history
pub agrees_last : (h : History) (next : ℕ) → Legal h next → AreInOrder [] h.events → Agrees (owns h.events) (last_state h next).adds
agrees_last h next legal order =
    agrees_all (setting_of h) (first_state (opening_map h) next) [] h.events
    (record { mine = λ s a is. absurd (cc); apart = λ s t a b other p q. absurd (cc) }) legal.steps order
