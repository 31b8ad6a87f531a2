-- An add that is under way in the core is that of a session.
use Rattle.std.proofs.Common.{◌≡◌, ℕ, ◌<◌, ◌==◌, ◌⊎◌, inl, inr, Bool, true, false, cond, is_some, nat_lt, Option, Some, None, List, [], ◌∷◌, ◌++◌, refl, sym, ap, ◌∙◌, subst, append_assoc, eq-eqb}
use Rattle.std.specs.Prelude.{if◌then◌else◌, filter, All}
use Rattle.std.specs.List.{AllByRecursion}
use Rattle.std.specs.BTreeMap.{insert_entry, is_at}
use Rattle.std.specs.Ordering.{match_ordering}
use Rattle.std.specs.declared.cmp.Ordering.{Ordering}
use Rattle.std.specs.declared.cmp.Ordering.TheVariants.{Less, Equal, Greater}
use Rattle.std.proofs.lemmas.Bool.{eqb-true}
use Rattle.std.proofs.lemmas.List.{append-nil}
use Rattle.std.proofs.lemmas.List.Elements.{filter-append, recursion_from_All}
use Rattle.spec_tree.specs.Tree.{need_of}
use Rattle.spec_tree.specs.declared.Digest.{Digest}
use Rattle.spec_tree.specs.Order.{digest_cmp, same_digest}
use Rattle.spec_core.proofs.EntryLemmas.{lookup-insert_entry, lookup-remove_other}
use Rattle.spec_core.proofs.Holding.{digest_total, one_digest, same_self}
use Rattle.spec_core.specs.Change.{change, begun, admitted, put_done, blob_of, settled, opened, closed, unlinked, sync_done, slots_emptied, unmount_done}
use Rattle.spec_core.specs.Choice.{choice, place_of}
use Rattle.spec_core.specs.History.{History, Legal, first_state, last_state, opening_map, setting_of}
use Rattle.spec_core.specs.Log.{without}
use Rattle.spec_core.specs.Room.{room_in}
use Rattle.spec_core.specs.State.{State, find, holders, is_unlinked, present}
use Rattle.spec_core.specs.Step.{Chosen, Steps, after, state_after}
use Rattle.spec_core.specs.declared.act.Act.{Act}
use Rattle.spec_core.specs.declared.act.Act.TheVariants.{Begin, Admit, Put, Settle, Retire, Open, Fetch, Read, Scan, Close, Unlink, Sync, List as ListAll, Unmount}
use Rattle.spec_core.specs.declared.event.CoreEvent.{CoreEvent}
use Rattle.spec_core.specs.declared.reply.Reply.{Reply}
use Rattle.spec_core.specs.declared.reply.Reply.TheVariants.{Granted, Admitted, Written, Published, DeviceFault}
use Rattle.spec_core.specs.declared.setting.Setting.{Setting}
use Rattle.spec_core.specs.declared.who.Who.{Who}
use Rattle.spec_script.specs.declared.line.ScriptLine.{ScriptLine}
use Rattle.spec_session.specs.Conform.{Begins, events_of}
use Rattle.spec_session.specs.Own.{OwnAdd, add_after, add_of, admitted_add, new_add, put_add, with_add}
use Rattle.spec_orderly.specs.Orderly.{AreInOrder, HasRoot, IsInOrder}
use Rattle.spec_orderly.proofs.Lines.{OwnOrder, cut_lines_well, order_at}
use Rattle.spec_orderly.proofs.Ordered.{Adds, Own, with_own, owns, owns_more, granted, none_of, opened_adds, closed_adds, unlinked_adds, sync_adds, unmount_adds}

-- ---- entries, each of another root

abbrev AreApart : Adds → Type 0
AreApart [] = Unit {0}
AreApart (e ∷ es) = (find es e.0 ≡ None) × AreApart es

-- what isn't there is at no first entry
skipped : (x y : Digest) (n : ℕ) (es : Adds) → find ((y, n) ∷ es) x ≡ None → (same_digest x y ≡ false) × (find es x ≡ None)
skipped x y n es h = by_test (same_digest x y) h where
  by_test : (b : Bool) → cond b (Some n) (find es x) ≡ None → (b ≡ false) × (find es x ≡ None)
  by_test true e = absurd (cc)
  by_test false e = (refl, e)

passed : (x y : Digest) (n : ℕ) (es : Adds) → same_digest x y ≡ false → find es x ≡ None → find ((y, n) ∷ es) x ≡ None
passed x y n es other h = ap (λ (b : Bool). cond b (Some n) (find es x)) other ∙ h

unlike : (x y : Digest) → ¬ (x ≡ y) → same_digest x y ≡ false
unlike x y other = by_test (same_digest x y) refl where
  by_test : (b : Bool) → same_digest x y ≡ b → b ≡ false
  by_test true e = absurd (other (one_digest x y e))
  by_test false e = refl

differ : (x y : Digest) → same_digest x y ≡ false → ¬ (x ≡ y)
differ x y other same = let e : same_digest x y ≡ true = subst (λ (z : Digest). same_digest x z ≡ true) same (same_self x) in absurd (cc)

apart-insert : (es : Adds) (r : Digest) (n : ℕ) → find es r ≡ None → AreApart es → AreApart (insert_entry digest_cmp es r n)
apart-insert [] r n free k = (refl, tt)
apart-insert (e ∷ es) r n free k = by_order (digest_cmp r e.0) free (apart-insert es r n (skipped r e.0 e.1 es free).1 k.1) where
  other : same_digest e.0 r ≡ false
  other = unlike e.0 r (λ is. differ r e.0 (skipped r e.0 e.1 es free).0 (sym is))

  by_order : (o : Ordering) → find (e ∷ es) r ≡ None → AreApart (insert_entry digest_cmp es r n) → AreApart (match_ordering o ((r, n) ∷ e ∷ es) ((e.0, n) ∷ es) (e ∷ insert_entry digest_cmp es r n))
  by_order Less f rest = (f, k)
  by_order Equal f rest = k
  by_order Greater f rest = (lookup-insert_entry digest_total es r n e.0 ∙ ap (λ (b : Bool). cond b (Some n) (find es e.0)) other ∙ k.0, rest)

none-remove : (es : Adds) (r x : Digest) → find es x ≡ None → find (without es r) x ≡ None
none-remove [] r x h = refl
none-remove (e ∷ es) r x h = let parts = skipped x e.0 e.1 es h in by_test (is_at (digest_cmp r) e.0) parts (none-remove es r x parts.1) where
  by_test : (b : Bool) → (same_digest x e.0 ≡ false) × (find es x ≡ None) → find (without es r) x ≡ None → find (cond b es (e ∷ without es r)) x ≡ None
  by_test true parts rest = parts.1
  by_test false parts rest = passed x e.0 e.1 (without es r) parts.0 rest

apart-remove : (es : Adds) (r : Digest) → AreApart es → AreApart (without es r)
apart-remove [] r k = tt
apart-remove (e ∷ es) r k = by_test (is_at (digest_cmp r) e.0) (apart-remove es r k.1) where
  by_test : (b : Bool) → AreApart (without es r) → AreApart (cond b es (e ∷ without es r))
  by_test true rest = k.1
  by_test false rest = (none-remove es r e.0 k.0, rest)

-- what is taken away is gone
gone : (es : Adds) (r : Digest) → AreApart es → find (without es r) r ≡ None
gone [] r k = refl
gone (e ∷ es) r k = by_test (same_digest r e.0) refl (gone es r k.1) where
  by_test : (b : Bool) → same_digest r e.0 ≡ b → find (without es r) r ≡ None → find (cond b es (e ∷ without es r)) r ≡ None
  by_test true same rest = subst (λ (x : Digest). find es x ≡ None) (sym (one_digest r e.0 same)) k.0
  by_test false other rest = passed r e.0 e.1 (without es r) other rest

-- ---- each is a session's

-- a session has an add of this root
abbrev IsOwned : Own → Digest → Type 0
IsOwned own r = (s : ℕ) × (a : OwnAdd) × (own s ≡ Some a) × (a.root ≡ r)

pub record Covers (own : Own) (adds : Adds) : Type 0 where
  pub apart : AreApart adds
  pub each : (r : Digest) (n : ℕ) → find adds r ≡ Some n → IsOwned own r

-- the add is there as it was, but for how far it is
abbrev IsKept : Option OwnAdd → Option OwnAdd → Type 0
IsKept old new = (a : OwnAdd) → old ≡ Some a → (b : OwnAdd) × (new ≡ Some b) × (b.root ≡ a.root)

kept_own : (o : Option OwnAdd) → IsKept o o
kept_own o a is = (a, is, refl)

kept_admitted : (o : Option OwnAdd) → IsKept o (with_add admitted_add o)
kept_admitted o a is = (admitted_add a, ap (with_add admitted_add) is, refl)

kept_put : (o : Option OwnAdd) → IsKept o (with_add put_add o)
kept_put o a is = (put_add a, ap (with_add put_add) is, refl)

module _ (own : Own) (adds : Adds) (k : Covers own adds) (s : ℕ) where
  mine_is : (add : Option OwnAdd) (t : ℕ) → (s == t) ≡ true → with_own own s add t ≡ add
  mine_is add t e = ap (λ (b : Bool). if b then add else own t) e

  other_is : (add : Option OwnAdd) (t : ℕ) → (s == t) ≡ false → with_own own s add t ≡ own t
  other_is add t e = ap (λ (b : Bool). if b then add else own t) e

  -- it is kept
  keeps : (add : Option OwnAdd) → IsKept (own s) add → Covers (with_own own s add) adds
  keeps add kept = record { apart = k.apart; each = λ r n at. now r (k.each r n at) } where
    now : (r : Digest) → IsOwned own r → IsOwned (with_own own s add) r
    now r o = by_test (s == o.0) refl where
      by_test : (b : Bool) → (s == o.0) ≡ b → IsOwned (with_own own s add) r
      by_test true e =
          let b = kept o.1 (ap own (eqb-true s o.0 e) ∙ o.2) in (o.0, b.0, mine_is add o.0 e ∙ b.1, b.2 ∙ o.3)
      by_test false e = (o.0, o.1, other_is add o.0 e ∙ o.2, o.3)

  -- one is begun, of a root that has none
  begins : (r : Digest) (n : ℕ) → find adds r ≡ None → own s ≡ None → Covers (with_own own s (Some (new_add r n))) (insert_entry digest_cmp adds r n)
  begins r n free idle = record {
    apart = apart-insert adds r n free k.apart;
    each = λ x m at. by_root x m (same_digest x r) refl (sym (lookup-insert_entry digest_total adds r n x) ∙ at);
  } where
    there : (x : Digest) → IsOwned own x → IsOwned (with_own own s (Some (new_add r n))) x
    there x o = by_test (s == o.0) refl where
      by_test : (b : Bool) → (s == o.0) ≡ b → IsOwned (with_own own s (Some (new_add r n))) x
      by_test true e = let z : Some o.1 ≡ None = sym o.2 ∙ sym (ap own (eqb-true s o.0 e)) ∙ idle in absurd (cc)
      by_test false e = (o.0, o.1, other_is (Some (new_add r n)) o.0 e ∙ o.2, o.3)

    by_root : (x : Digest) (m : ℕ) (b : Bool) → same_digest x r ≡ b → cond b (Some n) (find adds x) ≡ Some m → IsOwned (with_own own s (Some (new_add r n))) x
    by_root x m true same at = (s, new_add r n, mine_is (Some (new_add r n)) s (eq-eqb s s refl), sym (one_digest x r same))
    by_root x m false other at = there x (k.each x m at)

  -- it ends
  ends : (r : Digest) → HasRoot (own s) r → Covers (with_own own s None) (without adds r)
  ends r has = record { apart = apart-remove adds r k.apart; each = λ x n at. by_root x n (same_digest r x) refl at } where
    root_is : (o : Option OwnAdd) (a : OwnAdd) → o ≡ Some a → HasRoot o r → a.root ≡ r
    root_is None a is h = absurd h
    root_is (Some b) a is h = let same : b ≡ a = cc in subst (λ (x : OwnAdd). x.root ≡ r) same h

    there : (x : Digest) → ¬ (r ≡ x) → IsOwned own x → IsOwned (with_own own s None) x
    there x other o = by_test (s == o.0) refl where
      by_test : (b : Bool) → (s == o.0) ≡ b → IsOwned (with_own own s None) x
      by_test true e = absurd (other (sym (root_is (own s) o.1 (ap own (eqb-true s o.0 e) ∙ o.2) has) ∙ o.3))
      by_test false e = (o.0, o.1, other_is None o.0 e ∙ o.2, o.3)

    by_root : (x : Digest) (n : ℕ) (b : Bool) → same_digest r x ≡ b → find (without adds r) x ≡ Some n → IsOwned (with_own own s None) x
    by_root x n true same at =
        let z : Some n ≡ None = sym at ∙ subst (λ (y : Digest). find (without adds r) y ≡ None) (one_digest r x same) (gone adds r k.apart) in absurd (cc)
    by_root x n false other at = there x (differ r x other) (k.each x n (sym (lookup-remove_other digest_total adds r x other) ∙ at))

module _ (g : Setting) (st : State) (who : Who) (own : Own) (k : Covers own st.adds) where
  abbrev mine_now : Option OwnAdd
  mine_now = own who.session

  stays : (new : State) → new.adds ≡ st.adds → Covers (with_own own who.session mine_now) new.adds
  stays new same = subst (λ (x : Adds). Covers (with_own own who.session mine_now) x) (sym same) (keeps own st.adds k who.session mine_now (kept_own mine_now))

  by_begin : (r : Digest) (n : ℕ) (reply : Reply) → Chosen (choice g st who (Begin r n)) reply → IsInOrder mine_now (Begin r n) reply → Covers (with_own own who.session (add_after mine_now (Begin r n) reply)) (begun st r n reply).adds
  by_begin r n Granted c o =
      begins own st.adds k who.session r n (none_of (find st.adds r)
      (granted st.stopped (is_some (present st r)) (is_unlinked st r) (is_some (find st.adds r)) (nat_lt (room_in g st) (need_of g.version n)) (holders st.slots r) (need_of g.version n) (room_in g st) c)) o
  by_begin r n _ c o = keeps own st.adds k who.session mine_now (kept_own mine_now)

  by_admit : (r : Digest) (reply : Reply) → HasRoot mine_now r → Covers (with_own own who.session (add_after mine_now (Admit r) reply)) (admitted st r reply).adds
  by_admit r Admitted has = keeps own st.adds k who.session (with_add admitted_add mine_now) (kept_admitted mine_now)
  by_admit r _ has = ends own st.adds k who.session r has

  by_put : (index : ℕ) (reply : Reply) → Covers (with_own own who.session (add_after mine_now (Put index) reply)) (put_done st reply).adds
  by_put index Written = keeps own st.adds k who.session (with_add put_add mine_now) (kept_put mine_now)
  by_put index (DeviceFault f) = keeps own st.adds k who.session mine_now (kept_own mine_now)
  by_put index _ = keeps own st.adds k who.session mine_now (kept_own mine_now)

  by_settle : (r : Digest) (o : Option ℕ) (reply : Reply) → HasRoot mine_now r → Covers (with_own own who.session None) (settled st r (blob_of g o) reply).adds
  by_settle r o Published has = ends own st.adds k who.session r has
  by_settle r o (DeviceFault f) has = ends own st.adds k who.session r has
  by_settle r o _ has = ends own st.adds k who.session r has

  -- one event that may come, and is in order
  covers_after : (act : Act) (reply : Reply) → Chosen (choice g st who act) reply → IsInOrder mine_now act reply → Covers (with_own own who.session (add_after mine_now act reply)) (change g st who act reply).adds
  covers_after (Begin r n) reply c o = by_begin r n reply c o
  covers_after (Admit r) reply c o = by_admit r reply o
  covers_after (Put index) reply c o = by_put index reply
  covers_after (Settle r) reply c o = by_settle r (find st.adds r) reply o
  covers_after (Retire r) reply c o = ends own st.adds k who.session r o
  covers_after (Open slot r) reply c o = stays (opened st (place_of who slot) r reply) (opened_adds st (place_of who slot) r reply)
  covers_after (Fetch slot window) reply c o = stays st refl
  covers_after (Read slot off len) reply c o = stays st refl
  covers_after (Scan slot) reply c o = stays st refl
  covers_after (Close slot) reply c o = stays (closed st (place_of who slot) reply) (closed_adds st (place_of who slot) reply)
  covers_after (Unlink r) reply c o = stays (unlinked st r reply) (unlinked_adds st r reply)
  covers_after Sync reply c o = stays (sync_done st reply) (sync_adds st reply)
  covers_after ListAll reply c o = stays st refl
  covers_after Unmount reply c o = stays (unmount_done (slots_emptied st) reply) (unmount_adds st reply)

-- ---- events one after another

covers_same : (own new : Own) (adds : Adds) → ((t : ℕ) → new t ≡ own t) → Covers own adds → Covers new adds
covers_same own new adds same k = record { apart = k.apart; each = λ r n at. let o = k.each r n at in (o.0, o.1, same o.0 ∙ o.2, o.3) }

covers_all : (g : Setting) (st : State) (before es : List CoreEvent) → Covers (owns before) st.adds → Steps g st es → AreInOrder before es → Covers (owns (before ++ es)) (state_after g st es).adds
covers_all g st before [] k steps order = subst (λ (xs : List CoreEvent). Covers (owns xs) st.adds) (sym (append-nil before)) k
covers_all g st before (e ∷ es) k steps order =
    let step : Covers (owns (before ++ e ∷ [])) (after g st e).adds =
    covers_same _ (owns (before ++ e ∷ [])) (after g st e).adds (owns_more before e) (covers_after g st e.who (owns before) k e.act e.reply steps.0 order.0) in
    subst (λ (xs : List CoreEvent). Covers (owns xs) (state_after g (after g st e) es).adds) (append_assoc before (e ∷ []) es)
    (covers_all g (after g st e) (before ++ e ∷ []) es step steps.1 order.1)

-- of a legal history
covers_last : (h : History) (next : ℕ) → Legal h next → AreInOrder [] h.events → Covers (owns h.events) (last_state h next).adds
covers_last h next legal order =
    covers_all (setting_of h) (first_state (opening_map h) next) [] h.events
    (record { apart = tt; each = λ r n at. absurd (cc) }) legal.steps order

-- ---- sessions below 16

abbrev AreLow : List CoreEvent → Type 0
AreLow es = AllByRecursion (λ e. e.who.session < 16) es

-- each session's own events in order, the whole is
in_order : (all : List CoreEvent) → ((s : ℕ) → s < 16 → OwnOrder None (events_of s all)) → (before es : List CoreEvent) → before ++ es ≡ all → AreLow es → AreInOrder before es
in_order all own before [] is low = tt
in_order all own before (e ∷ es) is low =
    let s = e.who.session in let p : CoreEvent → Bool = λ x. x.who.session == s in
    let mine : (e.who.session == s) ≡ true = eq-eqb s s refl in
    let parts : events_of s all ≡ events_of s before ++ e ∷ events_of s es =
    ap (events_of s) (sym is) ∙ filter-append p before (e ∷ es) ∙ ap (λ (b : Bool). filter p before ++ cond b (e ∷ filter p es) (filter p es)) mine in (
      order_at None (events_of s before) e (events_of s es) (subst (OwnOrder None) parts (own s low.0)),
      in_order all own (before ++ e ∷ []) es (append_assoc before (e ∷ []) es ∙ is) low.1,
    )

-- a session has no event, or is below 16
low_or_none : (s : ℕ) (es : List CoreEvent) → AreLow es → (events_of s es ≡ []) ⊎ (s < 16)
low_or_none s [] low = inl refl
low_or_none s (e ∷ es) low = by_test (e.who.session == s) refl (low_or_none s es low.1) where
  by_test : (b : Bool) → (e.who.session == s) ≡ b → (events_of s es ≡ []) ⊎ (s < 16) → (cond b (e ∷ events_of s es) (events_of s es) ≡ []) ⊎ (s < 16)
  by_test true same rest = inr (subst (λ (t : ℕ). t < 16) (eqb-true e.who.session s same) low.0)
  by_test false other rest = rest

idle : (lines : List ScriptLine) (h : History) → AreLow h.events → ((s : ℕ) → s < 16 → Begins lines h s) → (s : ℕ) → owns h.events s ≡ None
idle lines h low begins s = by_low (low_or_none s h.events low) where
  by_low : (events_of s h.events ≡ []) ⊎ (s < 16) → owns h.events s ≡ None
  by_low (inl none) = ap add_of none
  by_low (inr at) = (cut_lines_well h.version s lines (events_of s h.events) (begins s at)).1

none_left : (own : Own) (adds : Adds) → Covers own adds → ((s : ℕ) → own s ≡ None) → adds ≡ []
none_left own [] k none = refl
none_left own (e ∷ es) k none =
    let o = k.each e.0 e.1 (ap (λ (b : Bool). cond b (Some e.1) (find es e.0)) (same_self e.0)) in
    let z : Some o.1 ≡ None = sym o.2 ∙ none o.0 in absurd (cc)

-- where each session's lines ended, no add is left
pub no_add_left : (lines : List ScriptLine) (h : History) (next : ℕ) → Legal h next → All (λ e. e.who.session < 16) h.events → ((s : ℕ) → s < 16 → Begins lines h s) → (last_state h next).adds ≡ []
no_add_left lines h next legal each begins =
    let low : AreLow h.events = recursion_from_All (λ (e : CoreEvent). e.who.session < 16) h.events each in
    let order = in_order h.events (λ s at. (cut_lines_well h.version s lines (events_of s h.events) (begins s at)).0) [] h.events refl low in
    none_left (owns h.events) (last_state h next).adds (covers_last h next legal order) (idle lines h low begins)
