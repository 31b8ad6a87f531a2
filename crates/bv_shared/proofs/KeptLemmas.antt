-- What is kept of closed blobs: as readers are kept and taken out, and from one event to the next.
use Rattle.std.proofs.Common.{◌≡◌, ◌⊎◌, ℕ, zero, suc, Bool, true, false, cond, Option, Some, None, List, [], ◌∷◌, ◌++◌, length, take, refl, sym, ap, ◌∙◌, subst, arith, is_some}
use Rattle.std.specs.Prelude.{IfSome, option_and_then, slice_get, ◌-◌}
use Rattle.std.specs.Map.{lookup, remove_entry}
use Rattle.std.proofs.lemmas.Slice.Eq.{bytes_eq-Decides}
use Rattle.spec_disk.specs.declared.event.Event.{Event}
use Rattle.spec_tree.specs.Order.{same_digest}
use Rattle.spec_tree.specs.declared.Digest.{Digest}
use Rattle.spec_core.proofs.Holding.{one_digest}
use Rattle.spec_core.specs.History.{History, with_event}
use Rattle.spec_core.specs.declared.act.Act.{Act}
use Rattle.spec_core.specs.declared.act.Act.TheVariants as acts
use Rattle.spec_core.specs.declared.event.CoreEvent.{CoreEvent}
use Rattle.spec_core.specs.declared.reply.Reply.{Reply}
use Rattle.spec_core.specs.declared.reply.Reply.TheVariants as replies
use Rattle.spec_core.specs.declared.who.Who.{Who}
use Rattle.spec_crash.specs.Timing.{MayCall}
use Rattle.spec_seen.proofs.ByLineLemmas.{front_by}
use Rattle.spec_served.specs.Adds.{was_published}
use Rattle.spec_served.specs.Places.{publisher, publisher_after, version_by}
use Rattle.bv_cache.specs.Kept.{is_root, kept_first}
use Rattle.bv_device.specs.Told.{Disk, now_of}
use Rattle.bv_pager.specs.Reading.{Reading}
use Rattle.bv_store.specs.Stored.{Grows}
use Rattle.bv_volume.proofs.Located.{publisher_push, unpublished}
use Rattle.bv_volume.specs.Events.{Does, Happens, event_of}
use Rattle.bv_volume.specs.Seen.{Seen}
use Rattle.bv_shared.specs.KeptPages.{AreKept, HasIts, HasNone, kept_after, last_settled, settled_by, IsGiven, KeptPages, ReaderHas, ReaderHasBy}
use Rattle.bv_shared.specs.Moments.{held_by}
use Rattle.bv_shared.specs.Since.{AreWithin, EndBy}
use Rattle.bv_shared.proofs.StayLemmas.{held_grows, held_push}

-- ---- roots

root_same : (a b : Digest) → is_root a b ≡ true → a ≡ b
root_same a b is = λ i. record { 0 = (bytes_eq-Decides a.0 b.0).0 is i }

root_self : (a b : Digest) → a.0 ≡ b.0 → is_root a b ≡ true
root_self a b is = (bytes_eq-Decides a.0 b.0).1 is

module _ (root : Digest) where
  none_first : (x : Digest × Reading) (xs : List (Digest × Reading)) → HasNone root (x ∷ xs) → (is_root root x.0 ≡ false) × HasNone root xs
  none_first x xs k = go (is_root root x.0) refl k where
    go : (b : Bool) → is_root root x.0 ≡ b → is_some (cond b (Some x.1) (lookup (is_root root) xs)) ≡ false → (is_root root x.0 ≡ false) × HasNone root xs
    go true is k = absurd (cc)
    go false is k = (is, k)

  none_with : (x : Digest × Reading) (xs : List (Digest × Reading)) → is_root root x.0 ≡ false → HasNone root xs → HasNone root (x ∷ xs)
  none_with x xs is none = rw is none

  none_without : (test : Digest → Bool) (xs : List (Digest × Reading)) → HasNone root xs → HasNone root (remove_entry test xs)
  none_without test [] none = none
  none_without test (x ∷ xs) none = let parts = none_first x xs none in go (test x.0) parts.0 parts.1 (none_without test xs parts.1) where
    go : (b : Bool) → is_root root x.0 ≡ false → HasNone root xs → HasNone root (remove_entry test xs) → HasNone root (cond b xs (x ∷ remove_entry test xs))
    go true first here rest = here
    go false first here rest = none_with x (remove_entry test xs) first rest

  none_taken : (n : ℕ) (xs : List (Digest × Reading)) → HasNone root xs → HasNone root (take n xs)
  none_taken zero xs none = refl
  none_taken (suc n) [] none = refl
  none_taken (suc n) (x ∷ xs) none = let parts = none_first x xs none in none_with x (take n xs) parts.0 (none_taken n xs parts.1)

-- ---- readers

module _ (P : Reading → Type 0) where
  -- one is taken out
  pub kept_without : (root : Digest) (xs : List (Digest × Reading)) → AreKept P xs → AreKept P (remove_entry (is_root root) xs)
  kept_without root [] k = tt
  kept_without root (x ∷ xs) k = go (is_root root x.0) (kept_without root xs k.3) where
    go : (b : Bool) → AreKept P (remove_entry (is_root root) xs) → AreKept P (cond b xs (x ∷ remove_entry (is_root root) xs))
    go true rest = k.3
    go false rest = (k.0, none_without x.0 (is_root root) xs k.1, k.2, rest)

  -- then none is kept there
  pub kept_forgotten : (root : Digest) (xs : List (Digest × Reading)) → AreKept P xs → HasNone root (remove_entry (is_root root) xs)
  kept_forgotten root [] k = refl
  kept_forgotten root (x ∷ xs) k = go (is_root root x.0) refl (kept_forgotten root xs k.3) where
    go : (b : Bool) → is_root root x.0 ≡ b → HasNone root (remove_entry (is_root root) xs) → HasNone root (cond b xs (x ∷ remove_entry (is_root root) xs))
    go true is rest = subst (λ (y : Digest). HasNone y xs) (sym (root_same root x.0 is)) k.1
    go false is rest = none_with root x (remove_entry (is_root root) xs) is rest

  kept_taken : (n : ℕ) (xs : List (Digest × Reading)) → AreKept P xs → AreKept P (take n xs)
  kept_taken zero xs k = tt
  kept_taken (suc n) [] k = tt
  kept_taken (suc n) (x ∷ xs) k = (k.0, none_taken x.0 n xs k.1, k.2, kept_taken n xs k.3)

  -- one more is kept
  pub kept_more : (root : Digest) (r : Reading) (xs : List (Digest × Reading)) → r.root ≡ root → P r → AreKept P xs → AreKept P (kept_first xs root r)
  kept_more root r xs is has k =
      kept_taken 64 ((root, r) ∷ remove_entry (is_root root) xs) (ap (λ (d : Digest). d.0) is, kept_forgotten root xs k, has, kept_without root xs k)

  -- what is found there
  pub kept_found : (root : Digest) (r : Reading) (xs : List (Digest × Reading)) → AreKept P xs → lookup (is_root root) xs ≡ Some r → P r
  kept_found root r [] k is = absurd (cc)
  kept_found root r (x ∷ xs) k is = go (is_root root x.0) is (kept_found root r xs k.3) where
    go : (b : Bool) → cond b (Some x.1) (lookup (is_root root) xs) ≡ Some r → (lookup (is_root root) xs ≡ Some r → P r) → P r
    go true same rest = let its : x.1 ≡ r = cc in subst P its k.2
    go false same rest = rest same

-- all of it from one state to the next
pub kept_step : (P Q : Reading → Type 0) (xs : List (Digest × Reading)) → ((r : Reading) → P r → Q r) → AreKept P xs → AreKept Q xs
kept_step P Q [] step k = tt
kept_step P Q (x ∷ xs) step k = (k.0, k.1, step x.1 k.2, kept_step P Q xs step k.3)

-- the same where none is kept under one root
pub kept_others : (P Q : Reading → Type 0) (root : Digest) (xs : List (Digest × Reading)) → HasNone root xs → ((r : Reading) → same_digest r.root root ≡ false → P r → Q r) → AreKept P xs → AreKept Q xs
kept_others P Q root [] none step k = tt
kept_others P Q root (x ∷ xs) none step k =
    let parts = none_first root x xs none in
    (k.0, k.1, step x.1 (other (same_digest x.1.root root) refl parts.0) k.2, kept_others P Q root xs parts.1 step k.3)
  where
    other : (b : Bool) → same_digest x.1.root root ≡ b → is_root root x.0 ≡ false → same_digest x.1.root root ≡ false
    other false is apart = is
    other true is apart =
        let one : x.1.root ≡ root = one_digest x.1.root root is in
        let same : is_root root x.0 ≡ true = root_self root x.0 (sym (ap (λ (d : Digest). d.0) one) ∙ k.0) in
        absurd (cc)

-- ---- one event more

module _ (act : Act) (reply : Reply) (who : Who) (calls : ℕ) where
  abbrev event : CoreEvent
  event = event_of who act reply calls

  reader_push : (began o new : Option Disk) (h : History) (P : Disk → List Event → Type 0) (r : Reading) → Grows o new P → IfSome o (λ d. EndBy (length d.trace) h.events)
      → ((last : Option Who) → publisher_after r.root last who act reply ≡ last) → ReaderHasBy began o h r → ReaderHasBy began new (with_event h event) r
  reader_push None o new h P r grows within stays has = tt
  reader_push (Some b) None new h P r grows within stays has = subst (λ (x : Option Disk). ReaderHasBy (Some b) x (with_event h event) r) (sym grows) tt
  reader_push (Some b) (Some d) new h P r grows within stays has =
      subst (λ (x : Option Disk). ReaderHasBy (Some b) x (with_event h event) r) (sym grows.1)
      (λ settled whole lined w p known.
      let before : HasIts (now_of b) d.trace h h.events r.root r.size p =
      has settled whole (front_by [] h.events (event ∷ []) lined) w p known in
      let who_was = publisher r.root None h.events in
      let same : publisher r.root None (h.events ++ event ∷ []) ≡ who_was = publisher_push r.root None h.events event ∙ stays who_was in
      let blocks : held_by (now_of b) (d.trace ++ grows.0) (h.events ++ event ∷ []) r.root who_was ≡ held_by (now_of b) d.trace h.events r.root who_was =
      held_push (now_of b) (d.trace ++ grows.0) h.events event r.root who_was refl lined ∙ held_grows (now_of b) d.trace grows.0 h.events r.root who_was within in
      subst (λ (o : Option Who). IsGiven r.root r.size (version_by (now_of b) h r.root o) (held_by (now_of b) (d.trace ++ grows.0) (h.events ++ event ∷ []) r.root o) p) (sym same)
      (subst (λ (bs : List (List ℕ)). IsGiven r.root r.size (version_by (now_of b) h r.root who_was) bs p) (sym blocks) before))

module _ (v w : Seen) (within : AreWithin v) (who : Who) (act : Act) where
  -- a reader's pages stay over an event that doesn't publish its root
  pub reader_stays : (reply : Reply) → Happens v w who act reply → (r : Reading) → ((last : Option Who) → publisher_after r.root last who act reply ≡ last) → ReaderHas v r → ReaderHas w r
  reader_stays reply happens r stays has =
      subst (λ (b : Option Disk). ReaderHasBy b w.store.told w.history r) (sym happens.began)
      (subst (λ (h : History). ReaderHasBy v.store.began w.store.told h r) (sym happens.history)
      (reader_push act reply who w.store.calls v.store.began v.store.told w.store.told v.history (λ d more. (more ≡ []) ⊎ MayCall act) r happens.told within stays has))

  -- so does all that is kept over one that publishes nothing
  pub pages_by : (q : Option Reply) (kept : List (Digest × Reading)) → Does v w who act q → ((reply : Reply) → was_published act reply ≡ false) → KeptPages v kept → KeptPages w kept
  pages_by None kept does none k = subst (λ (x : Seen). KeptPages x kept) (sym does) k
  pages_by (Some reply) kept does none k =
      kept_step (ReaderHas v) (ReaderHas w) kept (λ r has. reader_stays reply does r (λ last. unpublished r.root last who act reply (none reply)) has) k

other_published : (r x : Digest) (last : Option Who) (w : Who) (q : Reply) → same_digest r x ≡ false → publisher_after r last w (acts.Settle x) q ≡ last
other_published r x last w replies.Published other = ap (λ (b : Bool). cond b (Some w) last) other
other_published r x last w q other = refl

-- ---- a settle

last_at : (es : List CoreEvent) (e : CoreEvent) → slice_get (es ++ e ∷ []) (length es) ≡ Some e
last_at [] e = refl
last_at (x ∷ es) e = last_at es e

one_less : (es : List CoreEvent) (e : CoreEvent) → length (es ++ e ∷ []) - 1 ≡ length es
one_less [] e = refl
one_less (x ∷ es) e = counted (length (es ++ e ∷ [])) (length es) (longer es) where
  longer : (es : List CoreEvent) → length (es ++ e ∷ []) ≡ suc (length es)
  longer [] = refl
  longer (x ∷ es) = ap suc (longer es)

  counted : (n k : ℕ) → n ≡ suc k → suc n - 1 ≡ suc k
  counted n k is = omega (arith, is)

last_of : (es : List CoreEvent) (e : CoreEvent) → slice_get (es ++ e ∷ []) (length (es ++ e ∷ []) - 1) ≡ Some e
last_of es e = ap (slice_get (es ++ e ∷ [])) (one_less es e) ∙ last_at es e

kept_but : (P : Reading → Type 0) (o : Option Digest) (kept : List (Digest × Reading)) → AreKept P kept → AreKept P (kept_after o kept)
kept_but P None kept k = k
kept_but P (Some root) kept k = kept_without P root kept k

-- over a settle, after which nothing is kept under its root
pub pages_settled : (v w : Seen) → AreWithin v → (who : Who) (root : Digest) (q : Option Reply) (old new : List (Digest × Reading)) → Does v w who (acts.Settle root) q → new ≡ kept_after (last_settled w.history.events) old → KeptPages v old → KeptPages w new
pages_settled v w within who root None old new does is k =
    subst (λ (x : Seen). KeptPages x new) (sym does) (subst (KeptPages v) (sym is) (kept_but (ReaderHas v) (last_settled w.history.events) old k))
pages_settled v w within who root (Some reply) old new does is k =
    let event : CoreEvent = event_of who (acts.Settle root) reply w.store.calls in
    let settled : last_settled w.history.events ≡ Some root =
    ap (λ (h : History). last_settled h.events) does.history ∙ ap (λ (o : Option CoreEvent). option_and_then (λ e. settled_by e.act) o) (last_of v.history.events event) in
    let out : new ≡ remove_entry (is_root root) old = is ∙ ap (λ (o : Option Digest). kept_after o old) settled in
    subst (KeptPages w) (sym out)
    (kept_others (ReaderHas v) (ReaderHas w) root (remove_entry (is_root root) old) (kept_forgotten (ReaderHas v) root old k)
    (λ r other has. reader_stays v w within who (acts.Settle root) reply does r (λ last. other_published r.root root last who reply other) has) (kept_without (ReaderHas v) root old k))
