-- The laws of a volume behind the lock.
use Rattle.std.proofs.Common.{◌≡◌, ℕ, Option, Some, List, [], ◌∷◌, ◌++◌, refl, sym, ap, ◌∙◌, subst, append_assoc}
use Rattle.std.proofs.lemmas.List.{append-nil}
use Rattle.std.proofs.lemmas.List.Elements.{All-nil, All-cons}
use Rattle.spec_disk.specs.declared.event.Event.{Event}
use Rattle.spec_tree.specs.declared.Digest.{Digest}
use Rattle.spec_core.specs.History.{History, first_state, opening_map, setting_of}
use Rattle.spec_core.specs.State.{State}
use Rattle.spec_core.specs.Step.{after, state_after}
use Rattle.spec_core.specs.Synced.{Caused}
use Rattle.spec_core.specs.declared.act.Act.{Act}
use Rattle.spec_core.specs.declared.act.Act.TheVariants.{List as ListAll, Begin, Admit, Put, Settle, Retire, Open, Fetch, Read, Scan, Close, Unlink, Sync, Unmount}
use Rattle.spec_core.specs.declared.event.CoreEvent.{CoreEvent}
use Rattle.spec_core.specs.declared.setting.Setting.{Setting}
use Rattle.spec_session.specs.Told.{present_blobs}
use Rattle.bv_session.specs.declared.entry.Entry.{Entry}
use Rattle.bv_session.specs.declared.entry.Told.{Told}
use Rattle.bv_session.specs.Disk.{EachAfter, EachLists, EachTells, told_after}
use Rattle.bv_session.specs.Events.{events_in, history_of}
use Rattle.bv_volume.specs.Seen.{Seen}
use Rattle.bv_shared.specs.Entries.{basis_of, device_events, entries_from, entries_in, entry_of, listed_by, told_of}
use Rattle.bv_shared.specs.Since.{Since}

module _ (told : Option Told) (g : Setting) where
  -- they are the entries of these events
  events_from : (device : List Event) (s : State) (past es : List CoreEvent) → events_in (entries_from told device g s past es) ≡ es
  events_from device s past [] = refl
  events_from device s past (e ∷ es) = ap (λ (xs : List CoreEvent). e ∷ xs) (events_from device (after g s e) (past ++ e ∷ []) es)

  -- each has what was told by its end
  each_tells : (device : List Event) (s : State) (past es : List CoreEvent) → EachTells told device (entries_from told device g s past es)
  each_tells device s past [] = All-nil (λ (e : Entry). e.told ≡ told_after told device e.event.calls)
  each_tells device s past (e ∷ es) =
      All-cons (λ (x : Entry). x.told ≡ told_after told device x.event.calls) (entry_of told device s past e) (entries_from told device g (after g s e) (past ++ e ∷ []) es) refl (each_tells device (after g s e) (past ++ e ∷ []) es)

  listed_is : (s : State) (act : Act) (blobs : List (Digest × ℕ)) → listed_by s act ≡ Some blobs → blobs ≡ present_blobs s
  listed_is s ListAll blobs is = cc
  listed_is s (Begin r n) blobs is = absurd (cc)
  listed_is s (Admit r) blobs is = absurd (cc)
  listed_is s (Put i) blobs is = absurd (cc)
  listed_is s (Settle r) blobs is = absurd (cc)
  listed_is s (Retire r) blobs is = absurd (cc)
  listed_is s (Open i r) blobs is = absurd (cc)
  listed_is s (Fetch i w) blobs is = absurd (cc)
  listed_is s (Read i a b) blobs is = absurd (cc)
  listed_is s (Scan i) blobs is = absurd (cc)
  listed_is s (Close i) blobs is = absurd (cc)
  listed_is s (Unlink r) blobs is = absurd (cc)
  listed_is s Sync blobs is = absurd (cc)
  listed_is s Unmount blobs is = absurd (cc)

  first_of : Entry → List Entry → Entry
  first_of e [] = e
  first_of e (x ∷ xs) = x

  rest_of : List Entry → List Entry
  rest_of [] = []
  rest_of (x ∷ xs) = xs

  -- a listing is what was present before it
  lists_from : (device : List Event) (s : State) (past es : List CoreEvent) (before : List Entry) (e : Entry) (rest : List Entry) (blobs : List (Digest × ℕ)) → entries_from told device g s past es ≡ before ++ e ∷ rest → e.listed ≡ Some blobs → blobs ≡ present_blobs (state_after g s (events_in before))
  unfolding first_of rest_of
  lists_from device s past [] [] e rest blobs is listed = absurd (cc)
  lists_from device s past [] (b ∷ before) e rest blobs is listed = absurd (cc)
  lists_from device s past (x ∷ es) [] e rest blobs is listed =
      let same : entry_of told device s past x ≡ e = ap (first_of e) is in
      listed_is s x.act blobs (ap (λ (y : Entry). y.listed) same ∙ listed)
  lists_from device s past (x ∷ es) (b ∷ before) e rest blobs is listed =
      let same : x ≡ b.event = ap (λ (y : Entry). y.event) (ap (first_of e) is) in
      subst (λ (y : CoreEvent). blobs ≡ present_blobs (state_after g (after g s y) (events_in before))) same
      (lists_from device (after g s x) (past ++ x ∷ []) es before e rest blobs (ap rest_of is) listed)

module _ (told : Option Told) (g : Setting) where
  -- each has the events before it
  afters_from : (device : List Event) (s : State) (past es : List CoreEvent) (before : List Entry) (e : Entry) (rest : List Entry) → entries_from told device g s past es ≡ before ++ e ∷ rest → e.before ≡ past ++ events_in before
  unfolding first_of rest_of
  afters_from device s past [] [] e rest is = absurd (cc)
  afters_from device s past [] (b ∷ before) e rest is = absurd (cc)
  afters_from device s past (x ∷ es) [] e rest is = sym (ap (λ (y : Entry). y.before) (ap (first_of told g e) is)) ∙ sym (append-nil past)
  afters_from device s past (x ∷ es) (b ∷ before) e rest is =
      let same : x ≡ b.event = ap (λ (y : Entry). y.event) (ap (first_of told g e) is) in
      afters_from device (after g s x) (past ++ x ∷ []) es before e rest (ap (rest_of told g) is)
      ∙ append_assoc past (x ∷ []) (events_in before) ∙ ap (λ (y : CoreEvent). past ++ y ∷ events_in before) same

-- an entry is of the session that made its event
pub of_session : (e : Entry) → e.event.who.session ≡ e.event.who.session
of_session e = refl

module _ (v : Seen) (faults : ℕ) where
  -- the entries are those of the history
  pub history_is : history_of (basis_of v faults) (entries_in v) ≡ v.history
  history_is = ap (λ (es : List CoreEvent). record v.history { events = es })
      (events_from (told_of v.store.began) (setting_of v.history) (device_events v.store.told) (first_state (opening_map v.history) v.next) [] v.history.events)

  -- an entry has what the device told by its end
  pub tells : EachTells (basis_of v faults).told (device_events v.store.told) (entries_in v)
  tells = each_tells (told_of v.store.began) (setting_of v.history) (device_events v.store.told) (first_state (opening_map v.history) v.next) [] v.history.events

  -- a listing is what was present when its event began
  pub lists : EachLists (basis_of v faults) (entries_in v)
  lists before e rest blobs is listed = lists_from (told_of v.store.began) (setting_of v.history) (device_events v.store.told) (first_state (opening_map v.history) v.next) [] v.history.events before e rest blobs is listed

-- an entry has the events before it
pub afters : (v : Seen) → EachAfter (entries_in v)
afters v before e rest is = afters_from (told_of v.store.began) (setting_of v.history) (device_events v.store.told) (first_state (opening_map v.history) v.next) [] v.history.events before e rest is

-- the faults of the entries' history came from the device
pub caused : (o v : Seen) → Since o v → Caused (history_of (basis_of v o.store.faults) (entries_in v)) o.store.faults v.store.faults
caused o v since = subst (λ (h : History). Caused h o.store.faults v.store.faults) (sym (history_is v o.store.faults)) since.1
