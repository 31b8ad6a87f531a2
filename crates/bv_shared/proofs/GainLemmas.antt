-- What an event of the volume makes of its entries and of what it stands on.
use Rattle.std.proofs.Common.{◌≡◌, ◌⊎◌, ℕ, Option, Some, None, List, [], ◌∷◌, ◌++◌, length, refl, sym, ap, ◌∙◌, subst, arith}
use Rattle.std.specs.Prelude.{IfSome, Result, Ok, Err, IfOk, OnErr}
use Rattle.std.specs.Global.{Vec}
use Rattle.std.specs.declared.alloc.AllocError.{AllocError}
use Rattle.spec_disk.specs.declared.event.Event.{Event}
use Rattle.spec_crash.specs.Timing.{MayCall}
use Rattle.spec_tree.specs.declared.Digest.{Digest}
use Rattle.spec_core.specs.History.{History, setting_of, opening_map, first_state, last_state}
use Rattle.spec_core.specs.State.{State}
use Rattle.spec_core.specs.declared.act.Act.{Act}
use Rattle.spec_core.specs.declared.act.Act.TheVariants.{List as ListAll}
use Rattle.spec_core.specs.declared.event.CoreEvent.{CoreEvent}
use Rattle.spec_core.specs.declared.reply.Reply.{Reply}
use Rattle.spec_core.specs.declared.reply.Reply.TheVariants.{Listed}
use Rattle.spec_core.specs.declared.setting.Setting.{Setting}
use Rattle.spec_core.specs.declared.who.Who.{Who}
use Rattle.spec_session.specs.Conform.{events_of}
use Rattle.spec_session.specs.Told.{present_blobs}
use Rattle.bv_device.specs.Told.{Disk}
use Rattle.bv_store.specs.Stored.{Grows}
use Rattle.bv_claims.specs.declared.claims.Claims.{Claims}
use Rattle.spec_record.specs.declared.geometry.Geometry.{Geometry}
use Rattle.bv_session.specs.declared.entry.Basis.{Basis}
use Rattle.bv_session.specs.declared.entry.Entry.{Entry}
use Rattle.bv_session.specs.declared.entry.Told.{Told}
use Rattle.bv_session.specs.Events.{Notes, NotesAs, own_events}
use Rattle.bv_volume.specs.Answers.{list_reply}
use Rattle.bv_volume.specs.Events.{Does, Happens, event_of}
use Rattle.bv_volume.specs.Seen.{Seen}
use Rattle.bv_shared.specs.Entries.{Gains, basis_of, device_events, entries_from, entries_in, entry_of, told_of}
use Rattle.bv_shared.specs.Since.{AreWithin, EndBy}
use Rattle.bv_shared.proofs.EntryLemmas.{as_many, one_more, own_from, stay}

-- ---- the entries so far, as the device goes on

entries_grow : (told : Option Told) (g : Setting) (s : State) (o new : Option Disk) (P : Disk → List Event → Type 0) (past es : List CoreEvent) → Grows o new P → IfSome o (λ d. EndBy (length d.trace) es) → entries_from told (device_events new) g s past es ≡ entries_from told (device_events o) g s past es
entries_grow told g s None new P past es grows k = ap (λ (x : Option Disk). entries_from told (device_events x) g s past es) grows
entries_grow told g s (Some d) new P past es grows k = ap (λ (x : Option Disk). entries_from told (device_events x) g s past es) grows.1 ∙ stay told g d.trace grows.0 s past es k

-- entries by the parts of a volume
abbrev entries_by : Option Disk → Option Disk → History → ℕ → List Entry
entries_by began told h next = entries_from (told_of began) (device_events told) (setting_of h) (first_state (opening_map h) next) [] h.events

-- ---- one event more

module _ (v w : Seen) (within : AreWithin v) (who : Who) (act : Act) (reply : Reply) (happens : Happens v w who act reply) where
  abbrev pub event : CoreEvent
  event = event_of who act reply w.store.calls

  abbrev by_event : Disk → List Event → Type 0
  by_event d more = (more ≡ []) ⊎ MayCall act

  abbrev began : Option Told
  began = told_of v.store.began

  abbrev start : State
  start = first_state (opening_map v.history) v.next

  -- the entry that the event is
  abbrev pub entry : Entry
  entry = entry_of began (device_events w.store.told) (last_state v.history v.next) v.history.events event

  pub gains_entry : entries_in w ≡ entries_in v ++ entry ∷ []
  gains_entry = ap (λ (x : Option Disk). entries_by x w.store.told w.history w.next) happens.began
      ∙ ap (λ (n : ℕ). entries_by v.store.began w.store.told w.history n) happens.next
      ∙ ap (λ (h : History). entries_by v.store.began w.store.told h v.next) happens.history
      ∙ one_more began (setting_of v.history) (device_events w.store.told) start [] v.history.events event
      ∙ ap (λ (xs : List Entry). xs ++ entry ∷ []) (entries_grow began (setting_of v.history) start v.store.told w.store.told by_event [] v.history.events happens.told within)

  pub gains : Notes (entries_in v) (entries_in w) who act reply
  gains = (entry, gains_entry, refl, refl, refl)

-- ---- with a reply, or without

pub gains_by : (v w : Seen) → AreWithin v → (who : Who) (act : Act) (q : Option Reply) → Does v w who act q → Gains (entries_in v) (entries_in w) who act q
gains_by v w within who act None does = ap entries_in does
gains_by v w within who act (Some reply) does = gains v w within who act reply does

-- ---- what the volume stands on stays

abbrev basis_parts : Claims → Geometry → History → ℕ → Option Disk → ℕ → Basis
basis_parts claims geometry h next began faults = record {
  claims = claims;
  geometry = record geometry { blocks = h.blocks; nodes = h.nodes; version = h.version };
  opening = h.opening;
  next = next;
  faults = faults;
  told = told_of began;
}

pub claims_stay : (v w : Seen) (who : Who) (act : Act) (reply : Reply) → Happens v w who act reply → w.space.claims ≡ v.space.claims
claims_stay v w who act reply happens = happens.claims

basis_on : (v w : Seen) (who : Who) (act : Act) (reply : Reply) → Happens v w who act reply → (faults : ℕ) → basis_of w faults ≡ basis_of v faults
basis_on v w who act reply happens faults = ap (λ (c : Claims). basis_parts c w.store.geometry w.history w.next w.store.began faults) (claims_stay v w who act reply happens)
    ∙ ap (λ (g : Geometry). basis_parts v.space.claims g w.history w.next w.store.began faults) happens.geometry
    ∙ ap (λ (h : History). basis_parts v.space.claims v.store.geometry h w.next w.store.began faults) happens.history
    ∙ ap (λ (n : ℕ). basis_parts v.space.claims v.store.geometry v.history n w.store.began faults) happens.next
    ∙ ap (λ (o : Option Disk). basis_parts v.space.claims v.store.geometry v.history v.next o faults) happens.began

pub basis_by : (v w : Seen) (who : Who) (act : Act) (q : Option Reply) → Does v w who act q → (faults : ℕ) → basis_of w faults ≡ basis_of v faults
basis_by v w who act None does faults = ap (λ (x : Seen). basis_of x faults) does
basis_by v w who act (Some reply) does faults = basis_on v w who act reply does faults

pub basis_spared : (v u : Seen) → u ≡ record v { spare = u.spare } → (faults : ℕ) → basis_of u faults ≡ basis_of v faults
basis_spared v u is faults = ap (λ (x : Seen). basis_of x faults) is

-- ---- but for the room of events

pub entries_spared : (v u : Seen) → u ≡ record v { spare = u.spare } → entries_in u ≡ entries_in v
entries_spared v u is = ap entries_in is

-- ---- a listing

pub lists_by : (v w : Seen) → AreWithin v → (who : Who) (answer : Result (Vec (Digest × ℕ)) AllocError) → Does v w who ListAll (list_reply answer) → IfOk answer (λ list. list.items ≡ present_blobs (last_state v.history v.next)) → IfOk answer (λ blobs. NotesAs (entries_in v) (entries_in w) who ListAll (Listed (length blobs.items)) (λ e. e.listed ≡ Some blobs.items))
lists_by v w within who (Ok list) does is =
    let same : list.len ≡ length list.items = omega (arith, list.ok.0) in
    let happens : Happens v w who ListAll (Listed (length list.items)) = subst (λ (n : ℕ). Happens v w who ListAll (Listed n)) same does in
    (entry v w within who ListAll (Listed (length list.items)) happens, gains_entry v w within who ListAll (Listed (length list.items)) happens, refl, refl, refl, ap (λ (x : List (Digest × ℕ)). Some x) (sym is))
lists_by v w within who (Err e) does is = tt

pub lists_none : (v w : Seen) → (who : Who) (answer : Result (Vec (Digest × ℕ)) AllocError) → Does v w who ListAll (list_reply answer) → OnErr answer (entries_in w ≡ entries_in v)
lists_none v w who (Ok list) does = tt
lists_none v w who (Err e) does = ap entries_in does

-- ---- the entries of a history

module _ (v : Seen) (faults : ℕ) where
  pub as_many_in : length (entries_in v) ≡ length v.history.events
  as_many_in = as_many (told_of v.store.began) (setting_of v.history) (device_events v.store.told) (first_state (opening_map v.history) v.next) [] v.history.events

  -- a session's own events, by its entries
  pub own_is : (s : ℕ) → own_events (λ e. e.event.who.session) s (entries_in v) ≡ events_of s v.history.events
  own_is s = own_from (told_of v.store.began) (setting_of v.history) s (device_events v.store.told) (first_state (opening_map v.history) v.next) [] v.history.events
