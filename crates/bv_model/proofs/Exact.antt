-- No more is taken than there is, until a write or sync fails.
use Rattle.std.proofs.Common.{◌≡◌, ℕ, zero, suc, ◌+◌, ◌-◌, ◌<◌, ◌≤◌, Bool, true, false, cond, Option, Some, None, length, drop, get_or, refl, ap, sym, ◌∙◌, arith}
use Rattle.std.specs.List.{sum_by}
use Rattle.spec_tree.specs.Tree.{need_of}
use Rattle.spec_tree.specs.declared.Digest.{Digest}
use Rattle.bv_model.proofs.Adds.{granted_fits, tabled_at, Tabled}
use Rattle.bv_model.proofs.Lengths.{once_at}
use Rattle.bv_model.proofs.Rescans.{fits_at, state_more, state_at_end}
use Rattle.bv_model.proofs.Rooms.{TakenOf, taken_change}
use Rattle.bv_model.proofs.Takings.{need_in, need_at, need_found}
use Rattle.bv_model.specs.Laws.{RoomIsExact}
use Rattle.bv_model.specs.Rescan.{state_at, goes_with, standing_for}
use Rattle.bv_model.specs.Taking.{add_need, NeedsAt, NeedsFor, NeedsBy, NeedsOf, adding_of, by_deed, by_adding, counted_again}
use Rattle.bv_model.specs.declared.adding.AddEffect.{AddEffect}
use Rattle.bv_model.specs.declared.adding.AddEffect.TheVariants as addings
use Rattle.bv_model.specs.declared.rescan.Standing.{Standing}
use Rattle.bv_model.specs.declared.room.Taken.{Taken}
use Rattle.spec_core.proofs.Deeds.{alike, deed_stopped}
use Rattle.spec_core.proofs.Numbers.{numbers_are_apart}
use Rattle.spec_core.proofs.Once.{Once}
use Rattle.spec_core.specs.Change.{change}
use Rattle.spec_core.specs.Choice.{choice}
use Rattle.spec_core.specs.Deeds.{deed_of, fails}
use Rattle.spec_core.specs.History.{History, setting_of, opening_map, first_state, last_state, room, Legal}
use Rattle.spec_core.specs.Room.{purge_need, taken, room_in}
use Rattle.spec_core.specs.State.{State, find, held}
use Rattle.spec_core.specs.Step.{Chosen}
use Rattle.spec_core.specs.declared.act.Act.{Act}
use Rattle.spec_core.specs.declared.act.Act.TheVariants.{Begin, Admit, Settle, Retire, Sync}
use Rattle.spec_core.specs.declared.deed.Deed.{Deed}
use Rattle.spec_core.specs.declared.deed.Deed.TheVariants.{Closes, Unlinks, Empties}
use Rattle.spec_core.specs.declared.event.CoreEvent.{CoreEvent}
use Rattle.spec_core.specs.declared.reply.Reply.{Reply}
use Rattle.spec_core.specs.declared.reply.Reply.TheVariants.{Granted, Admitted, Published, Synced}
use Rattle.spec_core.specs.declared.setting.Setting.{Setting}
use Rattle.spec_core.specs.declared.who.Who.{Who}

-- ---- the sums of a state, and the blocks that an event is about

-- the running sums that a state calls for
abbrev sums : Setting → State → Taken
sums g s = record {
  all = taken g s;
  purged = sum_by purge_need (drop s.durable s.log);
  queued = need_in s.map s.queue;
  leaving = need_in s.map s.leaving;
  again = 0;
}

sums_taken : (g : Setting) (s : State) → TakenOf g s (sums g s)
sums_taken g s = record {
  taken = omega arith;
  adds = omega arith;
  going = λ h. record { again = refl; purged = refl; queued = refl; leaving = refl };
}

-- there is such a number
deed_needs : (s : State) (d : Deed) → (need : ℕ) × NeedsFor s d need
deed_needs s (Closes p) = go (held s.slots p)
  where
    go : (o : Option Digest) → (need : ℕ) × ((r : Digest) → o ≡ Some r → NeedsAt s r need)
    go None = (0, λ r e. cc)
    go (Some x) = (need_at s.map x, λ r e blob f. let same : x ≡ r = cc in need_found s.map x blob (ap (find s.map) same ∙ f))
deed_needs s (Unlinks r) = (need_at s.map r, need_found s.map r)
deed_needs s _ = (0, tt)

needs : (g : Setting) (s : State) (a : AddEffect) (d : Deed) → (need : ℕ) × NeedsBy g s a d need
needs g s (addings.Begins r n) d = (need_of g.version n, refl)
needs g s (addings.Ends r) d = (add_need g s r, refl)
needs g s _ d = deed_needs s d

-- ---- only an add that begins takes more

module _ (t : Taken) (root : Standing) (need : ℕ) where
  deed_takes_none : (d : Deed) → (by_deed t root need d).all ≤ t.all
  deed_takes_none (Closes p) = go (goes_with root)
    where
      go : (b : Bool) → (cond b (record t { leaving = t.leaving - need; queued = t.queued + need }) t).all ≤ t.all
      go true = omega arith
      go false = omega arith
  deed_takes_none (Unlinks r) = go _
    where
      go : (b : Bool) → (cond b (record t { queued = t.queued + need }) (record t { leaving = t.leaving + need })).all ≤ t.all
      go true = omega arith
      go false = omega arith
  deed_takes_none (Empties true) = omega arith
  deed_takes_none (Empties false) = omega arith
  deed_takes_none _ = omega arith

again_takes_none : (b : Bool) (t : Taken) → (counted_again b t).all ≡ t.all
again_takes_none true t = refl
again_takes_none false t = refl

module _ (g : Setting) (s : State) (w : Who) (t : Taken) (root : Standing) (need : ℕ) (same : t.all ≡ taken g s) (low : t.all ≤ g.blocks - 1) where
  begin_keeps : (r : Digest) (n : ℕ) (q : Reply) → NeedsOf g s w (Begin r n) q need → Chosen (choice g s w (Begin r n)) q → (by_adding t root need (adding_of (Begin r n) q) (deed_of w (Begin r n) q)).all ≤ g.blocks - 1
  begin_keeps r n Granted e c = omega (arith, same, low, e, granted_fits g s w r n c)
  begin_keeps r n _ e c = low

  admit_keeps : (r : Digest) (q : Reply) → (by_adding t root need (adding_of (Admit r) q) (deed_of w (Admit r) q)).all ≤ g.blocks - 1
  admit_keeps r Admitted = low
  admit_keeps r _ = omega (arith, low)

  settle_keeps : (r : Digest) (q : Reply) → (by_adding t root need (adding_of (Settle r) q) (deed_of w (Settle r) q)).all ≤ g.blocks - 1
  settle_keeps r Published = low
  settle_keeps r _ = omega (arith, low)

  adding_keeps : (a : Act) (q : Reply) → NeedsOf g s w a q need → Chosen (choice g s w a) q → (by_adding t root need (adding_of a q) (deed_of w a q)).all ≤ g.blocks - 1
  adding_keeps (Begin r n) q e c = begin_keeps r n q e c
  adding_keeps (Admit r) q e c = admit_keeps r q
  adding_keeps (Settle r) q e c = settle_keeps r q
  adding_keeps (Retire r) q e c = omega (arith, low)
  adding_keeps a q e c = omega (arith, low, deed_takes_none t root need (deed_of w a q))

-- ---- event by event

-- no more is taken than there is, unless a write or sync has failed
abbrev pub Fitting : Setting → State → Type 0
Fitting g s = s.stopped ≡ None → taken g s ≤ g.blocks - 1

fitting_change : (g : Setting) (s : State) (w : Who) (a : Act) (q : Reply) → Tabled s → Once s → Chosen (choice g s w a) q → Fitting g s → Fitting g (change g s w a q)
fitting_change g s w a q d o c k none =
    let was : s.stopped ≡ None = sym (deed_stopped g s (deed_of w a q)) ∙ (alike g s w a q).going none in
    let (need, e) = needs g s (adding_of a q) (deed_of w a q) in
    let root : Standing = standing_for s (deed_of w a q) in
    let now = taken_change g s (sums g s) w a q need (sums_taken g s) d o e c in
    let all = adding_keeps g s w (sums g s) root need refl (k was) a q e c in
    omega (arith, now.taken, (now.going none).again, again_takes_none (fails a q) (by_adding (sums g s) root need (adding_of a q) (deed_of w a q)), all)

-- ---- of a history

some_event : CoreEvent
some_event = record { who = record { session = 0; line = 0 }; act = Sync; reply = Synced; calls = 0 }

fitting_at : (h : History) (next i : ℕ) → Legal h next → Fitting (setting_of h) (first_state (opening_map h) next) → i ≤ length h.events → Fitting (setting_of h) (state_at h next i)
fitting_at h next zero legal first short = first
fitting_at h next (suc i) legal first short =
    let less : i < length h.events = omega (arith, short) in
    let event : CoreEvent = get_or h.events i some_event in
    let before = fitting_at h next i legal first (omega (arith, short)) in
    let more : suc i ≡ i + 1 = omega arith in
    rw (more, state_more h next i some_event less) (fitting_change (setting_of h) (state_at h next i) event.who event.act event.reply (tabled_at h next i legal) (once_at h next i legal) (fits_at h next legal i some_event less) before)

pub room_is_exact : RoomIsExact
room_is_exact h next legal none first =
    let same : room_in (setting_of h) (last_state h next) ≡ room h = ap (room_in (setting_of h)) (numbers_are_apart h next) in
    let last = rw (state_at_end h next (length h.events) refl) at (fitting_at h next (length h.events) legal (λ e. first) (omega arith)) in
    omega (arith, same, last none)
