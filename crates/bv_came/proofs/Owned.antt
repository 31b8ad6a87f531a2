-- A session's entries among all, and how long its slots stay open.
use Rattle.std.proofs.Common.{◌≡◌, ℕ, ◌==◌, Bool, true, false, cond, List, [], ◌∷◌, refl, ap, eq-eqb}
use Rattle.std.specs.Prelude.{All}
use Rattle.std.proofs.lemmas.List.Elements.{All-nil, All-cons}
use Rattle.spec_core.specs.Laws.{Empties}
use Rattle.spec_core.specs.declared.act.Act.{Act}
use Rattle.spec_core.specs.declared.act.Act.TheVariants.{Close, Unmount}
use Rattle.spec_core.specs.declared.event.CoreEvent.{CoreEvent}
use Rattle.spec_core.specs.declared.place.Place.{Place}
use Rattle.spec_core.specs.declared.who.Who.{Who}
use Rattle.spec_orderly.specs.Slots.{AreMounted, is_unmount, slot_of}
use Rattle.spec_session.specs.Conform.{events_of}
use Rattle.bv_came.specs.Sees.{own_entries}
use Rattle.bv_session.specs.declared.entry.Entry.{Entry}
use Rattle.bv_session.specs.Events.{events_in}
use Rattle.bv_session.specs.Pages.{Closes, StaysOpen}

-- their events are the session's
pub own_is : (s : ℕ) (es : List Entry) → events_in (own_entries s es) ≡ events_of s (events_in es)
own_is s [] = refl
own_is s (e ∷ es) = by_test (e.event.who.session == s) (own_is s es) where
  by_test : (b : Bool) → events_in (own_entries s es) ≡ events_of s (events_in es) → events_in (cond b (e ∷ own_entries s es) (own_entries s es)) ≡ cond b (e.event ∷ events_of s (events_in es)) (events_of s (events_in es))
  by_test true rest = ap (λ (l : List CoreEvent). e.event ∷ l) rest
  by_test false rest = rest

apart : (s slot : ℕ) (w : Who) (a : Act) → is_unmount a ≡ false → ((w.session == s) ≡ true → ¬ (Closes slot a)) → ¬ Empties (slot_of s slot) w a
apart s slot w (Close i) here k same = k (eq-eqb w.session s (ap (λ (p : Place). p.session) same)) (ap (λ (p : Place). p.slot) same)
apart s slot w Unmount here k same = absurd (cc)
apart s slot w a here k same = same

-- while a session doesn't close its slot, no event empties it: other sessions close their own
pub still_open : (s slot : ℕ) (es : List Entry) → StaysOpen slot (own_entries s es) → AreMounted (events_in es) → All (λ e. ¬ Empties (slot_of s slot) e.who e.act) (events_in es)
still_open s slot [] stays here = All-nil (λ (e : CoreEvent). ¬ Empties (slot_of s slot) e.who e.act)
still_open s slot (e ∷ es) stays here =
    All-cons (λ (x : CoreEvent). ¬ Empties (slot_of s slot) x.who x.act) e.event (events_in es)
    (apart s slot e.event.who e.event.act here.0 (λ own. first (e.event.who.session == s) own stays))
    (still_open s slot es (rest (e.event.who.session == s) stays) here.1) where
      first : (b : Bool) → b ≡ true → StaysOpen slot (cond b (e ∷ own_entries s es) (own_entries s es)) → ¬ (Closes slot e.event.act)
      first true is k = k.0
      first false is k = absurd (cc)

      rest : (b : Bool) → StaysOpen slot (cond b (e ∷ own_entries s es) (own_entries s es)) → StaysOpen slot (own_entries s es)
      rest true k = k.1
      rest false k = k
