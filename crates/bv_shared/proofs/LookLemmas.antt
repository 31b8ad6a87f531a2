-- What a slot holds, as its session knows it.
use Rattle.std.proofs.Common.{◌≡◌, ℕ, Option, Some, None, List, refl, sym, ap, ◌∙◌, subst}
use Rattle.std.specs.Prelude.{Result, Ok, Err, IfOk, IfSome, IsSomeAnd}
use Rattle.spec_tree.specs.declared.Digest.{Digest}
use Rattle.spec_core.specs.Choice.{place_of}
use Rattle.spec_core.specs.History.{Legal, last_state}
use Rattle.spec_core.specs.State.{find, held}
use Rattle.spec_core.specs.declared.event.CoreEvent.{CoreEvent}
use Rattle.spec_core.specs.declared.who.Who.{Who}
use Rattle.spec_session.specs.Conform.{events_of}
use Rattle.spec_session.specs.Own.{Named, slot_holds}
use Rattle.spec_orderly.proofs.Held.{held_last}
use Rattle.spec_orderly.proofs.Shown.{shown_last}
use Rattle.spec_orderly.specs.Slots.{AreMounted}
use Rattle.bv_ledger.specs.declared.faults.BadSlot.{BadSlot}
use Rattle.bv_session.specs.Events.{own_events}
use Rattle.bv_volume.specs.Fetched.{HoldsBlob}
use Rattle.bv_volume.specs.Seen.{Seen}
use Rattle.bv_shared.specs.Entries.{entries_in}
use Rattle.bv_shared.proofs.FetchLemmas.{KnowsHeld, named_by}
use Rattle.bv_shared.proofs.GainLemmas.{own_is}

-- the session knows what its slot holds, where the entries were those before room was made
pub knows_held : (v u : Seen) → u ≡ record v { spare = u.spare } → (who : Who) (slot : ℕ) → Legal u.history u.next → KnowsHeld u who slot (own_events (λ e. e.event.who.session) who.session (entries_in v))
knows_held v u room who slot legal =
    let own : events_of who.session u.history.events ≡ own_events (λ e. e.event.who.session) who.session (entries_in v) = ap (λ (x : Seen). events_of who.session x.history.events) room ∙ sym (own_is v 0 who.session) in
    subst (KnowsHeld u who slot) own (λ r is. held_last u.history u.next who.session slot r legal is)

module _ (u : Seen) (who : Who) (slot : ℕ) (own : List CoreEvent) (knows : KnowsHeld u who slot own) where
  abbrev here : Option Digest
  here = held (last_state u.history u.next).slots (place_of who slot)

  -- what is looked up there is what the look found
  pub look_finds : (answer : Result Digest BadSlot) (blob : Option Named) → IfOk answer (λ root. here ≡ Some root) → IfSome blob (λ p. HoldsBlob u (place_of who slot) p.0 p.1) → (blob ≡ None → here ≡ None) → IfOk answer (λ root. IsSomeAnd blob (λ p. p.0 ≡ root))
  look_finds (Ok root) None found some none = let empty = none refl in absurd (cc)
  look_finds (Ok root) (Some p) found some none = some_same (sym some.holds ∙ found) where
    some_same : {a b : Digest} → Some a ≡ Some b → a ≡ b
    some_same {a} {b} is = cc
  look_finds (Err e) blob found some none = tt

  -- and the session knows it
  pub look_known : (blob : Option Named) → IfSome blob (λ p. HoldsBlob u (place_of who slot) p.0 p.1) → (x : Named) → blob ≡ Some x → slot_holds slot own ≡ Some x
  look_known None some x is = absurd (cc)
  look_known (Some p) some x is =
      named_by (find (last_state u.history u.next).map p.0) some.blob (λ b. slot_holds slot own ≡ Some (p.0, b.size)) some.has (knows p.0 some.holds)
      ∙ ap (λ (n : ℕ). Some (p.0, n)) some.size_is ∙ is

-- where no event is an unmount, a root is held there that the session knows
pub slot_root : (v u : Seen) → u ≡ record v { spare = u.spare } → (who : Who) (slot : ℕ) → Legal u.history u.next → AreMounted u.history.events → (P : Named → Type 0)
    → IsSomeAnd (slot_holds slot (own_events (λ e. e.event.who.session) who.session (entries_in v))) P → (r : Digest) × (held (last_state u.history u.next).slots (place_of who slot) ≡ Some r)
slot_root v u room who slot legal mounted P known =
    let own : events_of who.session u.history.events ≡ own_events (λ e. e.event.who.session) who.session (entries_in v) = ap (λ (x : Seen). events_of who.session x.history.events) room ∙ sym (own_is v 0 who.session) in
    go (slot_holds slot (own_events (λ e. e.event.who.session) who.session (entries_in v))) (ap (slot_holds slot) own) known where
      go : (o : Option Named) → slot_holds slot (events_of who.session u.history.events) ≡ o → IsSomeAnd o P → (r : Digest) × (held (last_state u.history u.next).slots (place_of who slot) ≡ Some r)
      go None is k = absurd k
      go (Some named) is k = (named.0, shown_last u.history u.next who.session slot named.0 named.1 legal mounted is)
