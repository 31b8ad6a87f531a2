-- A history stays timed by one event more, and one without events is timed by any.
use Rattle.std.proofs.Common.{◌≡◌, ◌<◌, ℕ, zero, suc, ◌+◌, List, [], ◌∷◌, ◌++◌, length, true, IsTrue, slice_get, refl, ap, sym, ◌∙◌, subst, inl, inr, arith, append_assoc}
use Rattle.std.specs.List.{All}
use Rattle.std.specs.Option.{IsSomeAnd}
use Rattle.std.proofs.lemmas.List.{length_push, length-append}
use Rattle.std.proofs.lemmas.List.Elements.{All-push, All-nil}
use Rattle.spec_disk.specs.declared.event.Event.{Event}
use Rattle.spec_disk.specs.declared.event.Event.TheVariants as device
use Rattle.spec_core.specs.declared.event.CoreEvent.{CoreEvent}
use Rattle.spec_core.specs.History.{History, FromEachToNext, with_event}
use Rattle.spec_core.specs.Synced.{tells_durable}
use Rattle.spec_crash.specs.Timing.{event_at, IsOkWrite, IsOkSync, LastHas, MayCall, IsWritten, IsTimed, TimesOne}

-- One event more of a history

FromEachToNext-push : (R : CoreEvent → CoreEvent → Type 0) (P : CoreEvent → Type 0) (es : List CoreEvent) (e : CoreEvent) → FromEachToNext R es → LastHas P es → ((l : CoreEvent) → P l → R l e) → FromEachToNext R (es ++ e ∷ [])
FromEachToNext-push R P [] e each last next = tt
FromEachToNext-push R P (a ∷ []) e each last next = (next a last, tt)
FromEachToNext-push R P (a ∷ b ∷ es) e each last next = (each.0, FromEachToNext-push R P (b ∷ es) e (each.1) last next)

LastHas-push : (P : CoreEvent → Type 0) (es : List CoreEvent) (e : CoreEvent) → P e → LastHas P (es ++ e ∷ [])
LastHas-push P [] e p = p
LastHas-push P (a ∷ []) e p = p
LastHas-push P (a ∷ b ∷ es) e p = LastHas-push P (b ∷ es) e p

-- Events of the device by their places

slice_get-more : (P : Event → Type 0) (events more : List Event) (k : ℕ) → IsSomeAnd (slice_get events k) P → IsSomeAnd (slice_get (events ++ more) k) P
slice_get-more P [] more k none = absurd none
slice_get-more P (x ∷ events) more zero p = p
slice_get-more P (x ∷ events) more (suc k) p = slice_get-more P events more k p

event_at-more : (P : Event → Type 0) (events more : List Event) (n : ℕ) → IsSomeAnd (event_at events n) P → IsSomeAnd (event_at (events ++ more) n) P
event_at-more P events more zero none = absurd none
event_at-more P events more (suc k) p = slice_get-more P events more k p

slice_get-last : (P : Event → Type 0) (events : List Event) (x : Event) → P x → IsSomeAnd (slice_get (events ++ x ∷ []) (length events)) P
slice_get-last P [] x p = p
slice_get-last P (y ∷ events) x p = slice_get-last P events x p

-- the last event stands at the place that is their number
event_at-last : (P : Event → Type 0) (events : List Event) (x : Event) (n : ℕ) → n ≡ suc (length events) → P x → IsSomeAnd (event_at (events ++ x ∷ []) n) P
event_at-last P events x n is p = subst (λ k. IsSomeAnd (event_at (events ++ x ∷ []) k) P) (sym is) (slice_get-last P events x p)

module _ (events more : List Event) (h : History) (e : CoreEvent) (timed : IsTimed events h) (one : TimesOne events more e) where
  -- where the event made no calls, it ends where the last one ended
  quiet : more ≡ [] → e.calls ≡ length events
  quiet none = omega (arith, one.calls, ap (λ (q : List Event). length q) none)

  rises : (l : CoreEvent) → l.calls ≡ length events → l.calls < e.calls → MayCall e.act
  rises l at later = elim one.silent [ inl none ↦ absurd (omega (arith, at, later, quiet none)) | inr may ↦ may ]

  rises_by_one : (l : CoreEvent) → l.calls ≡ length events → IsWritten e → e.calls ≡ l.calls + 1
  rises_by_one l at written =
      let single = one.written written in
      omega (arith, at, one.calls, ap (λ (q : List Event). length q) (single.2))

  is_write : IsWritten e → IsSomeAnd (event_at (events ++ more) e.calls) IsOkWrite
  is_write written =
      let single = one.written written in
      let w : Event = device.Write (single.0) (single.1) true in
      subst (λ q. IsSomeAnd (event_at (events ++ q) e.calls) IsOkWrite) (sym (single.2))
      (event_at-last IsOkWrite events w e.calls (omega (arith, one.calls, ap (λ (q : List Event). length q) (single.2))) refl)

  is_sync : IsTrue (tells_durable e.reply) → IsSomeAnd (event_at (events ++ more) e.calls) IsOkSync
  is_sync durable =
      let (q, is) = one.synced durable in
      let whole : (events ++ q) ++ device.Sync true ∷ [] ≡ events ++ more = append_assoc events q (device.Sync true ∷ []) ∙ ap (λ (m : List Event). events ++ m) (sym is) in
      subst (λ m. IsSomeAnd (event_at m e.calls) IsOkSync) whole
      (event_at-last IsOkSync (events ++ q) (device.Sync true) e.calls
      (omega (arith, one.calls, length-append events q, length_push q (device.Sync true), ap (λ (m : List Event). length m) is)) refl)

  rises_by_sync : (l : CoreEvent) → l.calls ≡ length events → IsTrue (tells_durable e.reply) → l.calls < e.calls
  rises_by_sync l at durable =
      let (q, is) = one.synced durable in
      omega (arith, at, one.calls, length_push q (device.Sync true), ap (λ (m : List Event). length m) is)

  pub IsTimed-push : IsTimed (events ++ more) (with_event h e)
  IsTimed-push = record {
    rises = FromEachToNext-push (λ old new. old.calls < new.calls → MayCall new.act) (λ l. l.calls ≡ length events) h.events e timed.rises timed.ends rises;
    puts = record {
      one = FromEachToNext-push (λ old new. IsWritten new → new.calls ≡ old.calls + 1) (λ l. l.calls ≡ length events) h.events e timed.puts.one timed.ends rises_by_one;
      written = All-push (λ x. IsWritten x → IsSomeAnd (event_at (events ++ more) x.calls) IsOkWrite) h.events e
          (λ k d below is. event_at-more IsOkWrite events more _ (timed.puts.written k d below is)) is_write;
    };
    syncs = record {
      own = FromEachToNext-push (λ old new. IsTrue (tells_durable new.reply) → old.calls < new.calls) (λ l. l.calls ≡ length events) h.events e timed.syncs.own timed.ends rises_by_sync;
      synced = All-push (λ x. IsTrue (tells_durable x.reply) → IsSomeAnd (event_at (events ++ more) x.calls) IsOkSync) h.events e
          (λ k d below is. event_at-more IsOkSync events more _ (timed.syncs.synced k d below is)) is_sync;
    };
    ends = LastHas-push (λ x. x.calls ≡ length (events ++ more)) h.events e (one.calls ∙ sym (length-append events more));
  }

-- A history without events

pub IsTimed-none : (events : List Event) (h : History) → h.events ≡ [] → IsTimed events h
IsTimed-none events h none = record {
  rises = subst (λ es. FromEachToNext (λ old new. old.calls < new.calls → MayCall new.act) es) (sym none) tt;
  puts = record {
    one = subst (λ es. FromEachToNext (λ old new. IsWritten new → new.calls ≡ old.calls + 1) es) (sym none) tt;
    written = let P : CoreEvent → Type 0 = λ x. IsWritten x → IsSomeAnd (event_at events x.calls) IsOkWrite in subst (λ es. All P es) (sym none) (All-nil P);
  };
  syncs = record {
    own = subst (λ es. FromEachToNext (λ old new. IsTrue (tells_durable new.reply) → old.calls < new.calls) es) (sym none) tt;
    synced = let P : CoreEvent → Type 0 = λ x. IsTrue (tells_durable x.reply) → IsSomeAnd (event_at events x.calls) IsOkSync in subst (λ es. All P es) (sym none) (All-nil P);
  };
  ends = subst (λ es. LastHas (λ x. x.calls ≡ length events) es) (sym none) tt;
}
