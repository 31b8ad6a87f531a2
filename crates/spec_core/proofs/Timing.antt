-- What is synced was logged.
use Rattle.std.proofs.Common.{◌≡◌, ℕ, ◌<◌, ◌≤◌, Bool, true, false, cond, ◌&&◌, nat_le, IsTrue, inl, inr, List, [], ◌∷◌, length, length-append, map, filter, refl, ap, ◌∙◌, arith}
use Rattle.std.proofs.lemmas.Bool.Decides.{nat_tests}
use Rattle.std.proofs.lemmas.Bool.{cases_lt}
use Rattle.spec_core.proofs.Logs.{moves, Moved}
use Rattle.spec_core.specs.History.{History, setting_of, opening_map, first_state, NeverFall, FromEachToNext}
use Rattle.spec_core.specs.State.{State}
use Rattle.spec_core.specs.Step.{after, state_after}
use Rattle.spec_core.specs.Synced.{lengths_from, log_lengths, lengths_where, first_or, last_or, tells_durable, synced_by, logged_by}
use Rattle.spec_core.specs.SyncedLaws.{SyncedIsLogged}
use Rattle.spec_core.specs.declared.event.CoreEvent.{CoreEvent}
use Rattle.spec_core.specs.declared.setting.Setting.{Setting}

-- calls and lengths never fall, from these on
abbrev Rising : ℕ → ℕ → List (CoreEvent × ℕ) → Type 0
Rising c l [] = Unit {0}
Rising c l (p ∷ ps) = (c ≤ p.0.calls) × (l ≤ p.1) × Rising p.0.calls p.1 ps

-- the last length
abbrev last_length : ℕ → List (CoreEvent × ℕ) → ℕ
last_length l [] = l
last_length l (p ∷ ps) = last_length p.1 ps

grows : (s t : State) → Moved s t → length s.log ≤ length t.log
grows s t m = rw (m.1, length-append s.log m.0) (omega arith)

rising : (g : Setting) (s : State) (es : List CoreEvent) (c : ℕ) → NeverFall c es → Rising c (length s.log) (lengths_from g s es)
rising g s [] c n = tt
rising g s (e ∷ es) c n = (n.0, grows s (after g s e) (moves g s e.who e.act e.reply), rising g (after g s e) es e.calls n.1)

last_length_is : (g : Setting) (s : State) (es : List CoreEvent) → last_length (length s.log) (lengths_from g s es) ≡ length (state_after g s es).log
last_length_is g s [] = refl
last_length_is g s (e ∷ es) = last_length_is g (after g s e) es

-- a relation of events, of those with the log's lengths
with_lengths : (R : CoreEvent → CoreEvent → Type 0) (g : Setting) (s : State) (es : List CoreEvent) → FromEachToNext R es → FromEachToNext (λ p q. R p.0 q.0) (lengths_from g s es)
with_lengths R g s [] f = tt
with_lengths R g s (a ∷ []) f = tt
with_lengths R g s (a ∷ b ∷ es) f = (f.0, with_lengths R g (after g s a) (b ∷ es) f.1)

past_first : {X : Type 0} (R : X → X → Type 0) (x : X) (xs : List X) → FromEachToNext R (x ∷ xs) → FromEachToNext R xs
past_first R x [] f = tt
past_first R x (y ∷ xs) f = f.1

le_from : (m n : ℕ) → nat_le m n ≡ true → m ≤ n
le_from m n h = grind (arith, nat_tests)

lt_from : (m n : ℕ) → nat_le m n ≡ false → n < m
lt_from m n h = grind (arith, nat_tests)

-- whether the first of a list counts
pub picks : (b : Bool) (acc : ℕ) (p : CoreEvent × ℕ) (ps : List (CoreEvent × ℕ)) → last_or acc (map (λ x. x.1) (cond b (p ∷ ps) ps)) ≡ last_or (cond b p.1 acc) (map (λ x. x.1) ps)
picks true acc p ps = refl
picks false acc p ps = refl

picked_within : (b : Bool) (acc l n : ℕ) → acc ≤ l → l ≤ n → cond b n acc ≤ n
picked_within true acc l n h g = omega arith
picked_within false acc l n h g = omega arith

module _ (t : ℕ) where
  -- the event tells by these calls that the log is durable
  abbrev pub is_by : CoreEvent → Bool
  is_by e = tells_durable e.reply && nat_le e.calls t

  abbrev reached : CoreEvent → Bool
  reached e = nat_le t e.calls

  -- what is synced by these calls, where this was synced before
  abbrev pub synced : ℕ → List (CoreEvent × ℕ) → ℕ
  synced acc ps = last_or acc (lengths_where is_by ps)

  pub synced_next : (acc : ℕ) (p : CoreEvent × ℕ) (ps : List (CoreEvent × ℕ)) → synced acc (p ∷ ps) ≡ synced (cond (is_by p.0) p.1 acc) ps
  synced_next acc p ps = picks (is_by p.0) acc p (filter (λ x. is_by x.0) ps)

  too_late : (b : Bool) (n : ℕ) → t < n → (b && nat_le n t) ≡ false
  too_late false n h = refl
  too_late true n h = go (nat_le n t) refl
    where
      go : (c : Bool) → nat_le n t ≡ c → c ≡ false
      go true e = absurd (omega (arith, le_from n t e))
      go false e = refl

  in_time : (b : Bool) (n : ℕ) → (b && nat_le n t) ≡ true → n ≤ t
  in_time false n h = cc
  in_time true n h = le_from n t h

  -- past these calls nothing is synced
  none_later : (acc c l : ℕ) (ps : List (CoreEvent × ℕ)) → t < c → Rising c l ps → synced acc ps ≡ acc
  none_later acc c l [] late k = refl
  none_later acc c l (p ∷ ps) late k =
      synced_next acc p ps ∙ ap (λ b. synced (cond b p.1 acc) ps) (too_late (tells_durable p.0.reply) p.0.calls (omega (arith, k.0))) ∙ none_later acc p.0.calls p.1 ps (omega (arith, k.0)) k.2

  -- after an event that reaches these calls, nothing longer than its log is synced
  abbrev Stays : (CoreEvent × ℕ → CoreEvent × ℕ → Type 0) → Type 0
  Stays R =
      (acc : ℕ) (p : CoreEvent × ℕ) (ps : List (CoreEvent × ℕ)) → t ≤ p.0.calls → acc ≤ p.1 → Rising p.0.calls p.1 ps → FromEachToNext R (p ∷ ps) → synced acc ps ≤ p.1

  abbrev Syncs : CoreEvent × ℕ → CoreEvent × ℕ → Type 0
  Syncs p q = IsTrue (tells_durable q.0.reply) → p.0.calls < q.0.calls

  abbrev Logs : CoreEvent × ℕ → CoreEvent × ℕ → Type 0
  Logs p q = p.1 < q.1 → p.0.calls < q.0.calls

  told : (a b : Bool) → (a && b) ≡ true → a ≡ true
  told true b h = refl
  told false b h = cc

  -- where each sync makes a call of its own, nothing more is synced
  none_more : (acc : ℕ) (p : CoreEvent × ℕ) (ps : List (CoreEvent × ℕ)) → t ≤ p.0.calls → Rising p.0.calls p.1 ps → FromEachToNext Syncs (p ∷ ps) → synced acc ps ≡ acc
  none_more acc p [] late k f = refl
  none_more acc p (q ∷ ps) late k f =
      synced_next acc q ps ∙ go (is_by q.0) refl ∙ none_more acc q ps (omega (arith, k.0)) k.2 f.1
    where
      go : (b : Bool) → is_by q.0 ≡ b → synced (cond b q.1 acc) ps ≡ synced acc ps
      go true e = absurd (omega (arith, f.0 (told (tells_durable q.0.reply) (nat_le q.0.calls t) e), in_time (tells_durable q.0.reply) q.0.calls e))
      go false e = refl

  stays_synced : Stays Syncs
  stays_synced acc p ps late h k f = rw (none_more acc p ps late k f) h

  stays_logged : Stays Logs
  stays_logged acc p [] late h k f = h
  stays_logged acc p (q ∷ ps) late h k f =
      rw (synced_next acc q ps) (go (λ a g. stays_logged a q ps (omega (arith, k.0)) g k.2 f.1) (is_by q.0) refl)
    where
      go : ((a : ℕ) → a ≤ q.1 → synced a ps ≤ q.1) → (b : Bool) → is_by q.0 ≡ b → synced (cond b q.1 acc) ps ≤ p.1
      go r true e = elim (cases_lt p.1 q.1) [
        | inl more ↦ absurd (omega (arith, f.0 more, in_time (tells_durable q.0.reply) q.0.calls e))
        | inr same ↦ omega (arith, r q.1 (omega arith))
      ]
      go r false e = elim (cases_lt p.1 q.1) [
        | inl more ↦ rw (none_later acc q.0.calls q.1 ps (omega (arith, f.0 more)) k.2) h
        | inr same ↦ omega (arith, r acc (omega (arith, k.1)))
      ]

  synced_logged : (R : CoreEvent × ℕ → CoreEvent × ℕ → Type 0) → Stays R → (acc c l : ℕ) (ps : List (CoreEvent × ℕ)) → acc ≤ l → Rising c l ps → FromEachToNext R ps → synced acc ps ≤ first_or (last_length l ps) (lengths_where reached ps)
  synced_logged R stays acc c l [] h k f = h
  synced_logged R stays acc c l (p ∷ ps) h k f =
      rw (synced_next acc p ps) (go (synced_logged R stays (cond (is_by p.0) p.1 acc) p.0.calls p.1 ps more k.2 (past_first R p ps f)) (reached p.0) refl)
    where
      more : cond (is_by p.0) p.1 acc ≤ p.1
      more = picked_within (is_by p.0) acc l p.1 h k.1

      go : synced (cond (is_by p.0) p.1 acc) ps ≤ first_or (last_length p.1 ps) (lengths_where reached ps) → (b : Bool) → reached p.0 ≡ b → synced (cond (is_by p.0) p.1 acc) ps ≤ first_or (last_length p.1 ps) (map (λ (x : CoreEvent × ℕ). x.1) (cond b (p ∷ filter (λ x. reached x.0) ps) (filter (λ x. reached x.0) ps)))
      go rest true e = stays (cond (is_by p.0) p.1 acc) p ps (le_from t p.0.calls e) more k.2 f
      go rest false e = rest

  logged_at_end : (R : CoreEvent × ℕ → CoreEvent × ℕ → Type 0) → Stays R → (h : History) → NeverFall 0 h.events → FromEachToNext R (log_lengths h) → synced_by h t ≤ logged_by h t
  logged_at_end R stays h calls f =
      let first : State = first_state (opening_map h) 0 in
      rw (← last_length_is (setting_of h) first h.events) (synced_logged R stays 0 0 0 (log_lengths h) (omega arith) (rising (setting_of h) first h.events 0 calls) f)

pub synced_is_logged : SyncedIsLogged
synced_is_logged h next calls legal (inl syncs) =
    logged_at_end calls (Syncs calls) (stays_synced calls) h legal.calls (with_lengths (λ old new. IsTrue (tells_durable new.reply) → old.calls < new.calls) (setting_of h) (first_state (opening_map h) 0) h.events syncs)
synced_is_logged h next calls legal (inr logs) = logged_at_end calls (Logs calls) (stays_logged calls) h legal.calls logs
