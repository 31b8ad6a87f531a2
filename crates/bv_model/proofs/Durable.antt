-- What is durable, and what was logged, by so many calls: event by event.
use Rattle.std.proofs.Common.{◌≡◌, ℕ, ◌+◌, ◌<◌, ◌≤◌, Bool, true, false, cond, nat_le, List, ◌∷◌, length, map, drop, get_or, drop-cons, add-one, refl, ap, sym, ◌∙◌, drop_of_length-le}
use Rattle.spec_core.proofs.Numbers.{numbers_are_apart, lengths_apart}
use Rattle.bv_model.proofs.Rescans.{state_more}
use Rattle.spec_core.proofs.Timing.{picks, is_by}
use Rattle.spec_core.specs.History.{History, setting_of, opening_map, first_state, last_state, log_of}
use Rattle.bv_model.specs.Rescan.{state_at}
use Rattle.spec_core.specs.State.{State}
use Rattle.spec_core.specs.Step.{after}
use Rattle.spec_core.specs.Synced.{lengths_from, lengths_where, first_or, last_or, synced_by, logged_by}
use Rattle.spec_core.specs.declared.event.CoreEvent.{CoreEvent}
use Rattle.spec_core.specs.declared.setting.Setting.{Setting}

-- ---- what is durable

-- what is synced after the first so many events, where this was synced before
abbrev pub synced_from : History → ℕ → ℕ → ℕ → ℕ → ℕ
synced_from h next calls acc i = last_or acc (lengths_where (is_by calls) (lengths_from (setting_of h) (state_at h next i) (drop i h.events)))

pub synced_all : (h : History) (next calls : ℕ) → synced_from h next calls (length (state_at h next 0).log) 0 ≡ synced_by h calls
synced_all h next calls =
    ap (λ ps. last_or 0 (lengths_where (is_by calls) ps)) (sym (lengths_apart (setting_of h) (first_state (opening_map h) 0) (first_state (opening_map h) next) h.events refl))

pub synced_more : (h : History) (next calls acc i : ℕ) (d : CoreEvent) → i < length h.events
    → synced_from h next calls acc i ≡ synced_from h next calls (cond (is_by calls (get_or h.events i d)) (length (state_at h next (i + 1)).log) acc) (i + 1)
synced_more h next calls acc i d short =
    let g : Setting = setting_of h in
    let e : CoreEvent = get_or h.events i d in
    let rest = lengths_from g (after g (state_at h next i) e) (drop (i + 1) h.events) in
    ap (λ es. last_or acc (lengths_where (is_by calls) (lengths_from g (state_at h next i) es))) (drop-cons h.events i d short) ∙ picks (is_by calls e) acc _ _ ∙ rw (state_more h next i d short, add-one) refl

-- what is synced is the log's length after the last event so far that made it durable
pub synced_step : (h : History) (next calls count now i : ℕ) (d : CoreEvent) (b : Bool) (all : ℕ) → i < length h.events → is_by calls (get_or h.events i d) ≡ b → now ≡ cond b (i + 1) count
    → synced_from h next calls (length (state_at h next count).log) i ≡ all → synced_from h next calls (length (state_at h next now).log) (i + 1) ≡ all
synced_step h next calls count now i d b all short e is before =
    ap (λ (x : ℕ). synced_from h next calls x (i + 1)) (ap (λ (n : ℕ). length (state_at h next n).log) is ∙ go b e) ∙ sym (synced_more h next calls (length (state_at h next count).log) i d short) ∙ before
  where
    go : (b : Bool) → is_by calls (get_or h.events i d) ≡ b → length (state_at h next (cond b (i + 1) count)).log ≡ cond (is_by calls (get_or h.events i d)) (length (state_at h next (i + 1)).log) (length (state_at h next count).log)
    go true e = rw e refl
    go false e = rw e refl

pub synced_end : (h : History) (next calls acc i : ℕ) → length h.events ≤ i → synced_from h next calls acc i ≡ acc
synced_end h next calls acc i long = ap (λ es. last_or acc (lengths_where (is_by calls) (lengths_from (setting_of h) (state_at h next i) es))) (drop_of_length-le h.events long)

-- ---- what was logged

abbrev pub reaches : ℕ → CoreEvent → Bool
reaches calls e = nat_le calls e.calls

-- what was logged by then, if by none of the first so many events
abbrev pub logged_from : History → ℕ → ℕ → ℕ → ℕ
logged_from h next calls i = first_or (length (last_state h next).log) (lengths_where (reaches calls) (lengths_from (setting_of h) (state_at h next i) (drop i h.events)))

pub logged_all : (h : History) (next calls : ℕ) → logged_from h next calls 0 ≡ logged_by h calls
logged_all h next calls =
    ap (λ (n : ℕ). first_or n (lengths_where (reaches calls) (lengths_from (setting_of h) (state_at h next 0) h.events))) (ap (λ (u : State). length u.log) (numbers_are_apart h next))
    ∙ ap (λ ps. first_or (length (log_of h)) (lengths_where (reaches calls) ps)) (sym (lengths_apart (setting_of h) (first_state (opening_map h) 0) (first_state (opening_map h) next) h.events refl))

first_picked : (b : Bool) (none : ℕ) (p : CoreEvent × ℕ) (ps : List (CoreEvent × ℕ)) → first_or none (map (λ x. x.1) (cond b (p ∷ ps) ps)) ≡ cond b p.1 (first_or none (map (λ x. x.1) ps))
first_picked true none p ps = refl
first_picked false none p ps = refl

-- the first event with so many calls shows what was logged
pub logged_more : (h : History) (next calls i : ℕ) (d : CoreEvent) (b : Bool) → i < length h.events → reaches calls (get_or h.events i d) ≡ b
    → logged_from h next calls i ≡ cond b (length (state_at h next (i + 1)).log) (logged_from h next calls (i + 1))
logged_more h next calls i d b short e =
    let g : Setting = setting_of h in
    let none : ℕ = length (last_state h next).log in
    ap (λ es. first_or none (lengths_where (reaches calls) (lengths_from g (state_at h next i) es))) (drop-cons h.events i d short) ∙ first_picked (reaches calls (get_or h.events i d)) none _ _ ∙ rw (e, state_more h next i d short, add-one) refl

pub logged_end : (h : History) (next calls i : ℕ) → length h.events ≤ i → logged_from h next calls i ≡ length (last_state h next).log
logged_end h next calls i long = ap (λ es. first_or (length (last_state h next).log) (lengths_where (reaches calls) (lengths_from (setting_of h) (state_at h next i) es))) (drop_of_length-le h.events long)
