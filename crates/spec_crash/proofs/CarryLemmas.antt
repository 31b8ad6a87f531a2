-- The crash theorem is carried over one event: stops before it are as they were.
use Rattle.std.proofs.Common.{◌≡◌, ◌<◌, ◌≤◌, ℕ, List, [], ◌∷◌, ◌++◌, length, take, map, filter, Bool, true, false, cond, ◌&&◌, nat_le, refl, ap, sym, ◌∙◌, subst, inl, inr, arith}
use Rattle.std.specs.List.{All, Contains}
use Rattle.std.proofs.lemmas.Bool.Decides.{nat_tests}
use Rattle.std.proofs.lemmas.Bool.{cases_lt}
use Rattle.std.proofs.lemmas.List.{append-nil, length-append, length_push, map-append, take-append-le}
use Rattle.std.proofs.lemmas.List.Elements.{All-contains, All-nil, All-cons, Contains-append_left, filter-append}
use Rattle.spec_disk.specs.declared.event.Event.{Event}
use Rattle.spec_disk.specs.declared.event.Event.TheVariants as device
use Rattle.spec_disk.specs.Disk.{Blocks}
use Rattle.spec_disk.specs.Images.{IsImage}
use Rattle.spec_image.specs.Chance.{NoChance}
use Rattle.spec_core.specs.declared.event.CoreEvent.{CoreEvent}
use Rattle.spec_core.specs.declared.map_change.MapChange.{MapChange}
use Rattle.spec_core.specs.declared.setting.Setting.{Setting}
use Rattle.spec_core.specs.State.{State}
use Rattle.spec_core.specs.Step.{after, state_after}
use Rattle.spec_core.specs.History.{History, setting_of, opening_map, first_state, last_state, log_of, with_event}
use Rattle.spec_core.specs.Log.{changed}
use Rattle.spec_core.specs.Synced.{lengths_from, log_lengths, lengths_where, first_or, last_or, tells_durable, synced_by, logged_by}
use Rattle.spec_core.proofs.Histories.{state_after-push}
use Rattle.spec_core.proofs.Logs.{moves}
use Rattle.spec_crash.specs.Timing.{TimesOne}
use Rattle.spec_crash.specs.Crash.{IsLogLength, map_after, HoldsWhole, HoldsPrefix, CrashPrefix, StopsWithin}
use Rattle.spec_crash.proofs.TimingLemmas.{IsTimed-push}

-- The log and its lengths with one event more

pub lengths_from-push : (g : Setting) (s : State) (es : List CoreEvent) (e : CoreEvent) → lengths_from g s (es ++ e ∷ []) ≡ lengths_from g s es ++ (e, length (after g (state_after g s es) e).log) ∷ []
lengths_from-push g s [] e = refl
lengths_from-push g s (x ∷ es) e = ap (λ (ps : List (CoreEvent × ℕ)). (x, length (after g s x).log) ∷ ps) (lengths_from-push g (after g s x) es e)

-- an event adds to the log
pub log_grows : (g : Setting) (s : State) (e : CoreEvent) → (more : List MapChange) × ((after g s e).log ≡ s.log ++ more)
log_grows g s e = let moved = moves g s e.who e.act e.reply in (moved.0, moved.1)

length-log_grows : (g : Setting) (s : State) (e : CoreEvent) → length s.log ≤ length (after g s e).log
length-log_grows g s e = let (more, is) = log_grows g s e in omega (arith, ap (λ (l : List MapChange). length l) is, length-append s.log more)

length-log_run : (g : Setting) (s : State) (es : List CoreEvent) → length s.log ≤ length (state_after g s es).log
length-log_run g s [] = omega arith
length-log_run g s (e ∷ es) = omega (arith, length-log_grows g s e, length-log_run g (after g s e) es)

-- no length is above the last
lengths_within : (g : Setting) (s : State) (es : List CoreEvent) → All (λ n. n ≤ length (state_after g s es).log) (map (λ p. p.1) (lengths_from g s es))
lengths_within g s [] = All-nil (λ n. n ≤ length s.log)
lengths_within g s (e ∷ es) =
    All-cons (λ n. n ≤ length (state_after g (after g s e) es).log) (length (after g s e).log) (map (λ p. p.1) (lengths_from g (after g s e) es))
    (length-log_run g (after g s e) es) (lengths_within g (after g s e) es)

pub log_length-within : (h : History) (k : ℕ) → IsLogLength h k → k ≤ length (log_of h)
log_length-within h k (inl none) = omega (arith, none)
log_length-within h k (inr some) =
    All-contains (λ n. n ≤ length (log_of h)) (map (λ p. p.1) (log_lengths h)) k (lengths_within (setting_of h) (first_state (opening_map h) 0) h.events) some

-- Lengths that are picked, with one more

pub lengths_where-append : (test : CoreEvent → Bool) (ps qs : List (CoreEvent × ℕ)) → lengths_where test (ps ++ qs) ≡ lengths_where test ps ++ lengths_where test qs
lengths_where-append test ps qs =
    ap (λ (rs : List (CoreEvent × ℕ)). map (λ p. p.1) rs) (filter-append (λ p. test p.0) ps qs)
    ∙ map-append (λ (p : CoreEvent × ℕ). p.1) (filter (λ p. test p.0) ps) (filter (λ p. test p.0) qs)

-- one that doesn't pass adds nothing
lengths_where-failed : (test : CoreEvent → Bool) (ps : List (CoreEvent × ℕ)) (e : CoreEvent) (n : ℕ) → test e ≡ false → lengths_where test (ps ++ (e, n) ∷ []) ≡ lengths_where test ps
lengths_where-failed test ps e n fails =
    lengths_where-append test ps ((e, n) ∷ [])
    ∙ ap (λ (t : Bool). lengths_where test ps ++ map (λ (p : CoreEvent × ℕ). p.1) (cond t ((e, n) ∷ []) [])) fails
    ∙ append-nil (lengths_where test ps)

-- the first of these and of more is no less than it was, where the length that stands for none has grown
first_or-more : (count low high : ℕ) (ns ms : List ℕ) → low ≤ high → high ≤ first_or high ms → count ≤ first_or low ns → count ≤ first_or high (ns ++ ms)
first_or-more count low high [] ms grows one below = omega (arith, grows, one, below)
first_or-more count low high (n ∷ ns) ms grows one below = below

first_or-one : (t : Bool) (e : CoreEvent) (n : ℕ) → n ≤ first_or n (map (λ (p : CoreEvent × ℕ). p.1) (cond t ((e, n) ∷ []) []))
first_or-one true e n = omega arith
first_or-one false e n = omega arith

-- A history with one event more

module _ (h : History) (e : CoreEvent) where
  abbrev pub length_after : ℕ
  length_after = length (after (setting_of h) (last_state h 0) e).log

  pub lengths_is : log_lengths (with_event h e) ≡ log_lengths h ++ (e, length_after) ∷ []
  lengths_is = lengths_from-push (setting_of h) (first_state (opening_map h) 0) h.events e

  pub log_is : log_of (with_event h e) ≡ (after (setting_of h) (last_state h 0) e).log
  log_is = ap (λ (s : State). s.log) (state_after-push (setting_of h) (first_state (opening_map h) 0) h.events e)

  pub length_is : length (log_of (with_event h e)) ≡ length_after
  length_is = ap (λ (l : List MapChange). length l) log_is

  -- an event of more calls makes nothing durable by then
  pub synced_by-push : (n : ℕ) → (tells_durable e.reply && nat_le e.calls n) ≡ false → synced_by (with_event h e) n ≡ synced_by h n
  synced_by-push n late =
      ap (λ (ps : List (CoreEvent × ℕ)). last_or 0 (lengths_where (λ x. tells_durable x.reply && nat_le x.calls n) ps)) lengths_is
      ∙ ap (λ (ns : List ℕ). last_or 0 ns) (lengths_where-failed (λ x. tells_durable x.reply && nat_le x.calls n) (log_lengths h) e length_after late)

  pub logged_by-push : (n count : ℕ) → count ≤ logged_by h n → count ≤ logged_by (with_event h e) n
  logged_by-push n count below =
      let reached : CoreEvent → Bool = λ x. nat_le n x.calls in
      let same : logged_by (with_event h e) n ≡ first_or length_after (lengths_where reached (log_lengths h) ++ lengths_where reached ((e, length_after) ∷ [])) =
      ap (λ (k : ℕ). first_or k (lengths_where reached (log_lengths (with_event h e)))) length_is
      ∙ ap (λ (ps : List (CoreEvent × ℕ)). first_or length_after (lengths_where reached ps)) lengths_is
      ∙ ap (λ (ns : List ℕ). first_or length_after ns) (lengths_where-append reached (log_lengths h) ((e, length_after) ∷ [])) in
      let more : count ≤ first_or length_after (lengths_where reached (log_lengths h) ++ lengths_where reached ((e, length_after) ∷ [])) =
      first_or-more count (length (log_of h)) length_after (lengths_where reached (log_lengths h)) (lengths_where reached ((e, length_after) ∷ []))
      (length-log_grows (setting_of h) (last_state h 0) e) (first_or-one (nat_le n e.calls) e length_after) below in
      omega (arith, same, more)

  pub IsLogLength-push : (k : ℕ) → IsLogLength h k → IsLogLength (with_event h e) k
  IsLogLength-push k (inl none) = inl none
  IsLogLength-push k (inr some) =
      let longer : map (λ (p : CoreEvent × ℕ). p.1) (log_lengths (with_event h e)) ≡ map (λ (p : CoreEvent × ℕ). p.1) (log_lengths h) ++ length_after ∷ [] =
      ap (λ (ps : List (CoreEvent × ℕ)). map (λ (p : CoreEvent × ℕ). p.1) ps) lengths_is
      ∙ map-append (λ (p : CoreEvent × ℕ). p.1) (log_lengths h) ((e, length_after) ∷ []) in
      inr (subst (λ ns. Contains ns k) (sym longer) (Contains-append_left (map (λ (p : CoreEvent × ℕ). p.1) (log_lengths h)) (length_after ∷ []) k some))

  pub map_after-push : (k : ℕ) → k ≤ length (log_of h) → map_after (with_event h e) k ≡ map_after h k
  map_after-push k within =
      let (more, grown) = log_grows (setting_of h) (last_state h 0) e in
      ap (λ (l : List MapChange). changed (opening_map h) (take k l)) (log_is ∙ grown)
      ∙ ap (λ (l : List MapChange). changed (opening_map h) l) (take-append-le k (log_of h) more within)

  pub HoldsPrefix-push : (n : ℕ) (j : Blocks) → (tells_durable e.reply && nat_le e.calls n) ≡ false → HoldsPrefix h n j → HoldsPrefix (with_event h e) n j
  HoldsPrefix-push n j late p = record {
    count = p.count;
    durable = omega (arith, synced_by-push n late, p.durable);
    logged = logged_by-push n p.count p.logged;
    boundary = IsLogLength-push p.count p.boundary;
    holds = subst (λ m. HoldsWhole j m) (sym (map_after-push p.count (log_length-within h p.count p.boundary))) p.holds;
  }

-- an event that makes changes durable ends after the stops before it
durable_later : (events more : List Event) (e : CoreEvent) (n : ℕ) → TimesOne events more e → n ≤ length events → (t : Bool) → tells_durable e.reply ≡ t → (t && nat_le e.calls n) ≡ false
durable_later events more e n one before false is = refl
durable_later events more e n one before true is =
    let (q, ends) = one.synced is in
    let later : n < e.calls = omega (arith, one.calls, before, length_push q (device.Sync true), ap (λ (m : List Event). length m) ends) in
    grind (arith, nat_tests, later)

pub CrashPrefix-push : (base : Blocks) (events more : List Event) (h : History) (e : CoreEvent) → CrashPrefix base events h → TimesOne events more e → StopsWithin base events more (with_event h e) → CrashPrefix base (events ++ more) (with_event h e)
CrashPrefix-push base events more h e crash one within = record {
  stops = λ n j below image chance. elim (cases_lt (length events) n) [
    | inl later ↦ within n j later below image chance
    | inr before ↦
        let same : take n (events ++ more) ≡ take n events = take-append-le n events more before in
        HoldsPrefix-push h e n j (durable_later events more e n one before (tells_durable e.reply) refl)
        (crash.stops n j before (subst (λ p. IsImage base p j) same image) (subst (λ p. NoChance base p j) same chance))
  ];
  timed = IsTimed-push events more h e crash.timed one;
}
