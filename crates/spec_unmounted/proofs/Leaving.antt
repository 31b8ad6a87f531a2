-- An unmount that went well is the last sync, and nothing is pending then: the one image has the
-- whole log's changes.
use Rattle.std.proofs.Common.{◌≡◌, inl, ℕ, Bool, true, false, cond, ◌&&◌, List, [], ◌∷◌, length, map, take, take_all, refl, ap, sym, ◌∙◌, subst, arith}
use Rattle.std.specs.Prelude.{filter, nat_le}
use Rattle.std.proofs.lemmas.Bool.Decides.{nat_tests}
use Rattle.spec_disk.specs.declared.event.Event.{Event}
use Rattle.spec_disk.specs.Disk.{Blocks, now_after}
use Rattle.spec_disk.specs.Images.{IsImage, IsSettled}
use Rattle.spec_disk.proofs.ImageLemmas.{image-now, image-settled}
use Rattle.spec_image.specs.Chance.{Accepts, NoChance}
use Rattle.spec_core.specs.History.{History, first_state, log_of, opening_map, setting_of}
use Rattle.spec_core.specs.Log.{changed}
use Rattle.spec_core.specs.State.{State}
use Rattle.spec_core.specs.Step.{after, state_after}
use Rattle.spec_core.specs.Synced.{last_or, lengths_from, lengths_where, synced_by, tells_durable}
use Rattle.spec_core.specs.declared.event.CoreEvent.{CoreEvent}
use Rattle.spec_core.specs.declared.map_change.MapChange.{MapChange}
use Rattle.spec_core.specs.declared.reply.Reply.{Reply}
use Rattle.spec_core.specs.declared.reply.Reply.TheVariants.{Unmounted}
use Rattle.spec_core.specs.declared.setting.Setting.{Setting}
use Rattle.spec_crash.specs.Crash.{HoldsPrefix, HoldsWhole}
use Rattle.spec_crash.specs.Timing.{LastHas}
use Rattle.spec_unmounted.specs.Unmounted.{UnmountsLeaveAll}

-- ---- all is synced at the end

le_self : (n : ℕ) → nat_le n n ≡ true
le_self n = grind (arith, nat_tests)

abbrev is_synced : ℕ → CoreEvent → Bool
is_synced n e = tells_durable e.reply && nat_le e.calls n

-- the last event is synced within its own calls
last_synced : (n : ℕ) (es : List CoreEvent) → LastHas (λ e. e.reply ≡ Unmounted) es → LastHas (λ e. e.calls ≡ n) es → LastHas (λ e. is_synced n e ≡ true) es
last_synced n [] reply calls = tt
last_synced n (e ∷ []) reply calls = one e.reply e.calls reply calls where
  one : (q : Reply) (k : ℕ) → q ≡ Unmounted → k ≡ n → (tells_durable q && nat_le k n) ≡ true
  one q k is at = ap (λ (r : Reply). tells_durable r && nat_le k n) is ∙ ap (λ (m : ℕ). nat_le m n) at ∙ le_self n
last_synced n (e ∷ f ∷ es) reply calls = last_synced n (f ∷ es) reply calls

module _ (g : Setting) (n : ℕ) where
  picked : (p : CoreEvent × ℕ) (ps : List (CoreEvent × ℕ)) (acc : ℕ)
      → last_or acc (lengths_where (is_synced n) (p ∷ ps)) ≡ last_or (cond (is_synced n p.0) p.1 acc) (lengths_where (is_synced n) ps)
  picked p ps acc = go (is_synced n p.0) where
    go : (b : Bool) → last_or acc (map (λ (x : CoreEvent × ℕ). x.1) (cond b (p ∷ filter (λ x. is_synced n x.0) ps) (filter (λ x. is_synced n x.0) ps))) ≡ last_or (cond b p.1 acc) (lengths_where (is_synced n) ps)
    go true = refl
    go false = refl

  -- the log's length after the last event, where that one is synced
  synced_some : (s : State) (e : CoreEvent) (es : List CoreEvent) (acc : ℕ) → LastHas (λ x. is_synced n x ≡ true) (e ∷ es)
      → last_or acc (lengths_where (is_synced n) (lengths_from g s (e ∷ es))) ≡ length (state_after g s (e ∷ es)).log
  synced_some s e [] acc last = picked (e, length (after g s e).log) [] acc ∙ ap (λ (b : Bool). cond b (length (after g s e).log) acc) last
  synced_some s e (f ∷ es) acc last =
      picked (e, length (after g s e).log) (lengths_from g (after g s e) (f ∷ es)) acc
      ∙ synced_some (after g s e) f es (cond (is_synced n e) (length (after g s e).log) acc) last

  synced_whole : (s : State) (es : List CoreEvent) (acc : ℕ) → acc ≡ length s.log → LastHas (λ x. is_synced n x ≡ true) es
      → last_or acc (lengths_where (is_synced n) (lengths_from g s es)) ≡ length (state_after g s es).log
  synced_whole s [] acc is last = is
  synced_whole s (e ∷ es) acc is last = synced_some s e es acc last

all_synced : (h : History) (n : ℕ) → LastHas (λ e. e.reply ≡ Unmounted) h.events → LastHas (λ e. e.calls ≡ n) h.events → synced_by h n ≡ length (log_of h)
all_synced h n reply calls = synced_whole (setting_of h) n (first_state (opening_map h) 0) h.events 0 refl (last_synced n h.events reply calls)

-- ---- a settled disk

-- what reads give is the one image, in which each entry is that of the synced disk
settled_fair : (base : Blocks) (p : List Event) → IsSettled p → NoChance base p (now_after base p)
settled_fair base p settled s slot e is accepts =
    inl (subst (λ (j : Blocks). Accepts j slot e) (image-settled base p (now_after base p) settled (image-now base p)) accepts)

pub leaves_all : UnmountsLeaveAll
leaves_all base events h crash settled unmounted =
    let n : ℕ = length events in
    let whole : take n events ≡ events = take_all n events (omega arith) in
    let now : Blocks = now_after base events in
    let prefix : HoldsPrefix h n now =
    crash.stops n now (omega arith)
    (subst (λ (p : List Event). IsImage base p now) (sym whole) (image-now base events))
    (subst (λ (p : List Event). NoChance base p now) (sym whole) (settled_fair base events settled)) in
    let synced : synced_by h n ≡ length (log_of h) = all_synced h n unmounted crash.timed.ends in
    let all : take prefix.count (log_of h) ≡ log_of h = take_all prefix.count (log_of h) (omega (arith, synced, prefix.durable)) in
    subst (λ (cs : List MapChange). HoldsWhole now (changed (opening_map h) cs)) all prefix.holds
