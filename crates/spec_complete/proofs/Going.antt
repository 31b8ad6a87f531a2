-- A run goes on as one in which nothing fails, event by event: no call of the device fails, and there
-- is enough for all that is to come.
use Rattle.std.proofs.Common.{◌≡◌, ℕ, ◌+◌, ◌<◌, ◌≤◌, ◌⊎◌, inl, inr, ◌^◌, Bool, true, false, cond, not, ◌&&◌, is_some, nat_lt, Option, None, Some, List, [], ◌∷◌, ◌++◌, refl, ap, sym, ◌∙◌, subst, arith}
use Rattle.std.specs.List.{AllByRecursion, sum_by}
use Rattle.std.proofs.lemmas.Bool.{eqb-true, ltb-true}
use Rattle.std.proofs.lemmas.List.Elements.{All-from_recursion}
use Rattle.std.proofs.lemmas.List.Sums.{sum_by-cons, sum_by-le, sum_by-le-sum_by}
use Rattle.spec_faults.specs.Faults.{Rose}
use Rattle.spec_tree.specs.declared.Digest.{Digest}
use Rattle.spec_tree.specs.Tree.{need_of}
use Rattle.spec_core.proofs.Nodes.{no_nodes_is_past_worst}
use Rattle.spec_core.specs.Choice.{admit_choice, at_number_end, choice, if_added, is_empty, open_choice, place_of, settle_choice, sync_choice, unless_empty, unless_stopped, unlink_choice}
use Rattle.spec_core.specs.History.{History, first_state, opening_map, setting_of}
use Rattle.spec_core.specs.Room.{least_free, room_in, worst_nodes, worst_sum_in}
use Rattle.spec_core.specs.State.{State, count_present, find, held, holders, present, is_unlinked}
use Rattle.spec_core.specs.Step.{Chosen, Fits, IsNoNodes, Steps, after}
use Rattle.spec_core.specs.Synced.{RiseWithin, fault_of, faults_of}
use Rattle.spec_core.specs.declared.act.Act.{Act}
use Rattle.spec_core.specs.declared.act.Act.TheVariants.{Begin, Admit, Put, Settle, Retire, Open, Fetch, Read, Scan, Close, Unlink, Sync, List as ListAll, Unmount}
use Rattle.spec_core.specs.declared.choice.Choice.{Choice}
use Rattle.spec_core.specs.declared.choice.Choice.TheVariants.{Only, Writes, Reads, Never}
use Rattle.spec_core.specs.declared.event.CoreEvent.{CoreEvent}
use Rattle.spec_core.specs.declared.reply.Reply.{Reply}
use Rattle.spec_core.specs.declared.reply.Reply.TheVariants as replies
use Rattle.spec_core.specs.declared.setting.Setting.{Setting}
use Rattle.spec_core.specs.declared.who.Who.{Who}
use Rattle.spec_tree.specs.declared.blob.Blob.{Blob}
use Rattle.spec_script.specs.Tasks.{task_of}
use Rattle.spec_script.specs.declared.line.ScriptLine.{ScriptLine}
use Rattle.spec_session.specs.Conform.{own_act}
use Rattle.spec_headline.specs.Complete.{HasEnough, need_by, worst_by}
use Rattle.spec_headline.specs.Run.{Ended, Run}
use Rattle.spec_complete.specs.Good.{EventsGoWell, IsGood}
use Rattle.spec_complete.proofs.Taking.{takes}
use Rattle.spec_complete.proofs.Weights.{all_lines, most, weight}

-- ---- no call of the device failed

-- the reply tells of no fault
abbrev pub IsFaultless : Reply → Type 0
IsFaultless q = fault_of q ≡ []

-- where the count didn't rise, no event tells of a fault
pub faultless : (first last : ℕ) (es : List CoreEvent) → ¬ Rose first last → RiseWithin first last (faults_of es) → AllByRecursion (λ e. IsFaultless e.reply) es
faultless first last [] calm rise = tt
faultless first last (e ∷ es) calm rise = by (fault_of e.reply) refl rise (λ r. faultless first last es calm r) where
  by : (fs : List ℕ) → fault_of e.reply ≡ fs → RiseWithin first last (fs ++ faults_of es) → (RiseWithin first last (faults_of es) → AllByRecursion (λ x. IsFaultless x.reply) es) → AllByRecursion (λ x. IsFaultless x.reply) (e ∷ es)
  by [] is rise later = (is, later rise)
  by (f ∷ fs) is rise later = absurd (calm (omega (arith, rise.0, rise.1)))

-- ---- what there is to be of all

-- there is enough for an act, and for what comes behind it
pub record Enough (g : Setting) (s : State) (es : List CoreEvent) : Type 0 where
  pub going : s.stopped ≡ None
  pub blocks : sum_by (λ e. weight (need_of g.version) 0 e.act) es ≤ room_in g s
  pub nodes : worst_sum_in g s + sum_by (λ e. weight (worst_nodes g.version) 0 e.act) es ≤ g.nodes
  pub numbers : s.next + sum_by (λ e. weight (λ n. 0) 1 e.act) es ≤ 2 ^ 62

-- ---- the replies

-- while no write or sync has failed
going_on : (o : Option ℕ) (c : Choice) (q : Reply) → o ≡ None → Chosen (unless_stopped o c) q → Chosen c q
going_on None c q going fits = fits
going_on (Some f) c q going fits = cc

module _ (g : Setting) (s : State) (who : Who) (q : Reply) (calm : IsFaultless q) (going : s.stopped ≡ None) where
  -- the one reply
  is_good : (act : Act) (r : Reply) → IsGood act r → q ≡ r → IsGood act q
  is_good act r good is = subst (IsGood act) (sym is) good

  -- the one reply of a write, or of a read
  written : (act : Act) (r : Reply) → IsGood act r → Chosen (Writes r) q → IsGood act q
  written act r good (inl is) = is_good act r good is
  written act r good (inr (f, is)) = let told : fault_of q ≡ f ∷ [] = ap fault_of is in absurd (some_left f (sym told ∙ calm)) where
    some_left : (f : ℕ) → ¬ (f ∷ [] ≡ [])
    some_left f e = cc

  begin_good : (r : Digest) (n : ℕ) → need_of g.version n ≤ room_in g s → Chosen (choice g s who (Begin r n)) q → IsGood (Begin r n) q
  begin_good r n enough fits =
      by (is_some (present s r)) (is_unlinked s r) (is_some (find s.adds r)) (nat_lt (room_in g s) (need_of g.version n)) refl (going_on s.stopped _ q going fits) where
        by : (b c d e : Bool) → nat_lt (room_in g s) (need_of g.version n) ≡ e
            → Chosen (cond b (Only replies.Exists) (cond c (Only (replies.Leaving (holders s.slots r))) (cond d (Only replies.InFlight) (cond e (Only (replies.NoSpace (need_of g.version n) (room_in g s))) (Only replies.Granted))))) q → IsGood (Begin r n) q
        by true c d e short fits = is_good (Begin r n) replies.Exists tt fits
        by false true d e short fits = is_good (Begin r n) (replies.Leaving (holders s.slots r)) tt fits
        by false false true e short fits = is_good (Begin r n) replies.InFlight tt fits
        by false false false true short fits = absurd (omega (arith, enough, ltb-true (room_in g s) (need_of g.version n) short))
        by false false false false short fits = is_good (Begin r n) replies.Granted tt fits

  admit_good : (r : Digest) → worst_sum_in g s ≤ g.nodes → Chosen (choice g s who (Admit r)) q → IsGood (Admit r) q
  admit_good r enough fits = by (find s.adds r) fits (λ need free is. no_nodes_is_past_worst g s who r need free (subst (Chosen (choice g s who (Admit r))) is fits)) where
    by : (o : Option ℕ) → Chosen (if_added o (λ n. unless_stopped s.stopped (admit_choice g s r n))) q
        → ((need free : ℕ) → q ≡ replies.NoNodes need free → g.nodes < worst_sum_in g s) → IsGood (Admit r) q
    by None fits past = absurd fits
    by (Some n) fits past = one (going_on s.stopped (admit_choice g s r n) q going fits) past where
      one : (q ≡ replies.Admitted) ⊎ IsNoNodes (worst_nodes g.version n) (least_free g s r) q
          → ((need free : ℕ) → q ≡ replies.NoNodes need free → g.nodes < worst_sum_in g s) → IsGood (Admit r) q
      one (inl is) past = is_good (Admit r) replies.Admitted tt is
      one (inr (need, free, is, over, most, least)) past = absurd (omega (arith, enough, past need free is))

  -- an entry has a number
  numbered : s.next < 2 ^ 62 → at_number_end s ≡ true → ⊥
  numbered less at = omega (arith, less, eqb-true s.next (2 ^ 62) at)

  settle_good : (r : Digest) → s.next < 2 ^ 62 → Chosen (choice g s who (Settle r)) q → IsGood (Settle r) q
  settle_good r less fits = by (find s.adds r) fits where
    one : (b : Bool) → at_number_end s ≡ b → Chosen (cond b (Only replies.NumberEnd) (Writes replies.Published)) q → IsGood (Settle r) q
    one true at fits = absurd (numbered less at)
    one false at fits = written (Settle r) replies.Published tt fits

    by : (o : Option ℕ) → Chosen (if_added o (λ n. unless_stopped s.stopped (settle_choice s))) q → IsGood (Settle r) q
    by None fits = absurd fits
    by (Some n) fits = one (at_number_end s) refl (going_on s.stopped (settle_choice s) q going fits)

  open_good : (slot : ℕ) (r : Digest) (o : Option Blob) (h : Option Digest) → Chosen (open_choice o h) q → IsGood (Open slot r) q
  open_good slot r None h fits = is_good (Open slot r) replies.NotFound tt fits
  open_good slot r (Some blob) (Some x) fits = is_good (Open slot r) replies.SlotTaken tt fits
  open_good slot r (Some blob) None fits = is_good (Open slot r) (replies.Opened blob.size) tt fits

  -- a slot that is empty, or the one reply
  slot_good : (act : Act) (r : Reply) (h : Option Digest) → IsGood act replies.BadSlot → IsGood act r → Chosen (unless_empty h (Only r)) q → IsGood act q
  slot_good act r None bad good fits = is_good act replies.BadSlot bad fits
  slot_good act r (Some x) bad good fits = is_good act r good fits

  fetch_good : (slot w : ℕ) (h : Option Digest) → Chosen (unless_empty h (Reads replies.Fetched)) q → IsGood (Fetch slot w) q
  fetch_good slot w None fits = is_good (Fetch slot w) replies.BadSlot tt fits
  fetch_good slot w (Some x) (inl is) = is_good (Fetch slot w) replies.Fetched tt is
  fetch_good slot w (Some x) (inr (f, is)) = let told : fault_of q ≡ f ∷ [] = ap fault_of is in absurd (some_left f (sym told ∙ calm)) where
    some_left : (f : ℕ) → ¬ (f ∷ [] ≡ [])
    some_left f e = cc

  unlink_good : (r : Digest) (b : Bool) → Chosen (cond b (Only replies.Unlinked) (Only replies.NotFound)) q → IsGood (Unlink r) q
  unlink_good r true fits = is_good (Unlink r) replies.Unlinked tt fits
  unlink_good r false fits = is_good (Unlink r) replies.NotFound tt fits

  -- a sync, or an unmount
  synced : (act : Act) (r : Reply) (queue : List Digest) → IsGood act r → s.next < 2 ^ 62 → Chosen (sync_choice s queue r) q → IsGood act q
  synced act r queue good less fits = by (not (is_empty queue)) (at_number_end s) refl fits where
    by : (b c : Bool) → at_number_end s ≡ c → Chosen (cond (b && c) (Only replies.NumberEnd) (Writes r)) q → IsGood act q
    by true true at fits = absurd (numbered less at)
    by true false at fits = written act r good fits
    by false c at fits = written act r good fits

  unmount_good : (b : Bool) → s.next < 2 ^ 62 → Chosen (cond b (unless_stopped s.stopped (sync_choice s (s.queue ++ s.leaving) replies.Unmounted)) Never) q → IsGood Unmount q
  unmount_good true less fits = synced Unmount replies.Unmounted (s.queue ++ s.leaving) tt less (going_on s.stopped (sync_choice s (s.queue ++ s.leaving) replies.Unmounted) q going fits)
  unmount_good false less fits = absurd fits

  -- what there has to be for the act itself
  pub good : (act : Act) → weight (need_of g.version) 0 act ≤ room_in g s → worst_sum_in g s ≤ g.nodes → s.next + weight (λ n. 0) 1 act ≤ 2 ^ 62
      → Chosen (choice g s who act) q → IsGood act q
  good (Begin r n) blocks nodes numbers fits = begin_good r n blocks fits
  good (Admit r) blocks nodes numbers fits = admit_good r nodes fits
  good (Put i) blocks nodes numbers fits = written (Put i) replies.Written tt (going_on s.stopped (Writes replies.Written) q going fits)
  good (Settle r) blocks nodes numbers fits = settle_good r (omega (arith, numbers)) fits
  good (Retire r) blocks nodes numbers fits = is_good (Retire r) replies.Retired tt fits
  good (Open slot r) blocks nodes numbers fits = open_good slot r (present s r) (held s.slots (place_of who slot)) fits
  good (Fetch slot w) blocks nodes numbers fits = fetch_good slot w (held s.slots (place_of who slot)) fits
  good (Read slot off len) blocks nodes numbers fits = slot_good (Read slot off len) replies.Reading (held s.slots (place_of who slot)) tt tt fits
  good (Scan slot) blocks nodes numbers fits = slot_good (Scan slot) replies.Reading (held s.slots (place_of who slot)) tt tt fits
  good (Close slot) blocks nodes numbers fits = slot_good (Close slot) replies.Closed (held s.slots (place_of who slot)) tt tt fits
  good (Unlink r) blocks nodes numbers fits = unlink_good r (is_some (present s r)) (going_on s.stopped (unlink_choice s r) q going fits)
  good Sync blocks nodes numbers fits = synced Sync replies.Synced s.queue tt (omega (arith, numbers)) (going_on s.stopped (sync_choice s s.queue replies.Synced) q going fits)
  good ListAll blocks nodes numbers fits = is_good ListAll (replies.Listed (count_present s)) tt fits
  good Unmount blocks nodes numbers fits = unmount_good (is_empty s.adds) (omega (arith, numbers)) fits

-- ---- event by event

module _ (g : Setting) where
  enough_head : (s : State) (e : CoreEvent) (es : List CoreEvent) → Enough g s (e ∷ es) → IsFaultless e.reply → Fits g s e → IsGood e.act e.reply
  enough_head s e es k calm fits =
      good g s e.who e.reply calm k.going e.act
      (omega (arith, k.blocks, sum_by-cons (λ (x : CoreEvent). weight (need_of g.version) 0 x.act) e es))
      (omega (arith, k.nodes))
      (omega (arith, k.numbers, sum_by-cons (λ (x : CoreEvent). weight (λ n. 0) 1 x.act) e es))
      fits

  -- there is enough for what comes behind it
  pub enough_after : (s : State) (e : CoreEvent) (es : List CoreEvent) → Enough g s (e ∷ es) → IsFaultless e.reply → Fits g s e → Enough g (after g s e) es
  enough_after s e es k calm fits =
      let t = takes g s e.who e.act e.reply (enough_head s e es k calm fits) fits in
      record {
        going = t.stopped ∙ k.going;
        blocks = omega (arith, k.blocks, t.blocks, sum_by-cons (λ (x : CoreEvent). weight (need_of g.version) 0 x.act) e es);
        nodes = omega (arith, k.nodes, t.nodes, sum_by-cons (λ (x : CoreEvent). weight (worst_nodes g.version) 0 x.act) e es);
        numbers = omega (arith, k.numbers, t.number, sum_by-cons (λ (x : CoreEvent). weight (λ n. 0) 1 x.act) e es);
      }

  pub all_good : (s : State) (es : List CoreEvent) → Enough g s es → AllByRecursion (λ e. IsFaultless e.reply) es → Steps g s es → AllByRecursion (λ e. IsGood e.act e.reply) es
  all_good s [] k calm steps = tt
  all_good s (e ∷ es) k calm steps =
      (enough_head s e es k calm.0 steps.0, all_good (after g s e) es (enough_after s e es k calm.0 steps.0) calm.1 steps.1)

-- ---- a run

-- what a line may weigh
needs_by : (version : ℕ) (act : Act) → most (need_of version) 0 act ≤ need_by version act
needs_by version (Begin r n) = omega arith
needs_by version act = omega arith

worsts_by : (version : ℕ) (act : Act) → most (worst_nodes version) 0 act ≤ worst_by version act
worsts_by version (Begin r n) = omega arith
worsts_by version act = omega arith

one_at_most : (act : Act) → most (λ n. 0) 1 act ≤ 1
one_at_most (Begin r n) = omega arith
one_at_most (Settle r) = omega arith
one_at_most Sync = omega arith
one_at_most Unmount = omega arith
one_at_most act = omega arith

-- there is enough at first
pub enough_first : (run : Run) (next first last : ℕ) → Ended run next first last → HasEnough run.lines run.history next
    → Enough (setting_of run.history) (first_state (opening_map run.history) next) run.history.events
enough_first run next first last ended enough =
    let h : History = run.history in
    let v : ℕ = h.version in
    record {
      going = refl;
      blocks = omega (
        arith,
        enough.room,
        all_lines (need_of v) 0 run.lines h ended.conform ended.unmount,
        sum_by-le-sum_by (λ (l : ScriptLine). most (need_of v) 0 (own_act (task_of l.command))) (λ l. need_by v (own_act (task_of l.command))) run.lines (λ l. needs_by v (own_act (task_of l.command))),
      );
      nodes = omega (
        arith,
        enough.nodes,
        all_lines (worst_nodes v) 0 run.lines h ended.conform ended.unmount,
        sum_by-le-sum_by (λ (l : ScriptLine). most (worst_nodes v) 0 (own_act (task_of l.command))) (λ l. worst_by v (own_act (task_of l.command))) run.lines (λ l. worsts_by v (own_act (task_of l.command))),
      );
      numbers = omega (
        arith,
        enough.numbers,
        all_lines (λ n. 0) 1 run.lines h ended.conform ended.unmount,
        sum_by-le (λ (l : ScriptLine). most (λ n. 0) 1 (own_act (task_of l.command))) 1 run.lines (λ k d lt. one_at_most _),
      );
    }

pub events_good : (run : Run) (next first last : ℕ) → Ended run next first last → ¬ Rose first last → HasEnough run.lines run.history next
    → AllByRecursion (λ e. IsGood e.act e.reply) run.history.events
events_good run next first last ended calm enough =
    all_good (setting_of run.history) (first_state (opening_map run.history) next) run.history.events (enough_first run next first last ended enough)
    (faultless first last run.history.events calm ended.caused) ended.legal.steps

pub events_go_well : EventsGoWell
events_go_well run next first last ended calm enough =
    All-from_recursion (λ (e : CoreEvent). IsGood e.act e.reply) run.history.events (events_good run next first last ended calm enough)
