-- The space over a call that purges and makes all durable.
use Rattle.std.proofs.Common.{◌≡◌, ◌≤◌, ◌<◌, ◌⊎◌, inl, inr, ℕ, ◌+◌, ◌++◌, ◌∷◌, [], false, List, length, get_or, zero, suc, is_some, cond, true, Option, Some, None, refl, ap, sym, ◌∙◌, subst, arith}
use Rattle.std.specs.List.{sum_by, concat, Contains}
use Rattle.std.specs.Map.{values_of}
use Rattle.std.proofs.Math.Seq.{drop-length}
use Rattle.std.proofs.lemmas.List.{append-nil}
use Rattle.std.proofs.lemmas.List.Elements.{Contains-append_cases}
use Rattle.std.proofs.lemmas.List.Sums.{sum_by-cons}
use Rattle.spec_tree.specs.declared.Digest.{Digest}
use Rattle.spec_tree.specs.declared.blob.Blob.{Blob}
use Rattle.spec_core.specs.History.{History, setting_of, last_state, Legal}
use Rattle.spec_core.specs.Log.{changed, purges}
use Rattle.spec_core.specs.Room.{purge_need}
use Rattle.spec_core.specs.State.{State, find, among}
use Rattle.spec_core.specs.declared.act.Act.TheVariants.{Sync}
use Rattle.spec_core.specs.declared.map_change.MapChange.{MapChange}
use Rattle.spec_core.specs.declared.reply.Reply.TheVariants.{Synced, DeviceFault}
use Rattle.spec_core.specs.declared.who.Who.{Who}
use Rattle.spec_core.proofs.Once.{times as times_root, once_last, at_most_one, some_times}
use Rattle.spec_rest.specs.Rest.{Map}
use Rattle.bv_claims.specs.Blocks.{times, IsPartOf}
use Rattle.bv_claims.proofs.Counts.{times-append, times_same}
use Rattle.bv_model.specs.Sole.{Sole}
use Rattle.bv_model.proofs.Adds.{Tabled, tabled_at}
use Rattle.bv_model.proofs.Rescans.{state_at_end}
use Rattle.bv_model.proofs.Takings.{purged-need}
use Rattle.bv_model.specs.Noted.{Noted}
use Rattle.bv_space.specs.Owned.{Owned, times_in}
use Rattle.bv_ledger.specs.Answers.{device_reply}
use Rattle.bv_ledger.specs.Tables as L
use Rattle.bv_ledger.specs.Tables.{Tables, Accounts}
use Rattle.bv_store.specs.Stored.{Stored, Entry, blocks_in, placed_without}
use Rattle.bv_volume.specs.Kept.{Kept}
use Rattle.bv_volume.specs.Spaced.{times_placed, LiesAt, LieAll, IsFresh, Spaced, Freed, SpaceAt}
use Rattle.bv_volume.specs.Placed.{blocks_at}
use Rattle.bv_volume.proofs.Still.{noded_same}
use Rattle.bv_volume.proofs.Placed.{Places, blocks_are_taken, taken_from, lie_purged, sole_placed, taken_need, times_purged, find_other}

-- the lists of a state that a legal history leads to
pub tabled_last : (h : History) (next : ℕ) → Legal h next → Tabled (last_state h next)
tabled_last h next legal = subst Tabled (state_at_end h next (length h.events) refl) (tabled_at h next (length h.events) legal)

-- ---- blocks of a place

times_in_concat : (b : ℕ) (xs : List (List ℕ)) → times b (concat xs) ≡ sum_by (times b) xs
times_in_concat b [] = refl
times_in_concat b (x ∷ xs) = omega (arith, times-append b x (concat xs), times_in_concat b xs, sum_by-cons (times b) x xs)

pub counted : (b : ℕ) (xs : List ℕ) → Contains xs b → 0 < times b xs
counted b [] has = absurd (omega (arith, has.1))
counted b (x ∷ xs) has = elim (Contains-append_cases (x ∷ []) xs b has) [
  | inl first ↦ let is : x ≡ b = only x b first in subst (λ (y : ℕ). 0 < times b (y ∷ xs)) (sym is) (omega (arith, times-append b (b ∷ []) xs, times_same b))
  | inr later ↦ omega (arith, counted b xs later, times-append b (x ∷ []) xs)
]
  where
    only : (x b : ℕ) → Contains (x ∷ []) b → x ≡ b
    only x b has = at has.0 has.1 has.2
      where
        at : (k : ℕ) → k < 1 → get_or (x ∷ []) k b ≡ b → x ≡ b
        at zero h e = e
        at (suc k) h e = absurd (omega (arith, h))

pub is_placed : (b : ℕ) (placed : Places) → Contains (blocks_in placed) b → 0 < times_placed b placed
is_placed b placed has = subst (λ (k : ℕ). 0 < k) (times_in_concat b (values_of placed)) (counted b (blocks_in placed) has)

-- ---- the tables after the queue is purged and all is durable

pub record Purged (t new : Tables) : Type 0 where
  pub setting : new.setting ≡ t.setting
  pub map : new.map ≡ changed t.map (purges t.map t.queue)
  pub adds : new.adds ≡ t.adds
  pub queue : new.queue ≡ []
  pub purged : new.purged ≡ 0

pub synced_tables : (t new : Tables) (log : List MapChange) (durable : ℕ) (who : Who) → Accounts t log durable → t.stopped ≡ None → L.Does t new who Sync (Some Synced) → Purged t new
synced_tables t new log durable who accounts going does =
    let goes = does.1 log durable accounts in
    let full : List MapChange = log ++ (purges t.map t.queue ++ []) in
    let stopped : new.stopped ≡ None = sym (ap (λ (x : State). x.stopped) goes.state) ∙ going in
    record {
      setting = does.0;
      map = sym (ap (λ (x : State). x.map) goes.state) ∙ ap (λ (cs : List MapChange). changed t.map cs) (append-nil (purges t.map t.queue));
      adds = sym (ap (λ (x : State). x.adds) goes.state);
      queue = sym (ap (λ (x : State). x.queue) goes.state);
      purged = goes.accounts.purged stopped ∙ ap (sum_by purge_need) (drop-length full);
    }

-- what a failed entry leaves of the tables
pub record Stopped (t new : Tables) : Type 0 where
  pub setting : new.setting ≡ t.setting
  pub map : new.map ≡ t.map
  pub adds : new.adds ≡ t.adds
  pub queue : new.queue ≡ t.queue
  pub fault : ℕ
  pub stopped : new.stopped ≡ Some fault

pub failed_tables : (t new : Tables) (log : List MapChange) (durable : ℕ) (who : Who) (f : ℕ) → Accounts t log durable → L.Does t new who Sync (Some (DeviceFault f)) → Stopped t new
failed_tables t new log durable who f accounts does =
    let goes = does.1 log durable accounts in
    record {
      setting = does.0;
      map = sym (ap (λ (x : State). x.map) goes.state);
      adds = sym (ap (λ (x : State). x.adds) goes.state);
      queue = sym (ap (λ (x : State). x.queue) goes.state);
      fault = f;
      stopped = sym (ap (λ (x : State). x.stopped) goes.state);
    }

module _ (t new : Tables) (o o' : Owned) (s s' : Stored) (Held New : ℕ → Type 0) (spaced : Spaced t o s Held) (geometry : s'.geometry ≡ s.geometry) where
  -- the blocks of the purges are the boss's
  pub gone_is_part : t.stopped ≡ None → IsPartOf (o.gone ++ taken_from s.placed t.queue) o.owned
  gone_is_part going b =
      let e = (spaced.exactly going).owned b in
      omega (arith, e, times-append b o.gone (taken_from s.placed t.queue), times_purged b s.placed t.queue)

  same_adds : new.setting ≡ t.setting → new.adds ≡ t.adds → o'.adds ≡ o.adds → (r : Digest) → SpaceAt new.setting (find new.adds r) (find o'.adds r)
  same_adds setting adds spaces r = rw (setting, adds, spaces) (spaced.adds r)

  -- all went well
  pub spaced_durable : t.stopped ≡ None → Sole t.map → Purged t new → s'.placed ≡ placed_without s.placed t.queue → ((b : ℕ) → New b → Contains (blocks_in s'.placed) b) → s'.used_nodes ≤ s.used_nodes → Freed o o' (taken_from s.placed t.queue) → Spaced new o' s' New
  spaced_durable going sole purged placed freed used free =
      let e = spaced.exactly going in
      let lie : LieAll new.map s'.placed = rw (purged.map, placed) (lie_purged t.map s.placed t.queue sole e.sole e.lie) in
      let owned : (b : ℕ) → times b o'.owned ≡ times_placed b s'.placed + times_in b o'.adds + times b o'.gone = λ b. rw (placed, free.adds, free.gone)
      (omega (arith, e.owned b, free.owned b, times-append b o'.owned (o.gone ++ taken_from s.placed t.queue), times-append b o.gone (taken_from s.placed t.queue), times_purged b s.placed t.queue)) in
      record {
        table = rw (free.claims, purged.setting) spaced.table;
        blocks = rw (purged.setting) spaced.blocks;
        geometry = rw (geometry, purged.setting) spaced.geometry;
        once = free.once;
        within = λ b. omega (arith, owned b);
        adds = same_adds purged.setting purged.adds free.adds;
        sole = rw (free.adds) spaced.sole;
        lie = λ r h. lie r;
        nodes = noded_same t new o o' s s' purged.setting purged.adds free.adds free.nodes geometry used spaced.nodes;
        exactly = λ none. record {
          owned = owned;
          room = rw (purged.map, purged.adds, purged.setting, purged.purged) (omega (arith, e.room, e.gone, free.room, taken_need t.map s.placed t.queue sole e.sole e.lie, purged-need t.map t.queue));
          gone = rw (free.gone, purged.purged) refl;
          held = λ b h. rw (free.gone) (omega (arith, is_placed b s'.placed (freed b h)));
          lie = lie;
          sole = rw placed (sole_placed s.placed t.queue e.sole);
        };
      }

  less_placed : (s'.placed ≡ s.placed) ⊎ (s'.placed ≡ placed_without s.placed t.queue) → (b : ℕ) → times_placed b s'.placed ≤ times_placed b s.placed
  less_placed (inl same) b = rw same (omega arith)
  less_placed (inr less) b = rw less (omega (arith, times_purged b s.placed t.queue))

  same_lies : (s'.placed ≡ s.placed) ⊎ (s'.placed ≡ placed_without s.placed t.queue) → (r : Digest) → among t.queue r ≡ false → find s'.placed r ≡ find s.placed r
  same_lies (inl same) r h = ap (λ (p : Places). find p r) same
  same_lies (inr less) r h = ap (λ (p : Places). find p r) less ∙ find_other s.placed t.queue r h

  -- a call failed
  pub spaced_stopped : Stopped t new → s'.used_nodes ≤ s.used_nodes → (s'.placed ≡ s.placed) ⊎ (s'.placed ≡ placed_without s.placed t.queue) → o' ≡ o → Spaced new o' s' New
  spaced_stopped stopped used placed same = rw same (record {
    table = rw (stopped.setting) spaced.table;
    blocks = rw (stopped.setting) spaced.blocks;
    geometry = rw (geometry, stopped.setting) spaced.geometry;
    once = spaced.once;
    within = λ b. omega (arith, spaced.within b, less_placed placed b);
    adds = λ r. rw (stopped.setting, stopped.adds) (spaced.adds r);
    sole = spaced.sole;
    lie = λ r h. let old = (rw (stopped.queue) at h) in rw (stopped.map, same_lies placed r old) (spaced.lie r old);
    nodes = noded_same t new o o s s' stopped.setting stopped.adds refl refl geometry used spaced.nodes;
    exactly = λ none. let both : Some stopped.fault ≡ None = sym stopped.stopped ∙ none in cc;
  })

-- either way
module _ (n : Noted) (next : ℕ) (t new : Tables) (o o' : Owned) (s s' : Stored) (Both : Map → Map → Type 0) (Held New : ℕ → Type 0) (who : Who) (kept : Kept n next t s Both) (spaced : Spaced t o s Held) (going : t.stopped ≡ None) where
  pub map_is_sole : Sole t.map
  map_is_sole = subst (λ (m : Map). Sole m) (ap (λ (x : State). x.map) kept.state) (tabled_last n.history next kept.legal).map

  pub queue_is_once : (r : Digest) → times_root r t.queue ≤ 1
  queue_is_once r =
      let once = once_last n.history next kept.legal r in
      let most = at_most_one (is_some (find (last_state n.history next).map r)) in
      subst (λ (q : List Digest). times_root r q ≤ 1) (ap (λ (x : State). x.queue) kept.state) (omega (arith, once, most))

  -- the blocks that were looked up for the queue are those that its purges take
  pub are_taken : (blocks : List ℕ) (roots : List Digest) → blocks ≡ blocks_at s.placed roots → roots ≡ t.queue → blocks ≡ taken_from s.placed t.queue
  are_taken blocks roots are same = are ∙ ap (λ (q : List Digest). blocks_at s.placed q) same ∙ blocks_are_taken s.placed t.queue queue_is_once

  -- each queued root has a blob somewhere
  pub queue_lies : (r : Digest) → among t.queue r ≡ true → is_some (find s.placed r) ≡ true
  queue_lies r queued =
      let once = once_last n.history next kept.legal r in
      let same : (last_state n.history next).queue ≡ t.queue = ap (λ (x : State). x.queue) kept.state in
      let most : 1 ≤ cond (is_some (find (last_state n.history next).map r)) 1 0 = omega (arith, once, some_times r (last_state n.history next).queue (ap (λ (q : List Digest). among q r) same ∙ queued)) in
      has (find t.map r) (find s.placed r) ((spaced.exactly going).lie r) (subst (λ (m : Map). 1 ≤ cond (is_some (find m r)) 1 0) (ap (λ (x : State). x.map) kept.state) most)
    where
      has : (m : Option Blob) (l : Option (List ℕ)) → LiesAt m l → 1 ≤ cond (is_some m) 1 0 → is_some l ≡ true
      has (Some b) (Some l) h k = refl
      has (Some b) None h k = absurd h
      has None l h k = absurd (omega (arith, k))

  pub spaced_sync : (failed : Option ℕ) → L.Does t new who Sync (Some (device_reply Synced failed)) → s'.geometry ≡ s.geometry → (failed ≡ None → s'.placed ≡ placed_without s.placed t.queue) → (s'.placed ≡ s.placed) ⊎ (s'.placed ≡ placed_without s.placed t.queue) → (failed ≡ None → (b : ℕ) → New b → Contains (blocks_in s'.placed) b) → s'.used_nodes ≤ s.used_nodes → (blocks : List ℕ) → blocks ≡ taken_from s.placed t.queue → (failed ≡ None → Freed o o' blocks) → ((f : ℕ) → failed ≡ Some f → o' ≡ o) → Spaced new o' s' New
  spaced_sync None does geometry placed either freed used blocks are done same =
      spaced_durable t new o o' s s' Held New spaced geometry going map_is_sole (synced_tables t new _ _ who kept.accounts going does) (placed refl) (freed refl) used (subst (λ (bs : List ℕ). Freed o o' bs) are (done refl))
  spaced_sync (Some f) does geometry placed either freed used blocks are done same =
      spaced_stopped t new o o' s s' Held New spaced geometry (failed_tables t new _ _ who f kept.accounts does) used either (same f refl)

-- memory for an entry was taken
pub spaced_planned : (t : Tables) (o : Owned) (s s' : Stored) (Held New : ℕ → Type 0) (x : Option Entry) → s' ≡ record s { planned = x } → ((b : ℕ) → New b → Held b) → Spaced t o s Held → Spaced t o s' New
spaced_planned t o s s' Held New x is goes spaced = rw is (record {
  table = spaced.table;
  blocks = spaced.blocks;
  geometry = spaced.geometry;
  once = spaced.once;
  within = spaced.within;
  adds = spaced.adds;
  sole = spaced.sole;
  lie = spaced.lie;
  nodes = noded_same t t o o s (record s { planned = x }) refl refl refl refl refl (omega arith) spaced.nodes;
  exactly = λ none. let e = spaced.exactly none in record { owned = e.owned; room = e.room; gone = e.gone; held = λ b h. e.held b (goes b h); lie = e.lie; sole = e.sole };
})

-- as a mount begins
pub spaced_fresh : (h : History) (t : Tables) (o : Owned) (s : Stored) (Held : ℕ → Type 0) → t.setting ≡ setting_of h → t.adds ≡ [] → t.purged ≡ 0 → IsFresh h t.map o s Held → Spaced t o s Held
spaced_fresh h t o s Held setting adds purged f = record {
  table = rw setting f.table.0;
  blocks = rw setting f.table.1;
  geometry = rw setting f.geometry;
  once = f.once;
  within = λ b. rw (f.none.0, f.none.1) (omega (arith, f.owned b));
  adds = λ r. rw (adds, f.none.0) refl;
  sole = rw (f.none.0) (λ r. omega arith);
  lie = λ r h. f.lie r;
  nodes = record { count = rw setting f.nodes.0; room = rw (setting, f.none.2) (omega (arith, f.nodes.1)); at = λ r. rw (f.none.2) tt; sole = rw (f.none.2) (λ r. omega arith) };
  exactly = λ none. record {
    owned = λ b. rw (f.none.0, f.none.1) (omega (arith, f.owned b));
    room = rw (setting, adds, purged) (omega (arith, f.room));
    gone = rw (f.none.1, purged) refl;
    held = λ b held. omega (arith, f.held b held);
    lie = f.lie;
    sole = f.sole;
  };
}
