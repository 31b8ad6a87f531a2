-- A block of an add is written: the tables and the space go on together.
use Rattle.std.proofs.Common.{◌≡◌, ◌≤◌, ◌<◌, inl, ℕ, ◌+◌, get_or, List, length, Option, Some, None, Result, Ok, Err, OnOk, OnErr, refl, ap, sym, ◌∙◌, subst, arith}
use Rattle.std.specs.Global.{Vec}
use Rattle.std.proofs.lemmas.List.Elements.{Contains-get_or}
use Rattle.spec_tree.specs.Tree.{need_of}
use Rattle.spec_tree.specs.declared.Digest.{Digest}
use Rattle.spec_core.specs.State.{State, find}
use Rattle.spec_core.specs.declared.act.Act.TheVariants.{Put}
use Rattle.spec_core.specs.declared.map_change.MapChange.{MapChange}
use Rattle.spec_core.specs.declared.reply.Reply.TheVariants.{Written, DeviceFault, Stopped as IsStopped}
use Rattle.spec_core.specs.declared.setting.Setting.{Setting}
use Rattle.spec_core.specs.declared.who.Who.{Who}
use Rattle.spec_rest.specs.Rest.{Map}
use Rattle.bv_claims.specs.Blocks.{times}
use Rattle.bv_claims.proofs.Searches.{Rises-range}
use Rattle.bv_model.specs.Noted.{Noted}
use Rattle.bv_space.specs.Owned.{Owned}
use Rattle.bv_ledger.specs.Answers.{device_reply}
use Rattle.bv_ledger.specs.Tables as L
use Rattle.bv_ledger.specs.Tables.{Tables, Accounts}
use Rattle.bv_ledger.proofs.Sums.{sum_less}
use Rattle.bv_store.specs.Stored.{Stored}
use Rattle.bv_volume.specs.Adding.{IsAdmitted}
use Rattle.bv_volume.specs.Kept.{Kept, seen_of}
use Rattle.bv_volume.specs.Spaced.{HasSpace, Spaced}
use Rattle.bv_volume.specs.declared.tokens.Admitted.{Admitted}
use Rattle.bv_volume.proofs.Adds.{seen_add, tabled_add}
use Rattle.bv_volume.proofs.Freed.{Stopped, counted, spaced_stopped}
use Rattle.bv_volume.proofs.Still.{noded_same, still, spaced_still}

-- a put where a write or sync failed earlier
pub put_stopped : (t : Tables) (who : Who) (index f : ℕ) → t.stopped ≡ Some f → L.Does t t who (Put index) (Some (IsStopped f))
put_stopped t who index f stopped = (refl, λ log durable a. record { fits = rw stopped refl; state = refl; accounts = a })

failed_put : (t new : Tables) (log : List MapChange) (durable : ℕ) (who : Who) (index f : ℕ) → Accounts t log durable → L.Does t new who (Put index) (Some (DeviceFault f)) → Stopped t new
failed_put t new log durable who index f accounts does =
    let goes = does.1 log durable accounts in
    record {
      setting = does.0;
      map = sym (ap (λ (x : State). x.map) goes.state);
      adds = sym (ap (λ (x : State). x.adds) goes.state);
      queue = sym (ap (λ (x : State). x.queue) goes.state);
      fault = f;
      stopped = sym (ap (λ (x : State). x.stopped) goes.state);
    }

-- what keeps the blobs has them where they were
pub spaced_stored : (t : Tables) (o : Owned) (s s' : Stored) (Held New : ℕ → Type 0) → s'.geometry ≡ s.geometry → s'.placed ≡ s.placed → s'.used_nodes ≡ s.used_nodes → ((b : ℕ) → New b → Held b) → Spaced t o s Held → Spaced t o s' New
spaced_stored t o s s' Held New geometry placed used goes spaced = record {
  table = spaced.table;
  blocks = spaced.blocks;
  geometry = rw geometry spaced.geometry;
  once = spaced.once;
  within = λ b. rw placed (spaced.within b);
  adds = spaced.adds;
  sole = spaced.sole;
  lie = λ r h. rw placed (spaced.lie r h);
  nodes = noded_same t t o o s s' refl refl refl refl geometry (omega (arith, used)) spaced.nodes;
  exactly = λ none.
      let e = spaced.exactly none in
      record { owned = λ b. rw placed (e.owned b); room = e.room; gone = e.gone; held = λ b h. rw placed (e.held b (goes b h)); lie = rw placed e.lie; sole = rw placed e.sole };
}

pub spaced_put : (t new : Tables) (o : Owned) (s s' : Stored) (Held New : ℕ → Type 0) (log : List MapChange) (durable : ℕ) (who : Who) (index : ℕ) (failed : Option ℕ) → Accounts t log durable → L.Does t new who (Put index) (Some (device_reply Written failed)) → s'.geometry ≡ s.geometry → s'.placed ≡ s.placed → s'.used_nodes ≡ s.used_nodes → ((b : ℕ) → New b → Held b) → Spaced t o s Held → Spaced new o s' New
spaced_put t new o s s' Held New log durable who index None accounts does geometry placed used goes spaced =
    spaced_stored new o s s' Held New geometry placed used goes (spaced_still t new o s Held (still t new log durable who (Put index) Written accounts does refl) (sym (ap (λ (x : State). x.adds) (does.1 log durable accounts).state)) spaced)
spaced_put t new o s s' Held New log durable who index (Some f) accounts does geometry placed used goes spaced =
    spaced_stopped t new o o s s' Held New spaced geometry (failed_put t new log durable who index f accounts does) (omega (arith, used)) (inl placed) refl

pub put_adds : (t new : Tables) (log : List MapChange) (durable : ℕ) (who : Who) (index : ℕ) (failed : Option ℕ) → Accounts t log durable → L.Does t new who (Put index) (Some (device_reply Written failed)) → new.adds ≡ t.adds
put_adds t new log durable who index None accounts does = sym (ap (λ (x : State). x.adds) (does.1 log durable accounts).state)
put_adds t new log durable who index (Some f) accounts does = sym (ap (λ (x : State). x.adds) (does.1 log durable accounts).state)

-- ---- the next block of an add

module _ (t : Tables) (o : Owned) (s : Stored) (Held : ℕ → Type 0) (spaced : Spaced t o s Held) (r : Digest) (size : ℕ) (v : Vec ℕ) (under : find t.adds r ≡ Some size) (has : find o.adds r ≡ Some v) (i : ℕ) (below : i < length v.items) where
  its_space : HasSpace t.setting size v.items
  its_space = rw (under, has) at (spaced.adds r)

  stands : 0 < times (get_or v.items i 0) v.items
  stands = counted (get_or v.items i 0) v.items (Contains-get_or v.items i 0 below)

  -- it is one of the volume's data blocks
  pub next_within : (1 ≤ get_or v.items i 0) × (get_or v.items i 0 < s.geometry.blocks)
  next_within = let range = Rises-range 1 t.setting.blocks v.items its_space.rising (get_or v.items i 0) stands in (range.0, omega (arith, range.1, spaced.geometry.0))

  -- and no blob has it
  pub next_free : t.stopped ≡ None → Held (get_or v.items i 0) → ⊥
  next_free going held =
      let b : ℕ = get_or v.items i 0 in
      let e = spaced.exactly going in
      omega (arith, e.held b held, e.owned b, spaced.once b, stands, sum_less (λ (w : Vec ℕ). times b w.items) o.adds r v has)

-- ---- the token goes on

pub is_admitted : (n n' : Noted) (next : ℕ) (t new : Tables) (o : Owned) (s s' : Stored) (Both New : Map → Map → Type 0) (a b : Admitted) → Kept n next t s Both → Kept n' next new s' New → new.setting ≡ t.setting → new.adds ≡ t.adds → IsAdmitted (seen_of n next t o s) a → b.root ≡ a.root → b.size ≡ a.size → b.put ≤ need_of n.history.version a.size → IsAdmitted (seen_of n' next new o s') b
is_admitted n n' next t new o s s' Both New a b kept after setting adds old root size put =
    let version : n'.history.version ≡ n.history.version = ap (λ (g : Setting). g.version) (sym after.setting ∙ setting ∙ kept.setting) in
    let under : find new.adds a.root ≡ Some a.size = rw adds (tabled_add n next t s Both kept a.root a.size old.under_way) in
    record {
      under_way = rw (root, size) (seen_add n' next new s' New after a.root a.size under);
      blocks = old.blocks;
      has = rw root old.has;
      need = rw (version, size) old.need;
      put = omega (arith, put, old.need);
      nodes = rw root old.nodes;
    }

-- whether one block more was put or not
pub either_admitted : {E : Type 0} (Q : Type 0) (res : Result (Unit {0}) E) (W : Admitted → Type 0) (a b : Admitted) → OnOk res (Q × (b ≡ record a { put = a.put + 1 })) → OnErr res (b ≡ a) → W (record a { put = a.put + 1 }) → W a → W b
either_admitted Q (Ok v) W a b ok err more same = subst W (sym ok.1) more
either_admitted Q (Err e) W a b ok err more same = subst W (sym err) same
