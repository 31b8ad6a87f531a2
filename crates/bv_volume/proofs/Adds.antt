-- Adds that begin, and adds that end: the tables and the space go on together.
use Rattle.std.proofs.Common.{◌≡◌, ◌≤◌, inl, ℕ, ◌+◌, ◌-◌, ◌++◌, ◌∷◌, [], Bool, true, false, cond, sum, List, length, Option, Some, None, Result, Ok, Err, IfOk, OnOk, OnErr, refl, ap, sym, ◌∙◌, subst, arith}
use Rattle.std.specs.BTreeMap.{insert_entry, is_at}
use Rattle.std.specs.Global.{Vec}
use Rattle.std.specs.List.{sum_by}
use Rattle.std.specs.Map.{values_of}
use Rattle.std.proofs.lemmas.List.Sums.{sum_by-cons}
use Rattle.std.proofs.lemmas.Map.Entries.{sum_by-remove_entry}
use Rattle.spec_tree.specs.Order.{digest_cmp, same_digest}
use Rattle.spec_tree.specs.Tree.{need_of}
use Rattle.spec_tree.specs.declared.Digest.{Digest}
use Rattle.spec_core.proofs.EntryLemmas.{lookup-insert_entry}
use Rattle.spec_core.proofs.Holding.{digest_total, one_digest, same_self}
use Rattle.spec_core.specs.History.{last_state}
use Rattle.spec_core.specs.Log.{without}
use Rattle.spec_core.specs.State.{State, find}
use Rattle.spec_core.specs.declared.act.Act.TheVariants.{Begin, Retire, Settle}
use Rattle.spec_core.specs.declared.map_change.MapChange.{MapChange}
use Rattle.spec_core.specs.declared.reply.Reply.{Reply}
use Rattle.spec_core.specs.declared.reply.Reply.TheVariants.{Granted, Retired}
use Rattle.spec_core.specs.declared.setting.Setting.{Setting}
use Rattle.spec_core.specs.declared.who.Who.{Who}
use Rattle.spec_rest.specs.Rest.{Map}
use Rattle.bv_claims.specs.Blocks.{times, HasEachOnce, HaveSameBlocks, IsPartOf}
use Rattle.bv_claims.specs.declared.grant.Grant.{Grant}
use Rattle.bv_claims.proofs.Counts.{times-append}
use Rattle.bv_model.specs.Noted.{Noted}
use Rattle.bv_model.specs.Sole.{Sole}
use Rattle.bv_model.proofs.Adds.{find-without, sole-insert, sole-without}
use Rattle.bv_space.specs.Owned.{Owned, times_in}
use Rattle.bv_ledger.specs.Answers.{begin_reply, refusal_reply}
use Rattle.bv_ledger.specs.declared.faults.Refusal.{Refusal}
use Rattle.bv_ledger.specs.declared.faults.Refusal.TheVariants as refusal
use Rattle.bv_ledger.specs.Tables as L
use Rattle.bv_ledger.specs.Tables.{Tables, Accounts}
use Rattle.bv_ledger.specs.declared.adds.BeginFault.{BeginFault}
use Rattle.bv_ledger.specs.declared.adds.BeginFault.TheVariants as beginning
use Rattle.bv_ledger.proofs.Sums.{sum_less, sum_more}
use Rattle.bv_store.specs.Stored.{Stored}
use Rattle.bv_claims.specs.Tokens.{IsGrantOf, grant_need}
use Rattle.bv_claims.specs.declared.claims.Claims.{Claims}
use Rattle.bv_volume.specs.Adding.{Begins, IsBegun}
use Rattle.bv_volume.specs.declared.tokens.Begun.{Begun}
use Rattle.bv_volume.specs.Kept.{Kept, seen_of}
use Rattle.bv_volume.specs.Spaced.{HasSpace, SpaceAt, NodesAt, Noded, Spaced}
use Rattle.bv_volume.proofs.Freed.{tabled_last}
use Rattle.bv_volume.proofs.Quiet.{begins}
use Rattle.bv_volume.proofs.Still.{Still, still, spaced_still}
use Rattle.bv_volume.proofs.Ties.{IsSilent, HasRoom, SameSpace, adds_after}

-- ---- an add begins

begins_one : (r : Digest) (n : ℕ) (q : Reply) → begins (Begin r n) q ≤ 1
begins_one r n Granted = omega arith
begins_one r n _ = omega arith

pub begin_room : (n : Noted) (next : ℕ) (t new : Tables) (s : Stored) (Both : Map → Map → Type 0) (who : Who) (r : Digest) (size : ℕ) (o : Option Reply) → Kept n next t s Both → L.Does t new who (Begin r size) o → 2 ≤ n.spare - length t.adds → HasRoom n new o
begin_room n next t new s Both who r size None kept does room = tt
begin_room n next t new s Both who r size (Some q) kept does room = omega (arith, room, begins_one r size q, adds_after n next t new s Both who (Begin r size) q s.calls kept does)

pub begin_silent : {T : Type 0} (r : Result T BeginFault) → IsSilent (begin_reply r)
begin_silent (Ok v) = (refl, refl)
begin_silent (Err (beginning.Stopped f)) = (refl, refl)
begin_silent (Err beginning.Exists) = (refl, refl)
begin_silent (Err (beginning.Leaving h)) = (refl, refl)
begin_silent (Err beginning.InFlight) = (refl, refl)
begin_silent (Err (beginning.NoSpace a b)) = (refl, refl)
begin_silent (Err beginning.NoMemory) = tt

pub begin_same : {T : Type 0} (t new : Tables) (a b : Owned) (root : Digest) (size : ℕ) (r : Result T BeginFault) → OnOk r (Begins t new a b root size) → OnErr r (b ≡ a) → SameSpace (begin_reply r) a b
begin_same t new a b root size (Ok v) ok same = ap (λ (x : Owned). x.claims) ok.space
begin_same t new a b root size (Err (beginning.Stopped f)) ok same = ap (λ (x : Owned). x.claims) same
begin_same t new a b root size (Err beginning.Exists) ok same = ap (λ (x : Owned). x.claims) same
begin_same t new a b root size (Err (beginning.Leaving h)) ok same = ap (λ (x : Owned). x.claims) same
begin_same t new a b root size (Err beginning.InFlight) ok same = ap (λ (x : Owned). x.claims) same
begin_same t new a b root size (Err (beginning.NoSpace x y)) ok same = ap (λ (x : Owned). x.claims) same
begin_same t new a b root size (Err beginning.NoMemory) ok same = ap (λ (x : Owned). record x { spare = 0 }) same

space_put : (g : Setting) (r x : Digest) (n : ℕ) (v : Vec ℕ) (adds : List (Digest × ℕ)) (spaces : List (Digest × Vec ℕ)) → HasSpace g n v.items → SpaceAt g (find adds x) (find spaces x) → SpaceAt g (find (insert_entry digest_cmp adds r n) x) (find (insert_entry digest_cmp spaces r v) x)
space_put g r x n v adds spaces has old = rw (lookup-insert_entry digest_total adds r n x, lookup-insert_entry digest_total spaces r v x) (go (same_digest x r))
  where
    go : (b : Bool) → SpaceAt g (cond b (Some n) (find adds x)) (cond b (Some v) (find spaces x))
    go true = has
    go false = old

none_there : (g : Setting) (a : Option ℕ) (o : Option (Vec ℕ)) → SpaceAt g a o → a ≡ None → o ≡ None
none_there g None o h e = h
none_there g (Some n) o h e = cc

pub no_space : (t : Tables) (o : Owned) (s : Stored) (Held : ℕ → Type 0) → Spaced t o s Held → (r : Digest) → find t.adds r ≡ None → find o.adds r ≡ None
no_space t o s Held spaced r none = none_there t.setting (find t.adds r) (find o.adds r) (spaced.adds r) none

unset_at : (g : Setting) (a : Option ℕ) (v : Option (Vec ℕ)) (k : Option ℕ) → NodesAt g a v k → a ≡ None → k ≡ None
unset_at g a v None at none = refl
unset_at g None v (Some k) at none = absurd at
unset_at g (Some n) v (Some k) at none = cc

-- a root without an add has no nodes
pub unset : (t : Tables) (o : Owned) (s : Stored) → Noded t o s → (r : Digest) → find t.adds r ≡ None → find o.nodes r ≡ None
unset t o s n r none = unset_at t.setting (find t.adds r) (find o.adds r) (find o.nodes r) (n.at r) none

nodes_put : (g : Setting) (r x : Digest) (n : ℕ) (v : Vec ℕ) (adds : List (Digest × ℕ)) (spaces : List (Digest × Vec ℕ)) (aside : List (Digest × ℕ)) → find aside r ≡ None → NodesAt g (find adds x) (find spaces x) (find aside x) → NodesAt g (find (insert_entry digest_cmp adds r n) x) (find (insert_entry digest_cmp spaces r v) x) (find aside x)
nodes_put g r x n v adds spaces aside free old = rw (lookup-insert_entry digest_total adds r n x, lookup-insert_entry digest_total spaces r v x) (go (same_digest x r) refl)
  where
    go : (b : Bool) → same_digest x r ≡ b → NodesAt g (cond b (Some n) (find adds x)) (cond b (Some v) (find spaces x)) (find aside x)
    go true e = rw (ap (λ (y : Digest). find aside y) (one_digest x r e) ∙ free) tt
    go false e = old

pub spaced_begins : (t new : Tables) (o o' : Owned) (s : Stored) (Held : ℕ → Type 0) (r : Digest) (n : ℕ) → Begins t new o o' r n → need_of t.setting.version n ≤ 65535 → Spaced t o s Held → Spaced new o' s Held
spaced_begins t new o o' s Held r n b few spaced =
    let fresh = no_space t o s Held spaced r b.tables.fresh in
    let more : (x : ℕ) → times_in x (insert_entry digest_cmp o.adds r b.blocks) ≡ times_in x o.adds = λ x. sum_more (λ (v : Vec ℕ). times x v.items) o.adds r b.blocks fresh ∙ ap (λ (bs : List ℕ). times x bs + times_in x o.adds) b.none ∙ zero_plus (times_in x o.adds) in
    let has : HasSpace t.setting n b.blocks.items = record { need = inl b.none; rising = rw (b.none) tt; few = few } in
    rw (b.tables.is, b.space) (record {
      table = spaced.table;
      blocks = spaced.blocks;
      geometry = spaced.geometry;
      once = spaced.once;
      within = λ x. omega (arith, more x, spaced.within x);
      adds = λ x. space_put t.setting r x n b.blocks t.adds o.adds has (spaced.adds x);
      sole = sole-insert o.adds r b.blocks fresh spaced.sole;
      lie = spaced.lie;
      nodes = record {
        count = spaced.nodes.count;
        room = spaced.nodes.room;
        at = λ x. nodes_put t.setting r x n b.blocks t.adds o.adds o.nodes (unset t o s spaced.nodes r b.tables.fresh) (spaced.nodes.at x);
        sole = spaced.nodes.sole;
      };
      exactly = λ none.
          let e = spaced.exactly none in
          record {
            owned = λ x. omega (arith, more x, e.owned x);
            room = omega (arith, e.room, b.tables.room, sum_more (need_of t.setting.version) t.adds r n b.tables.fresh);
            gone = e.gone;
            held = e.held;
            lie = e.lie;
            sole = e.sole;
          };
    })
  where
    zero_plus : (k : ℕ) → 0 + k ≡ k
    zero_plus k = omega arith

-- a begin that was answered so
module _ (t new : Tables) (o : Owned) (s : Stored) (Held : ℕ → Type 0) (log : List MapChange) (durable : ℕ) (who : Who) (r : Digest) (n : ℕ) (accounts : Accounts t log durable) (spaced : Spaced t o s Held) where
  refused : (f : BeginFault) → L.Does t new who (Begin r n) (begin_reply {T = Grant} (Err f)) → Spaced new o s Held
  refused (beginning.Stopped f) does = spaced_still t new o s Held (still t new log durable who (Begin r n) _ accounts does refl) (sym (ap (λ (x : State). x.adds) (does.1 log durable accounts).state)) spaced
  refused beginning.Exists does = spaced_still t new o s Held (still t new log durable who (Begin r n) _ accounts does refl) (sym (ap (λ (x : State). x.adds) (does.1 log durable accounts).state)) spaced
  refused (beginning.Leaving h) does = spaced_still t new o s Held (still t new log durable who (Begin r n) _ accounts does refl) (sym (ap (λ (x : State). x.adds) (does.1 log durable accounts).state)) spaced
  refused beginning.InFlight does = spaced_still t new o s Held (still t new log durable who (Begin r n) _ accounts does refl) (sym (ap (λ (x : State). x.adds) (does.1 log durable accounts).state)) spaced
  refused (beginning.NoSpace a b) does = spaced_still t new o s Held (still t new log durable who (Begin r n) _ accounts does refl) (sym (ap (λ (x : State). x.adds) (does.1 log durable accounts).state)) spaced
  refused beginning.NoMemory does = rw does spaced

  pub spaced_start : (o' : Owned) (res : Result Grant BeginFault) → L.Does t new who (Begin r n) (begin_reply res) → OnOk res (Begins t new o o' r n) → OnErr res (o' ≡ o) → need_of t.setting.version n ≤ 65535 → Spaced new o' s Held
  spaced_start o' (Ok g) does ok err few = spaced_begins t new o o' s Held r n ok few spaced
  spaced_start o' (Err f) does ok err few = rw err (refused f does)

-- ---- an add ends

pub length_less : {X : Type 0} (es : List (Digest × X)) (r : Digest) (x : X) → find es r ≡ Some x → length (without es r) + 1 ≡ length es
length_less [] r x h = cc
length_less {X} (e ∷ es) r x h = go (length_less es r x) (same_digest r e.0) h
  where
    go : (find es r ≡ Some x → length (without es r) + 1 ≡ length es) → (b : Bool) → cond b (Some e.1) (find es r) ≡ Some x → length (cond b es (e ∷ without es r)) + 1 ≡ length (e ∷ es)
    go later true k = omega arith
    go later false k = omega (arith, later k)

-- the room that was set aside for the end is there
pub end_room : (n : Noted) (next : ℕ) (t new : Tables) (s : Stored) (Both : Map → Map → Type 0) (r : Digest) (x : ℕ) → Kept n next t s Both → new.adds ≡ without t.adds r → find t.adds r ≡ Some x → length new.adds + 1 ≤ n.spare
end_room n next t new s Both r x kept adds has = rw adds (omega (arith, kept.apart, length_less t.adds r x has))

-- an add ends: these blocks of it are free, and so is the room that it had
pub record Ends (o o' : Owned) (r : Digest) (need : ℕ) (blocks : List ℕ) : Type 0 where
  pub owned : HaveSameBlocks o.owned (o'.owned ++ blocks)
  pub room : o'.room ≡ o.room + need
  pub adds : o'.adds ≡ without o.adds r
  pub claims : o'.claims ≡ o.claims
  pub gone : o'.gone ≡ o.gone
  pub nodes : o'.nodes ≡ without o.nodes r
  pub once : HasEachOnce o'.owned

pub space_less : (g : Setting) (r x : Digest) (adds : List (Digest × ℕ)) (spaces : List (Digest × Vec ℕ)) → Sole adds → Sole spaces → SpaceAt g (find adds x) (find spaces x) → SpaceAt g (find (without adds r) x) (find (without spaces r) x)
space_less g r x adds spaces a b old = rw (find-without adds r x a, find-without spaces r x b) (go (same_digest x r))
  where
    go : (c : Bool) → SpaceAt g (cond c None (find adds x)) (cond c None (find spaces x))
    go true = refl
    go false = old

pub nodes_less : (g : Setting) (r x : Digest) (adds : List (Digest × ℕ)) (spaces : List (Digest × Vec ℕ)) (aside : List (Digest × ℕ)) → Sole adds → Sole spaces → Sole aside → NodesAt g (find adds x) (find spaces x) (find aside x) → NodesAt g (find (without adds r) x) (find (without spaces r) x) (find (without aside r) x)
nodes_less g r x adds spaces aside a b c old = rw (find-without adds r x a, find-without spaces r x b, find-without aside r x c) (go (same_digest x r))
  where
    go : (d : Bool) → NodesAt g (cond d None (find adds x)) (cond d None (find spaces x)) (cond d None (find aside x))
    go true = tt
    go false = old

pub sum_entries : (es : List (Digest × ℕ)) → sum_by (λ (k : ℕ). k) (values_of es) ≡ sum (values_of es)
sum_entries [] = refl
sum_entries (e ∷ es) = omega (arith, sum_entries es, sum_by-cons (λ (k : ℕ). k) e.1 (values_of es))

-- the nodes that were set aside for an add that ends
pub noded_ends : (t new : Tables) (o o' : Owned) (s s' : Stored) (r : Digest) → new.setting ≡ t.setting → new.adds ≡ without t.adds r → o'.adds ≡ without o.adds r → o'.nodes ≡ without o.nodes r → s'.geometry ≡ s.geometry → s'.used_nodes ≤ s.used_nodes → Sole t.adds → Sole o.adds → Noded t o s → Noded new o' s'
noded_ends t new o o' s s' r setting adds spaces aside geometry used a b n = record {
  count = rw (geometry, setting) n.count;
  room = rw (aside, setting) (omega (arith, n.room, used, sum_entries (without o.nodes r), sum_entries o.nodes, sum_by-remove_entry (λ (k : ℕ). k) (is_at (digest_cmp r)) o.nodes));
  at = λ x. rw (setting, adds, spaces, aside) (nodes_less t.setting r x t.adds o.adds o.nodes a b n.sole (n.at x));
  sole = rw aside (sole-without o.nodes r n.sole);
}

pub spaced_ends : (t new : Tables) (o o' : Owned) (s : Stored) (Held : ℕ → Type 0) (r : Digest) (n : ℕ) (v : Vec ℕ) → Still t new → new.adds ≡ without t.adds r → find t.adds r ≡ Some n → find o.adds r ≡ Some v → Sole t.adds → Ends o o' r (need_of t.setting.version n) v.items → Spaced t o s Held → Spaced new o' s Held
spaced_ends t new o o' s Held r n v k adds under has sole e spaced =
    let less : (x : ℕ) → times_in x o'.adds + times x v.items ≡ times_in x o.adds = λ x. rw (e.adds) (sum_less (λ (w : Vec ℕ). times x w.items) o.adds r v has) in
    let same : (x : ℕ) → times x o.owned ≡ times x o'.owned + times x v.items = λ x. e.owned x ∙ times-append x o'.owned v.items in
    record {
      table = rw (k.setting, e.claims) spaced.table;
      blocks = rw (k.setting) spaced.blocks;
      geometry = rw (k.setting) spaced.geometry;
      once = e.once;
      within = λ x. rw (e.gone) (omega (arith, spaced.within x, less x, same x));
      adds = λ x. rw (k.setting, adds, e.adds) (space_less t.setting r x t.adds o.adds sole spaced.sole (spaced.adds x));
      sole = rw (e.adds) (sole-without o.adds r spaced.sole);
      lie = λ x h. rw (k.map) (spaced.lie x (k.queue x h));
      nodes = noded_ends t new o o' s s r k.setting adds e.adds e.nodes refl (omega arith) sole spaced.sole spaced.nodes;
      exactly = λ none.
          let going : t.stopped ≡ None = sym k.stopped ∙ none in
          let old = spaced.exactly going in
          record {
            owned = λ x. rw (e.gone) (omega (arith, old.owned x, less x, same x));
            room = rw (k.setting, k.map, adds, k.purged going) (omega (arith, old.room, e.room, sum_less (need_of t.setting.version) t.adds r n under));
            gone = rw (e.gone, k.purged going) old.gone;
            held = λ x h. rw (e.gone) (old.held x h);
            lie = rw (k.map) old.lie;
            sole = old.sole;
          };
    }

-- the blocks of an add are a part of what the boss owns
pub add_is_part : (t : Tables) (o : Owned) (s : Stored) (Held : ℕ → Type 0) (r : Digest) (v : Vec ℕ) → find o.adds r ≡ Some v → Spaced t o s Held → IsPartOf v.items o.owned
add_is_part t o s Held r v has spaced b = omega (arith, spaced.within b, sum_less (λ (w : Vec ℕ). times b w.items) o.adds r v has)

pub adds_less : (t new : Tables) (log : List MapChange) (durable : ℕ) (who : Who) (r : Digest) → Accounts t log durable → L.Does t new who (Retire r) (Some Retired) → new.adds ≡ without t.adds r
adds_less t new log durable who r accounts does = sym (ap (λ (x : State). x.adds) (does.1 log durable accounts).state)

-- ---- what the calls say of their tokens

module _ (n : Noted) (next : ℕ) (t : Tables) (s : Stored) (Both : Map → Map → Type 0) (kept : Kept n next t s Both) where
  pub adds_are_sole : Sole t.adds
  adds_are_sole = subst (λ (es : List (Digest × ℕ)). Sole es) (ap (λ (x : State). x.adds) kept.state) (tabled_last n.history next kept.legal).adds

  pub same_version : t.setting.version ≡ n.history.version
  same_version = ap (λ (g : Setting). g.version) kept.setting

  pub tabled_add : (r : Digest) (size : ℕ) → find (last_state n.history next).adds r ≡ Some size → find t.adds r ≡ Some size
  tabled_add r size under = sym (ap (λ (x : State). find x.adds r) kept.state) ∙ under

  pub seen_add : (r : Digest) (size : ℕ) → find t.adds r ≡ Some size → find (last_state n.history next).adds r ≡ Some size
  seen_add r size under = ap (λ (x : State). find x.adds r) kept.state ∙ under

pub is_begun : (n : Noted) (next : ℕ) (t new : Tables) (o o' : Owned) (s : Stored) (Both : Map → Map → Type 0) (r : Digest) (size : ℕ) (granted : Result Grant BeginFault) (res : Result (Begun × Grant) BeginFault) → IfOk res (λ p. (granted ≡ Ok p.1) × (p.0 ≡ record { root = r; size = size })) → OnOk granted (Begins t new o o' r size) → Noded t o s → Kept n next new s Both
    → IfOk res (λ p. (p.0.root ≡ r) × (p.0.size ≡ size) × IsBegun (seen_of n next new o' s) p.0)
is_begun n next t new o o' s Both r size granted (Err e) ok began noded kept = tt
is_begun n next t new o o' s Both r size granted (Ok p) ok began noded kept =
    let b : Begins t new o o' r size = subst (λ (g : Result Grant BeginFault). OnOk g (Begins t new o o' r size)) ok.0 began in
    let root = ap (λ (x : Begun). x.root) ok.1 in
    let bytes = ap (λ (x : Begun). x.size) ok.1 in
    let put : find new.adds r ≡ Some size = ap (λ (x : Tables). find x.adds r) b.tables.is ∙ lookup-insert_entry digest_total t.adds r size r ∙ found_itself size (find t.adds r) in
    let has : find o'.adds r ≡ Some b.blocks = ap (λ (x : Owned). find x.adds r) b.space ∙ lookup-insert_entry digest_total o.adds r b.blocks r ∙ found_itself b.blocks (find o.adds r) in (
      root,
      bytes,
      record {
        under_way = rw (root, bytes) (seen_add n next new s Both kept r size put);
        blocks = b.blocks;
        has = rw root has;
        none = b.none;
        nodes = rw root (ap (λ (x : Owned). find x.nodes r) b.space ∙ unset t o s noded r b.tables.fresh);
      },
    )
  where
    found_itself : {X : Type 0} (x : X) (other : Option X) → cond (same_digest r r) (Some x) other ≡ Some x
    found_itself x other = rw (same_self r) refl

pub is_granted : (version size : ℕ) (c c' : Claims) (granted : Result Grant BeginFault) (res : Result (Begun × Grant) BeginFault) (B : Begun → Type 0) → IfOk res (λ p. (granted ≡ Ok p.1) × B p.0) → IfOk granted (λ g. IsGrantOf c g × (grant_need g ≡ need_of version size)) → OnOk granted (c' ≡ c) → (w : ℕ) → version ≡ w
    → IfOk res (λ p. IsGrantOf c' p.1 × (grant_need p.1 ≡ need_of w size))
is_granted version size c c' granted (Err e) B ok grant same w is = tt
is_granted version size c c' granted (Ok p) B ok grant same w is =
    let g = subst (λ (x : Result Grant BeginFault). IfOk x (λ g. IsGrantOf c g × (grant_need g ≡ need_of version size))) ok.0 grant in
    let k : c' ≡ c = subst (λ (x : Result Grant BeginFault). OnOk x (c' ≡ c)) ok.0 same in
    (rw k (g.0), g.1 ∙ ap (λ (v : ℕ). need_of v size) is)

pub same_claims : {T : Type 0} (t new : Tables) (o o' : Owned) (r : Digest) (n : ℕ) (granted : Result T BeginFault) → OnOk granted (Begins t new o o' r n) → OnOk granted (o'.claims ≡ o.claims)
same_claims t new o o' r n (Ok g) b = ap (λ (x : Owned). x.claims) b.space
same_claims t new o o' r n (Err e) b = tt

-- a settle that was refused ends its add
pub settle_less : (t new : Tables) (log : List MapChange) (durable : ℕ) (who : Who) (r : Digest) (f : Refusal) → Accounts t log durable → L.Does t new who (Settle r) (Some (refusal_reply f)) → new.adds ≡ without t.adds r
settle_less t new log durable who r (refusal.Stopped f) accounts does = sym (ap (λ (x : State). x.adds) (does.1 log durable accounts).state)
settle_less t new log durable who r refusal.NumberEnd accounts does = sym (ap (λ (x : State). x.adds) (does.1 log durable accounts).state)
